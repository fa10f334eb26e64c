use Rattle.std.proofs.Common.{arith}
use Rattle.psa_outcome.specs.Loading.{loaded_analysis}
use Rattle.psa_sections.proofs.ReportLemmas.{head-first, head-part}
use Rattle.psa_sections.proofs.report.write_report.Goals as goal

pub returns-in_err-write_head-clause-unwritten : goal.returns-in_err-write_head-clause-unwritten
returns-in_err-write_head-clause-unwritten g c is = (
  c.in_err-write_head.ensures.cause.failed,
  head-part (loaded_analysis c.args.loaded.now) (g.O.Sink.written c.args.out.now) (g.O.Sink.written c.write_head.new.out) c.requires.shown c.in_err-write_head.ensures.part,
)

pub returns-clause-finished : goal.returns-clause-finished
returns-clause-finished g c =
    (c.write_sections.ensures (g.O.Sink.written c.args.out.now)
    (head-first (loaded_analysis c.args.loaded.now) (g.O.Sink.written c.args.out.now) (g.O.Sink.written c.write_head.new.out) c.requires.shown c.in_ok-write_head.ensures.whole)).finished

pub returns-clause-unwritten : goal.returns-clause-unwritten
returns-clause-unwritten g c is =
    let ends = c.write_sections.ensures (g.O.Sink.written c.args.out.now)
    (head-first (loaded_analysis c.args.loaded.now) (g.O.Sink.written c.args.out.now) (g.O.Sink.written c.write_head.new.out) c.requires.shown c.in_ok-write_head.ensures.whole) in
    let later = c.in_ok-write_head.ensures.cause.later in
    let rose = (ends.unwritten is).0 in
    (omega (arith, later, rose), (ends.unwritten is).1)

pub returns-clause-full : goal.returns-clause-full
returns-clause-full g c =
    (c.write_sections.ensures (g.O.Sink.written c.args.out.now)
    (head-first (loaded_analysis c.args.loaded.now) (g.O.Sink.written c.args.out.now) (g.O.Sink.written c.write_head.new.out) c.requires.shown c.in_ok-write_head.ensures.whole)).full

pub returns-clause-memory : goal.returns-clause-memory
returns-clause-memory g c =
    (c.write_sections.ensures (g.O.Sink.written c.args.out.now)
    (head-first (loaded_analysis c.args.loaded.now) (g.O.Sink.written c.args.out.now) (g.O.Sink.written c.write_head.new.out) c.requires.shown c.in_ok-write_head.ensures.whole)).memory

pub returns-clause-limit : goal.returns-clause-limit
returns-clause-limit g c =
    (c.write_sections.ensures (g.O.Sink.written c.args.out.now)
    (head-first (loaded_analysis c.args.loaded.now) (g.O.Sink.written c.args.out.now) (g.O.Sink.written c.write_head.new.out) c.requires.shown c.in_ok-write_head.ensures.whole)).limit

pub returns-clause-later : goal.returns-clause-later
returns-clause-later g c =
    let ends = c.write_sections.ensures (g.O.Sink.written c.args.out.now)
    (head-first (loaded_analysis c.args.loaded.now) (g.O.Sink.written c.args.out.now) (g.O.Sink.written c.write_head.new.out) c.requires.shown c.in_ok-write_head.ensures.whole) in
    let sooner = c.in_ok-write_head.ensures.cause.later in
    let later = ends.later in
    omega (arith, sooner, later)
