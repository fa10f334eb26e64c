use Rattle.psa_outcome.specs.RunOutcome.{out_of_memory_line}
use Rattle.psa_words.specs.Refused.{refused_text}
use Rattle.psa_engine.proofs.EndLemmas.{grew-by}
use Rattle.psa_engine.proofs.telling.refuse.Goals as goal

pub returns-in-BadWords-clause-line : goal.returns-in-BadWords-clause-line
returns-in-BadWords-clause-line g c =
    rw c.in-BadWords.is (grew-by (refused_text c.args.program.now) (g.E.Sink.faults c.args.err.now) (g.E.Sink.faults c.put_all.new.out) (g.E.Sink.written c.args.err.now) (g.E.Sink.written c.put_all.new.out) c.put_all.result c.put_all.ensures)

pub returns-in-Memory-clause-line : goal.returns-in-Memory-clause-line
returns-in-Memory-clause-line g c =
    rw c.in-Memory.is (grew-by out_of_memory_line (g.E.Sink.faults c.args.err.now) (g.E.Sink.faults c.put_all-in-Memory.new.out) (g.E.Sink.written c.args.err.now) (g.E.Sink.written c.put_all-in-Memory.new.out) c.put_all-in-Memory.result c.put_all-in-Memory.ensures)
