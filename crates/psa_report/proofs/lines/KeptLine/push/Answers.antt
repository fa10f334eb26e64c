use Rattle.std.proofs.Common.{◌∙◌, sym}
use Rattle.psa_report.specs.Lines.{Naming}
use Rattle.psa_report.proofs.LineLemmas.{exact-written, kept-exact}
use Rattle.psa_report.proofs.lines.KeptLine.push.Goals as goal

pub returns-clause-kept : goal.returns-clause-kept
returns-clause-kept c =
    let naming : Naming = record { expanded = c.args.expanded.now; ranks = c.args.ranks.now } in
    kept-exact naming _
    (exact-written naming c.args.self.now c.requires.exact c.requires.room c.args.literal c.put_literal.new.out c.len.result _ _ c.put_literal.result c.put_literal.ensures
    (sym c.is_err.ensures.value ∙ c.if-is_err.false) c.len.ensures)

pub returns-clause-exact : goal.returns-clause-exact
returns-clause-exact c = λ done.
    exact-written (record { expanded = c.args.expanded.now; ranks = c.args.ranks.now }) c.args.self.now c.requires.exact c.requires.room c.args.literal c.put_literal.new.out c.len.result _ _ c.put_literal.result c.put_literal.ensures
    (sym c.is_err.ensures.value ∙ c.if-is_err.false) c.len.ensures
