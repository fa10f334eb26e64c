use Rattle.psa_report.proofs.LineLemmas.{spaced-from, spaced-none}
use Rattle.psa_report.proofs.WrittenLemmas.{left-as, left-stop, left-next, left-end}
use Rattle.psa_report.proofs.products.put_each.Goals as goal

pub returns-in_err-put_literal : goal.returns-in_err-put_literal
returns-in_err-put_literal g c =
    left-stop _ _ _ _ _ _ _ _ _ c.put_literal.result c.from_residual.result _
    (left-as _ _ _ _ _ _ _ c.loop-literal.invariant (spaced-from (record { expanded = c.args.expanded.now; ranks = c.args.ranks.now }) c.args.literals.now c.loop-literal.literal-index _ c.loop-literal-test.true))
    c.put_literal.ensures c.in_err-put_literal.was c.from_residual.ensures.0

pub loop-literal-preserved : goal.loop-literal-preserved
loop-literal-preserved g c =
    left-next _ _ _ _ _ _ _ _ _ c.put_literal.result _
    (left-as _ _ _ _ _ _ _ c.loop-literal.invariant (spaced-from (record { expanded = c.args.expanded.now; ranks = c.args.ranks.now }) c.args.literals.now c.loop-literal.literal-index _ c.loop-literal-test.true))
    c.put_literal.ensures c.in_ok-put_literal.was

pub returns : goal.returns
returns g c =
    left-end _ _ _ _ _ (left-as _ _ _ _ _ _ _ c.loop-literal.invariant (spaced-none (record { expanded = c.args.expanded.now; ranks = c.args.ranks.now }) c.args.literals.now c.loop-literal.literal-index c.loop-literal-test.false))
