use Rattle.std.proofs.Common.{sym, subst, rules, ◌∙◌}
use Rattle.psa_number.specs.Ends.{Ends}
use Rattle.psa_number.specs.Operations.{held_to_unit}
use Rattle.psa_number.specs.Fraction.{Fraction, Holds, held_in_unit}
use Rattle.psa_number.proofs.SignedLemmas.{read_back, one_read, interval_of_unit, held_in_order}
use Rattle.psa_number.proofs.BracketLemmas.{unit_held}
use Rattle.psa_number.proofs.unit.clamp_unit.Goals as goal

pub returns-clause-exact : goal.returns-clause-exact
returns-clause-exact c = search rules

pub invariant_of-result : goal.invariant_of-result
invariant_of-result c =
    let lo = read_back c.held.result c.held.type_inv ∙ one_read held_to_unit c.held.result c.a.inside.lo c.held.ensures c.a.invariant.lo_limited in
    let hi = read_back c.held-2.result c.held-2.type_inv ∙ one_read held_to_unit c.held-2.result c.a.inside.hi c.held-2.ensures c.a.invariant.hi_limited in
    rw (lo, hi) (interval_of_unit (held_to_unit c.a.inside.lo) (held_to_unit c.a.inside.hi) (held_in_order c.a.inside.lo c.a.inside.hi c.a.invariant.ordered))

pub returns-clause-bracket : goal.returns-clause-bracket
returns-clause-bracket c = λ (x : Fraction) (h : Holds c.args.a x). subst (λ (e : Ends). Holds e (held_in_unit x)) (sym (returns-clause-exact c)) (unit_held c.args.a x h)
