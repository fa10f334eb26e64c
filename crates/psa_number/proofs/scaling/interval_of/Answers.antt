use Rattle.std.proofs.Common.{ℤ, ◌≡◌, ◌+ℤ◌, pos, to_z, of_z, w16, subst, sym, rules, arith}
use Rattle.std.proofs.lemmas.Int.{ints}
use Rattle.psa_number.specs.Ends.{Ends}
use Rattle.psa_number.specs.Fraction.{Holds, fraction_of}
use Rattle.psa_number.proofs.DigitLemmas.{within_units, positive_interval, negative_interval}
use Rattle.psa_number.proofs.BracketLemmas.{decimal_held}
use Rattle.psa_number.proofs.scaling.interval_of.Goals as goal

-- the scale, as the code casts it
abbrev scale_of : ℤ → ℤ
scale_of e = to_z w16 (of_z w16 (to_z w16 (of_z w16 e) +ℤ pos 12))

pub units_below-below-requires : goal.units_below-below-requires
units_below-below-requires c =
    let is : scale_of c.d.inside.exponent ≡ (c.d.inside.exponent +ℤ pos 12) = omega (arith, ints) in
    record { few = c.d.invariant.few_digits; within = within_units c.d.inside.digits c.d.inside.exponent (scale_of c.d.inside.exponent) is c.d.invariant.within }

pub units_above-above-requires : goal.units_above-above-requires
units_above-above-requires c =
    let is : scale_of c.d.inside.exponent ≡ (c.d.inside.exponent +ℤ pos 12) = omega (arith, ints) in
    record { few = c.d.invariant.few_digits; within = within_units c.d.inside.digits c.d.inside.exponent (scale_of c.d.inside.exponent) is c.d.invariant.within }

pub invariant_of-t-6 : goal.invariant_of-t-6
invariant_of-t-6 c =
    let is : scale_of c.d.inside.exponent ≡ (c.d.inside.exponent +ℤ pos 12) = omega (arith, ints) in
    negative_interval c.d.inside.digits (scale_of c.d.inside.exponent) c.units_below-below.result c.units_above-above.result c.units_below-below.ensures c.units_above-above.ensures
    (within_units c.d.inside.digits c.d.inside.exponent (scale_of c.d.inside.exponent) is c.d.invariant.within)

pub invariant_of-result : goal.invariant_of-result
invariant_of-result c =
    let is : scale_of c.d.inside.exponent ≡ (c.d.inside.exponent +ℤ pos 12) = omega (arith, ints) in
    positive_interval c.d.inside.digits (scale_of c.d.inside.exponent) c.units_below-below.result c.units_above-above.result c.units_below-below.ensures c.units_above-above.ensures
    (within_units c.d.inside.digits c.d.inside.exponent (scale_of c.d.inside.exponent) is c.d.invariant.within)

pub returns-then-d-clause-exact : goal.returns-then-d-clause-exact
returns-then-d-clause-exact c = search rules

pub returns-then-d-clause-bracket : goal.returns-then-d-clause-bracket
returns-then-d-clause-bracket c = subst (λ (e : Ends). Holds e (fraction_of c.args.d)) (sym (returns-then-d-clause-exact c)) (decimal_held c.args.d)

pub returns-else-d-clause-exact : goal.returns-else-d-clause-exact
returns-else-d-clause-exact c = search rules

pub returns-else-d-clause-bracket : goal.returns-else-d-clause-bracket
returns-else-d-clause-bracket c = subst (λ (e : Ends). Holds e (fraction_of c.args.d)) (sym (returns-else-d-clause-exact c)) (decimal_held c.args.d)
