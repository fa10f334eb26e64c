use Rattle.std.proofs.Common.{ℤ, ap₂, ◌*ℤ◌, ◌≤ℤ◌, pos, sym, subst, rules, ◌∙◌}
use Rattle.psa_number.specs.Units.{units, floor_units, ceil_units}
use Rattle.psa_number.specs.Ends.{Ends}
use Rattle.psa_number.specs.Operations.{IsInUnit}
use Rattle.psa_number.specs.Fraction.{Fraction, Holds, times}
use Rattle.psa_number.proofs.SignedLemmas.{read_back, unit_ends_of, interval_of_unit, products_in_unit}
use Rattle.psa_number.proofs.UnitProductLemmas.{read_limited}
use Rattle.psa_number.proofs.BracketLemmas.{unit_product_held}
use Rattle.psa_number.proofs.unit.times_in_unit.Goals as goal

pub invariant_of-result : goal.invariant_of-result
invariant_of-result c =
    let low_a : pos 0 ≤ℤ c.a.inside.lo = rw (← c.a.view_is) at c.requires.left.low in
    let high_a : c.a.inside.hi ≤ℤ pos units = rw (← c.a.view_is) at c.requires.left.high in
    let low_b : pos 0 ≤ℤ c.b.inside.lo = rw (← c.b.view_is) at c.requires.right.low in
    let high_b : c.b.inside.hi ≤ℤ pos units = rw (← c.b.view_is) at c.requires.right.high in
    let lo = read_back c.product_below.result c.product_below.type_inv ∙ c.product_below.ensures ∙ ap₂ (λ (x y : ℤ). floor_units (x *ℤ y)) (read_limited c.a.inside.lo c.a.invariant.lo_limited) (read_limited c.b.inside.lo c.b.invariant.lo_limited) in
    let hi = read_back c.product_above.result c.product_above.type_inv ∙ c.product_above.ensures ∙ ap₂ (λ (x y : ℤ). ceil_units (x *ℤ y)) (read_limited c.a.inside.hi c.a.invariant.hi_limited) (read_limited c.b.inside.hi c.b.invariant.hi_limited) in
    rw (lo, hi) (interval_of_unit (floor_units (c.a.inside.lo *ℤ c.b.inside.lo)) (ceil_units (c.a.inside.hi *ℤ c.b.inside.hi))
    (products_in_unit c.a.inside.lo c.a.inside.hi c.b.inside.lo c.b.inside.hi (record { low = low_a; ordered = c.a.invariant.ordered; high = high_a }) (record { low = low_b; ordered = c.b.invariant.ordered; high = high_b })))

pub returns-clause-exact : goal.returns-clause-exact
returns-clause-exact c = search rules

pub returns-clause-in_unit : goal.returns-clause-in_unit
returns-clause-in_unit c =
    let ordered_a : c.args.a.lo ≤ℤ c.args.a.hi = rw (← c.a.view_is) c.a.invariant.ordered in
    let ordered_b : c.args.b.lo ≤ℤ c.args.b.hi = rw (← c.b.view_is) c.b.invariant.ordered in
    let inside = products_in_unit c.args.a.lo c.args.a.hi c.args.b.lo c.args.b.hi (unit_ends_of c.args.a c.requires.left ordered_a) (unit_ends_of c.args.b c.requires.right ordered_b) in
    subst (λ (e : Ends). IsInUnit e) (sym (returns-clause-exact c)) (record { low = inside.low; high = inside.high })

pub returns-clause-bracket : goal.returns-clause-bracket
returns-clause-bracket c =
    let ordered_a : c.args.a.lo ≤ℤ c.args.a.hi = rw (← c.a.view_is) c.a.invariant.ordered in
    let ordered_b : c.args.b.lo ≤ℤ c.args.b.hi = rw (← c.b.view_is) c.b.invariant.ordered in
    λ (x y : Fraction) (h : Holds c.args.a x) (g : Holds c.args.b y). subst (λ (e : Ends). Holds e (times x y)) (sym (returns-clause-exact c)) (unit_product_held c.args.a c.args.b x y c.requires.left ordered_a c.requires.right ordered_b h g)
