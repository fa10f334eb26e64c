use Rattle.std.proofs.lemmas.Int.{ints, to_z-of_z}
use Rattle.std.proofs.Common.{w16, pos, ◌<ℤ◌, ◌∙◌, arith}
use Rattle.psa_number.specs.Operations.{magnitude_above}
use Rattle.psa_number.proofs.DigitLemmas.{divided_above, below_small, cast_units}
use Rattle.psa_number.proofs.scaling.units_above.Goals as goal

pub overflow_cast-result : goal.overflow_cast-result
overflow_cast-result c =
    let low : c.args.scale <ℤ pos 0 = omega (arith, ints) in
    let value = rw (to_z-of_z w16 c.args.scale c.ranges.scale) at c.divisor_of.ensures.value in
    let is = c.div_ceil.ensures ∙ divided_above c.args.digits c.args.scale c.divisor_of.result c.requires.few low value in
    let small = below_small c.args.digits c.args.scale c.requires.within in
    omega (arith, is, small)

pub returns-then-scale-lt0 : goal.returns-then-scale-lt0
returns-then-scale-lt0 c =
    let low : c.args.scale <ℤ pos 0 = omega (arith, ints) in
    let value = rw (to_z-of_z w16 c.args.scale c.ranges.scale) at c.divisor_of.ensures.value in
    let is = c.div_ceil.ensures ∙ divided_above c.args.digits c.args.scale c.divisor_of.result c.requires.few low value in
    let small = below_small c.args.digits c.args.scale c.requires.within in
    cast_units c.div_ceil.result (magnitude_above c.args.digits c.args.scale) is (omega (arith, small))

pub returns-else-scale-lt0 : goal.returns-else-scale-lt0
returns-else-scale-lt0 c =
    let small = below_small c.args.digits c.args.scale c.requires.within in
    cast_units c.scaled_up.result (magnitude_above c.args.digits c.args.scale) (rw (to_z-of_z w16 c.args.scale c.ranges.scale) at c.scaled_up.ensures.same) (omega (arith, small))
