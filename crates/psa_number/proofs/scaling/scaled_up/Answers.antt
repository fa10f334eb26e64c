use Rattle.std.proofs.Common.{◌≡◌, ◌<◌, pos, arith}
use Rattle.std.proofs.lemmas.Int.{ints}
use Rattle.psa_number.proofs.DigitLemmas.{scaled_value, scaled_small, power_within, zero_scaled}
use Rattle.psa_number.proofs.scaling.scaled_up.Goals as goal

pub pow-requires : goal.pow-requires
pow-requires c =
    let is : pos c.from.result ≡ c.args.scale = omega (arith, ints) in
    let some : 0 < c.args.digits = omega arith in
    let h = power_within c.args.digits c.from.result some (scaled_small c.args.digits c.args.scale c.from.result is c.requires.within) in
    omega (arith, h)

pub overflow_mul-result : goal.overflow_mul-result
overflow_mul-result c =
    let is : pos c.from.result ≡ c.args.scale = omega (arith, ints) in
    let h = scaled_small c.args.digits c.args.scale c.from.result is c.requires.within in
    rw c.pow.ensures (omega (arith, h))

pub returns-then-digits-eq0 : goal.returns-then-digits-eq0
returns-then-digits-eq0 c =
    let zeros = zero_scaled c.args.scale c.requires.up in
    rw c.if-digits-eq0.true (record { value = zeros.0; same = zeros.1; small = omega arith })

pub returns : goal.returns
returns c =
    let is : pos c.from.result ≡ c.args.scale = omega (arith, ints) in
    let values = scaled_value c.args.digits c.args.scale c.from.result is in
    rw c.pow.ensures (record { value = values.0; same = values.1; small = scaled_small c.args.digits c.args.scale c.from.result is c.requires.within })
