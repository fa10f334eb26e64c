use Rattle.std.proofs.Common.{ℕ, ℤ, ◌≡◌, ◌≤◌, ◌-ℤ◌, pos, unsigned_abs, to_z, of_z, w16, arith}
use Rattle.std.proofs.lemmas.Int.{ints}
use Rattle.psa_number.proofs.DigitLemmas.{far_is, low_is, mid_is, power_small}
use Rattle.psa_number.proofs.reading.is_within.Goals as goal

-- how far the exponent is below 6, as the code casts it
abbrev gap : ℤ → ℕ
gap e = unsigned_abs (to_z w16 (of_z w16 (pos 6 -ℤ to_z w16 (of_z w16 e))))

pub pow-requires : goal.pow-requires
pow-requires c = let small : gap c.args.exponent ≤ 36 = omega (arith, ints) in power_small (gap c.args.exponent) small

pub returns-then-exponent-gt6 : goal.returns-then-exponent-gt6
returns-then-exponent-gt6 c = far_is c.args.digits c.args.exponent (omega (arith, ints))

pub returns-then-exponent-ltminus29 : goal.returns-then-exponent-ltminus29
returns-then-exponent-ltminus29 c = low_is c.args.digits c.args.exponent c.requires.few (omega (arith, ints))

pub returns-else-exponent-ltminus29 : goal.returns-else-exponent-ltminus29
returns-else-exponent-ltminus29 c =
    let is : pos (gap c.args.exponent) ≡ (pos 6 -ℤ c.args.exponent) = omega (arith, ints) in
    rw c.pow.ensures (mid_is c.args.digits c.args.exponent (gap c.args.exponent) is)
