use Rattle.std.proofs.Common.{ℕ, ℤ, ◌≡◌, ◌≤◌, ◌-ℤ◌, pos, unsigned_abs, to_z, of_z, w16, arith}
use Rattle.std.proofs.lemmas.Int.{ints}
use Rattle.psa_words.proofs.OptionValueLemmas.{one_far, one_low, one_mid, power_small}
use Rattle.psa_words.proofs.values.is_at_most_one.Goals as goal

-- how far the exponent is below 0, as the code casts it
abbrev gap : ℤ → ℕ
gap e = unsigned_abs (to_z w16 (of_z w16 (pos 0 -ℤ to_z w16 (of_z w16 e))))

pub pow-requires : goal.pow-requires
pow-requires c = let small : gap c.value.inside.exponent ≤ 36 = omega (arith, ints) in power_small (gap c.value.inside.exponent) small

pub returns-then-exponent-gt0 : goal.returns-then-exponent-gt0
returns-then-exponent-gt0 c = rw (← c.value.view_is) (one_far c.value.inside.digits c.value.inside.exponent (omega (arith, ints)))

pub returns-then-exponent-ltminus36 : goal.returns-then-exponent-ltminus36
returns-then-exponent-ltminus36 c = rw (← c.value.view_is) (one_low c.value.inside.digits c.value.inside.exponent c.value.invariant.few_digits (omega (arith, ints)))

pub returns-else-exponent-ltminus36 : goal.returns-else-exponent-ltminus36
returns-else-exponent-ltminus36 c =
    let is : pos (gap c.value.inside.exponent) ≡ (pos 0 -ℤ c.value.inside.exponent) = omega (arith, ints) in
    rw (← c.value.view_is, c.pow.ensures) (one_mid c.value.inside.digits c.value.inside.exponent (gap c.value.inside.exponent) is)
