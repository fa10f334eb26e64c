-- The rounded product of two numbers of units within 0 and 1, from the two halves of the digits of one of them.
use Rattle.std.proofs.Common.{ℕ, ℤ, ◌≡◌, ◌+◌, ◌*◌, ◌/◌, ◌%◌, ◌^◌, ◌<◌, ◌≤◌, unsigned_abs, arith, ap}
use Rattle.std.specs.Int.{div_ceil}
use Rattle.std.proofs.lemmas.Nat.{div-add-mod'}
use Rattle.std.proofs.lemmas.Grind.{div_ceil_times}
use Rattle.psa_number.specs.Units.{units}
use Rattle.psa_number.proofs.SignedLemmas.{read, read_end}

halves : (a b : ℕ) → a * b ≡ a * (b / 1000000) * 1000000 + a * (b % 1000000)
halves a b = omega (arith, ap (λ (t : ℕ). a * t) (div-add-mod' b 1000000))

same_floor : (n p q : ℕ) → n ≡ p * 1000000 + q → (p + q / 1000000) / 1000000 ≡ n / units
same_floor n p q e = omega arith

same_ceil : (n p q r s t : ℕ) → n ≡ p * 1000000 + q → q ≤ r * 1000000 → r * 1000000 < q + 1000000
    → p + r ≤ s * 1000000 → s * 1000000 < p + r + 1000000 → n ≤ t * units → t * units < n + units → s ≡ t
same_ceil n p q r s t e r_low r_high s_low s_high t_low t_high = omega arith

-- The floor of the product, by halves.
pub floor_by_halves : (a b : ℕ) → (a * (b / 1000000) + a * (b % 1000000) / 1000000) / 1000000 ≡ a * b / units
floor_by_halves a b = same_floor (a * b) (a * (b / 1000000)) (a * (b % 1000000)) (halves a b)

-- The ceiling of the product, by halves.
pub ceil_by_halves : (a b : ℕ) → div_ceil (a * (b / 1000000) + div_ceil (a * (b % 1000000)) 1000000) 1000000 ≡ div_ceil (a * b) units
ceil_by_halves a b =
    let p : ℕ = a * (b / 1000000) in
    let q : ℕ = a * (b % 1000000) in
    let r : ℕ = div_ceil q 1000000 in
    let inner = div_ceil_times q 1000000 (omega arith) in
    let outer = div_ceil_times (p + r) 1000000 (omega arith) in
    let whole = div_ceil_times (a * b) units (omega arith) in
    same_ceil (a * b) p q r (div_ceil (p + r) 1000000) (div_ceil (a * b) units) (halves a b) inner.0 inner.1 outer.0 outer.1 whole.0 whole.1

-- An end is read back as it is.
pub read_limited : (z : ℤ) → unsigned_abs z ≤ 10 ^ 18 → read z ≡ z
read_limited z small = read_end z (omega (arith, small))
