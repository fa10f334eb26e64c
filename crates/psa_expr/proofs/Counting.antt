-- The numbers of choices.
use Rattle.std.proofs.Common.{◌≡◌, ◌<◌, ◌≤◌, ◌+◌, ◌-◌, ◌^◌, ℕ, zero, suc, refl, sym, sub-one, arith}
use Rattle.std.proofs.Math.Nat.{two-pow-succ, pow-le-pow_right}
use Rattle.psa_model.specs.Expansion.{choose}

pub choose-none : (n k : ℕ) → k ≡ 0 → 1 ≡ choose n k
unfolding choose
choose-none n zero is = refl
choose-none n (suc k) is = absurd (omega (arith, is))

pub choose-empty : (n k : ℕ) → 0 < k → n ≡ 0 → 0 ≡ choose n k
unfolding choose
choose-empty n zero some is = absurd (omega arith)
choose-empty zero (suc k) some is = refl
choose-empty (suc n) (suc k) some is = absurd (omega (arith, is))

pub choose-step : (n k : ℕ) → 0 < n → 0 < k → choose (n - 1) (k - 1) + choose (n - 1) k ≡ choose n k
unfolding choose
choose-step zero k l some = absurd (omega arith)
choose-step (suc n) zero l some = absurd (omega arith)
choose-step (suc n) (suc k) l some = rw (sub-one, sub-one) refl

pub twice : (n : ℕ) → 0 < n → 2 ^ (n - 1) + 2 ^ (n - 1) ≡ 2 ^ n
twice zero l = absurd (omega arith)
twice (suc n) l = rw sub-one (sym (two-pow-succ n))

pub small-power : (n : ℕ) → n < 31 → 2 ^ n ≤ 2 ^ 30
small-power n l =
    let some : 0 < 2 = omega arith in
    let below : n ≤ 30 = omega (arith, l) in
    pow-le-pow_right some below
