-- Lemmas on texts and their bytes.
use Rattle.std.specs.Prelude.{◌≡◌, ℕ, ◌+◌, ◌*◌, ◌^◌, ◌<◌, ◌≤◌, Bool, true, false, List}
use Rattle.std.specs.Str.{IsUtf8, is_utf8, bytes_eq}
use Rattle.std.proofs.Common.{refl, arith, add-one}
use Rattle.std.proofs.Math.Nat.{pow-suc, pow-le-pow_right}
use Rattle.std.proofs.lemmas.Str.{IsUtf8-from_is_utf8}
use Rattle.std.proofs.lemmas.Slice.Eq.{bytes_eq-Decides}

-- bytes that are no UTF-8 fail the test of it
pub no_utf8 : (bs : List ℕ) → ¬ (IsUtf8 bs) → is_utf8 bs ≡ false
no_utf8 bs other = on (is_utf8 bs) refl
  where
    on : (t : Bool) → is_utf8 bs ≡ t → t ≡ false
    on true e = absurd (other (IsUtf8-from_is_utf8 bs e))
    on false e = refl

-- bytes are equal to themselves
pub same_bytes : (bs : List ℕ) → bytes_eq bs bs ≡ true
same_bytes bs = (bytes_eq-Decides bs bs).1 refl

-- one more digit of at most 16
pub more_digits : (n d v : ℕ) → n < 16 ^ d → v < 16 → 16 * n + v < 16 ^ (d + 1)
more_digits n d v h k = rw (add-one, pow-suc) (omega (arith, h, k))

-- a number of fewer than eight digits has room for one more digit
pub digits_fit : (n d : ℕ) → n < 16 ^ d → d < 8 → 16 * n + 16 ≤ 4294967296
digits_fit n d h k =
    let top : 16 ^ d ≤ 16 ^ 7 = pow-le-pow_right {n = 16} (omega arith) {i = d} {j = 7} (omega (arith, k)) in
    omega (arith, h, top)
