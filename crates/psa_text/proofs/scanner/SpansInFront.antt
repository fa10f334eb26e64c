-- The front of a list of bytes that is read in one go.
use Rattle.std.specs.Prelude.{◌≡◌, ℕ, zero, suc, ◌-◌, ◌≤◌, ◌<◌, Bool, true, false, not, ◌==◌, List, [], ◌∷◌, ◌++◌, length, take, drop, slice_index, Some, None}
use Rattle.std.proofs.Common.{refl, sym, ◌∙◌, ap, subst, arith, append_assoc, append-nil, get_or}
use Rattle.std.proofs.lemmas.List.{take-append-drop}
use Rattle.std.proofs.Math.Seq.{take-length}
use Rattle.memchr.specs.Find.{IsFirstByte, is_byte}
use Rattle.psa_text.specs.TextBytes.{AllPass}
use Rattle.psa_text.specs.scanner.Spans.{IsBehind, is_other}

other : (t : Bool) → (t ≡ true → ⊥) → not t ≡ true
other true h = absurd (h refl)
other false h = refl

others : (stop k : ℕ) (hay : List ℕ) → k ≤ length hay → ((j : ℕ) → j < k → (slice_index hay j == stop) ≡ true → ⊥) → AllPass (is_other stop) (take k hay)
others stop zero hay fits h = tt
others stop (suc k) [] fits h = tt
others stop (suc k) (x ∷ xs) fits h = (other (x == stop) (h 0 (omega arith)), others stop k xs (omega (arith, fits)) (λ j lt e. h (suc j) (omega (arith, lt)) e))

-- what a search for a byte tells of the bytes before it
pub before_place : (stop : ℕ) (hay : List ℕ) (place : ℕ) (rest : List ℕ) → IsFirstByte (is_byte stop) hay (Some place) → rest ≡ drop place hay → IsBehind (is_other stop) hay rest
before_place stop hay place rest first e = record {
  span = take place hay;
  joined = rw e (sym (take-append-drop place hay));
  passes = others stop place hay (omega (arith, first.0.high)) (λ j lt found. first.0.before j (omega arith) lt found);
}

-- where the byte is nowhere, all bytes are others
pub no_place : (stop : ℕ) (hay : List ℕ) → IsFirstByte (is_byte stop) hay None → IsBehind (is_other stop) hay []
no_place stop hay none = record {
  span = hay;
  joined = sym (append-nil hay);
  passes = subst (λ (xs : List ℕ). AllPass (is_other stop) xs) (take-length hay) (others stop (length hay) hay (omega arith) (λ j lt found. none j (omega arith) lt found));
}

-- a list is its first item and the rest, as a pattern reads them
pub first_and_rest : (bytes : List ℕ) → 1 ≤ length bytes → bytes ≡ get_or bytes 0 0 ∷ take (length bytes - 1) (drop 1 bytes)
first_and_rest [] some = absurd (omega (arith, some))
first_and_rest (b ∷ bs) some = ap (λ xs. b ∷ xs) (sym (take-length bs) ∙ ap (λ n. take n bs) less)
  where
    less : length bs ≡ suc (length bs) - 1
    less = omega arith

all_push : (test : ℕ → Bool) (xs : List ℕ) (b : ℕ) → AllPass test xs → test b ≡ true → AllPass test (xs ++ (b ∷ []))
all_push test [] b h e = (e, tt)
all_push test (x ∷ xs) b h e = (h.0, all_push test xs b h.1 e)

-- one more byte that passes
pub behind_more : (test : ℕ → Bool) (bytes rest more : List ℕ) (b : ℕ) → IsBehind test bytes rest → rest ≡ b ∷ more → test b ≡ true → IsBehind test bytes more
behind_more test bytes rest more b h is e = record {
  span = h.span ++ (b ∷ []);
  joined = h.joined ∙ ap (λ xs. h.span ++ xs) is ∙ sym (append_assoc h.span (b ∷ []) more);
  passes = all_push test h.span b h.passes e;
}
