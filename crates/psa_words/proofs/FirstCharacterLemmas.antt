-- A text has a first character, and its first byte tells whether that is ASCII.
use Rattle.std.proofs.Common.{◌≡◌, refl, sym, ℕ, ◌<◌, ◌≤◌, List, [], ◌∷◌, ◌++◌, Some, length, drop, arith, inl, inr, lit<}
use lib.Utf8.{encode, encodes}
use Rattle.std.specs.Prelude.{slice_get, encode_utf8}
use Rattle.std.specs.Str.{IsUtf8, chars}
use Rattle.std.proofs.lemmas.Bool.{cases_lt}
use Rattle.std.proofs.lemmas.Str.{encodes-chars, encode_ascii, byte_from_char, char_from_byte, IsUtf8-drop, IsCharBoundary-after_ascii}

-- the first character x of a text of bytes, and what its first byte b says of it
pub record IsFirst (b : ℕ) (rest : List ℕ) (x : ℕ) : Type 0 where
  pub is_first : slice_get (chars (b ∷ rest)) 0 ≡ Some x
  pub same : x < 128 → (b ≡ x) × (drop (length (encode_utf8 x)) (b ∷ rest) ≡ rest)
  pub high : 128 ≤ x → 128 ≤ b

first_of_chars : (b : ℕ) (rest : List ℕ) → (cs : List ℕ) → encodes cs ≡ b ∷ rest → chars (b ∷ rest) ≡ cs → (x : ℕ) × IsFirst b rest x
first_of_chars b rest [] spells e = absurd (cc)
first_of_chars b rest (x ∷ xs) spells e =
    let spelled : b ∷ rest ≡ encode x ++ encodes xs = sym spells in (
      x,
      record {
        is_first = rw e refl;
        same = λ low. (byte_from_char (b ∷ rest) (encodes xs) x spelled low, rw (encode_ascii x low) refl);
        high = λ above. elim (cases_lt b 128) [
          | inl low ↦ let same : x ≡ b = char_from_byte (b ∷ rest) (encodes xs) x spelled low (omega arith) in absurd (omega arith)
          | inr h ↦ h
        ];
      },
    )

-- A text that is not empty has a first character.
pub first_char : (b : ℕ) (rest : List ℕ) → IsUtf8 (b ∷ rest) → (x : ℕ) × IsFirst b rest x
first_char b rest u =
    let spells : encodes (chars (b ∷ rest)) ≡ b ∷ rest = encodes-chars (b ∷ rest) u in
    first_of_chars b rest (chars (b ∷ rest)) spells refl

-- Without its leading hyphen, a text is UTF-8 still.
pub after_hyphen : (b : ℕ) (rest : List ℕ) → IsUtf8 (45 ∷ (b ∷ rest)) → IsUtf8 (b ∷ rest)
after_hyphen b rest u =
    IsUtf8-drop (45 ∷ (b ∷ rest)) 1 u (IsCharBoundary-after_ascii (45 ∷ (b ∷ rest)) 0 u (omega arith) (lit< tt))
