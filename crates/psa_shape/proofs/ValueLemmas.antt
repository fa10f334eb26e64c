-- The names of a path, and the room of a number of few digits.
use Rattle.std.proofs.Common.{◌≡◌, ◌+◌, ◌-◌, ◌*◌, ◌^◌, ◌<◌, ◌≤◌, ℕ, suc, Bool, true, false, List, [], ◌∷◌, Some, None, cond, drop, length, not, take, ◌&&◌, refl, ap, ◌∙◌, arith}
use Rattle.std.proofs.Math.Bool.{and-true}
use Rattle.std.proofs.Math.Nat.{mul-le-mul_left, pow-le-pow_right}
use Rattle.std.proofs.lemmas.Bool.Decides.{nat_tests}
use Rattle.std.proofs.lemmas.List.Splits.{slice_split_first, slice_split-cons_no}
use Rattle.std.proofs.lemmas.Option.{cond_some}
use Rattle.std.specs.Prelude.{nat_lt}
use Rattle.std.specs.List.{list_all, onto_first, position, position_or_len}
use Rattle.psa_model.specs.PathNames.{Text, name_parts}
use Rattle.psa_elements.specs.ElementTable.{is_name}
use Rattle.psa_number.proofs.DigitLemmas.{IsReadSoFar}
use Rattle.psa_shape.specs.TableRules.{is_dot}

-- the value of fewer than four digits has room for one more
pub digits_room : (value i : ℕ) (digits : List ℕ) → i < length digits → IsReadSoFar 0 value i digits
    → length digits ≤ 4 → (value + 1) * 10 ≤ 10 ^ 4
digits_room value i digits le so_far few =
    let ten : 1 ≤ length digits - i = omega arith in
    let some : 0 < 10 = omega arith in
    let h1 : 10 ^ 1 ≤ 10 ^ (length digits - i) = pow-le-pow_right some ten in
    let h2 : (value + 1) * 10 ^ 1 ≤ (value + 1) * 10 ^ (length digits - i) = mul-le-mul_left (value + 1) h1 in
    let h3 : 10 ^ length digits ≤ 10 ^ 4 = pow-le-pow_right some few in
    omega (arith, h2, so_far.room, h3)

some_place : (place count found : ℕ) → cond (nat_lt place count) (Some place) None ≡ Some found
    → (place < count) × (place ≡ found)
some_place place count found h = let parts = cond_some (nat_lt place count) place found h in let test = parts.0 in
    (grind (arith, nat_tests), parts.1)

no_place : (place count : ℕ) → cond (nat_lt place count) (Some place) None ≡ None → count ≤ place
no_place place count h = past (nat_lt place count) refl h
  where
    past : (b : Bool) → nat_lt place count ≡ b → cond b (Some place) None ≡ None → count ≤ place
    past true e h = absurd (cc)
    past false e h = grind (arith, nat_tests)

-- the first name ends at the first dot
name_parts-dot : (text : Text) (place : ℕ) → position is_dot text ≡ Some place
    → name_parts text ≡ take place text ∷ name_parts (drop (place + 1) text)
name_parts-dot text place found =
    let parts = some_place (position_or_len is_dot text) (length text) place found in
    slice_split_first is_dot text 0 parts.0 ∙ ap (λ (n : ℕ). take n text ∷ name_parts (drop (n + 1) text)) parts.1

one_part : (b : ℕ) (rest : List ℕ) (t : Bool) → is_dot b ≡ t
    → suc (length rest) ≤ cond (not t) (1 + position_or_len is_dot rest) 0
    → (length rest ≤ position_or_len is_dot rest → name_parts rest ≡ rest ∷ [])
    → name_parts (b ∷ rest) ≡ (b ∷ rest) ∷ []
one_part b rest true e l more = absurd (omega arith)
one_part b rest false e l more = slice_split-cons_no is_dot b rest e ∙ ap (onto_first b) (more (omega arith))

whole : (text : Text) → length text ≤ position_or_len is_dot text → name_parts text ≡ text ∷ []
whole [] l = refl
whole (b ∷ rest) l = one_part b rest (is_dot b) refl l (whole rest)

-- without a dot there is one name
name_parts-none : (text : Text) → position is_dot text ≡ None → name_parts text ≡ text ∷ []
name_parts-none text missing = whole text (no_place (position_or_len is_dot text) (length text) missing)

-- the first name is none
pub names-bad : (text : Text) (place : ℕ) → position is_dot text ≡ Some place → is_name (take place text) ≡ false
    → list_all is_name (name_parts text) ≡ false
names-bad text place found bad =
    ap (list_all is_name) (name_parts-dot text place found)
    ∙ ap (λ b. b && list_all is_name (name_parts (drop (place + 1) text))) bad

-- the first name is one, and the others are left
pub names-next : (text : Text) (place : ℕ) → position is_dot text ≡ Some place → is_name (take place text) ≡ true
    → list_all is_name (name_parts text) ≡ list_all is_name (name_parts (drop (place + 1) text))
names-next text place found good =
    ap (list_all is_name) (name_parts-dot text place found)
    ∙ ap (λ b. b && list_all is_name (name_parts (drop (place + 1) text))) good

-- the last name
pub names-last : (text : Text) → position is_dot text ≡ None → list_all is_name (name_parts text) ≡ is_name text
names-last text missing = ap (list_all is_name) (name_parts-none text missing) ∙ and-true (is_name text)
