-- The union of two sets as an ascending list.
use Rattle.std.proofs.Common.{◌≡◌, ℕ, ◌<◌, ◌≤◌, ◌==◌, ◌||◌, Bool, true, false, nat_lt, List, [], ◌∷◌, if◌then◌else◌, refl, sym, ap, ◌∙◌, inl, inr, arith}
use Rattle.std.proofs.lemmas.Bool.{and_parts, and_from, lt-ltb, le-ltb}
use Rattle.std.proofs.lemmas.Bool.Decides.{eqb_tells, leb_tells}
use Rattle.psa_logic.specs.Sets.{all_above, is_ascending, occurs}
use Rattle.psa_logic.proofs.PartLemmas.{all_above-lower}
use Rattle.psa_nodes.specs.Families.{IsUnionOf}

-- x among the numbers of an ascending list, at its place
abbrev insert : ℕ → List ℕ → List ℕ
insert x [] = x ∷ []
insert x (y ∷ ys) = if nat_lt x y then x ∷ y ∷ ys else (if x == y then y ∷ ys else y ∷ insert x ys)

-- the numbers of both lists
abbrev pub merge : List ℕ → List ℕ → List ℕ
merge [] r = r
merge (x ∷ l) r = insert x (merge l r)

twice : (a b : Bool) → (a || b) ≡ (a || (a || b))
twice true b = refl
twice false b = refl

turned : (a b c : Bool) → (a || (b || c)) ≡ (b || (a || c))
turned true true c = refl
turned true false c = refl
turned false b c = refl

grouped : (a b c : Bool) → (a || (b || c)) ≡ ((a || b) || c)
grouped true b c = refl
grouped false b c = refl

-- where x stands to a number
module _ (x y : ℕ) where
  before : x < y → nat_lt x y ≡ true
  before lt = lt-ltb x y lt

  behind : y ≤ x → nat_lt x y ≡ false
  behind le = le-ltb x y le

insert-occurs : (x : ℕ) (l : List ℕ) (z : ℕ) → occurs (insert x l) z ≡ ((x == z) || occurs l z)
insert-occurs x [] z = refl
insert-occurs x (y ∷ ys) z = elim (leb_tells y x) [
  | inl p ↦ rw (behind x y p.1) (elim (eqb_tells x y) [
    | inl q ↦ rw q.0 (twice (y == z) (occurs ys z) ∙ ap (λ (v : ℕ). (v == z) || ((y == z) || occurs ys z)) (sym q.1))
    | inr q ↦ rw q.0 (ap (λ b. (y == z) || b) (insert-occurs x ys z) ∙ turned (y == z) (x == z) (occurs ys z))
  ])
  | inr p ↦ let ne = p.1 in rw (before x y (omega arith)) refl
]

insert-above : (w x : ℕ) (l : List ℕ) → w < x → all_above w l ≡ true → all_above w (insert x l) ≡ true
insert-above w x [] lt h = and_from (nat_lt w x) true (lt-ltb w x lt) refl
insert-above w x (y ∷ ys) lt h = elim (leb_tells y x) [
  | inl p ↦ rw (behind x y p.1) (elim (eqb_tells x y) [
    | inl q ↦ rw q.0 h
    | inr q ↦
        let parts = and_parts (nat_lt w y) (all_above w ys) h in
        rw q.0 (and_from (nat_lt w y) (all_above w (insert x ys)) parts.0 (insert-above w x ys lt parts.1))
  ])
  | inr p ↦ let ne = p.1 in rw (before x y (omega arith)) (and_from (nat_lt w x) (all_above w (y ∷ ys)) (lt-ltb w x lt) h)
]

insert-ascending : (x : ℕ) (l : List ℕ) → is_ascending l ≡ true → is_ascending (insert x l) ≡ true
insert-ascending x [] h = refl
insert-ascending x (y ∷ ys) h = elim (leb_tells y x) [
  | inl p ↦ rw (behind x y p.1) (elim (eqb_tells x y) [
    | inl q ↦ rw q.0 h
    | inr q ↦
        let parts = and_parts (all_above y ys) (is_ascending ys) h in
        let le : y ≤ x = p.1 in
        let ne = q.1 in
        rw q.0 (and_from (all_above y (insert x ys)) (is_ascending (insert x ys)) (insert-above y x ys (omega arith) parts.0) (insert-ascending x ys parts.1))
  ])
  | inr p ↦
      let ne = p.1 in
      let lt : x < y = omega arith in
      let parts = and_parts (all_above y ys) (is_ascending ys) h in
      rw (before x y lt) (and_from (all_above x (y ∷ ys)) (is_ascending (y ∷ ys))
      (and_from (nat_lt x y) (all_above x ys) (lt-ltb x y lt) (all_above-lower x y ys (omega arith) parts.0)) h)
]

merge-occurs : (l r : List ℕ) (z : ℕ) → occurs (merge l r) z ≡ (occurs l z || occurs r z)
merge-occurs [] r z = refl
merge-occurs (x ∷ l) r z = insert-occurs x (merge l r) z ∙ ap (λ b. (x == z) || b) (merge-occurs l r z) ∙ grouped (x == z) (occurs l z) (occurs r z)

merge-ascending : (l r : List ℕ) → is_ascending r ≡ true → is_ascending (merge l r) ≡ true
merge-ascending [] r h = h
merge-ascending (x ∷ l) r h = insert-ascending x (merge l r) (merge-ascending l r h)

-- is their union
pub merge-union : (l r : List ℕ) → is_ascending r ≡ true → IsUnionOf l r (merge l r)
merge-union l r h = record { ascending = merge-ascending l r h; members = λ z. merge-occurs l r z }
