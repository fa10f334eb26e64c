-- Items of an index set by the number of older ones.
use Rattle.std.proofs.Common.{◌≡◌, inl, inr, ◌≤◌, ◌+◌, ℕ, zero, suc, Bool, true, false, ◌==◌, List, [], ◌∷◌, ◌++◌, length, reverse, slice_get, Some, Result, Ok, Err, IfOk, if◌then◌else◌, refl, sym, ap, ◌∙◌, subst, arith, true≢false, length-append, append_assoc}
use Rattle.std.proofs.lemmas.List.{reverse-append, reverse-reverse, length-reverse}
use Rattle.std.proofs.lemmas.Bool.{cases_Bool}
use Rattle.std.proofs.lemmas.Bool.Decides.{eqb_tells}
use Rattle.std.specs.List.{list_any}
use Rattle.indexmap.specs.IndexSet.{insert_key}
use Rattle.psa_graph.specs.Truths.{older_at}
use Rattle.psa_graph.proofs.PlaceTruthLemmas.{reversed}
use Rattle.psa_prep.specs.Places.{IsAdded, Grown}
use Rattle.psa_prep.proofs.ListLemmas.{slice_get-push}

-- what holds of an `Ok`
pub if-ok : {T E : Type 0} (r : Result T E) (P Q : T → Type 0) → ((x : T) → P x → Q x) → IfOk r P → IfOk r Q
if-ok (Ok x) P Q f h = f x h
if-ok (Err e) P Q f h = h

-- the item by the number of older ones is that at the index
pub older_at-key : {A : Type 0} (keys : List A) (i : ℕ) → older_at (reverse keys) i ≡ slice_get keys i
older_at-key keys i = sym (reversed (reverse keys) i) ∙ ap (λ l. slice_get l i) (reverse-reverse keys)

-- an item that passes a test is found by it
any-at : {A : Type 0} (p : A → Bool) (xs : List A) (i : ℕ) (x : A)
    → slice_get xs i ≡ Some x → p x ≡ true → list_any p xs ≡ true
any-at p [] i x e h = absurd (cc)
any-at p (y ∷ ys) zero x e h = let same : y ≡ x = cc in rw (ap p same ∙ h) refl
any-at p (y ∷ ys) (suc i) x e h = elim (cases_Bool (p y)) [
  | inl q ↦ rw q refl
  | inr q ↦ rw q (any-at p ys i x e h)
]

added-new : {A : Type 0} (eq : A → A → Bool) (keys : List A) (n k : A) (i : ℕ) → list_any (eq n) keys ≡ false → slice_get (keys ++ n ∷ []) i ≡ Some k → eq n k ≡ true → i ≡ length keys
added-new eq keys n k i new at same = elim (eqb_tells i (length keys)) [
  | inl p ↦ p.1
  | inr p ↦
      let old : slice_get keys i ≡ Some k = sym (slice_get-push keys n i ∙ ap (λ b. if b then Some n else slice_get keys i) p.0) ∙ at in
      absurd (true≢false (sym (any-at (eq n) keys i k old same) ∙ new))
]

-- what an insertion adds, and where
pub added : {A : Type 0} (eq : A → A → Bool) → ((a b : A) → eq a b ≡ true → a ≡ b) → (keys now : List A) (n k : A) (i : ℕ) → now ≡ insert_key eq keys n → slice_get now i ≡ Some k → eq n k ≡ true → IsAdded n (reverse keys) (reverse now) i
added eq exact keys now n k i e at same = (
  older_at-key now i ∙ at ∙ ap Some (sym (exact n k same)),
  elim (cases_Bool (list_any (eq n) keys)) [
    | inl p ↦ let stays : now ≡ keys = rw p at e in inl (ap reverse stays)
    | inr p ↦
        let pushed : now ≡ keys ++ n ∷ [] = rw p at e in
        inr (ap reverse pushed ∙ reverse-append keys (n ∷ []), added-new eq keys n k i p (subst (λ (l : List _). slice_get l i ≡ Some k) pushed at) same ∙ sym (length-reverse keys))
  ],
)

pub grown-self : {A : Type 0} (xs : List A) → Grown xs xs
grown-self xs = ([], refl)

pub grown-then : {A : Type 0} (before now next : List A) → Grown before now → Grown now next → Grown before next
grown-then before now next g h = (h.0 ++ g.0, h.1 ∙ ap (λ l. h.0 ++ l) g.1 ∙ sym (append_assoc h.0 g.0 before))

pub grown-same : {A : Type 0} (before now : List A) → now ≡ before → Grown before now
grown-same before now e = ([], e)

pub grown-one : {A : Type 0} (before now : List A) (x : A) → now ≡ x ∷ before → Grown before now
grown-one before now x e = (x ∷ [], e)

pub grown-length : {A : Type 0} (before now : List A) → Grown before now → length before ≤ length now
grown-length before now g = let size : length now ≡ length g.0 + length before = ap length g.1 ∙ length-append g.0 before in omega arith

pub added-grown : {A : Type 0} (x : A) (before now : List A) (place : ℕ) → IsAdded x before now place → Grown before now
added-grown x before now place a = elim a.1 [ inl p ↦ grown-same before now p | inr p ↦ grown-one before now x p.0 ]

-- an item that came in was not there
pub added-fresh : {A : Type 0} (eq : A → A → Bool) → ((a : A) → eq a a ≡ true) → (keys now : List A) (n : A) (place : ℕ) → now ≡ insert_key eq keys n → reverse now ≡ n ∷ reverse keys → older_at (reverse keys) place ≡ Some n → ⊥
added-fresh eq same keys now n place e new there = elim (cases_Bool (list_any (eq n) keys)) [
  | inl p ↦
      let stays : now ≡ keys = rw p at e in
      let size : length (n ∷ reverse keys) ≡ length (reverse keys) = ap length (sym new ∙ ap reverse stays) in omega arith
  | inr p ↦ true≢false (sym (any-at (eq n) keys place n (sym (older_at-key keys place) ∙ there) (same n)) ∙ p)
]
