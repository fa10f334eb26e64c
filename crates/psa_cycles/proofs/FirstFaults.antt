-- The fault that stands first, where definitions ascend: that of the first definition that fails a test.
use Rattle.std.proofs.Common.{◌≡◌, ◌<◌, ◌+◌, ◌==◌, ℕ, zero, suc, Bool, true, false, nat_lt, List, [], ◌∷◌, map, Option, Some, None, IfSome, ◌&&◌, refl, sym, ap, ◌∙◌, subst, inl, inr, ◌⊎◌, arith}
use Rattle.std.proofs.lemmas.Bool.{cases_Bool, and_parts, and_from, or_cases, or_left, or_right, ltb-true, lt-ltb, eqb-true, eq-eqb, false_from_ne_true}
use Rattle.std.proofs.lemmas.Option.{same_Some, none-some}
use Rattle.std.specs.Prelude.{filter, slice_get}
use Rattle.std.specs.List.{enumerate_from}
use Rattle.psa_model.specs.Drafts.{Position, stands_before, are_ascending, position_of}
use Rattle.psa_names.specs.Outlines.{Entry, Entries}
use Rattle.psa_names.specs.PlacedFaults.{PlacedFault, earlier, earliest}

-- ---- positions

abbrev Before : Position → Position → Type 0
Before one other = (one.file < other.file) ⊎ ((one.file ≡ other.file) × (one.tag < other.tag))

before-parts : (one other : Position) → stands_before one other ≡ true → Before one other
before-parts one other h =
    elim (or_cases (nat_lt one.file other.file) (one.file == other.file && nat_lt one.tag other.tag) h) [
      | inl file ↦ inl (ltb-true one.file other.file file)
      | inr both ↦ (let parts = and_parts (one.file == other.file) (nat_lt one.tag other.tag) both in
          inr (eqb-true one.file other.file parts.0, ltb-true one.tag other.tag parts.1))
    ]

before-from : (one other : Position) → Before one other → stands_before one other ≡ true
before-from one other (inl file) = or_left (nat_lt one.file other.file) (one.file == other.file && nat_lt one.tag other.tag) (lt-ltb one.file other.file file)
before-from one other (inr both) =
    or_right (nat_lt one.file other.file) (one.file == other.file && nat_lt one.tag other.tag)
    (and_from (one.file == other.file) (nat_lt one.tag other.tag) (eq-eqb one.file other.file both.0) (lt-ltb one.tag other.tag both.1))

before-trans : (a b c : Position) → Before a b → Before b c → Before a c
before-trans a b c (inl p) (inl q) = inl (omega arith)
before-trans a b c (inl p) (inr q) = let same = q.0 in inl (omega arith)
before-trans a b c (inr p) (inl q) = let same = p.0 in inl (omega arith)
before-trans a b c (inr p) (inr q) = inr (p.0 ∙ q.0, omega (arith, p.1, q.1))

before-not : (a b : Position) → Before a b → Before b a → ⊥
before-not a b (inl p) (inl q) = omega arith
before-not a b (inl p) (inr q) = let same = q.0 in omega arith
before-not a b (inr p) (inl q) = let same = p.0 in omega arith
before-not a b (inr p) (inr q) = omega (arith, p.1, q.1)

-- none of some positions stands before one
abbrev NoneBefore : Position → List Position → Type 0
NoneBefore one [] = Unit {0}
NoneBefore one (other ∷ others) = (stands_before other one ≡ false) × NoneBefore one others

abbrev pub InOrder : List Position → Type 0
InOrder [] = Unit {0}
InOrder (one ∷ others) = NoneBefore one others × InOrder others

behind : (one other : Position) (others : List Position) → Before one other → are_ascending (other ∷ others) ≡ true → NoneBefore one (other ∷ others)
behind one other [] before ascending = (false_from_ne_true (stands_before other one) (λ h. before-not one other before (before-parts other one h)), tt)
behind one other (next ∷ others) before ascending =
    let parts = and_parts (stands_before other next) (are_ascending (next ∷ others)) ascending in (
      false_from_ne_true (stands_before other one) (λ h. before-not one other before (before-parts other one h)),
      behind one next others (before-trans one other next before (before-parts other next parts.0)) parts.1,
    )

-- where positions ascend none stands before an earlier one
pub in-order : (positions : List Position) → are_ascending positions ≡ true → InOrder positions
in-order [] ascending = tt
in-order (one ∷ []) ascending = (tt, tt)
in-order (one ∷ other ∷ others) ascending =
    let parts = and_parts (stands_before one other) (are_ascending (other ∷ others)) ascending in
    (behind one other others (before-parts one other parts.0) parts.1, in-order (other ∷ others) parts.1)

-- ---- the fault of the first that fails

module _ {X : Type 0} (make : X → PlacedFault) (test : X → Bool) where
  abbrev place : X → Position
  place x = (make x).position

  -- the first of a fault and of what follows does not stand before
  first-follows : (one : Position) (x : X) (later found : Option PlacedFault) → stands_before (place x) one ≡ false → IfSome later (λ other. stands_before other.position one ≡ false) → earlier (make x) later ≡ found → IfSome found (λ other. stands_before other.position one ≡ false)
  first-follows one x None found here rest h = subst (λ f. IfSome f (λ other. stands_before other.position one ≡ false)) h here
  first-follows one x (Some later) found here rest h =
      elim (cases_Bool (stands_before later.position (place x))) [
        | inl other ↦ subst (λ f. IfSome f (λ other. stands_before other.position one ≡ false)) (rw other at h) rest
        | inr same ↦ subst (λ f. IfSome f (λ other. stands_before other.position one ≡ false)) (rw same at h) here
      ]

  -- the first fault of what follows does not stand before
  follows : (one : Position) (xs : List X) → NoneBefore one (map place xs) → (found : Option PlacedFault) → earliest (map make (filter test xs)) ≡ found → IfSome found (λ other. stands_before other.position one ≡ false)
  follows one [] none None is = tt
  follows one [] none (Some other) is = absurd (none-some other is)
  follows one (x ∷ xs) none found is =
      elim (cases_Bool (test x)) [
        | inl fails ↦ first-follows one x (earliest (map make (filter test xs))) found none.0 (follows one xs none.1 (earliest (map make (filter test xs))) refl) (rw fails at is)
        | inr passes ↦ follows one xs none.1 found (rw passes at is)
      ]

  earlier-first : (x : X) (found : Option PlacedFault) → IfSome found (λ other. stands_before other.position (place x) ≡ false) → earlier (make x) found ≡ Some (make x)
  earlier-first x None none = refl
  earlier-first x (Some other) none = rw none refl

  -- the fault that stands first is that of the first that fails
  pub first-fails : (xs : List X) → InOrder (map place xs) → (i : ℕ) (x : X) → slice_get xs i ≡ Some x → test x ≡ true → ((j : ℕ) (y : X) → j < i → slice_get xs j ≡ Some y → test y ≡ false) → earliest (map make (filter test xs)) ≡ Some (make x)
  first-fails [] order i x at fails before = absurd (none-some x at)
  first-fails (y ∷ xs) order zero x at fails before =
      let same : y ≡ x = same_Some y x at in
      let here : test y ≡ true = ap test same ∙ fails in
      rw here
      (earlier-first y (earliest (map make (filter test xs))) (follows (place y) xs order.0 (earliest (map make (filter test xs))) refl) ∙ ap (λ z. Some (make z)) same)
  first-fails (y ∷ xs) order (suc i) x at fails before =
      let here : test y ≡ false = before 0 y (omega arith) refl in
      rw here (first-fails xs order.1 i x at fails (λ j z low there. before (suc j) z (omega arith) there))

  -- where none fails there is no fault
  pub none-fails : (xs : List X) → ((j : ℕ) (y : X) → slice_get xs j ≡ Some y → test y ≡ false) → earliest (map make (filter test xs)) ≡ None
  none-fails [] pass = refl
  none-fails (y ∷ xs) pass =
      let here : test y ≡ false = pass 0 y refl in
      rw here (none-fails xs (λ j z there. pass (suc j) z there))

-- ---- definitions with their places

-- a definition with its place, by the place
pub numbered-at : (n : ℕ) (entries : Entries) (i : ℕ) (one : Entry) → slice_get entries i ≡ Some one → slice_get (enumerate_from n entries) i ≡ Some (n + i, one)
numbered-at n [] i one at = absurd (none-some one at)
numbered-at n (e ∷ es) zero one at = let same = same_Some e one at in let sum : n ≡ n + 0 = omega arith in cc
numbered-at n (e ∷ es) (suc i) one at = let sum : n + 1 + i ≡ n + suc i = omega arith in numbered-at (n + 1) es i one at ∙ ap (λ k. Some (k, one)) sum

-- and back
pub numbered-is : (n : ℕ) (entries : Entries) (i : ℕ) (x : ℕ × Entry) → slice_get (enumerate_from n entries) i ≡ Some x → (x.0 ≡ n + i) × (slice_get entries i ≡ Some x.1)
numbered-is n [] i x at = absurd (none-some x at)
numbered-is n (e ∷ es) zero x at =
    let same = same_Some (n, e) x at in
    (ap (λ (p : ℕ × Entry). p.0) (sym same) ∙ zero-sum, ap (λ (p : ℕ × Entry). Some p.1) same)
  where
    zero-sum : n ≡ n + 0
    zero-sum = omega arith
numbered-is n (e ∷ es) (suc i) x at =
    let rest = numbered-is (n + 1) es i x at in
    let sum : n + 1 + i ≡ n + suc i = omega arith in
    (rest.0 ∙ sum, rest.1)

-- definitions with their places have the positions of definitions
pub numbered-positions : (n : ℕ) (entries : Entries) → map (λ (x : ℕ × Entry). position_of x.1.definition) (enumerate_from n entries) ≡ map (λ one. position_of one.definition) entries
numbered-positions n [] = refl
numbered-positions n (e ∷ es) = ap (λ ps. position_of e.definition ∷ ps) (numbered-positions (n + 1) es)
