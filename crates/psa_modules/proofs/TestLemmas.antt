-- Sets as tests of membership: what is kept of a list, the list of a bounded test, and minimal cut sets by tests.
use Rattle.std.proofs.Common.{◌≡◌, ℕ, zero, suc, ◌+◌, ◌<◌, ◌≤◌, Bool, true, false, List, [], ◌∷◌, nat_lt, refl, sym, ap, ◌∙◌, inl, inr, arith}
use Rattle.std.proofs.lemmas.Bool.{false≢true, and_from, lt-ltb, cases_Bool, cases_lt}
use Rattle.std.proofs.lemmas.Bool.Decides.{eqb_tells}
use Rattle.std.specs.List.{filter}
use Rattle.psa_logic.specs.Sets.{all_above, is_ascending, is_part, occurs}
use Rattle.psa_logic.specs.Products.{IsMinimalCutSet}
use Rattle.psa_logic.proofs.PartLemmas.{part-cons, part-skip, part-ascending, part-has, occurs-has, has-occurs, sets-same}

-- tests that agree at each number are the same
pub tests-same : (one other : ℕ → Bool) → ((x : ℕ) → one x ≡ other x) → one ≡ other
tests-same one other same = λ i x. same x i

-- two bits are the same where each is true if the other is
pub bits-same : (one other : Bool) → (one ≡ true → other ≡ true) → (other ≡ true → one ≡ true) → one ≡ other
bits-same true other to from = sym (to refl)
bits-same false true to from = from refl
bits-same false false to from = refl

-- each number that passes the one test passes the other
abbrev pub IsBelow : (ℕ → Bool) → (ℕ → Bool) → Type 0
IsBelow one other = (x : ℕ) → one x ≡ true → other x ≡ true

-- what is kept is a part
pub kept-part : (test : ℕ → Bool) (xs : List ℕ) → is_part (filter test xs) xs ≡ true
kept-part test [] = refl
kept-part test (x ∷ xs) = elim (cases_Bool (test x)) [
  | inl p ↦ rw p (part-cons x (filter test xs) xs (kept-part test xs))
  | inr p ↦ rw p (part-skip xs x (filter test xs) (kept-part test xs))
]

-- what is kept of a set is a set
pub kept-ascending : (test : ℕ → Bool) (xs : List ℕ) → is_ascending xs ≡ true → is_ascending (filter test xs) ≡ true
kept-ascending test xs h = part-ascending (filter test xs) xs (kept-part test xs) h

-- what occurs in what is kept passes the test and occurs in the list
pub occurs-kept : (test : ℕ → Bool) (xs : List ℕ) (n : ℕ) → occurs (filter test xs) n ≡ true
    → (test n ≡ true) × (occurs xs n ≡ true)
occurs-kept test [] n h = absurd (false≢true h)
occurs-kept test (x ∷ xs) n h = elim (cases_Bool (test x)) [
  | inl p ↦ elim (eqb_tells x n) [
    | inl e ↦ (ap test (sym e.1) ∙ p, rw e.0 refl)
    | inr e ↦ let k : occurs (x ∷ filter test xs) n ≡ true = rw p at h in rw e.0 (occurs-kept test xs n (rw e.0 at k))
  ]
  | inr p ↦
      let rest = occurs-kept test xs n (rw p at h) in
      (rest.0, has-occurs (x ∷ xs) n (inr (occurs-has xs n rest.1)))
]

-- what passes the test and occurs in the list is kept
pub kept-occurs : (test : ℕ → Bool) (xs : List ℕ) (n : ℕ) → test n ≡ true → occurs xs n ≡ true
    → occurs (filter test xs) n ≡ true
kept-occurs test [] n h k = absurd (false≢true k)
kept-occurs test (x ∷ xs) n h k = elim (eqb_tells x n) [
  | inl e ↦ rw (ap test e.1 ∙ h) (rw e.0 refl)
  | inr e ↦ elim (cases_Bool (test x)) [
    | inl p ↦ rw p (rw e.0 (kept-occurs test xs n h (rw e.0 at k)))
    | inr p ↦ rw p (kept-occurs test xs n h (rw e.0 at k))
  ]
]

-- the numbers from one on, as many as the count
abbrev pub numbers : ℕ → ℕ → List ℕ
numbers from zero = []
numbers from (suc count) = from ∷ numbers (suc from) count

-- each of them is above what is below the first
numbers-above : (x from count : ℕ) → x < from → all_above x (numbers from count) ≡ true
numbers-above x from zero h = refl
numbers-above x from (suc count) h =
    and_from (nat_lt x from) (all_above x (numbers (suc from) count)) (lt-ltb x from h)
    (numbers-above x (suc from) count (omega arith))

-- they are a set
numbers-ascending : (from count : ℕ) → is_ascending (numbers from count) ≡ true
numbers-ascending from zero = refl
numbers-ascending from (suc count) =
    and_from (all_above from (numbers (suc from) count)) (is_ascending (numbers (suc from) count))
    (numbers-above from (suc from) count (omega arith)) (numbers-ascending (suc from) count)

-- each number of the range is in it
occurs-numbers : (from count x : ℕ) → from ≤ x → x < from + count → occurs (numbers from count) x ≡ true
occurs-numbers from zero x h k = absurd (omega arith)
occurs-numbers from (suc count) x h k = elim (eqb_tells from x) [
  | inl p ↦ rw p.0 refl
  | inr p ↦
      let differs : from ≡ x → ⊥ = p.1 in
      rw p.0 (occurs-numbers (suc from) count x (elim (cases_lt from x) [
        | inl lt ↦ omega arith
        | inr le ↦ absurd (differs (omega arith))
      ]) (omega arith))
]

-- the set of the numbers that pass a test below the bound
abbrev pub listed : (ℕ → Bool) → ℕ → List ℕ
listed test bound = filter test (numbers 0 bound)

-- It is a set.
pub listed-ascending : (test : ℕ → Bool) (bound : ℕ) → is_ascending (listed test bound) ≡ true
listed-ascending test bound = kept-ascending test (numbers 0 bound) (numbers-ascending 0 bound)

-- Its test is the test, where nothing from the bound on passes.
pub occurs-listed : (test : ℕ → Bool) (bound : ℕ) → ((x : ℕ) → test x ≡ true → x < bound)
    → occurs (listed test bound) ≡ test
occurs-listed test bound below = tests-same (occurs (listed test bound)) test (λ x.
    bits-same (occurs (listed test bound) x) (test x)
    (λ h. (occurs-kept test (numbers 0 bound) x h).0)
    (λ h. let lt : x < bound = below x h in kept-occurs test (numbers 0 bound) x h
    (occurs-numbers 0 bound x (omega arith) (omega arith))))

-- The truth holds at the test, and at no other test below it.
pub record IsLeast (f : (ℕ → Bool) → Bool) (s : ℕ → Bool) : Type 0 where
  pub cuts : f s ≡ true
  pub least : (t : ℕ → Bool) → IsBelow t s → f t ≡ true → IsBelow s t

-- a minimal cut set is least among the tests
pub least-from : (f : (ℕ → Bool) → Bool) (set : List ℕ) → IsMinimalCutSet f set → IsLeast f (occurs set)
least-from f set minimal = record {
  cuts = minimal.minimal.cuts;
  least = λ t below holds x m.
      let same : occurs (filter t set) ≡ t = tests-same (occurs (filter t set)) t
      (λ n. bits-same (occurs (filter t set) n) (t n) (λ h. (occurs-kept t set n h).0)
      (λ h. kept-occurs t set n h (below n h))) in
      let whole : filter t set ≡ set = minimal.minimal.least (filter t set) (kept-part t set) (ap f same ∙ holds) in
      ap (λ u. u x) (sym same) ∙ (ap (λ xs. occurs xs x) whole ∙ m);
}

-- a set that is least among the tests is a minimal cut set
pub minimal-from : (f : (ℕ → Bool) → Bool) (set : List ℕ) → is_ascending set ≡ true → IsLeast f (occurs set)
    → IsMinimalCutSet f set
minimal-from f set ascending so = record {
  ascending = ascending;
  minimal = record {
    cuts = so.cuts;
    least = λ part h holds.
        let below : IsBelow (occurs part) (occurs set) =
        λ x m. has-occurs set x (part-has part set x h (occurs-has part x m)) in
        sets-same part set (part-ascending part set h ascending) ascending
        (λ x. bits-same (occurs part x) (occurs set x) (below x) (so.least (occurs part) below holds x));
  };
}
