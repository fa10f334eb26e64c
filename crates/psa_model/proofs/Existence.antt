-- A kind of product that is decided, whose products are ascending lists of numbers below a bound, has a listing:
-- the parts of the list of all numbers below the bound that are of the kind, put in report order.
use Rattle.std.proofs.Common.{◌≡◌, ◌⊎◌, ℕ, zero, suc, ◌+◌, ◌<◌, ◌≤◌, true, List, [], ◌∷◌, ◌++◌, map, refl, sym, subst, inl, inr, arith}
use Rattle.std.proofs.lemmas.Bool.{false≢true, and_parts, and_from, lt-ltb}
use Rattle.std.proofs.lemmas.Bool.Decides.{eqb_tells}
use Rattle.psa_logic.specs.Sets.{Has, is_part, is_ascending, all_above}
use Rattle.psa_logic.specs.Products.{is_before, is_before_all, is_in_order, IsListing}
use Rattle.psa_logic.proofs.ListingLemmas.{before_all-from, before_all-each, has-map, has-append_left, has-append_right}
use Rattle.psa_logic.proofs.ReportOrderLemmas.{before-total, before-trans}
use Rattle.psa_logic.proofs.PartLemmas.{part-nil, part-from_has}

-- one more product at its place in report order
record Inserted (one : List ℕ) (products : List (List ℕ)) : Type 0 where
  all : List (List ℕ)
  ordered : is_in_order all ≡ true
  has_one : Has all one
  has_each : (z : List ℕ) → Has products z → Has all z
  only : (z : List ℕ) → Has all z → (one ≡ z) ⊎ Has products z

inserted : (one : List ℕ) (products : List (List ℕ)) → is_in_order products ≡ true → Inserted one products
inserted one [] h = record {
  all = one ∷ [];
  ordered = refl;
  has_one = inl refl;
  has_each = λ z m. absurd m;
  only = λ z m. elim m [ inl e ↦ inl e | inr r ↦ absurd r ];
}
inserted one (x ∷ xs) h = elim (before-total one x) [
  | inl same ↦ record {
    all = x ∷ xs;
    ordered = h;
    has_one = inl (sym same);
    has_each = λ z m. m;
    only = λ z m. inr m;
  }
  | inr apart ↦ elim apart [
    | inl before ↦ record {
      all = one ∷ x ∷ xs;
      ordered = and_from (is_before_all one (x ∷ xs)) (is_in_order (x ∷ xs))
          (before_all-from one (x ∷ xs) (λ z m. elim m [
            | inl e ↦ subst (λ o. is_before one o ≡ true) e before
            | inr r ↦ before-trans one x z before (before_all-each x xs (parts h).0 z r)
          ]))
          h;
      has_one = inl refl;
      has_each = λ z m. inr m;
      only = λ z m. m;
    }
    | inr after ↦ behind (inserted one xs (parts h).1) after
  ]
]
  where
    parts : is_in_order (x ∷ xs) ≡ true → (is_before_all x xs ≡ true) × (is_in_order xs ≡ true)
    parts k = and_parts (is_before_all x xs) (is_in_order xs) k

    behind : Inserted one xs → is_before x one ≡ true → Inserted one (x ∷ xs)
    behind more after = record {
      all = x ∷ more.all;
      ordered = and_from (is_before_all x more.all) (is_in_order more.all)
          (before_all-from x more.all (λ z m. elim (more.only z m) [
            | inl e ↦ subst (λ o. is_before x o ≡ true) e after
            | inr r ↦ before_all-each x xs (parts h).0 z r
          ]))
          more.ordered;
      has_one = inr more.has_one;
      has_each = λ z m. elim m [ inl e ↦ inl e | inr r ↦ inr (more.has_each z r) ];
      only = λ z m. elim m [
        | inl e ↦ inr (inl e)
        | inr r ↦ elim (more.only z r) [ inl e ↦ inl e | inr k ↦ inr (inr k) ]
      ];
    }

-- those of some candidates that are of the kind, in report order
record Listed (IsOne : List ℕ → Type 0) (candidates : List (List ℕ)) : Type 0 where
  products : List (List ℕ)
  ordered : is_in_order products ≡ true
  sound : (z : List ℕ) → Has products z → IsOne z
  whole : (z : List ℕ) → Has candidates z → IsOne z → Has products z

listed : (IsOne : List ℕ → Type 0) → ((z : List ℕ) → IsOne z ⊎ (IsOne z → ⊥)) → (candidates : List (List ℕ)) → Listed IsOne candidates
listed IsOne decide [] = record {
  products = [];
  ordered = refl;
  sound = λ z m. absurd m;
  whole = λ z m is. absurd m;
}
listed IsOne decide (c ∷ cs) = elim (decide c) [
  | inl is ↦ with_it (listed IsOne decide cs) is
  | inr other ↦ without_it (listed IsOne decide cs) other
]
  where
    with_it : Listed IsOne cs → IsOne c → Listed IsOne (c ∷ cs)
    with_it rest is =
        let more = inserted c rest.products rest.ordered in
        record {
          products = more.all;
          ordered = more.ordered;
          sound = λ z m. elim (more.only z m) [ inl e ↦ subst IsOne e is | inr r ↦ rest.sound z r ];
          whole = λ z m one. elim m [
            | inl e ↦ subst (λ w. Has more.all w) e more.has_one
            | inr r ↦ more.has_each z (rest.whole z r one)
          ];
        }

    without_it : Listed IsOne cs → (IsOne c → ⊥) → Listed IsOne (c ∷ cs)
    without_it rest other = record {
      products = rest.products;
      ordered = rest.ordered;
      sound = rest.sound;
      whole = λ z m one. elim m [
        | inl e ↦ absurd (other (subst IsOne (sym e) one))
        | inr r ↦ rest.whole z r one
      ];
    }

-- all parts of a list
abbrev parts_of : List ℕ → List (List ℕ)
parts_of [] = [] ∷ []
parts_of (x ∷ xs) = map (λ part. x ∷ part) (parts_of xs) ++ parts_of xs

part-listed : (xs part : List ℕ) → is_part part xs ≡ true → Has (parts_of xs) part
part-listed [] [] h = inl refl
part-listed [] (t ∷ ts) h = absurd (false≢true h)
part-listed (x ∷ xs) [] h = has-append_right (map (λ part. x ∷ part) (parts_of xs)) (parts_of xs) [] (part-listed xs [] (part-nil xs))
part-listed (x ∷ xs) (t ∷ ts) h = elim (eqb_tells t x) [
  | inl p ↦ has-append_left (map (λ part. x ∷ part) (parts_of xs)) (parts_of xs) (t ∷ ts)
      (subst (λ y. Has (map (λ part. x ∷ part) (parts_of xs)) (y ∷ ts)) (sym p.1)
      (has-map (λ part. x ∷ part) (parts_of xs) ts (part-listed xs ts (rw p.0 at h))))
  | inr p ↦ has-append_right (map (λ part. x ∷ part) (parts_of xs)) (parts_of xs) (t ∷ ts)
      (part-listed xs (t ∷ ts) (rw p.0 at h))
]

-- so many numbers from one on
abbrev pub numbers_from : ℕ → ℕ → List ℕ
numbers_from from zero = []
numbers_from from (suc count) = from ∷ numbers_from (suc from) count

above-numbers : (x from count : ℕ) → x < from → all_above x (numbers_from from count) ≡ true
above-numbers x from zero l = refl
above-numbers x from (suc count) l =
    and_from _ (all_above x (numbers_from (suc from) count)) (lt-ltb x from l) (above-numbers x (suc from) count (omega arith))

-- the numbers from one on ascend
pub ascending-numbers : (from count : ℕ) → is_ascending (numbers_from from count) ≡ true
ascending-numbers from zero = refl
ascending-numbers from (suc count) =
    and_from (all_above from (numbers_from (suc from) count)) (is_ascending (numbers_from (suc from) count))
    (above-numbers from (suc from) count (omega arith)) (ascending-numbers (suc from) count)

-- each number of the range is among them
pub has-numbers : (from count n : ℕ) → from ≤ n → n < from + count → Has (numbers_from from count) n
has-numbers from zero n low high = absurd (omega arith)
has-numbers from (suc count) n low high = elim (eqb_tells from n) [
  | inl p ↦ inl p.1
  | inr p ↦ inr (has-numbers (suc from) count n (above from n low p.1) (omega arith))
]
  where
    above : (a b : ℕ) → a ≤ b → (a ≡ b → ⊥) → suc a ≤ b
    above a b le other = omega arith

-- what an ascending list of numbers below a bound is
pub record IsBelow (bound : ℕ) (xs : List ℕ) : Type 0 where
  pub ascending : is_ascending xs ≡ true
  pub below : (n : ℕ) → Has xs n → n < bound

-- a decided kind of product over numbers below a bound has a listing
pub listing-exists : (IsOne : List ℕ → Type 0) (bound : ℕ) → ((z : List ℕ) → IsOne z → IsBelow bound z) → ((z : List ℕ) → IsOne z ⊎ (IsOne z → ⊥)) → (products : List (List ℕ)) × IsListing IsOne products
listing-exists IsOne bound bounded decide =
    let all = listed IsOne decide (parts_of (numbers_from 0 bound)) in (
      all.products,
      record {
        ordered = all.ordered;
        sound = all.sound;
        whole = λ z is. all.whole z
            (part-listed (numbers_from 0 bound) z
            (part-from_has z (numbers_from 0 bound) (bounded z is).ascending (ascending-numbers 0 bound)
            (λ n m. let l : n < bound = (bounded z is).below n m in has-numbers 0 bound n (omega arith) (omega (arith, l)))))
            is;
      },
    )
