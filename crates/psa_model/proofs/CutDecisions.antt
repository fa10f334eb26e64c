-- The minimal cut sets of a truth that looks at no rank from a width on: they hold ranks below the width alone, and
-- whether a product is one of them is decided.
use Rattle.std.proofs.Common.{◌≡◌, ◌⊎◌, ℕ, ◌*◌, ◌/◌, ◌<◌, ◌≤◌, Bool, true, false, cond, nat_lt, nat_le, ◌&&◌, ◌||◌, eqb, List, [], ◌∷◌, length, map, refl, sym, ap, subst, ◌∙◌, inl, inr, arith}
use Rattle.std.proofs.lemmas.Bool.{false≢true, and_parts, and_from, lt-ltb, ltb-true, le-leb, leb-true, cases_Bool}
use Rattle.std.proofs.lemmas.Bool.Decides.{eqb_tells}
use Rattle.std.specs.List.{filter}
use Rattle.psa_logic.specs.Sets.{Has, is_part, is_ascending, all_above, occurs}
use Rattle.psa_logic.specs.Products.{IsMinimal, IsMinimalCutSet, IsCutProduct, positive_product, rank_of}
use Rattle.psa_logic.proofs.ListingLemmas.{has-map_from}
use Rattle.psa_logic.proofs.MinimalPartLemmas.{some_part}
use Rattle.psa_logic.proofs.ReportOrderLemmas.{before-total, before-not_self}
use Rattle.psa_logic.proofs.PartLemmas.{part-cons, part-skip, part-length}
use Rattle.psa_model.proofs.Existence.{IsBelow}

-- sets that agree on the ranks below the width give the same truth
abbrev pub LooksBelow : ℕ → ((ℕ → Bool) → Bool) → Type 0
LooksBelow width f = (s t : ℕ → Bool) → ((rank : ℕ) → rank < width → s rank ≡ t rank) → f s ≡ f t

-- what passes a test is a part, has what passes, and nothing else
pub filter-part : (p : ℕ → Bool) (xs : List ℕ) → is_part (filter p xs) xs ≡ true
filter-part p [] = refl
filter-part p (x ∷ xs) =
    elim (p x) as (λ b. is_part (cond b (x ∷ filter p xs) (filter p xs)) (x ∷ xs) ≡ true) [
      | true ↦ part-cons x (filter p xs) xs (filter-part p xs)
      | false ↦ part-skip xs x (filter p xs) (filter-part p xs)
    ]

-- a number that passes is in what is kept exactly where it is in the list
pub filter-occurs : (p : ℕ → Bool) (xs : List ℕ) (n : ℕ) → p n ≡ true → occurs (filter p xs) n ≡ occurs xs n
filter-occurs p [] n h = refl
filter-occurs p (x ∷ xs) n h = at_first (filter-occurs p xs n h) (p x) refl
  where
    at_first : occurs (filter p xs) n ≡ occurs xs n → (b : Bool) → p x ≡ b → occurs (cond b (x ∷ filter p xs) (filter p xs)) n ≡ (eqb x n || occurs xs n)
    at_first rest true is = ap (λ v. eqb x n || v) rest
    at_first rest false is = elim (eqb_tells x n) [
      | inl same ↦ absurd (false≢true (sym is ∙ ap p same.1 ∙ h))
      | inr apart ↦ rw apart.0 rest
    ]

-- what is kept passes
pub filter-passes : (p : ℕ → Bool) (xs : List ℕ) (n : ℕ) → Has (filter p xs) n → p n ≡ true
filter-passes p [] n m = absurd m
filter-passes p (x ∷ xs) n m = at_first (filter-passes p xs n) (p x) refl m
  where
    at_first : (Has (filter p xs) n → p n ≡ true) → (b : Bool) → p x ≡ b → Has (cond b (x ∷ filter p xs) (filter p xs)) n → p n ≡ true
    at_first rest true is m = elim m [ inl same ↦ ap p (sym same) ∙ is | inr more ↦ rest more ]
    at_first rest false is m = rest m

-- a minimal cut set has ranks below the width alone
pub minimal-below : (f : (ℕ → Bool) → Bool) (width : ℕ) (set : List ℕ) → LooksBelow width f → IsMinimal f set → (rank : ℕ) → Has set rank → rank < width
minimal-below f width set looks minimal rank has =
    let test : ℕ → Bool = λ r. nat_lt r width in
    let cuts : f (occurs (filter test set)) ≡ true = looks (occurs (filter test set)) (occurs set) (λ r l. filter-occurs test set r (lt-ltb r width l)) ∙ minimal.cuts in
    let same : filter test set ≡ set = minimal.least (filter test set) (filter-part test set) cuts in
    ltb-true rank width (filter-passes test set rank (subst (λ s. Has s rank) (sym same) has))

-- the literals of events that occur ascend as the ranks do
positive-above : (x : ℕ) (xs : List ℕ) → all_above x xs ≡ true → all_above (2 * x) (positive_product xs) ≡ true
positive-above x [] h = refl
positive-above x (y ∷ ys) h =
    let p = and_parts (nat_lt x y) (all_above x ys) h in
    let l : x < y = ltb-true x y p.0 in
    and_from (nat_lt (2 * x) (2 * y)) (all_above (2 * x) (positive_product ys)) (lt-ltb (2 * x) (2 * y) (omega (arith, l))) (positive-above x ys p.1)

-- an ascending set gives an ascending product
pub positive-ascending : (xs : List ℕ) → is_ascending xs ≡ true → is_ascending (positive_product xs) ≡ true
positive-ascending [] h = refl
positive-ascending (x ∷ xs) h =
    let p = and_parts (all_above x xs) (is_ascending xs) h in
    and_from (all_above (2 * x) (positive_product xs)) (is_ascending (positive_product xs)) (positive-above x xs p.0) (positive-ascending xs p.1)

-- the literals of a minimal cut set, as a product
pub cut-below : (f : (ℕ → Bool) → Bool) (width limit : ℕ) → LooksBelow width f → (product : List ℕ) → IsCutProduct f limit product → IsBelow (2 * width) product
cut-below f width limit looks product cut = record {
  ascending = subst (λ z. is_ascending z ≡ true) (sym cut.is_set) (positive-ascending cut.set cut.minimal.ascending);
  below = λ literal has.
      let found = has-map_from (λ rank. 2 * rank) cut.set literal (subst (λ z. Has z literal) cut.is_set has) in
      let l : found.0 < width = minimal-below f width cut.set looks cut.minimal.minimal found.0 found.1 in
      let is : 2 * found.0 ≡ literal = found.2 in
      omega (arith, l, is);
}

-- two lists are the same or not
same_list : (xs ys : List ℕ) → (xs ≡ ys) ⊎ (xs ≡ ys → ⊥)
same_list xs ys = elim (before-total xs ys) [
  | inl same ↦ inl same
  | inr apart ↦ elim apart [
    | inl before ↦ inr (λ e. before-not_self ys (rw e at before))
    | inr after ↦ inr (λ e. before-not_self ys (rw e at after))
  ]
]

ranks-positive : (xs : List ℕ) → map (λ literal. rank_of literal) (positive_product xs) ≡ xs
ranks-positive [] = refl
ranks-positive (x ∷ xs) = let half : (2 * x) / 2 ≡ x = omega arith in rw (half, ranks-positive xs) refl

-- no smaller part has the truth, or some has
pub cut_set_decided : (f : (ℕ → Bool) → Bool) (limit : ℕ) (set : List ℕ) → (IsMinimalCutSet f set × (length set ≤ limit)) ⊎ (IsMinimalCutSet f set × (length set ≤ limit) → ⊥)
cut_set_decided f limit set = elim (cases_Bool (is_ascending set && f (occurs set) && nat_le (length set) limit)) [
  | inr fails ↦ inr (λ c. false≢true (sym fails ∙ and_from (is_ascending set && f (occurs set)) (nat_le (length set) limit) (and_from (is_ascending set) (f (occurs set)) c.0.ascending c.0.minimal.cuts) (le-leb (length set) limit c.1)))
  | inl passes ↦ elim (some_part (λ part. nat_lt (length part) (length set) && f (occurs part)) set) [
    | inl found ↦ inr (λ c. smaller c.0 found.0 found.1 found.2)
    | inr none ↦ inl (least passes none)
  ]
]
  where
    smaller : IsMinimalCutSet f set → (part : List ℕ) → is_part part set ≡ true → (nat_lt (length part) (length set) && f (occurs part)) ≡ true → ⊥
    smaller c part h both =
        let p = and_parts (nat_lt (length part) (length set)) (f (occurs part)) both in
        let less : length part < length set = ltb-true (length part) (length set) p.0 in
        let same : length part ≡ length set = ap length (c.minimal.least part h p.1) in
        absurd (omega (arith, less, same))

    least : (is_ascending set && f (occurs set) && nat_le (length set) limit) ≡ true → ((part : List ℕ) → is_part part set ≡ true → (nat_lt (length part) (length set) && f (occurs part)) ≡ true → ⊥) → IsMinimalCutSet f set × (length set ≤ limit)
    least passes none =
        let p = and_parts (is_ascending set && f (occurs set)) (nat_le (length set) limit) passes in
        let q = and_parts (is_ascending set) (f (occurs set)) p.0 in (
          record {
            ascending = q.0;
            minimal = record {
              cuts = q.1;
              least = λ part h also. elim (part-length part set h) [
                | inl shorter ↦ absurd (none part h (and_from (nat_lt (length part) (length set)) (f (occurs part)) (lt-ltb (length part) (length set) shorter) also))
                | inr same ↦ same
              ];
            };
          },
          leb-true (length set) limit p.1,
        )

-- whether a product is a minimal cut set within the limit is decided
pub cut_decided : (f : (ℕ → Bool) → Bool) (limit : ℕ) (product : List ℕ) → IsCutProduct f limit product ⊎ (IsCutProduct f limit product → ⊥)
cut_decided f limit product = elim (same_list product (positive_product (map (λ literal. rank_of literal) product))) [
  | inr other ↦ inr (λ c. other (c.is_set ∙ ap positive_product (sym (ranks c))))
  | inl same ↦ elim (cut_set_decided f limit (map (λ literal. rank_of literal) product)) [
    | inl is ↦ inl (record { set = map (λ literal. rank_of literal) product; is_set = same; minimal = is.0; within = is.1 })
    | inr other ↦ inr (λ c. other (subst (λ set. IsMinimalCutSet f set × (length set ≤ limit)) (sym (ranks c)) (c.minimal, c.within)))
  ]
]
  where
    ranks : (c : IsCutProduct f limit product) → map (λ literal. rank_of literal) product ≡ c.set
    ranks c = ap (map (λ literal. rank_of literal)) c.is_set ∙ ranks-positive c.set
