-- The prime implicants of a truth that looks at no rank from a width on: they hold ranks below the width alone, and
-- whether a product is one of them is decided.
use Rattle.std.proofs.Common.{◌≡◌, ◌⊎◌, ℕ, suc, ◌*◌, ◌<◌, ◌≤◌, max, Bool, true, false, cond, not, nat_lt, nat_le, ◌==◌, ◌&&◌, List, [], ◌∷◌, length, refl, sym, ap, subst, ◌∙◌, inl, inr, arith, if◌then◌else◌}
use Rattle.std.proofs.lemmas.Bool.{false≢true, and_parts, and_from, lt-ltb, ltb-true, le-leb, leb-true, eq-eqb, eqb-true, not-true, not_from_false, cases_Bool}
use Rattle.std.specs.List.{filter}
use Rattle.psa_logic.specs.Sets.{Has, is_part, is_ascending, occurs}
use Rattle.psa_logic.specs.Products.{IsImplicant, IsPrimeImplicant, IsPrimeProduct, holds_at, is_consistent, is_positive, rank_of}
use Rattle.psa_logic.proofs.LiteralLemmas.{literal_holds, holds-each, holds-from, prime-part, consistent-holds}
use Rattle.psa_logic.proofs.MinimalPartLemmas.{some_part}
use Rattle.psa_logic.proofs.PartLemmas.{has-occurs, occurs-has}
use Rattle.psa_model.proofs.CutDecisions.{LooksBelow, filter-part, filter-occurs, filter-passes}
use Rattle.psa_model.proofs.Existence.{IsBelow, numbers_from, has-numbers}

-- a literal holds alike at sets that agree on its rank
literal-alike : (s t : ℕ → Bool) (literal : ℕ) → s (rank_of literal) ≡ t (rank_of literal) → literal_holds s literal ≡ literal_holds t literal
literal-alike s t literal same = ap (λ v. if is_positive literal then v else not v) same

filter-has : (p : ℕ → Bool) (xs : List ℕ) (n : ℕ) → Has xs n → p n ≡ true → Has (filter p xs) n
filter-has p xs n m h = occurs-has (filter p xs) n (filter-occurs p xs n h ∙ has-occurs xs n m)

-- a prime implicant has ranks below the width alone
pub prime-below : (f : (ℕ → Bool) → Bool) (width : ℕ) (product : List ℕ) → LooksBelow width f → IsPrimeImplicant f product → (literal : ℕ) → Has product literal → rank_of literal < width
prime-below f width product looks prime literal has =
    let same : part ≡ product = prime-part f product part prime (filter-part test product) implicant in
    ltb-true (rank_of literal) width (filter-passes test product literal (subst (λ z. Has z literal) (sym same) has))
  where
    test : ℕ → Bool
    test l = nat_lt (rank_of l) width

    part : List ℕ
    part = filter test product

    elsewhere : (ℕ → Bool) → ℕ → Bool
    elsewhere s rank = cond (nat_lt rank width) (s rank) (occurs product (2 * rank))

    inside : (s : ℕ → Bool) (rank : ℕ) → nat_lt rank width ≡ true → elsewhere s rank ≡ s rank
    inside s rank l = ap (λ b. cond b (s rank) (occurs product (2 * rank))) l

    outside : (s : ℕ → Bool) (rank : ℕ) → nat_lt rank width ≡ false → elsewhere s rank ≡ occurs product (2 * rank)
    outside s rank l = ap (λ b. cond b (s rank) (occurs product (2 * rank))) l

    holds : (s : ℕ → Bool) → holds_at s part ≡ true → holds_at (elsewhere s) product ≡ true
    holds s h = holds-from (elsewhere s) product (λ l m. elim (cases_Bool (nat_lt (rank_of l) width)) [
      | inl low ↦ literal-alike (elsewhere s) s l (inside s (rank_of l) low) ∙ holds-each s part h l (filter-has test product l m low)
      | inr high ↦
          literal-alike (elsewhere s) (λ rank. occurs product (2 * rank)) l (outside s (rank_of l) high)
          ∙ holds-each (λ rank. occurs product (2 * rank)) product (consistent-holds product prime.consistent) l m
    ])

    implicant : IsImplicant f part
    implicant s h = looks s (elsewhere s) (λ rank l. sym (inside s rank (lt-ltb rank width l))) ∙ prime.implicant (elsewhere s) (holds s h)

-- a literal's number is below twice the width where its rank is below it
literal-below : (literal width : ℕ) → rank_of literal < width → literal < 2 * width
literal-below literal width l = omega (arith, l)

-- a prime implicant holds literals of ranks below the width alone
pub prime_product-below : (f : (ℕ → Bool) → Bool) (width limit : ℕ) → LooksBelow width f → (product : List ℕ) → IsPrimeProduct f limit product → IsBelow (2 * width) product
prime_product-below f width limit looks product one = record {
  ascending = one.prime.ascending;
  below = λ literal has. literal-below literal width (prime-below f width product looks one.prime literal has);
}

-- a number above all ranks of a product, and at least another
abbrev above_ranks : List ℕ → ℕ → ℕ
above_ranks [] least = least
above_ranks (literal ∷ product) least = max (suc (rank_of literal)) (above_ranks product least)

above-least : (product : List ℕ) (least : ℕ) → least ≤ above_ranks product least
above-least [] least = omega arith
above-least (literal ∷ product) least = let l : least ≤ above_ranks product least = above-least product least in omega (arith, l)

above-rank : (product : List ℕ) (least literal : ℕ) → Has product literal → rank_of literal < above_ranks product least
above-rank [] least literal m = absurd m
above-rank (x ∷ product) least literal m = elim m [
  | inl same ↦ let e : rank_of x ≡ rank_of literal = ap (λ v. rank_of v) same in omega (arith, e)
  | inr more ↦ let l : rank_of literal < above_ranks product least = above-rank product least literal more in omega (arith, l)
]

-- the members below a bound of the set that a test makes
chosen-same : (s : ℕ → Bool) (bound rank : ℕ) → rank < bound → occurs (filter s (numbers_from 0 bound)) rank ≡ s rank
chosen-same s bound rank l = elim (cases_Bool (s rank)) [
  | inl holds_so ↦ filter-occurs s (numbers_from 0 bound) rank holds_so ∙ has-occurs (numbers_from 0 bound) rank (has-numbers 0 bound rank (omega arith) (omega (arith, l))) ∙ sym holds_so
  | inr fails_so ↦ elim (cases_Bool (occurs (filter s (numbers_from 0 bound)) rank)) [
    | inl there ↦ absurd (false≢true (sym fails_so ∙ filter-passes s (numbers_from 0 bound) rank (occurs-has (filter s (numbers_from 0 bound)) rank there)))
    | inr absent ↦ absent ∙ sym fails_so
  ]
]

-- whether a product is an implicant: the sets of numbers below a bound are tried
implicant_decided : (f : (ℕ → Bool) → Bool) (width : ℕ) → LooksBelow width f → (product : List ℕ) → IsImplicant f product ⊎ (IsImplicant f product → ⊥)
implicant_decided f width looks product =
    elim (some_part (λ set. holds_at (occurs set) product && not (f (occurs set))) (numbers_from 0 bound)) [
      | inl found ↦ inr (λ implicant. against found.0 (and_parts (holds_at (occurs found.0) product) (not (f (occurs found.0))) found.2) implicant)
      | inr none ↦ inl (λ s h. elim (cases_Bool (f s)) [
        | inl holds_so ↦ holds_so
        | inr fails_so ↦ absurd (none (chosen s) (filter-part s (numbers_from 0 bound))
            (and_from (holds_at (occurs (chosen s)) product) (not (f (occurs (chosen s)))) (holds s h) (not_from_false (f (occurs (chosen s))) (alike s ∙ fails_so))))
      ])
    ]
  where
    bound : ℕ
    bound = above_ranks product width

    chosen : (ℕ → Bool) → List ℕ
    chosen s = filter s (numbers_from 0 bound)

    against : (set : List ℕ) → (holds_at (occurs set) product ≡ true) × (not (f (occurs set)) ≡ true) → IsImplicant f product → ⊥
    against set both implicant = false≢true (sym (not-true (f (occurs set)) both.1) ∙ implicant (occurs set) both.0)

    alike : (s : ℕ → Bool) → f (occurs (chosen s)) ≡ f s
    alike s = looks (occurs (chosen s)) s (λ rank l. let fits : width ≤ above_ranks product width = above-least product width in chosen-same s bound rank (omega (arith, l, fits)))

    holds : (s : ℕ → Bool) → holds_at s product ≡ true → holds_at (occurs (chosen s)) product ≡ true
    holds s h = holds-from (occurs (chosen s)) product (λ l m.
        literal-alike (occurs (chosen s)) s l (chosen-same s bound (rank_of l) (above-rank product width l m)) ∙ holds-each s product h l m)

-- a decision as a test
abbrev tells : {A : Type 0} → A ⊎ (A → ⊥) → Bool
tells (inl holds_so) = true
tells (inr fails_so) = false

tells-true : {A : Type 0} (decision : A ⊎ (A → ⊥)) → tells decision ≡ true → A
tells-true (inl holds_so) h = holds_so
tells-true (inr fails_so) h = absurd (false≢true h)

true-tells : {A : Type 0} (decision : A ⊎ (A → ⊥)) → A → tells decision ≡ true
true-tells (inl holds_so) a = refl
true-tells (inr fails_so) a = absurd (fails_so a)

-- whether a product is a prime implicant within the limit is decided
pub prime_decided : (f : (ℕ → Bool) → Bool) (width limit : ℕ) → LooksBelow width f → (product : List ℕ) → IsPrimeProduct f limit product ⊎ (IsPrimeProduct f limit product → ⊥)
prime_decided f width limit looks product = elim (cases_Bool (is_ascending product && is_consistent product && nat_le (length product) limit)) [
  | inr fails ↦ inr (λ one. false≢true (sym fails ∙ and_from (is_ascending product && is_consistent product) (nat_le (length product) limit) (and_from (is_ascending product) (is_consistent product) one.prime.ascending one.prime.consistent) (le-leb (length product) limit one.within)))
  | inl passes ↦ elim (implicant_decided f width looks product) [
    | inr other ↦ inr (λ one. other one.prime.implicant)
    | inl implicant ↦ elim (some_part is_shorter product) [
      | inl found ↦ inr (λ one. shorter one found.0 found.1 found.2)
      | inr none ↦ inl (whole passes implicant none)
    ]
  ]
]
  where
    is_shorter : List ℕ → Bool
    is_shorter part = (suc (length part) == length product) && tells (implicant_decided f width looks part)

    shorter : IsPrimeProduct f limit product → (part : List ℕ) → is_part part product ≡ true → is_shorter part ≡ true → ⊥
    shorter one part h both =
        let p = and_parts (suc (length part) == length product) (tells (implicant_decided f width looks part)) both in
        one.prime.prime part h (eqb-true (suc (length part)) (length product) p.0) (tells-true (implicant_decided f width looks part) p.1)

    whole : (is_ascending product && is_consistent product && nat_le (length product) limit) ≡ true → IsImplicant f product → ((part : List ℕ) → is_part part product ≡ true → is_shorter part ≡ true → ⊥) → IsPrimeProduct f limit product
    whole passes implicant none =
        let p = and_parts (is_ascending product && is_consistent product) (nat_le (length product) limit) passes in
        let q = and_parts (is_ascending product) (is_consistent product) p.0 in
        record {
          prime = record {
            ascending = q.0;
            consistent = q.1;
            implicant = implicant;
            prime = λ part h one_less also. none part h (and_from (suc (length part) == length product) (tells (implicant_decided f width looks part)) (eq-eqb (suc (length part)) (length product) one_less) (true-tells (implicant_decided f width looks part) also));
          };
          within = leb-true (length product) limit p.1;
        }
