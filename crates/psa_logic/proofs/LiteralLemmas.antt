-- A literal is read back from its number; a product holds where its literals do; prime implicants are least.
use Rattle.std.proofs.Common.{◌≡◌, ℕ, suc, ◌+◌, ◌*◌, ◌/◌, ◌%◌, ◌<◌, Bool, true, false, List, [], ◌∷◌, length, map, not, if◌then◌else◌, refl, sym, ap, ◌∙◌, inl, inr, arith}
use Rattle.std.proofs.lemmas.Bool.{false≢true, and_parts, and_from, eq-eqb, ne_eqb, not-true, not_from_false, false_from_ne_true}
use Rattle.std.proofs.lemmas.Bool.Decides.{eqb_tells}
use Rattle.psa_logic.specs.Sets.{all_above, is_ascending, is_part, occurs, Has}
use Rattle.psa_logic.specs.Products.{literal_number, rank_of, is_positive, is_consistent, holds_at, IsImplicant, IsPrimeImplicant}
use Rattle.psa_logic.proofs.PartLemmas.{part-self, part-nil, part-skip, part-cons, part-length, occurs-has, has-occurs, all_above-has}
use Rattle.psa_logic.proofs.ListingLemmas.{has-map, has-map_from}

-- The rank of a literal is read back from its number.
pub rank-literal : (rank : ℕ) (occurring : Bool) → rank_of (literal_number rank occurring) ≡ rank
rank-literal rank true = omega arith
rank-literal rank false = omega arith

-- Whether a literal is of the event's occurring is read back from its number.
pub positive-literal : (rank : ℕ) (occurring : Bool) → is_positive (literal_number rank occurring) ≡ occurring
positive-literal rank true = eq-eqb ((2 * rank) % 2) 0 (omega arith)
positive-literal rank false = ne_eqb ((2 * rank + 1) % 2) 0 (λ e. omega arith)

-- A number is the literal number of the rank and the sign that are read from it.
pub literal-read : (literal : ℕ) → literal_number (rank_of literal) (is_positive literal) ≡ literal
literal-read literal = elim (eqb_tells (literal % 2) 0) [
  | inl p ↦ let even : literal % 2 ≡ 0 = p.1 in rw p.0 (omega arith)
  | inr p ↦ rw p.0 (odd literal p.1)
]
  where
    odd : (n : ℕ) → (n % 2 ≡ 0 → ⊥) → 2 * (n / 2) + 1 ≡ n
    odd n h = omega arith

-- the literal holds where exactly the events that pass s occur
abbrev pub literal_holds : (ℕ → Bool) → ℕ → Bool
literal_holds s literal = if is_positive literal then s (rank_of literal) else not (s (rank_of literal))

-- Where a product holds, each of its literals does.
pub holds-each : (s : ℕ → Bool) (product : List ℕ) → holds_at s product ≡ true → (literal : ℕ) → Has product literal → literal_holds s literal ≡ true
holds-each s [] h literal m = absurd m
holds-each s (x ∷ xs) h literal m =
    let p = and_parts (literal_holds s x) (holds_at s xs) h in
    elim m [
      | inl e ↦ ap (λ v. literal_holds s v) (sym e) ∙ p.0
      | inr r ↦ holds-each s xs p.1 literal r
    ]

-- A product holds where each of its literals does.
pub holds-from : (s : ℕ → Bool) (product : List ℕ) → ((literal : ℕ) → Has product literal → literal_holds s literal ≡ true) → holds_at s product ≡ true
holds-from s [] each = refl
holds-from s (x ∷ xs) each = and_from (literal_holds s x) (holds_at s xs) (each x (inl refl)) (holds-from s xs (λ l m. each l (inr m)))

-- where a product holds its parts hold
pub holds-part : (s : ℕ → Bool) (part product : List ℕ) → is_part part product ≡ true → holds_at s product ≡ true → holds_at s part ≡ true
holds-part s [] product h k = refl
holds-part s (t ∷ ts) [] h k = absurd (false≢true h)
holds-part s (t ∷ ts) (x ∷ xs) h k =
    let q = and_parts (literal_holds s x) (holds_at s xs) k in
    elim (eqb_tells t x) [
      | inl p ↦ and_from (literal_holds s t) (holds_at s ts) (ap (λ v. literal_holds s v) p.1 ∙ q.0) (holds-part s ts xs (rw p.0 at h) q.1)
      | inr p ↦ holds-part s (t ∷ ts) xs (rw p.0 at h) q.1
    ]

-- a shorter part is a part of one with one item less
pub one_less : (ts xs : List ℕ) → is_part ts xs ≡ true → length ts < length xs → (between : List ℕ) × (is_part ts between ≡ true) × (is_part between xs ≡ true) × (suc (length between) ≡ length xs)
one_less [] [] h lt = absurd (omega arith)
one_less [] (x ∷ xs) h lt = (xs, part-nil xs, part-skip xs x xs (part-self xs), refl)
one_less (t ∷ ts) [] h lt = absurd (false≢true h)
one_less (t ∷ ts) (x ∷ xs) h lt = elim (eqb_tells t x) [
  | inl p ↦
      let inner = one_less ts xs (rw p.0 at h) (omega arith) in
      (x ∷ inner.0, rw (eq-eqb t x p.1) inner.1, part-cons x inner.0 xs inner.2, ap (λ n. suc n) inner.3)
  | inr p ↦ (xs, rw p.0 at h, part-skip xs x xs (part-self xs), refl)
]

-- no part of a prime implicant but itself is an implicant
pub prime-part : (f : (ℕ → Bool) → Bool) (product part : List ℕ) → IsPrimeImplicant f product → is_part part product ≡ true → IsImplicant f part → part ≡ product
prime-part f product part so h implicant = elim (part-length part product h) [
  | inl shorter ↦
      let between = one_less part product h shorter in
      absurd (so.prime between.0 between.2 between.3 (λ s k. implicant s (holds-part s part between.0 between.1 k)))
  | inr same ↦ same
]

-- two literals of a consistent product with one rank are the same
consistent-apart : (product : List ℕ) → is_consistent product ≡ true → (one other : ℕ) → Has product one → Has product other → rank_of one ≡ rank_of other → one ≡ other
consistent-apart [] h one other m n e = absurd m
consistent-apart (x ∷ xs) h one other m n e =
    let p = and_parts (not (occurs (map (λ l. rank_of l) xs) (rank_of x))) (is_consistent xs) h in
    let apart : occurs (map (λ l. rank_of l) xs) (rank_of x) ≡ false = not-true (occurs (map (λ l. rank_of l) xs) (rank_of x)) p.0 in
    elim m [
      | inl a ↦ elim n [
        | inl b ↦ sym a ∙ b
        | inr r ↦ absurd (clash x other xs apart r (ap (λ v. rank_of v) a ∙ e))
      ]
      | inr q ↦ elim n [
        | inl b ↦ absurd (clash x one xs apart q (ap (λ v. rank_of v) b ∙ sym e))
        | inr r ↦ consistent-apart xs p.1 one other q r e
      ]
    ]
  where
    clash : (x y : ℕ) (xs : List ℕ) → occurs (map (λ l. rank_of l) xs) (rank_of x) ≡ false → Has xs y → rank_of x ≡ rank_of y → ⊥
    clash x y xs none m e = false≢true (sym none ∙ (ap (λ r. occurs (map (λ l. rank_of l) xs) r) e ∙ has-occurs (map (λ l. rank_of l) xs) (rank_of y) (has-map (λ l. rank_of l) xs y m)))

-- a consistent product holds where the events of its positive literals occur
pub consistent-holds : (product : List ℕ) → is_consistent product ≡ true → holds_at (λ rank. occurs product (2 * rank)) product ≡ true
consistent-holds product h = holds-from (λ rank. occurs product (2 * rank)) product (λ literal m. elim (eqb_tells (literal % 2) 0) [
  | inl p ↦
      let even : 2 * (literal / 2) ≡ literal = even_of literal p.1 in
      rw p.0 (ap (λ v. occurs product v) even ∙ has-occurs product literal m)
  | inr p ↦ rw p.0 (not_from_false (occurs product (2 * (literal / 2))) (false_from_ne_true (occurs product (2 * (literal / 2))) (λ other.
      odd_of literal p.1 (consistent-apart product h literal (2 * (literal / 2)) m (occurs-has product (2 * (literal / 2)) other) (half literal)))))
])
  where
    even_of : (n : ℕ) → n % 2 ≡ 0 → 2 * (n / 2) ≡ n
    even_of n h = omega arith

    odd_of : (n : ℕ) → (n % 2 ≡ 0 → ⊥) → n ≡ 2 * (n / 2) → ⊥
    odd_of n h e = omega arith

    half : (n : ℕ) → n / 2 ≡ (2 * (n / 2)) / 2
    half n = omega arith

-- a product that holds somewhere is consistent
pub holds-consistent : (s : ℕ → Bool) (product : List ℕ) → is_ascending product ≡ true → holds_at s product ≡ true → is_consistent product ≡ true
holds-consistent s [] h k = refl
holds-consistent s (x ∷ xs) h k =
    let p = and_parts (all_above x xs) (is_ascending xs) h in
    let q = and_parts (literal_holds s x) (holds_at s xs) k in
    and_from (not (occurs (map (λ l. rank_of l) xs) (rank_of x))) (is_consistent xs)
    (not_from_false (occurs (map (λ l. rank_of l) xs) (rank_of x)) (false_from_ne_true (occurs (map (λ l. rank_of l) xs) (rank_of x)) (λ some.
    let found = has-map_from (λ l. rank_of l) xs (rank_of x) (occurs-has (map (λ l. rank_of l) xs) (rank_of x) some) in
    both s x found.0 (all_above-has x xs found.0 p.0 found.1) found.2 q.0 (holds-each s xs q.1 found.0 found.1))))
    (holds-consistent s xs p.1 q.1)
  where
    both : (s : ℕ → Bool) (x y : ℕ) → x < y → rank_of y ≡ rank_of x → literal_holds s x ≡ true → literal_holds s y ≡ true → ⊥
    both s x y lt same here there =
        let rank : y / 2 ≡ x / 2 = same in
        let even : x % 2 ≡ 0 = omega arith in
        let one : s (x / 2) ≡ true = rw (eq-eqb (x % 2) 0 even) at here in
        let other : not (s (y / 2)) ≡ true = rw (ne_eqb (y % 2) 0 (λ e. omega arith)) at there in
        false≢true (sym (not-true (s (y / 2)) other) ∙ (ap s rank ∙ one))
