-- The prime implicants of a decision by those of its sides (Coudert and Madre), within a limit.
use Rattle.std.proofs.Common.{◌≡◌, ◌↔◌, ℕ, suc, ◌+◌, ◌-◌, ◌*◌, ◌/◌, ◌%◌, ◌<◌, ◌≤◌, ◌&&◌, Bool, true, false, nat_lt, List, [], ◌∷◌, length, not, if◌then◌else◌, refl, sym, ap, ap₂, subst, ◌∙◌, inl, inr, arith, eq-eqb, ne_eqb, lt-ltb}
use Rattle.std.proofs.lemmas.Bool.{and_parts, and_from, not-true, not_from_false}
use Rattle.std.proofs.lemmas.Bool.Decides.{eqb_tells}
use Rattle.psa_logic.specs.Sets.{all_above, is_ascending, is_part, occurs}
use Rattle.psa_logic.specs.Products.{is_positive, is_consistent, holds_at, IsImplicant, IsPrimeImplicant, IsPrimeProduct}
use Rattle.psa_logic.proofs.PartLemmas.{part-self, part-nil, part-skip, part-cons, part-all_above, all_above-lower}
use Rattle.psa_logic.proofs.LiteralLemmas.{literal_holds, holds-part, prime-part}
use Rattle.psa_nodes.specs.Readings.{joined}
use Rattle.psa_nodes.specs.Families.{Spares}
use Rattle.psa_nodes.proofs.CallerLemmas.{fixed, fixed-past, high-side, low-side}
use Rattle.psa_prime.specs.Primes.{IsSidePrime}
use Rattle.psa_prime.proofs.ImplicantLemmas.{Truth, DependsFrom, ranks_in, holds-past, ranks-past, past-others, prime-head, prime-above}

-- what holds of both sides holds of the decision
choose : (b x y : Bool) → x ≡ true → y ≡ true → (if b then x else y) ≡ true
choose true x y p q = p
choose false x y p q = q

module _ (x : ℕ) (f f1 f0 both : Truth) (is : (s : ℕ → Bool) → f s ≡ (if s x then f1 s else f0 s)) (conj : (s : ℕ → Bool) → both s ≡ (f1 s && f0 s)) (from1 : DependsFrom (x + 1) f1) (from0 : DependsFrom (x + 1) f0) where
  from_both : DependsFrom (x + 1) both
  from_both s t same = conj s ∙ ap₂ (λ (a b : Bool). a && b) (from1 s t same) (from0 s t same) ∙ sym (conj t)

  -- without a literal of x: implicants of both sides
  implicant-both : (product : List ℕ) → all_above (2 * x + 1) product ≡ true → IsImplicant f product → IsImplicant both product
  implicant-both product above i s h =
      conj s
      ∙ and_from (f1 s) (f0 s)
      (high-side f f1 f0 x is from1 s ∙ i (fixed s x true) (holds-past x (fixed s x true) s (fixed-past s x true) product above ∙ h))
      (low-side f f1 f0 x is from0 s ∙ i (fixed s x false) (holds-past x (fixed s x false) s (fixed-past s x false) product above ∙ h))

  both-implicant : (product : List ℕ) → IsImplicant both product → IsImplicant f product
  both-implicant product i s h =
      let p = and_parts (f1 s) (f0 s) (sym (conj s) ∙ i s h) in
      is s ∙ choose (s x) (f1 s) (f0 s) p.0 p.1

  prime-both : (product : List ℕ) → all_above (2 * x + 1) product ≡ true → IsPrimeImplicant f product → IsPrimeImplicant both product
  prime-both product above m = record {
    ascending = m.ascending;
    consistent = m.consistent;
    implicant = implicant-both product above m.implicant;
    prime = λ part h one i. m.prime part h one (both-implicant part i);
  }

  both-prime : (product : List ℕ) → all_above (2 * x + 1) product ≡ true → IsPrimeImplicant both product → IsPrimeImplicant f product
  both-prime product above m = record {
    ascending = m.ascending;
    consistent = m.consistent;
    implicant = both-implicant product m.implicant;
    prime = λ part h one i. m.prime part h one (implicant-both part (part-all_above (2 * x + 1) part product h above) i);
  }

  -- with a literal of x: the side on which it holds
  module _ (l : ℕ) (b : Bool) (side : Truth) (rank : l / 2 ≡ x) (own : (s : ℕ → Bool) → literal_holds (fixed s x b) l ≡ true) (here : (s : ℕ → Bool) → literal_holds s l ≡ true → f s ≡ side s)
      (out : (s : ℕ → Bool) → side s ≡ f (fixed s x b)) where
    literal-implicant : (product : List ℕ) → all_above (2 * x + 1) product ≡ true → IsImplicant f (l ∷ product) → IsImplicant side product
    literal-implicant product above i s h =
        out s
        ∙ i (fixed s x b)
        (and_from (literal_holds (fixed s x b) l) (holds_at (fixed s x b) product) (own s) (holds-past x (fixed s x b) s (fixed-past s x b) product above ∙ h))

    implicant-literal : (product : List ℕ) → IsImplicant side product → IsImplicant f (l ∷ product)
    implicant-literal product i s h =
        let p = and_parts (literal_holds s l) (holds_at s product) h in
        here s p.0 ∙ i s p.1

    -- the primes of the side that are no implicants of both
    side-prime : (product : List ℕ) → all_above (2 * x + 1) product ≡ true → IsPrimeImplicant side product → (IsImplicant both product → ⊥) → IsPrimeImplicant f (l ∷ product)
    side-prime product above m none = record {
      ascending = and_from (all_above l product) (is_ascending product) (all_above-lower l (2 * x + 1) product (omega (arith, rank)) above) m.ascending;
      consistent =
          and_from (not (occurs (ranks_in product) (l / 2))) (is_consistent product)
          (not_from_false (occurs (ranks_in product) (l / 2)) (ranks-past x product above (l / 2) (omega (arith, rank)))) m.consistent;
      implicant = implicant-literal product m.implicant;
      prime = prime;
    }
      where
        low-part : (part : List ℕ) → is_part part product ≡ true → IsImplicant f part → ⊥
        low-part part h i =
            none (λ s k. implicant-both part (part-all_above (2 * x + 1) part product h above) i s (holds-part s part product h k))

        prime : (part : List ℕ) → is_part part (l ∷ product) ≡ true → suc (length part) ≡ length (l ∷ product) → IsImplicant f part → ⊥
        prime [] h one i = low-part [] (part-nil product) i
        prime (t ∷ ts) h one i = elim (eqb_tells t l) [
          | inl p ↦
              let inside : is_part ts product ≡ true = rw p.0 at h in
              m.prime ts inside (omega (arith, one))
              (literal-implicant ts (part-all_above (2 * x + 1) ts product inside above) (subst (λ (n : ℕ). IsImplicant f (n ∷ ts)) p.1 i))
          | inr p ↦ low-part (t ∷ ts) (rw p.0 at h) i
        ]

    prime-side : (product : List ℕ) → all_above (2 * x + 1) product ≡ true → IsPrimeImplicant f (l ∷ product) → IsPrimeImplicant side product
    prime-side product above m = record {
      ascending = (and_parts (all_above l product) (is_ascending product) m.ascending).1;
      consistent = (and_parts (not (occurs (ranks_in product) (l / 2))) (is_consistent product) m.consistent).1;
      implicant = literal-implicant product above m.implicant;
      prime = λ part h one i. m.prime (l ∷ part) (part-cons l part product h) (ap (λ (n : ℕ). suc n) one) (implicant-literal part i);
    }

    prime-not : (product : List ℕ) → IsPrimeImplicant f (l ∷ product) → IsImplicant both product → ⊥
    prime-not product m i = m.prime product (part-skip product l product (part-self product)) refl (both-implicant product i)

    -- a prime that begins with the literal is past the literals of x from there on
    literal-above : (product : List ℕ) → IsPrimeImplicant f (l ∷ product) → all_above (2 * x + 1) product ≡ true
    literal-above product m =
        let above : all_above l product ≡ true = (and_parts (all_above l product) (is_ascending product) m.ascending).0 in
        let lone : occurs (ranks_in product) (l / 2) ≡ false = not-true (occurs (ranks_in product) (l / 2)) (and_parts (not (occurs (ranks_in product) (l / 2))) (is_consistent product) m.consistent).0 in
        past-others x l (omega (arith, rank)) product above (subst (λ (r : ℕ). occurs (ranks_in product) r ≡ false) rank lone)

    module _ (from_side : DependsFrom (x + 1) side) (limit : ℕ) (some : 1 ≤ limit) (family : List ℕ → Bool) (of_family : (set : List ℕ) → (family set ≡ true) ↔ IsSidePrime side both (limit - 1) set) where
      with-literal : (set : List ℕ) → (family set ≡ true) ↔ IsPrimeProduct f limit (l ∷ set)
      with-literal set = (
        λ m.
            let p = (of_family set).0 m in
            let w : length set ≤ limit - 1 = p.prime.within in
            record { prime = side-prime set (prime-above x side from_side set p.prime.prime) p.prime.prime p.other; within = omega (arith, w, some) },
        λ p.
            let w : length (l ∷ set) ≤ limit = p.within in
            (of_family set).1 (record {
              prime = record { prime = prime-side set (literal-above set p.prime) p.prime; within = omega (arith, w) };
              other = prime-not set p.prime;
            }),
      )

  -- the literals of x
  if-own : (s : ℕ → Bool) (b : Bool) → s x ≡ b → f s ≡ (if b then f1 s else f0 s)
  if-own s b e = is s ∙ ap (λ (c : Bool). if c then f1 s else f0 s) e

  fixed-own : (s : ℕ → Bool) (b : Bool) → fixed s x b x ≡ b
  fixed-own s b = rw (eq-eqb x x refl) refl

  positive : is_positive (2 * x) ≡ true
  positive = eq-eqb ((2 * x) % 2) 0 (omega arith)

  negative : is_positive (2 * x + 1) ≡ false
  negative = ne_eqb ((2 * x + 1) % 2) 0 (λ e. omega (arith, e))

  positive-reads : (s : ℕ → Bool) → literal_holds s (2 * x) ≡ s x
  positive-reads s = rw positive (ap s (half x))
    where
      half : (n : ℕ) → (2 * n) / 2 ≡ n
      half n = omega arith

  negative-reads : (s : ℕ → Bool) → literal_holds s (2 * x + 1) ≡ not (s x)
  negative-reads s = rw negative (ap (λ (n : ℕ). not (s n)) (half x))
    where
      half : (n : ℕ) → (2 * n + 1) / 2 ≡ n
      half n = omega arith

  module _ (from : DependsFrom x f) (limit : ℕ) (some : 1 ≤ limit) (rest with_event with_opposite : List ℕ → Bool)
      (of_rest : (set : List ℕ) → (rest set ≡ true) ↔ IsPrimeProduct both limit set)
      (of_event : (set : List ℕ) → (with_event set ≡ true) ↔ IsSidePrime f1 both (limit - 1) set)
      (of_opposite : (set : List ℕ) → (with_opposite set ≡ true) ↔ IsSidePrime f0 both (limit - 1) set) where
    event-case : (set : List ℕ) → (with_event set ≡ true) ↔ IsPrimeProduct f limit (2 * x ∷ set)
    event-case =
        with-literal (2 * x) true f1 (omega arith) (λ s. positive-reads (fixed s x true) ∙ fixed-own s true) (λ s h. if-own s true (sym (positive-reads s) ∙ h)) (high-side f f1 f0 x is from1)
        from1 limit some with_event of_event

    opposite-case : (set : List ℕ) → (with_opposite set ≡ true) ↔ IsPrimeProduct f limit ((2 * x + 1) ∷ set)
    opposite-case =
        with-literal (2 * x + 1) false f0 (omega arith) (λ s. negative-reads (fixed s x false) ∙ ap not (fixed-own s false)) (λ s h. if-own s false (not-true (s x) (sym (negative-reads s) ∙ h))) (low-side f f1 f0 x is from0)
        from0 limit some with_opposite of_opposite

    rest-case : (set : List ℕ) → (IsPrimeProduct f limit set → all_above (2 * x + 1) set ≡ true) → (rest set ≡ true) ↔ IsPrimeProduct f limit set
    rest-case set above = (
      λ m. let p = (of_rest set).0 m in record { prime = both-prime set (prime-above x both from_both set p.prime) p.prime; within = p.within },
      λ p. (of_rest set).1 (record { prime = prime-both set (above p) p.prime; within = p.within }),
    )

    -- a prime that begins with neither literal of x is past both
    past-both : (y : ℕ) (ys : List ℕ) → (y ≡ 2 * x → ⊥) → (y ≡ 2 * x + 1 → ⊥) → IsPrimeProduct f limit (y ∷ ys) → all_above (2 * x + 1) (y ∷ ys) ≡ true
    past-both y ys ne ne' p =
        let le : x ≤ y / 2 = prime-head x f from y ys p.prime in
        let above : all_above y ys ≡ true = (and_parts (all_above y ys) (is_ascending ys) p.prime.ascending).0 in
        let lt : 2 * x + 1 < y = omega (arith, le, ne, ne') in
        and_from (nat_lt (2 * x + 1) y) (all_above (2 * x + 1) ys) (lt-ltb (2 * x + 1) y lt) (all_above-lower (2 * x + 1) y ys (omega (arith, lt)) above)

    -- the prime implicants of the decision, by the literals of x
    pub prime-sides : (set : List ℕ) → (joined (2 * x) with_event (joined (2 * x + 1) with_opposite rest) set ≡ true) ↔ IsPrimeProduct f limit set
    prime-sides [] = rest-case [] (λ p. refl)
    prime-sides (y ∷ ys) = elim (eqb_tells y (2 * x)) [
      | inl p ↦ rw p.0 (subst (λ (v : ℕ). (with_event ys ≡ true) ↔ IsPrimeProduct f limit (v ∷ ys)) (sym p.1) (event-case ys))
      | inr p ↦ elim (eqb_tells y (2 * x + 1)) [
        | inl q ↦ rw (p.0, q.0) (subst (λ (v : ℕ). (with_opposite ys ≡ true) ↔ IsPrimeProduct f limit (v ∷ ys)) (sym q.1) (opposite-case ys))
        | inr q ↦ rw (p.0, q.0) (rest-case (y ∷ ys) (past-both y ys p.1 q.1))
      ]
    ]

-- The difference of a side's primes and those of both sides: no other member of the side includes one of both.
module _ (f both : Truth) (weaker : (s : ℕ → Bool) → both s ≡ true → f s ≡ true) (limit most : ℕ) (le : limit ≤ most) (primes rest : List ℕ → Bool)
    (of_primes : (set : List ℕ) → (primes set ≡ true) ↔ IsPrimeProduct f limit set) (of_rest : (set : List ℕ) → (rest set ≡ true) ↔ IsPrimeProduct both most set) where
  -- a member of the side that includes one of both is that one
  pub apart : (set part : List ℕ) → primes set ≡ true → rest part ≡ true → is_part part set ≡ true → part ≡ set
  apart set part m k h =
      prime-part f set part ((of_primes set).0 m).prime h (λ s a. weaker s (((of_rest part).0 k).prime.implicant s a))

  -- a prime of the side that is an implicant of both is a prime of both
  prime-rest : (set : List ℕ) → IsPrimeProduct f limit set → IsImplicant both set → rest set ≡ true
  prime-rest set p i =
      let w : length set ≤ limit = p.within in
      (of_rest set).1 (record {
        prime = record { ascending = p.prime.ascending; consistent = p.prime.consistent; implicant = i; prime = λ part h one j. p.prime.prime part h one (λ s a. weaker s (j s a)) };
        within = omega (arith, w, le);
      })

  -- what the difference leaves
  pub left-primes : (family : List ℕ → Bool) → ((set : List ℕ) → (family set ≡ true) ↔ ((primes set ≡ true) × Spares rest set)) → (set : List ℕ) → (family set ≡ true) ↔ IsSidePrime f both limit set
  left-primes family of_family set = (
    λ m.
        let d = (of_family set).0 m in
        let p = (of_primes set).0 d.0 in
        record { prime = p; other = λ i. d.1 set (prime-rest set p i) (part-self set) },
    λ p. (of_family set).1 ((of_primes set).1 p.prime, λ part k h. p.other (λ s a. ((of_rest part).0 k).prime.implicant s (holds-part s part set h a))),
  )

-- no prime implicant includes another
pub primes-apart : (f : Truth) (most : ℕ) (rest : List ℕ → Bool) → ((set : List ℕ) → (rest set ≡ true) ↔ IsPrimeProduct f most set) → (set part : List ℕ) → rest set ≡ true → rest part ≡ true → is_part part set ≡ true → part ≡ set
primes-apart f most rest of_rest set part m k h = prime-part f set part ((of_rest set).0 m).prime h ((of_rest part).0 k).prime.implicant
