-- Families that cover a truth: of constants and literals, and of a conjunction and a disjunction by those of both
-- sides. What includes another member may be dropped.
use Rattle.std.proofs.Common.{◌≡◌, ◌⊎◌, ℕ, ◌<◌, ◌≤◌, ◌&&◌, ◌||◌, Bool, true, false, nat_lt, List, [], ◌∷◌, length, filter, refl, sym, subst, ◌∙◌, inl, inr, arith}
use Rattle.std.proofs.lemmas.Bool.{false≢true, and_parts, and_from, or_cases, or_left, or_right, lt-ltb}
use Rattle.psa_logic.specs.Sets.{is_ascending, occurs, Has}
use Rattle.psa_logic.specs.Products.{literal_number, rank_of, is_positive, holds_at}
use Rattle.psa_logic.proofs.PartLemmas.{occurs-has, has-occurs}
use Rattle.psa_logic.proofs.LiteralLemmas.{holds-each, holds-from, holds-part, holds-consistent, positive-literal, rank-literal}
use Rattle.psa_graph.specs.Truths.{literal_truth}
use Rattle.psa_nodes.specs.Families.{IsUnionOf, IsProductMember}
use Rattle.psa_nodes.specs.Tails.{either, IsMember}
use Rattle.psa_zbdd.specs.GraphFamilies.{IsSignedProduct, IsSignedImplicant, IsCover, IsReduced}
use Rattle.psa_zbdd.proofs.SetMergeLemmas.{merge, merge-union}
use Rattle.psa_zbdd.proofs.SignedProductLemmas.{all-each, all-from, held-within}

-- a cover of a truth is one of an equal truth
pub cover-same : (width limit : ℕ) (f g : (ℕ → Bool) → Bool) (family : List ℕ → Bool) → ((s : ℕ → Bool) → g s ≡ f s) → IsCover width limit f family → IsCover width limit g family
cover-same width limit f g family is c = record {
  sound = λ product m. let p = c.sound product m in (p.0, λ s h. is s ∙ p.1 s h);
  covers = λ set first le t. c.covers set first le (sym (is (occurs set)) ∙ t);
}

-- a union holds where both sets do, and its literals are theirs
module _ (l r set : List ℕ) (u : IsUnionOf l r set) where
  in-left : (x : ℕ) → Has l x → Has set x
  in-left x m = occurs-has set x (u.members x ∙ or_left (occurs l x) (occurs r x) (has-occurs l x m))

  in-right : (x : ℕ) → Has r x → Has set x
  in-right x m = occurs-has set x (u.members x ∙ or_right (occurs l x) (occurs r x) (has-occurs r x m))

  in-either : (x : ℕ) → Has set x → Has l x ⊎ Has r x
  in-either x m = elim (or_cases (occurs l x) (occurs r x) (sym (u.members x) ∙ has-occurs set x m)) [
    | inl p ↦ inl (occurs-has l x p)
    | inr p ↦ inr (occurs-has r x p)
  ]

  holds-left : (s : ℕ → Bool) → holds_at s set ≡ true → holds_at s l ≡ true
  holds-left s h = holds-from s l (λ x m. holds-each s set h x (in-left x m))

  holds-right : (s : ℕ → Bool) → holds_at s set ≡ true → holds_at s r ≡ true
  holds-right s h = holds-from s r (λ x m. holds-each s set h x (in-right x m))

  holds-both : (s : ℕ → Bool) → holds_at s l ≡ true → holds_at s r ≡ true → holds_at s set ≡ true
  holds-both s hl hr = holds-from s set (λ x m. elim (in-either x m) [
    | inl p ↦ holds-each s l hl x p
    | inr p ↦ holds-each s r hr x p
  ])

module _ (width limit : ℕ) (f g : (ℕ → Bool) → Bool) (left right : List ℕ → Bool) (cl : IsCover width limit f left) (cr : IsCover width limit g right) where
  -- a product of members is a signed implicant of both truths
  pub both-sound : (set : List ℕ) → IsProductMember left right limit set → IsSignedImplicant width limit (λ s. f s && g s) set
  both-sound set p = (
    record {
      ranked = all-from test set (λ x m. elim (in-either p.left p.right set p.union x m) [
        | inl q ↦ all-each test p.left (cl.sound p.left p.of_first).0.ranked x q
        | inr q ↦ all-each test p.right (cr.sound p.right p.of_second).0.ranked x q
      ]);
      ascending = p.union.ascending;
      consistent = p.consistent;
      within = p.within;
    },
    λ s h. and_from (f s) (g s)
        ((cl.sound p.left p.of_first).1 s (holds-left p.left p.right set p.union s h))
        ((cr.sound p.right p.of_second).1 s (holds-right p.left p.right set p.union s h)),
  )
    where
      test : ℕ → Bool
      test literal = nat_lt (rank_of literal) width

  -- what a reduced product covers
  pub cover-both : (family : List ℕ → Bool) → IsReduced (IsProductMember left right limit) family → IsCover width limit (λ s. f s && g s) family
  cover-both family r = record { sound = λ product m. both-sound product (r.of_source product m); covers = covers }
    where
      covers : (set : List ℕ) → is_ascending set ≡ true → length set ≤ limit → (f (occurs set) && g (occurs set)) ≡ true → (product : List ℕ) × (family product ≡ true) × (holds_at (occurs set) product ≡ true)
      covers set first le t =
          let both = and_parts (f (occurs set)) (g (occurs set)) t in
          let l = cl.covers set first le both.0 in
          let k = cr.covers set first le both.1 in
          let u : IsUnionOf l.0 k.0 (merge l.0 k.0) = merge-union l.0 k.0 (cr.sound k.0 k.1).0.ascending in
          let held : holds_at (occurs set) (merge l.0 k.0) ≡ true = holds-both l.0 k.0 (merge l.0 k.0) u (occurs set) l.2 k.2 in
          let few = held-within set (merge l.0 k.0) first u.ascending held in
          let part = r.includes (merge l.0 k.0) (record {
            left = l.0;
            right = k.0;
            of_first = l.1;
            of_second = k.1;
            union = u;
            consistent = holds-consistent (occurs set) (merge l.0 k.0) u.ascending held;
            within = omega (arith, few, le);
          }) in
          (part.0, part.1, holds-part (occurs set) part.0 (merge l.0 k.0) part.2 held)

  -- a member of either is a signed implicant of one truth or the other
  pub either-sound : (set : List ℕ) → either left right set ≡ true → IsSignedImplicant width limit (λ s. f s || g s) set
  either-sound set m = elim (or_cases (left set) (right set) m) [
    | inl p ↦ let c = cl.sound set p in (c.0, λ s h. or_left (f s) (g s) (c.1 s h))
    | inr p ↦ let c = cr.sound set p in (c.0, λ s h. or_right (f s) (g s) (c.1 s h))
  ]

  -- what a reduced union covers
  pub cover-either : (family : List ℕ → Bool) → IsReduced (IsMember (either left right)) family → IsCover width limit (λ s. f s || g s) family
  cover-either family r = record { sound = λ product m. either-sound product (r.of_source product m); covers = covers }
    where
      reduced : (set product : List ℕ) → either left right product ≡ true → holds_at (occurs set) product ≡ true → (part : List ℕ) × (family part ≡ true) × (holds_at (occurs set) part ≡ true)
      reduced set product m h = let part = r.includes product m in (part.0, part.1, holds-part (occurs set) part.0 product part.2 h)

      covers : (set : List ℕ) → is_ascending set ≡ true → length set ≤ limit → (f (occurs set) || g (occurs set)) ≡ true → (product : List ℕ) × (family product ≡ true) × (holds_at (occurs set) product ≡ true)
      covers set first le t = elim (or_cases (f (occurs set)) (g (occurs set)) t) [
        | inl p ↦ let l = cl.covers set first le p in reduced set l.0 (or_left (left l.0) (right l.0) l.1) l.2
        | inr p ↦ let k = cr.covers set first le p in reduced set k.0 (or_right (left k.0) (right k.0) k.1) k.2
      ]

-- the empty family covers what is false at each such set
pub cover-none : (width limit : ℕ) (f : (ℕ → Bool) → Bool) (family : List ℕ → Bool) → ((set : List ℕ) → family set ≡ false) → ((set : List ℕ) → length set ≤ limit → f (occurs set) ≡ false) → IsCover width limit f family
cover-none width limit f family none never = record {
  sound = λ product m. absurd (false≢true (sym (none product) ∙ m));
  covers = λ set first le t. absurd (false≢true (sym (never set le) ∙ t));
}

-- the family of the empty set covers what is true everywhere
pub cover-all : (width limit : ℕ) (f : (ℕ → Bool) → Bool) (family : List ℕ → Bool) → family [] ≡ true → ((set : List ℕ) → family set ≡ true → set ≡ []) → ((s : ℕ → Bool) → f s ≡ true) → IsCover width limit f family
cover-all width limit f family some only always = record {
  sound = λ product m. subst (λ (l : List ℕ). IsSignedImplicant width limit f l) (sym (only product m)) (empty, λ s h. always s);
  covers = λ set first le t. ([], some, refl);
}
  where
    empty : IsSignedProduct width limit []
    empty = record { ranked = refl; ascending = refl; consistent = refl; within = omega arith }

-- the literal of a truth
module _ (width limit rank : ℕ) (happens : Bool) (below : rank < width) where
  abbrev literal : ℕ
  literal = literal_number rank happens

  -- holds where its truth does
  literal-holds : (s : ℕ → Bool) → holds_at s (literal ∷ []) ≡ literal_truth rank happens s
  literal-holds s = rw (positive-literal rank happens) (rw (rank-literal rank happens) (own (literal_truth rank happens s)))
    where
      own : (b : Bool) → (b && true) ≡ b
      own true = refl
      own false = refl

  count : (happens ≡ true → 1 ≤ limit) → length (filter is_positive (literal ∷ [])) ≤ limit
  count some = by happens (positive-literal rank happens) some
    where
      by : (b : Bool) → is_positive literal ≡ b → (b ≡ true → 1 ≤ limit) → length (filter is_positive (literal ∷ [])) ≤ limit
      by true e one = let le = one refl in rw e le
      by false e one = rw e (omega arith)

  -- so it is a signed implicant
  pub literal-sound : (happens ≡ true → 1 ≤ limit) → IsSignedImplicant width limit (literal_truth rank happens) (literal ∷ [])
  literal-sound some = (
    record {
      ranked = and_from (nat_lt (rank_of literal) width) true (lt-ltb (rank_of literal) width (let e = rank-literal rank happens in omega (arith, e, below))) refl;
      ascending = refl;
      consistent = refl;
      within = count some;
    },
    λ s h. sym (literal-holds s) ∙ h,
  )

  -- and its family covers its truth
  pub cover-literal : (happens ≡ true → 1 ≤ limit) → (family : List ℕ → Bool) → family (literal ∷ []) ≡ true → ((set : List ℕ) → family set ≡ true → set ≡ literal ∷ []) → IsCover width limit (literal_truth rank happens) family
  cover-literal some family own only = record {
    sound = λ product m. subst (λ (l : List ℕ). IsSignedImplicant width limit (literal_truth rank happens) l) (sym (only product m)) (literal-sound some);
    covers = λ set first le t. (literal ∷ [], own, literal-holds (occurs set) ∙ t);
  }
