-- What a step of the walk does to the members that are to come: nothing, until one is given.
use Rattle.std.proofs.Common.{◌≡◌, ℕ, suc, ◌+◌, ◌-◌, ◌<◌, true, List, [], ◌∷◌, ◌++◌, map, length, length-append, sym, ap, ap₂, ◌∙◌, arith}
use Rattle.psa_nodes.specs.declared.node.Kind.TheVariants.{Zbdd}
use Rattle.psa_nodes.specs.declared.node.Node.{Node}
use Rattle.psa_nodes.specs.Readings.{stands}
use Rattle.psa_products.specs.Members.{sized, passes, inside, coming}
use Rattle.psa_products.specs.Walks.{AreTaken}
use Rattle.psa_products.proofs.MemberLemmas.{IsBySides, sized-zero, sized-one}

module _ (ns : List Node) where
  -- only the members to come at the end of the path count
  pub inside-same : (taken : List Node) (a b l : ℕ) → sized ns a l ≡ sized ns b l → inside ns taken a l ≡ inside ns taken b l
  inside-same [] a b l e = e
  inside-same (n ∷ taken) a b l e =
      ap (λ (sets : List (List ℕ)). map (λ set. n.var ∷ set) sets ++ sized ns n.lo.0 (length (n ∷ taken) + l)) (inside-same taken a b l e)

  step : (n : Node) (more taken : List Node) (a b l j : ℕ) → length more + l ≡ length taken + j → inside ns more a l ≡ inside ns taken b j
      → inside ns (n ∷ more) a l ≡ inside ns (n ∷ taken) b j
  step n more taken a b l j size e =
      let sizes : length (n ∷ more) + l ≡ length (n ∷ taken) + j = omega (arith, size) in
      ap₂ (λ (sets : List (List ℕ)) (k : ℕ). map (λ set. n.var ∷ set) sets ++ sized ns n.lo.0 k) e sizes

  -- to the high side, where a literal is to come
  pub inside-take : (taken : List Node) (m : Node) (at l : ℕ) → IsBySides ns at m → inside ns (taken ++ m ∷ []) m.hi.0 l ≡ inside ns taken at (suc l)
  inside-take [] m at l sides =
      let one : length (m ∷ []) + l ≡ suc l = omega arith in
      ap (λ k. map (λ set. m.var ∷ set) (sized ns m.hi.0 l) ++ sized ns m.lo.0 k) one ∙ sym (sides (suc l))
  inside-take (n ∷ taken) m at l sides =
      step n (taken ++ m ∷ []) taken m.hi.0 at l (suc l) (omega (arith, length-append taken (m ∷ []))) (inside-take taken m at l sides)

  -- up to the low side of the node taken last, where nothing is to come
  pub inside-pop : (taken : List Node) (m : Node) (at l : ℕ) → sized ns at l ≡ [] → inside ns (taken ++ m ∷ []) at l ≡ inside ns taken m.lo.0 (suc l)
  inside-pop [] m at l none =
      let one : length (m ∷ []) + l ≡ suc l = omega arith in
      ap₂ (λ (sets : List (List ℕ)) (k : ℕ). map (λ set. m.var ∷ set) sets ++ sized ns m.lo.0 k) none one
  inside-pop (n ∷ taken) m at l none =
      step n (taken ++ m ∷ []) taken at m.lo.0 l (suc l) (omega (arith, length-append taken (m ∷ []))) (inside-pop taken m at l none)

  -- the terminal 1 gives the literals that are taken, and then nothing is to come
  pub inside-found : (taken : List Node) → inside ns taken 1 0 ≡ map (λ (n : Node). n.var) taken ∷ inside ns taken 0 0
  inside-found [] = sized-one ns ∙ ap (λ (sets : List (List ℕ)). [] ∷ sets) (sym (sized-zero ns 0))
  inside-found (n ∷ taken) =
      ap (λ (sets : List (List ℕ)). map (λ set. n.var ∷ set) sets ++ sized ns n.lo.0 (length (n ∷ taken) + 0)) (inside-found taken)

  -- the same with the passes after this one
  module _ (root limit : ℕ) where
    -- to the high side
    pub coming-take : (taken : List Node) (m : Node) (at l : ℕ) → IsBySides ns at m → 0 < l → coming ns root limit (taken ++ m ∷ []) m.hi.0 (l - 1) ≡ coming ns root limit taken at l
    coming-take taken m at l sides some =
        let back : suc (l - 1) ≡ l = omega arith in
        let size : length (taken ++ m ∷ []) + (l - 1) ≡ length taken + l = omega (arith, length-append taken (m ∷ [])) in
        ap₂ (λ (sets : List (List ℕ)) (k : ℕ). sets ++ passes ns root (k + 1) (limit - k))
        (inside-take taken m at (l - 1) sides ∙ ap (inside ns taken at) back) size

    -- to a family with the same members of this size
    pub coming-same : (taken : List Node) (a b l : ℕ) → sized ns a l ≡ sized ns b l → coming ns root limit taken a l ≡ coming ns root limit taken b l
    coming-same taken a b l e =
        ap (λ (sets : List (List ℕ)). sets ++ passes ns root (length taken + l + 1) (limit - (length taken + l))) (inside-same taken a b l e)

    -- up to a low side
    pub coming-pop : (taken : List Node) (m : Node) (at l : ℕ) → sized ns at l ≡ [] → coming ns root limit taken m.lo.0 (l + 1) ≡ coming ns root limit (taken ++ m ∷ []) at l
    coming-pop taken m at l none =
        let up : suc l ≡ l + 1 = omega arith in
        let size : length taken + (l + 1) ≡ length (taken ++ m ∷ []) + l = omega (arith, length-append taken (m ∷ [])) in
        ap₂ (λ (sets : List (List ℕ)) (k : ℕ). sets ++ passes ns root (k + 1) (limit - k))
        (sym (inside-pop taken m at l none ∙ ap (inside ns taken m.lo.0) up)) size

    -- a member is given
    pub coming-found : (taken : List Node) → coming ns root limit taken 1 0 ≡ map (λ (n : Node). n.var) taken ∷ coming ns root limit taken 0 0
    coming-found taken =
        ap (λ (sets : List (List ℕ)). sets ++ passes ns root (length taken + 0 + 1) (limit - (length taken + 0))) (inside-found taken)

  -- the low sides of one more node stand, and of one less
  pub taken-push : (taken : List Node) (m : Node) → AreTaken ns taken → stands Zbdd 0 ns m.lo.0 ≡ true → AreTaken ns (taken ++ m ∷ [])
  taken-push [] m h lo = (lo, tt)
  taken-push (n ∷ taken) m h lo = (h.0, taken-push taken m h.1 lo)

  -- the low sides of the nodes before the last, and its own
  pub taken-pop : (taken : List Node) (m : Node) → AreTaken ns (taken ++ m ∷ []) → AreTaken ns taken × (stands Zbdd 0 ns m.lo.0 ≡ true)
  taken-pop [] m h = (tt, h.0)
  taken-pop (n ∷ taken) m h = let r = taken-pop taken m h.1 in ((h.0, r.0), r.1)
