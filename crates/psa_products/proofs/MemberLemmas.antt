-- The members of k literals: exactly those of the family, in order; and those of a node by its sides.
use Rattle.std.proofs.Common.{◌≡◌, ◌⊎◌, ℕ, zero, suc, ◌+◌, ◌<◌, Bool, true, false, ◌==◌, nat_le, List, [], ◌∷◌, ◌++◌, map, length, Some, refl, sym, ap, ap₂, subst, ◌∙◌, inl, inr, arith, ne_eqb, eq-eqb, true≢false}
use Rattle.std.proofs.lemmas.Bool.{and_parts, cases_order}
use Rattle.std.proofs.lemmas.Bool.Decides.{eqb_tells}
use Rattle.psa_logic.specs.Sets.{Has}
use Rattle.psa_logic.specs.Products.{is_before, is_in_order}
use Rattle.psa_logic.proofs.ListingLemmas.{has-append_left, has-append_right, has-append_cases, has-map, has-map_from, in_order-append, in_order-map}
use Rattle.psa_logic.proofs.ReportOrderLemmas.{before-cons, before-lexical, lexical-less}
use Rattle.psa_nodes.specs.declared.node.Kind.TheVariants.{Zbdd}
use Rattle.psa_nodes.specs.declared.node.Node.{Node}
use Rattle.psa_nodes.specs.Readings.{next_id, node_at, has, joined, stands, same_kind}
use Rattle.psa_nodes.specs.Nodes.{AllFit}
use Rattle.psa_nodes.specs.Sizes.{HasMember}
use Rattle.psa_nodes.proofs.CallerLemmas.{same_kind-exact, stands-below, node_at-below, has-below, joined-own, joined-other}
use Rattle.psa_products.specs.Members.{led, sized}

-- one more node changes nothing for the ids before it
sized-cons : (n : Node) (older : List Node) (id k : ℕ) → id < length older + 2 → sized (n ∷ older) id k ≡ sized older id k
sized-cons n older id k lt = rw (ne_eqb id (length older + 2) (λ e. omega arith)) refl

led-same : (x : ℕ) (f g : ℕ → List (List ℕ)) → ((j : ℕ) → f j ≡ g j) → (k : ℕ) → led x f k ≡ led x g k
led-same x f g same zero = refl
led-same x f g same (suc j) = ap (map (λ set. x ∷ set)) (same j)

-- the members of a node by its sides, in the whole table
abbrev pub IsBySides : List Node → ℕ → Node → Type 0
IsBySides ns id m = (k : ℕ) → sized ns id k ≡ led m.var (sized ns m.hi.0) k ++ sized ns m.lo.0 k

sides-cons : (n : Node) (older : List Node) (m : Node) → m.hi.0 < length older + 2 → m.lo.0 < length older + 2 → (k : ℕ) → led m.var (sized older m.hi.0) k ++ sized older m.lo.0 k ≡ led m.var (sized (n ∷ older) m.hi.0) k ++ sized (n ∷ older) m.lo.0 k
sides-cons n older m hi lo k =
    ap₂ (λ (a b : List (List ℕ)). a ++ b)
    (led-same m.var (sized older m.hi.0) (sized (n ∷ older) m.hi.0) (λ j. sym (sized-cons n older m.hi.0 j hi)) k)
    (sym (sized-cons n older m.lo.0 k lo))

sized-newest : (n : Node) (older : List Node) (k : ℕ) → sized (n ∷ older) (next_id older) k ≡ led n.var (sized older n.hi.0) k ++ sized older n.lo.0 k
sized-newest n older k = rw (eq-eqb (length older + 2) (length older + 2) refl) refl

-- the children of a node come before it, and share its members
pub record Children (ns : List Node) (id : ℕ) (m : Node) : Type 0 where
  pub hi : m.hi.0 < id
  pub lo : m.lo.0 < id
  pub sides : IsBySides ns id m

-- what is known of the children of the node at an id
pub children : (ns : List Node) → AllFit ns → (id : ℕ) (m : Node) → node_at ns id ≡ Some m → Children ns id m
children [] fit id m e = cc
children (n ∷ older) fit id m e =
    elim (eqb_tells id (next_id older)) [
      | inl p ↦
          let same : Some n ≡ Some m = rw p.0 at e in
          let own : n ≡ m = cc in
          let hi = stands-below n.kind (n.var + 1) older n.hi.0 fit.0.hi in
          let lo = stands-below n.kind (n.var + 1) older n.lo.0 fit.0.lo in
          let newest : Children (n ∷ older) (next_id older) n = record {
            hi = hi;
            lo = lo;
            sides = λ k. sized-newest n older k ∙ sides-cons n older n hi lo k;
          } in
          rw p.1 (subst (λ (x : Node). Children (n ∷ older) (next_id older) x) own newest)
      | inr p ↦
          let e' = rw p.0 at e in
          let below = node_at-below older id m e' in
          let c = children older fit.1 id m e' in
          let hi : m.hi.0 < length older + 2 = omega (arith, c.hi, below) in
          let lo : m.lo.0 < length older + 2 = omega (arith, c.lo, below) in
          record {
            hi = c.hi;
            lo = c.lo;
            sides = λ k. sized-cons n older id k below ∙ c.sides k ∙ sides-cons n older m hi lo k;
          }
    ]

-- the terminals
pub sized-zero : (ns : List Node) (k : ℕ) → sized ns 0 k ≡ []
sized-zero [] k = refl
sized-zero (n ∷ older) k = rw (ne_eqb 0 (length older + 2) (λ e. omega arith)) (sized-zero older k)

-- the terminal 1 has the empty set
pub sized-one : (ns : List Node) → sized ns 1 0 ≡ [] ∷ []
sized-one [] = refl
sized-one (n ∷ older) = rw (ne_eqb 1 (length older + 2) (λ e. omega arith)) (sized-one older)

-- and no member with a literal
pub sized-one-more : (ns : List Node) (k : ℕ) → sized ns 1 (suc k) ≡ []
sized-one-more [] k = rw (ne_eqb (suc k) 0 (λ e. omega (arith, e))) refl
sized-one-more (n ∷ older) k = rw (ne_eqb 1 (length older + 2) (λ e. omega arith)) (sized-one-more older k)

-- a member of the low side is one of the whole
joined-low : (x : ℕ) (hi lo : List ℕ → Bool) (set : List ℕ) → ((y : ℕ) (ys : List ℕ) → set ≡ y ∷ ys → y ≡ x → ⊥) → lo set ≡ true → joined x hi lo set ≡ true
joined-low x hi lo [] past h = h
joined-low x hi lo (y ∷ ys) past h = joined-other x hi lo y ys (past y ys refl) ∙ h

-- the members of k literals are members, and have k literals
pub record IsSized (ns : List Node) (id k : ℕ) (set : List ℕ) : Type 0 where
  pub is_member : has ns id set ≡ true
  pub of_size : length set ≡ k

no-node : (id k : ℕ) (set : List ℕ) → Has (sized [] id k) set → IsSized [] id k set
no-node id k set h = elim (eqb_tells id 1) [
  | inl p ↦ elim (eqb_tells k 0) [
    | inl q ↦ elim (rw (p.0, q.0) at h) [
      | inl e ↦ subst (λ s. IsSized [] id k s) e (record { is_member = rw p.0 refl; of_size = sym q.1 })
      | inr bad ↦ absurd bad
    ]
    | inr q ↦ absurd (rw (p.0, q.0) at h)
  ]
  | inr p ↦ absurd (rw p.0 at h)
]

-- members of the low side begin past the variable
low-past : (older : List Node) → AllFit older → (v lo : ℕ) → stands Zbdd (v + 1) older lo ≡ true → (set : List ℕ) → has older lo set ≡ true → (y : ℕ) (ys : List ℕ) → set ≡ y ∷ ys → v < y
low-past older fit v lo h set member y ys e = by (cases_order v y)
  where
    below : y < v + 1 → ⊥
    below lt = true≢false (sym (subst (λ s. has older lo s ≡ true) e member) ∙ has-below older fit (v + 1) lo h y ys lt)

    by : ((v ≡ y) ⊎ ((v < y) ⊎ (y < v))) → v < y
    by c = elim c [
      | inl p ↦ absurd (below (omega arith))
      | inr o ↦ elim o [ inl p ↦ p | inr p ↦ absurd (below (omega arith)) ]
    ]

-- sets of the sides are sets of the node
module _ (older : List Node) (n : Node) where
  high-sound : ((j : ℕ) (s : List ℕ) → Has (sized older n.hi.0 j) s → IsSized older n.hi.0 j s) → (k : ℕ) (set : List ℕ) → Has (led n.var (sized older n.hi.0) k) set
      → (joined n.var (has older n.hi.0) (has older n.lo.0) set ≡ true) × (length set ≡ k)
  high-sound each zero set h = absurd h
  high-sound each (suc j) set h =
      let found = has-map_from (λ s. n.var ∷ s) (sized older n.hi.0 j) set h in
      let r = each j found.0 found.1 in
      subst (λ s. (joined n.var (has older n.hi.0) (has older n.lo.0) s ≡ true) × (length s ≡ suc j)) found.2
      (joined-own n.var (has older n.hi.0) (has older n.lo.0) found.0 ∙ r.is_member, ap suc r.of_size)

  sides-sound : AllFit older → stands Zbdd (n.var + 1) older n.lo.0 ≡ true
      → ((j : ℕ) (s : List ℕ) → Has (sized older n.hi.0 j) s → IsSized older n.hi.0 j s)
      → ((j : ℕ) (s : List ℕ) → Has (sized older n.lo.0 j) s → IsSized older n.lo.0 j s)
      → (k : ℕ) (set : List ℕ) → Has (led n.var (sized older n.hi.0) k ++ sized older n.lo.0 k) set
      → (joined n.var (has older n.hi.0) (has older n.lo.0) set ≡ true) × (length set ≡ k)
  sides-sound fit lo high low k set m = elim (has-append_cases (led n.var (sized older n.hi.0) k) (sized older n.lo.0 k) set m) [
    | inl q ↦ high-sound high k set q
    | inr q ↦
        let r = low k set q in (
          joined-low n.var (has older n.hi.0) (has older n.lo.0) set
              (λ y ys e d. let past = low-past older fit n.var n.lo.0 lo set r.is_member y ys e in omega (arith, past, d))
              r.is_member,
          r.of_size,
        )
  ]

  sides-whole : ((s : List ℕ) → has older n.hi.0 s ≡ true → Has (sized older n.hi.0 (length s)) s)
      → ((s : List ℕ) → has older n.lo.0 s ≡ true → Has (sized older n.lo.0 (length s)) s)
      → (set : List ℕ) → joined n.var (has older n.hi.0) (has older n.lo.0) set ≡ true → Has (led n.var (sized older n.hi.0) (length set) ++ sized older n.lo.0 (length set)) set
  sides-whole high low [] h = low [] h
  sides-whole high low (y ∷ ys) h = elim (eqb_tells y n.var) [
    | inl q ↦
        let inner = high ys (rw q.0 at h) in
        has-append_left (map (λ s. n.var ∷ s) (sized older n.hi.0 (length ys))) (sized older n.lo.0 (length (y ∷ ys))) (y ∷ ys)
        (subst (λ x. Has (map (λ s. n.var ∷ s) (sized older n.hi.0 (length ys))) (x ∷ ys)) (sym q.1)
        (has-map (λ s. n.var ∷ s) (sized older n.hi.0 (length ys)) ys inner))
    | inr q ↦
        has-append_right (map (λ s. n.var ∷ s) (sized older n.hi.0 (length ys))) (sized older n.lo.0 (length (y ∷ ys))) (y ∷ ys)
        (low (y ∷ ys) (rw q.0 at h))
  ]

-- what is listed are members with so many literals
pub sized-sound : (ns : List Node) → AllFit ns → (v id : ℕ) → stands Zbdd v ns id ≡ true → (k : ℕ) (set : List ℕ) → Has (sized ns id k) set → IsSized ns id k set
sized-sound [] fit v id h k set m = no-node id k set m
sized-sound (n ∷ older) fit v id h k set m =
    elim (eqb_tells id (next_id older)) [
      | inl p ↦
          let parts = and_parts (same_kind n.kind Zbdd) (nat_le v n.var) (rw p.0 at h) in
          let kind = same_kind-exact n.kind Zbdd parts.0 in
          let hi : stands Zbdd (n.var + 1) older n.hi.0 ≡ true = rw kind at fit.0.hi in
          let lo : stands Zbdd (n.var + 1) older n.lo.0 ≡ true = rw kind at fit.0.lo in
          let r = sides-sound older n fit.1 lo (sized-sound older fit.1 (n.var + 1) n.hi.0 hi) (sized-sound older fit.1 (n.var + 1) n.lo.0 lo) k set (rw p.0 at m) in
          record { is_member = rw p.0 r.0; of_size = r.1 }
      | inr p ↦
          let r = sized-sound older fit.1 v id (rw p.0 at h) k set (rw p.0 at m) in
          record { is_member = rw p.0 r.is_member; of_size = r.of_size }
    ]

-- each member is among those of its size
pub sized-whole : (ns : List Node) (id : ℕ) (set : List ℕ) → has ns id set ≡ true → Has (sized ns id (length set)) set
sized-whole [] id [] h =
    let parts = and_parts (id == 1) true h in
    rw parts.0 (inl refl)
sized-whole [] id (y ∷ ys) h =
    let parts = and_parts (id == 1) false h in
    absurd (true≢false (sym parts.1))
sized-whole (n ∷ older) id set h =
    elim (eqb_tells id (next_id older)) [
      | inl p ↦ rw p.0 (sides-whole older n (sized-whole older n.hi.0) (sized-whole older n.lo.0) set (rw p.0 at h))
      | inr p ↦ rw p.0 (sized-whole older id set (rw p.0 at h))
    ]

-- a set of the high side stands before one of the low side
across : (x : ℕ) (xs ys : List ℕ) → length (x ∷ xs) ≡ length ys → ((y : ℕ) (rest : List ℕ) → ys ≡ y ∷ rest → x < y) → is_before (x ∷ xs) ys ≡ true
across x xs [] e past = absurd (omega (arith, e))
across x xs (y ∷ ys) e past = before-lexical (x ∷ xs) (y ∷ ys) e (lexical-less x y xs ys (past y ys refl))

sides-order : (older : List Node) → AllFit older → (n : Node) → stands Zbdd (n.var + 1) older n.hi.0 ≡ true → stands Zbdd (n.var + 1) older n.lo.0 ≡ true
    → ((j : ℕ) → is_in_order (sized older n.hi.0 j) ≡ true) → ((j : ℕ) → is_in_order (sized older n.lo.0 j) ≡ true)
    → (k : ℕ) → is_in_order (led n.var (sized older n.hi.0) k ++ sized older n.lo.0 k) ≡ true
sides-order older fit n hi lo high low zero = low 0
sides-order older fit n hi lo high low (suc j) =
    in_order-append (map (λ s. n.var ∷ s) (sized older n.hi.0 j)) (sized older n.lo.0 (suc j))
    (in_order-map (λ s. n.var ∷ s) (λ a b. before-cons n.var a b) (sized older n.hi.0 j) (high j))
    (low (suc j))
    (λ a b ma mb.
    let found = has-map_from (λ s. n.var ∷ s) (sized older n.hi.0 j) a ma in
    let ra = sized-sound older fit (n.var + 1) n.hi.0 hi j found.0 found.1 in
    let rb = sized-sound older fit (n.var + 1) n.lo.0 lo (suc j) b mb in
    subst (λ s. is_before s b ≡ true) found.2
    (across n.var found.0 b (ap suc ra.of_size ∙ sym rb.of_size)
    (λ y ys e. low-past older fit n.var n.lo.0 lo b rb.is_member y ys e)))

-- they stand in order
pub sized-order : (ns : List Node) → AllFit ns → (v id : ℕ) → stands Zbdd v ns id ≡ true → (k : ℕ) → is_in_order (sized ns id k) ≡ true
sized-order [] fit v id h k = elim (eqb_tells id 1) [
  | inl p ↦ elim (eqb_tells k 0) [ inl q ↦ rw (p.0, q.0) refl | inr q ↦ rw (p.0, q.0) refl ]
  | inr p ↦ rw p.0 refl
]
sized-order (n ∷ older) fit v id h k =
    elim (eqb_tells id (next_id older)) [
      | inl p ↦
          let parts = and_parts (same_kind n.kind Zbdd) (nat_le v n.var) (rw p.0 at h) in
          let kind = same_kind-exact n.kind Zbdd parts.0 in
          let hi : stands Zbdd (n.var + 1) older n.hi.0 ≡ true = rw kind at fit.0.hi in
          let lo : stands Zbdd (n.var + 1) older n.lo.0 ≡ true = rw kind at fit.0.lo in
          rw p.0 (sides-order older fit.1 n hi lo (sized-order older fit.1 (n.var + 1) n.hi.0 hi) (sized-order older fit.1 (n.var + 1) n.lo.0 lo) k)
      | inr p ↦ rw p.0 (sized-order older fit.1 v id (rw p.0 at h) k)
    ]

-- where no member has k literals, none is listed
pub sized-empty : (ns : List Node) → AllFit ns → (id : ℕ) → stands Zbdd 0 ns id ≡ true → (k : ℕ) → (HasMember (has ns id) k → ⊥) → sized ns id k ≡ []
sized-empty ns fit id h k none = by (sized ns id k) refl
  where
    by : (l : List (List ℕ)) → sized ns id k ≡ l → sized ns id k ≡ []
    by [] e = e
    by (s ∷ l) e =
        let r = sized-sound ns fit 0 id h k s (subst (λ (x : List (List ℕ)). Has x s) (sym e) (inl refl)) in
        absurd (none (record { member = s; is_member = r.is_member; of_size = r.of_size }))
