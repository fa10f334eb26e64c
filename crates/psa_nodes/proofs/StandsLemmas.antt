-- Where ids stand in a list of nodes.
use Rattle.std.proofs.Common.{◌≡◌, ℕ, ◌+◌, ◌^◌, ◌<◌, ◌≤◌, ◌↔◌, ◌∙◌, Bool, IsTrue, true, false, nat_le, List, [], ◌∷◌, ◌⊎◌, length, None, Some, refl, inl, inr, arith, lt-ltb, ltb-true, le-leb, leb-true, ne_eqb, true≢false, sym}
use Rattle.std.proofs.lemmas.Bool.{and_parts, and_from}
use Rattle.std.proofs.lemmas.Bool.Decides.{eqb_tells, leb_tells}
use Rattle.psa_nodes.specs.declared.node.Kind.{Kind}
use Rattle.psa_nodes.specs.declared.node.Kind.TheVariants.{Bdd, Zbdd}
use Rattle.psa_nodes.specs.declared.node.Node.{Node}
use Rattle.psa_nodes.specs.declared.node.TheConstants.{TERMINALS}
use Rattle.psa_nodes.specs.Readings.{IsTerminal, IsInner, next_id, node_at, stands, same_kind, first_literal, level}

-- `same_kind` is equality
pub same_kind-exact : (a b : Kind) → same_kind a b ≡ true → a ≡ b
same_kind-exact Bdd Bdd h = refl
same_kind-exact Bdd Zbdd h = absurd (true≢false (sym h))
same_kind-exact Zbdd Bdd h = absurd (true≢false (sym h))
same_kind-exact Zbdd Zbdd h = refl

-- a kind is its own
pub same_kind-own : (k : Kind) → same_kind k k ≡ true
same_kind-own Bdd = refl
same_kind-own Zbdd = refl

-- what `is_terminal` denies is a node
pub inner-from : (id : ℕ) (b : Bool) → IsTrue b ↔ IsTerminal id → b ≡ false → IsInner id
inner-from id b told e = elim (leb_tells TERMINALS id) [ inl p ↦ p.1 | inr p ↦ absurd (true≢false (sym (told.1 p.1) ∙ e)) ]

-- an id that stands is below the next
pub stands-below : (k : Kind) (v : ℕ) (ns : List Node) (id : ℕ) → stands k v ns id ≡ true → id < length ns + 2
stands-below k v [] id h = omega (arith, ltb-true id 2 h)
stands-below k v (n ∷ older) id h =
    elim (eqb_tells id (next_id older)) [
      | inl p ↦ omega arith
      | inr p ↦ let ih = stands-below k v older id (rw p.0 at h) in omega arith
    ]

-- and at each smaller variable
pub stands-weaker : (k : Kind) (v w : ℕ) (ns : List Node) (id : ℕ) → w ≤ v → stands k v ns id ≡ true → stands k w ns id ≡ true
stands-weaker k v w [] id le h = h
stands-weaker k v w (n ∷ older) id le h =
    elim (eqb_tells id (next_id older)) [
      | inl p ↦
          let parts = and_parts (same_kind n.kind k) (nat_le v n.var) (rw p.0 at h) in
          rw p.0 (and_from (same_kind n.kind k) (nat_le w n.var) parts.0 (le-leb w n.var (omega (arith, leb-true v n.var parts.1))))
      | inr p ↦ rw p.0 (stands-weaker k v w older id le (rw p.0 at h))
    ]

-- a terminal stands everywhere
pub stands-terminal : (k : Kind) (v : ℕ) (ns : List Node) (id : ℕ) → id < 2 → stands k v ns id ≡ true
stands-terminal k v [] id lt = lt-ltb id 2 lt
stands-terminal k v (n ∷ older) id lt =
    rw (ne_eqb id (length older + 2) (λ e. omega arith)) (stands-terminal k v older id lt)

-- an id that stands is a terminal or a node of the kind
pub record StandsAs (k : Kind) (v : ℕ) (ns : List Node) (id : ℕ) : Type 0 where
  pub node : Node
  pub at : node_at ns id ≡ Some node
  pub of_kind : node.kind ≡ k
  pub from : v ≤ node.var

-- the two cases of an id that stands
pub stands-cases : (k : Kind) (v : ℕ) (ns : List Node) (id : ℕ) → stands k v ns id ≡ true → (id < 2) ⊎ StandsAs k v ns id
stands-cases k v [] id h = inl (ltb-true id 2 h)
stands-cases k v (n ∷ older) id h =
    elim (eqb_tells id (next_id older)) [
      | inl p ↦
          let parts = and_parts (same_kind n.kind k) (nat_le v n.var) (rw p.0 at h) in
          inr (record {
            node = n;
            at = rw p.0 refl;
            of_kind = same_kind-exact n.kind k parts.0;
            from = leb-true v n.var parts.1;
          })
      | inr p ↦ elim (stands-cases k v older id (rw p.0 at h)) [
        | inl lt ↦ inl lt
        | inr s ↦ inr (record { node = s.node; at = rw p.0 s.at; of_kind = s.of_kind; from = s.from })
      ]
    ]

-- the node at an id that stands is of the kind and has at least the variable
pub stands-at : (k : Kind) (v : ℕ) (ns : List Node) (id : ℕ) (m : Node) → stands k v ns id ≡ true → node_at ns id ≡ Some m → (m.kind ≡ k) × (v ≤ m.var)
stands-at k v [] id m h e = cc
stands-at k v (n ∷ older) id m h e =
    elim (eqb_tells id (next_id older)) [
      | inl p ↦
          let parts = and_parts (same_kind n.kind k) (nat_le v n.var) (rw p.0 at h) in
          let same : Some n ≡ Some m = rw p.0 at e in
          let own : n ≡ m = cc in
          rw (← own) (same_kind-exact n.kind k parts.0, leb-true v n.var parts.1)
      | inr p ↦ stands-at k v older id m (rw p.0 at h) (rw p.0 at e)
    ]

-- a terminal has no node
pub node_at-terminal : (ns : List Node) (id : ℕ) → id < 2 → node_at ns id ≡ None
node_at-terminal [] id lt = refl
node_at-terminal (n ∷ older) id lt =
    rw (ne_eqb id (length older + 2) (λ e. omega arith)) (node_at-terminal older id lt)

-- a node's id is below the next
pub node_at-below : (ns : List Node) (id : ℕ) (m : Node) → node_at ns id ≡ Some m → id < length ns + 2
node_at-below [] id m e = cc
node_at-below (n ∷ older) id m e =
    elim (eqb_tells id (next_id older)) [
      | inl p ↦ omega arith
      | inr p ↦ let ih = node_at-below older id m (rw p.0 at e) in omega arith
    ]

-- and past the terminals
pub node_at-past : (ns : List Node) (id : ℕ) (m : Node) → node_at ns id ≡ Some m → 2 ≤ id
node_at-past [] id m e = cc
node_at-past (n ∷ older) id m e =
    elim (eqb_tells id (next_id older)) [
      | inl p ↦ omega arith
      | inr p ↦ node_at-past older id m (rw p.0 at e)
    ]

-- each id between is a node
pub node_at-some : (ns : List Node) (id : ℕ) → 2 ≤ id → id < length ns + 2 → (m : Node) × (node_at ns id ≡ Some m)
node_at-some [] id past below = absurd (omega arith)
node_at-some (n ∷ older) id past below =
    elim (eqb_tells id (next_id older)) [
      | inl p ↦ (n, rw p.0 refl)
      | inr p ↦ let r = node_at-some older id past (omega (arith, p.1)) in (r.0, rw p.0 r.1)
    ]

-- a node stands at its variable
pub stands-node : (ns : List Node) (id : ℕ) (m : Node) → node_at ns id ≡ Some m → stands m.kind m.var ns id ≡ true
stands-node [] id m e = cc
stands-node (n ∷ older) id m e =
    elim (eqb_tells id (next_id older)) [
      | inl p ↦
          let same : Some n ≡ Some m = rw p.0 at e in
          let own : n ≡ m = cc in
          rw p.0 (rw own (and_from (same_kind m.kind m.kind) (nat_le m.var m.var) (same_kind-own m.kind) (le-leb m.var m.var (omega arith))))
      | inr p ↦ rw p.0 (stands-node older id m (rw p.0 at e))
    ]

-- and its level is its first literal
pub level-node : (ns : List Node) (id : ℕ) (m : Node) → node_at ns id ≡ Some m → level ns id ≡ first_literal m.kind m.var
level-node [] id m e = cc
level-node (n ∷ older) id m e =
    elim (eqb_tells id (next_id older)) [
      | inl p ↦
          let same : Some n ≡ Some m = rw p.0 at e in
          let own : n ≡ m = cc in
          rw p.0 (rw own refl)
      | inr p ↦ rw p.0 (level-node older id m (rw p.0 at e))
    ]

-- the level of a terminal is past all literals
pub level-terminal : (ns : List Node) (id : ℕ) → id < 2 → level ns id ≡ 2 ^ 33
level-terminal [] id lt = refl
level-terminal (n ∷ older) id lt =
    rw (ne_eqb id (length older + 2) (λ e. omega arith)) (level-terminal older id lt)

-- greater variables have greater literals
pub first_literal-grows : (k : Kind) (v w : ℕ) → v ≤ w → first_literal k v ≤ first_literal k w
first_literal-grows Bdd v w le = omega arith
first_literal-grows Zbdd v w le = le

-- the next variable has greater literals
pub first_literal-step : (k : Kind) (v : ℕ) → first_literal k v < first_literal k (v + 1)
first_literal-step Bdd v = omega arith
first_literal-step Zbdd v = omega arith

-- the literals of variables of 32 bits are below the level of a terminal
pub first_literal-bound : (k : Kind) (v : ℕ) → v < 2 ^ 32 → first_literal k v < 2 ^ 33
first_literal-bound Bdd v lt = omega arith
first_literal-bound Zbdd v lt = omega arith

-- an id's level is at least the first literal of each variable at which it stands
pub level-stands : (k : Kind) (v : ℕ) (ns : List Node) (id : ℕ) → v ≤ 2 ^ 32 → stands k v ns id ≡ true → first_literal k v ≤ level ns id
level-stands k v ns id bound h =
    elim (stands-cases k v ns id h) [
      | inl lt ↦ rw (level-terminal ns id lt) (top k v bound)
      | inr s ↦ rw (level-node ns id s.node s.at) (rw s.of_kind (first_literal-grows k v s.node.var s.from))
    ]
  where
    top : (k : Kind) (v : ℕ) → v ≤ 2 ^ 32 → first_literal k v ≤ 2 ^ 33
    top Bdd v le = omega arith
    top Zbdd v le = omega arith

-- a rank or literal number above an id's variable, or not
pub stands-split : (k : Kind) (v : ℕ) (ns : List Node) (id : ℕ) → stands k 0 ns id ≡ true → (stands k v ns id ≡ true) ⊎ ((m : Node) × (node_at ns id ≡ Some m) × (m.kind ≡ k) × (m.var < v))
stands-split k v ns id h =
    elim (stands-cases k 0 ns id h) [
      | inl lt ↦ inl (stands-terminal k v ns id lt)
      | inr s ↦ elim (leb_tells v s.node.var) [
        | inl p ↦ inl (rw (sym s.of_kind) (stands-weaker s.node.kind s.node.var v ns id p.1 (stands-node ns id s.node s.at)))
        | inr p ↦ inr (s.node, s.at, s.of_kind, p.1)
      ]
    ]
