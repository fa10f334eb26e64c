-- Families by their sides.
use Rattle.std.proofs.Common.{◌≡◌, ℕ, ◌+◌, ◌<◌, ◌≤◌, min, Bool, true, List, [], ◌∷◌, Option, None, Some, IfSome, IfNone, ◌^◌, refl, sym, ap, ap₂, ◌∙◌, inl, inr, arith}
use Rattle.std.proofs.lemmas.Bool.Decides.{eqb_tells}
use Rattle.std.proofs.lemmas.Bool.{false_from_ne_true}
use Rattle.psa_nodes.specs.declared.node.Kind.TheVariants.{Zbdd}
use Rattle.psa_nodes.specs.declared.node.Node.{Node}
use Rattle.psa_nodes.specs.declared.node.NodeId.{NodeId}
use Rattle.psa_nodes.specs.declared.node.TheConstants.{MAX_LITERAL_NUMBERS}
use Rattle.psa_nodes.specs.Readings.{Reading, node_at, has, joined, stands, level, first_literal}
use Rattle.psa_nodes.specs.Nodes.{AllFit, Grown, IsBounded}
use Rattle.psa_nodes.proofs.CallerLemmas.{at, bounded-at, stands-at, level-node, level-terminal, stands-node, stands-weaker, stands-terminal, stands-below, stands-kept, has-kept, level-kept, joined-own, has-zero}
use Rattle.psa_families.specs.declared.sides.Sides.{Sides}
use Rattle.psa_families.specs.Sides.{IsSplit, AreSides, IsLeast}
use Rattle.psa_nodes.proofs.CallerLemmas.{above-stands, above-head}
use Rattle.psa_families.proofs.JoinedLemmas.{low-joined}

-- a node is its children by its own variable
pub split-own : (ns : List Node) (id : ℕ) (m : Node) → AllFit ns → node_at ns id ≡ Some m → m.kind ≡ Zbdd → IsSplit ns m.var id m.hi.0 m.lo.0
split-own ns id m fit there kind =
    let a = at ns fit id m there in
    record { hi_stands = rw kind at a.hi; lo_stands = rw kind at a.lo; reads = λ set. ap (λ (r : Reading). r.as_family set) a.reads }

-- and the empty family and itself by a smaller one
pub split-later : (ns : List Node) (id var : ℕ) → AllFit ns → stands Zbdd (var + 1) ns id ≡ true → IsSplit ns var id 0 id
split-later ns id var fit st = record { hi_stands = stands-terminal Zbdd (var + 1) ns 0 (omega arith); lo_stands = st; reads = reads }
  where
    reads : (set : List ℕ) → has ns id set ≡ joined var (has ns 0) (has ns id) set
    reads [] = refl
    reads (y ∷ ys) = elim (eqb_tells y var) [
      | inl p ↦ rw p.0 (false_from_ne_true (has ns id (y ∷ ys)) (λ e. let lt : var < y = above-head var y ys (above-stands ns fit var id st (y ∷ ys) e) in omega (arith, lt, p.1)) ∙ sym (has-zero ns ys))
      | inr p ↦ rw p.0 refl
    ]

-- families of the same sides have the same sets
pub joined-same : (x : ℕ) (hi hi' lo lo' : List ℕ → Bool) → ((set : List ℕ) → hi set ≡ hi' set) → ((set : List ℕ) → lo set ≡ lo' set) → (set : List ℕ) → joined x hi lo set ≡ joined x hi' lo' set
joined-same x hi hi' lo lo' h l [] = l []
joined-same x hi hi' lo lo' h l (y ∷ ys) = elim (eqb_tells y x) [ inl p ↦ rw p.0 (h ys) | inr p ↦ rw p.0 (l (y ∷ ys)) ]

-- the sides stay the sides when nodes are added
pub split-kept : {before now : List Node} → Grown before now → (var id hi lo : ℕ) → stands Zbdd 0 before id ≡ true → IsSplit before var id hi lo → IsSplit now var id hi lo
split-kept {before} {now} g var id hi lo st p = record {
  hi_stands = stands-kept g Zbdd (var + 1) hi p.hi_stands;
  lo_stands = stands-kept g Zbdd (var + 1) lo p.lo_stands;
  reads = λ set.
      has-kept g id set (stands-below Zbdd 0 before id st) ∙ p.reads set
      ∙ joined-same var (has before hi) (has now hi) (has before lo) (has now lo)
      (λ s. sym (has-kept g hi s (stands-below Zbdd (var + 1) before hi p.hi_stands)))
      (λ s. sym (has-kept g lo s (stands-below Zbdd (var + 1) before lo p.lo_stands))) set;
}

-- those of two families too
pub sides-kept : {before now : List Node} → Grown before now → (left right : NodeId) (s : Sides) → AreSides before left right s → AreSides now left right s
sides-kept {before} g left right s a =
    let l = stands-weaker Zbdd s.var 0 before left.0 (omega arith) a.left_stands in
    let r = stands-weaker Zbdd s.var 0 before right.0 (omega arith) a.right_stands in
    record {
      of_left = split-kept g s.var left.0 s.left_hi.0 s.left_lo.0 l a.of_left;
      of_right = split-kept g s.var right.0 s.right_hi.0 s.right_lo.0 r a.of_right;
      left_stands = stands-kept g Zbdd s.var left.0 a.left_stands;
      right_stands = stands-kept g Zbdd s.var right.0 a.right_stands;
      least = a.least ∙ sym (ap₂ min (level-kept g left.0 (stands-below Zbdd 0 before left.0 l)) (level-kept g right.0 (stands-below Zbdd 0 before right.0 r)));
      bound = a.bound;
    }

-- a set of the low side is one of the family
pub low-member : (ns : List Node) → AllFit ns → (var id hi lo : ℕ) → IsSplit ns var id hi lo → (set : List ℕ) → has ns lo set ≡ true → has ns id set ≡ true
low-member ns fit var id hi lo p set m = p.reads set ∙ low-joined var (has ns hi) (has ns lo) (above-stands ns fit var lo p.lo_stands) set m

-- a set of the high side is one of the family with the variable
pub high-member : (ns : List Node) (var id hi lo : ℕ) → IsSplit ns var id hi lo → (set : List ℕ) → has ns hi set ≡ true → has ns id (var ∷ set) ≡ true
high-member ns var id hi lo p set m = p.reads (var ∷ set) ∙ joined-own var (has ns hi) (has ns lo) set ∙ m

-- the variable of a node that is there, else the end of all literals
abbrev place_of : Option Node → ℕ
place_of None = 2 ^ 33
place_of (Some n) = n.var

module _ (ns : List Node) (id : ℕ) (st : stands Zbdd 0 ns id ≡ true) where
  place-level : (node : Option Node) → IfSome node (λ n. node_at ns id ≡ Some n) → IfNone node (id < 2) → level ns id ≡ place_of node
  place-level None there lt = level-terminal ns id lt
  place-level (Some n) there lt = level-node ns id n there ∙ ap (λ k. first_literal k n.var) (stands-at Zbdd 0 ns id n st there).0

  place-stands : (node : Option Node) → IfSome node (λ n. node_at ns id ≡ Some n) → IfNone node (id < 2) → (v : ℕ) → v ≤ place_of node → stands Zbdd v ns id ≡ true
  place-stands None there lt v le = stands-terminal Zbdd v ns id lt
  place-stands (Some n) there lt v le =
      rw (stands-at Zbdd 0 ns id n st there).0 at (stands-weaker n.kind n.var v ns id le (stands-node ns id n there))

least-place : (left right : Option Node) (v : ℕ) → v < MAX_LITERAL_NUMBERS → IsLeast left right v → v ≡ min (place_of left) (place_of right)
least-place None None v lt h = absurd h
least-place None (Some n) v lt h = omega (arith, lt, h)
least-place (Some n) None v lt h = omega (arith, lt, h)
least-place (Some n) (Some m) v lt h = h

-- the least variable of two nodes of a bounded table is below the bound
module _ (ns : List Node) (bounded : IsBounded ns) (left right : ℕ) (sl : stands Zbdd 0 ns left ≡ true) (sr : stands Zbdd 0 ns right ≡ true) where
  -- whichever of the two is there
  pub least-bounded : (first second : Option Node) → IfSome first (λ n. node_at ns left ≡ Some n) → IfSome second (λ n. node_at ns right ≡ Some n) → (v : ℕ) → IsLeast first second v → v < MAX_LITERAL_NUMBERS
  least-bounded None None f s v h = absurd h
  least-bounded None (Some n) f s v h = let own : n.var < MAX_LITERAL_NUMBERS = bounded-at Zbdd ns bounded right n sr s in omega (arith, own, h)
  least-bounded (Some n) None f s v h = let own : n.var < MAX_LITERAL_NUMBERS = bounded-at Zbdd ns bounded left n sl f in omega (arith, own, h)
  least-bounded (Some n) (Some m) f s v h = let own : n.var < MAX_LITERAL_NUMBERS = bounded-at Zbdd ns bounded left n sl f in omega (arith, own, h)

-- two families are their sides by the least of their variables
pub sides-of : (ns : List Node) (left right : NodeId) (s : Sides) (first second : Option Node) → stands Zbdd 0 ns left.0 ≡ true → stands Zbdd 0 ns right.0 ≡ true
    → IfSome first (λ n. node_at ns left.0 ≡ Some n) → IfNone first (left.0 < 2) → IfSome second (λ n. node_at ns right.0 ≡ Some n) → IfNone second (right.0 < 2)
    → s.var < MAX_LITERAL_NUMBERS → IsLeast first second s.var → IsSplit ns s.var left.0 s.left_hi.0 s.left_lo.0 → IsSplit ns s.var right.0 s.right_hi.0 s.right_lo.0 → AreSides ns left right s
sides-of ns left right s first second sl sr fs fn ss sn lt least l r =
    let e = least-place first second s.var lt least in record {
      of_left = l;
      of_right = r;
      left_stands = place-stands ns left.0 sl first fs fn s.var (omega (arith, e));
      right_stands = place-stands ns right.0 sr second ss sn s.var (omega (arith, e));
      least = e ∙ sym (ap₂ min (place-level ns left.0 sl first fs fn) (place-level ns right.0 sr second ss sn));
      bound = lt;
    }
