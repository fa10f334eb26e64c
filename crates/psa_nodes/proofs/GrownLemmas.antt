-- What stays when nodes are added.
use Rattle.std.proofs.Common.{◌≡◌, ℕ, ◌+◌, ◌<◌, ◌≤◌, Bool, true, ◌==◌, List, [], ◌∷◌, ◌++◌, length, Option, None, Some, refl, sym, ap, ap₂, ◌∙◌, arith, ne_eqb, length-append, append_assoc}
use Rattle.psa_nodes.specs.declared.node.Kind.{Kind}
use Rattle.psa_nodes.specs.declared.node.Node.{Node}
use Rattle.psa_nodes.specs.Readings.{next_id, node_at, truth, has, stands, level, Reading, reading, branch, node_reading}
use Rattle.psa_nodes.specs.Nodes.{Grown}
use Rattle.psa_nodes.proofs.StandsLemmas.{stands-below, node_at-below}

module _ (n : Node) (older : List Node) (id : ℕ) (lt : id < length older + 2) where
  not_new : (id == next_id older) ≡ Rattle.std.proofs.Common.false
  not_new = ne_eqb id (length older + 2) (λ e. omega arith)

  -- an older id stands as before beside one more node
  pub stands-cons : (k : Kind) (v : ℕ) → stands k v (n ∷ older) id ≡ stands k v older id
  stands-cons k v = rw not_new refl

  -- and reads as the same truth
  pub truth-cons : (s : ℕ → Bool) → truth (n ∷ older) id s ≡ truth older id s
  truth-cons s = rw not_new refl

  -- and as the same family
  pub has-cons : (set : List ℕ) → has (n ∷ older) id set ≡ has older id set
  has-cons set = rw not_new refl

  -- and has the same node
  pub node_at-cons : node_at (n ∷ older) id ≡ node_at older id
  node_at-cons = rw not_new refl

  -- and the same level
  pub level-cons : level (n ∷ older) id ≡ level older id
  level-cons = rw not_new refl

  -- and the same reading
  pub reading-cons : reading (n ∷ older) id ≡ reading older id
  reading-cons i = record { as_truth = λ s. truth-cons s i; as_family = λ set. has-cons set i }

-- an id of the older nodes is one of the newer
pub below-append : (more ns : List Node) (id : ℕ) → id < length ns + 2 → id < length (more ++ ns) + 2
below-append more ns id lt = omega (arith, length-append more ns)

-- the same beside several more
pub stands-append : (more ns : List Node) (id : ℕ) → id < length ns + 2 → (k : Kind) (v : ℕ) → stands k v (more ++ ns) id ≡ stands k v ns id
stands-append [] ns id lt k v = refl
stands-append (n ∷ more) ns id lt k v =
    stands-cons n (more ++ ns) id (below-append more ns id lt) k v ∙ stands-append more ns id lt k v

-- of its node
pub node_at-append : (more ns : List Node) (id : ℕ) → id < length ns + 2 → node_at (more ++ ns) id ≡ node_at ns id
node_at-append [] ns id lt = refl
node_at-append (n ∷ more) ns id lt =
    node_at-cons n (more ++ ns) id (below-append more ns id lt) ∙ node_at-append more ns id lt

-- of its level
pub level-append : (more ns : List Node) (id : ℕ) → id < length ns + 2 → level (more ++ ns) id ≡ level ns id
level-append [] ns id lt = refl
level-append (n ∷ more) ns id lt =
    level-cons n (more ++ ns) id (below-append more ns id lt) ∙ level-append more ns id lt

-- of its reading
pub reading-append : (more ns : List Node) (id : ℕ) → id < length ns + 2 → reading (more ++ ns) id ≡ reading ns id
reading-append [] ns id lt = refl
reading-append (n ∷ more) ns id lt =
    reading-cons n (more ++ ns) id (below-append more ns id lt) ∙ reading-append more ns id lt

-- the same over `Grown`
module _ {before now : List Node} (g : Grown before now) where
  -- an id that is below the next still is
  pub below-kept : (id : ℕ) → id < length before + 2 → id < length now + 2
  below-kept id lt = rw g.1 (below-append g.0 before id lt)

  -- the number of nodes does not fall
  pub length-kept : length before ≤ length now
  length-kept = rw g.1 (omega (arith, length-append g.0 before))

  -- what stood still stands
  pub stands-kept : (k : Kind) (v id : ℕ) → stands k v before id ≡ true → stands k v now id ≡ true
  stands-kept k v id h = rw g.1 (stands-append g.0 before id (stands-below k v before id h) k v ∙ h)

  -- an id keeps its node
  pub node_at-kept : (id : ℕ) (m : Node) → node_at before id ≡ Some m → node_at now id ≡ Some m
  node_at-kept id m e = rw g.1 (node_at-append g.0 before id (node_at-below before id m e) ∙ e)

  -- and its level
  pub level-kept : (id : ℕ) → id < length before + 2 → level now id ≡ level before id
  level-kept id lt = rw g.1 (level-append g.0 before id lt)

  -- and its reading
  pub reading-kept : (id : ℕ) → id < length before + 2 → reading now id ≡ reading before id
  reading-kept id lt = rw g.1 (reading-append g.0 before id lt)

  -- and its truth
  pub truth-kept : (id : ℕ) (s : ℕ → Bool) → id < length before + 2 → truth now id s ≡ truth before id s
  truth-kept id s lt = ap (λ (r : Reading). r.as_truth s) (reading-kept id lt)

  -- and its family
  pub has-kept : (id : ℕ) (set : List ℕ) → id < length before + 2 → has now id set ≡ has before id set
  has-kept id set lt = ap (λ (r : Reading). r.as_family set) (reading-kept id lt)

  -- what a triple reads as stays
  pub node_reading-kept : (n : Node) → n.hi.0 < length before + 2 → n.lo.0 < length before + 2 → node_reading now n ≡ node_reading before n
  node_reading-kept n hi lo = ap₂ (branch n.var) (reading-kept n.hi.0 hi) (reading-kept n.lo.0 lo)

-- no node was added
pub grown-own : (ns : List Node) → Grown ns ns
grown-own ns = ([], refl)

-- one node was added
pub grown-cons : (n : Node) (ns : List Node) → Grown ns (n ∷ ns)
grown-cons n ns = (n ∷ [], refl)

-- nodes were added in two steps
pub grown-then : {first second third : List Node} → Grown first second → Grown second third → Grown first third
grown-then {first} {second} {third} a b =
    (b.0 ++ a.0, b.1 ∙ ap (λ ns. b.0 ++ ns) a.1 ∙ sym (append_assoc b.0 a.0 first))
