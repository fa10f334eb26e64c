-- A full table has more readings of the targets' origin than its limit allows: those of its nodes, and that of the
-- refused triple.
use Rattle.std.proofs.Common.{◌≡◌, ◌≤◌, ◌<◌, ◌+◌, ◌⊎◌, inl, inr, ℕ, zero, suc, ◌==◌, true, Option, List, [], ◌∷◌, ◌++◌, Some, length, refl, sym, ap, subst, ◌∙◌, arith, append_assoc, append-nil, eq-eqb}
use Rattle.std.proofs.lemmas.Bool.Decides.{eqb_tells}
use Rattle.std.specs.Prelude.{All, ⊤}
use Rattle.std.specs.List.{slice_get}
use Rattle.std.proofs.lemmas.List.Elements.{All-nil, All-cons}
use Rattle.psa_nodes.specs.declared.node.Kind.{Kind}
use Rattle.psa_nodes.specs.declared.node.Node.{Node}
use Rattle.psa_nodes.specs.Nodes.{AllFit, Fits, Grown}
use Rattle.psa_nodes.specs.Readings.{Reading, IsSameReading, next_id, node_at, node_reading, reading, stands}
use Rattle.psa_nodes.proofs.CallerLemmas.{grown-own, node_at-below, node_at-kept, reading-kept, stands-node, stands-terminal, stands-weaker}
use Rattle.psa_nodes.proofs.GrownLemmas.{reading-cons}
use Rattle.psa_nodes.proofs.NodeAtLemmas.{reading-newest}
use Rattle.psa_nodes.proofs.CanonicalLemmas.{only, same-back}
use Rattle.psa_model.specs.declared.targets.Target.{Target}
use Rattle.psa_model.specs.Report.{Analysis}
use Rattle.psa_outcome.specs.Origins.{AreDifferentReadings, AtMost, HasOrigin, IsDifferentReading, IsOfNode, NodeReading, OriginIn}

module _ (whole : List Node) (fit : AllFit whole) where
  -- no node reads as a terminal
  no-terminal : (k : Kind) (v id terminal : ℕ) → terminal < 2 → 2 ≤ id → stands k 0 whole id ≡ true → IsSameReading k (reading whole id) (reading [] terminal) → ⊥
  no-terminal k v id terminal low high stands_at same =
      let e : terminal ≡ id = only k whole fit id stands_at terminal (stands-terminal k 0 whole terminal low)
      (same-back k (reading whole id) (reading whole terminal)
      (subst (λ (r : Reading). IsSameReading k (reading whole id) r) (sym (reading-kept (whole, sym (append-nil whole)) terminal low)) same)) in
      omega arith

  -- the newest of some first nodes stands at its id in the whole
  newest-at : (n : Node) (older : List Node) → Grown (n ∷ older) whole → node_at whole (next_id older) ≡ Some n
  newest-at n older grown = node_at-kept grown (next_id older) n (rw (eq-eqb (next_id older) (next_id older) refl) refl)

  newest-stands : (n : Node) (older : List Node) → Grown (n ∷ older) whole → stands n.kind 0 whole (next_id older) ≡ true
  newest-stands n older grown =
      stands-weaker n.kind n.var 0 whole (next_id older) (omega arith) (stands-node whole (next_id older) n (newest-at n older grown))

  older-grown : (n : Node) (older : List Node) → Grown (n ∷ older) whole → Grown older whole
  older-grown n older (more, is) = (more ++ n ∷ [], is ∙ sym (append_assoc more (n ∷ []) older))

  -- what the newest of some first nodes reads as
  own-reading : (n : Node) (older : List Node) → Grown (n ∷ older) whole → NodeReading
  own-reading n older grown = record {
    kind = n.kind;
    var = n.var;
    reads = reading whole (next_id older);
    of_node = (
      no-terminal n.kind n.var (next_id older) 0 (omega arith) (omega arith) (newest-stands n older grown),
      no-terminal n.kind n.var (next_id older) 1 (omega arith) (omega arith) (newest-stands n older grown),
    );
  }

  -- what the first nodes read as
  readings : (ns : List Node) → Grown ns whole → List NodeReading
  readings [] grown = []
  readings (n ∷ older) grown = own-reading n older grown ∷ readings older (older-grown n older grown)

  readings-length : (ns : List Node) (grown : Grown ns whole) → length (readings ns grown) ≡ length ns
  unfolding readings own-reading
  readings-length [] grown = refl
  readings-length (n ∷ older) grown = ap suc (readings-length older (older-grown n older grown))

  -- a later node reads otherwise than each of the first
  later-differs : (one : NodeReading) (id : ℕ) → stands one.kind 0 whole id ≡ true → one.reads ≡ reading whole id → (ns : List Node) (grown : Grown ns whole) → length ns + 2 ≤ id → All (IsDifferentReading one) (readings ns grown)
  unfolding readings own-reading
  later-differs one id stands_at reads [] grown past = All-nil (IsDifferentReading one)
  later-differs one id stands_at reads (n ∷ older) grown past =
      All-cons (IsDifferentReading one) (own-reading n older grown) (readings older (older-grown n older grown)) differs
      (later-differs one id stands_at reads older (older-grown n older grown) (omega arith))
    where
      differs : one.kind ≡ n.kind → IsSameReading one.kind one.reads (reading whole (next_id older)) → ⊥
      differs kinds same =
          let e : next_id older ≡ id = only one.kind whole fit id stands_at (next_id older)
          (subst (λ k. stands k 0 whole (next_id older) ≡ true) (sym kinds) (newest-stands n older grown))
          (same-back one.kind (reading whole id) (reading whole (next_id older))
          (subst (λ (r : Reading). IsSameReading one.kind r (reading whole (next_id older))) reads same)) in
          omega arith

  all-differ : (ns : List Node) (grown : Grown ns whole) → AreDifferentReadings (readings ns grown)
  unfolding readings own-reading
  all-differ [] grown = tt
  all-differ (n ∷ older) grown = (
    later-differs (own-reading n older grown) (next_id older) (newest-stands n older grown) refl older (older-grown n older grown) (omega arith),
    all-differ older (older-grown n older grown),
  )

  module _ (analysis : Analysis) (targets : List Target) (from : (id : ℕ) (n : Node) → node_at whole id ≡ Some n → OriginIn analysis targets n.kind n.var (reading whole id)) where
    all-from : (ns : List Node) (grown : Grown ns whole) → All (HasOrigin analysis targets) (readings ns grown)
    unfolding readings own-reading
    all-from [] grown = All-nil (HasOrigin analysis targets)
    all-from (n ∷ older) grown =
        All-cons (HasOrigin analysis targets) (own-reading n older grown) (readings older (older-grown n older grown))
        (from (next_id older) n (newest-at n older grown))
        (all-from older (older-grown n older grown))

    -- no more nodes stand than there are readings of this origin
    pub within-limit : (limit : ℕ) → AtMost limit analysis targets → length whole ≤ limit
    within-limit limit most =
        subst (λ n. n ≤ limit) (readings-length whole (grown-own whole))
        (most (readings whole (grown-own whole)) (all-from whole (grown-own whole)) (all-differ whole (grown-own whole)))

-- ---- a full table

-- an origin in one of some targets is one in more
pub origin-more : (analysis : Analysis) (targets more : List Target) (n : Node) (r : Reading) → OriginIn analysis targets n.kind n.var r → OriginIn analysis (targets ++ more) n.kind n.var r
origin-more analysis targets more n r from =
    (from.0, from.1, get-first targets more from.0 from.1 from.2, from.3)
  where
    get-first : (before more : List Target) (place : ℕ) (target : Target) → slice_get before place ≡ Some target → slice_get (before ++ more) place ≡ Some target
    get-first [] more place target is = absurd (cc)
    get-first (one ∷ before) more zero target is = is
    get-first (one ∷ before) more (suc place) target is = get-first before more place target is

module _ (analysis : Analysis) (targets : List Target) (nodes : List Node) (triple : Node) (fit : AllFit nodes) (fits : Fits nodes triple) (from : (id : ℕ) (n : Node) → node_at nodes id ≡ Some n → OriginIn analysis targets n.kind n.var (reading nodes id)) (its : OriginIn analysis targets triple.kind triple.var (node_reading nodes triple)) where
  from-with : (id : ℕ) (n : Node) → node_at (triple ∷ nodes) id ≡ Some n → OriginIn analysis targets n.kind n.var (reading (triple ∷ nodes) id)
  from-with id n is =
      elim (eqb_tells id (next_id nodes)) [
        | inl p ↦
            let same : Some triple ≡ Some n = rw p.0 at is in
            let own : triple ≡ n = cc in
            rw (← own) (subst (λ i. OriginIn analysis targets triple.kind triple.var (reading (triple ∷ nodes) i)) (sym p.1)
            (subst (λ (r : Reading). OriginIn analysis targets triple.kind triple.var r) (sym (reading-newest triple nodes)) its))
        | inr p ↦
            let old : node_at nodes id ≡ Some n = rw p.0 at is in
            subst (λ (r : Reading). OriginIn analysis targets n.kind n.var r)
            (sym (reading-cons triple nodes id (node_at-below nodes id n old))) (from id n old)
      ]

  -- a table that refused a triple of this origin has as many nodes as there are readings of it, or more
  pub refused-limit : AtMost (length nodes) analysis targets → ⊥
  refused-limit most =
      let e : suc (length nodes) ≤ length nodes = within-limit (triple ∷ nodes) (fits, fit) analysis targets from-with (length nodes) most in
      omega arith
