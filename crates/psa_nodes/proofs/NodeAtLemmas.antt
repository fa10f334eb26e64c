-- All that is known of a node of a table.
use Rattle.std.proofs.Common.{◌≡◌, ℕ, ◌+◌, ◌<◌, true, ◌==◌, List, [], ◌∷◌, length, Some, if◌then◌else◌, refl, sym, ap, subst, ◌∙◌, inl, inr, eq-eqb}
use Rattle.std.proofs.lemmas.Bool.Decides.{eqb_tells}
use Rattle.psa_nodes.specs.declared.node.Node.{Node}
use Rattle.psa_nodes.specs.Readings.{next_id, node_at, truth, has, stands, joined, reading, node_reading}
use Rattle.psa_nodes.specs.Nodes.{Fits, AllFit, IsReduced}
use Rattle.psa_nodes.proofs.StandsLemmas.{stands-below, node_at-below}
use Rattle.psa_nodes.proofs.GrownLemmas.{grown-cons, stands-kept, reading-cons, node_reading-kept}

-- the children of the node at an id, in the whole table
pub record At (ns : List Node) (id : ℕ) (m : Node) : Type 0 where
  pub hi : stands m.kind (m.var + 1) ns m.hi.0 ≡ true
  pub lo : stands m.kind (m.var + 1) ns m.lo.0 ≡ true
  pub reduced : IsReduced m.kind m.hi.0 m.lo.0
  pub reads : reading ns id ≡ node_reading ns m

-- the newest node reads as a branch over the older
pub reading-newest : (n : Node) (older : List Node) → reading (n ∷ older) (next_id older) ≡ node_reading older n
reading-newest n older i = record {
  as_truth = λ s. ap (λ b. if b then (if s n.var then truth older n.hi.0 s else truth older n.lo.0 s) else truth older (next_id older) s) own i;
  as_family = λ set. ap (λ b. if b then joined n.var (has older n.hi.0) (has older n.lo.0) set else has older (next_id older) set) own i;
}
  where
    own : (next_id older == next_id older) ≡ true
    own = eq-eqb (next_id older) (next_id older) refl

at-cons : (n : Node) (older : List Node) (id : ℕ) (m : Node) → id < length older + 2 → At older id m → At (n ∷ older) id m
at-cons n older id m lt a = record {
  hi = stands-kept (grown-cons n older) m.kind (m.var + 1) m.hi.0 a.hi;
  lo = stands-kept (grown-cons n older) m.kind (m.var + 1) m.lo.0 a.lo;
  reduced = a.reduced;
  reads =
      reading-cons n older id lt ∙ a.reads ∙
      sym (node_reading-kept (grown-cons n older) m (stands-below m.kind (m.var + 1) older m.hi.0 a.hi) (stands-below m.kind (m.var + 1) older m.lo.0 a.lo));
}

at-newest : (n : Node) (older : List Node) → Fits older n → At (n ∷ older) (next_id older) n
at-newest n older f = record {
  hi = stands-kept (grown-cons n older) n.kind (n.var + 1) n.hi.0 f.hi;
  lo = stands-kept (grown-cons n older) n.kind (n.var + 1) n.lo.0 f.lo;
  reduced = f.reduced;
  reads =
      reading-newest n older ∙
      sym (node_reading-kept (grown-cons n older) n (stands-below n.kind (n.var + 1) older n.hi.0 f.hi) (stands-below n.kind (n.var + 1) older n.lo.0 f.lo));
}

-- what is known of the node at an id of a well-formed table
pub at : (ns : List Node) → AllFit ns → (id : ℕ) (m : Node) → node_at ns id ≡ Some m → At ns id m
at [] fit id m e = cc
at (n ∷ older) fit id m e =
    elim (eqb_tells id (next_id older)) [
      | inl p ↦
          let same : Some n ≡ Some m = rw p.0 at e in
          let own : n ≡ m = cc in
          rw p.1 (subst (λ (x : Node). At (n ∷ older) (next_id older) x) own (at-newest n older fit.0))
      | inr p ↦
          let e' = rw p.0 at e in
          at-cons n older id m (node_at-below older id m e') (at older fit.1 id m e')
    ]
