-- Targets one after another: the nodes have their origin in them, and the products of each stay in the table.
use Rattle.std.proofs.Common.{◌≡◌, ◌⊎◌, inl, inr, ℕ, zero, suc, true, List, [], ◌∷◌, ◌++◌, Some, length, refl, sym, subst}
use Rattle.std.specs.Prelude.{◌↔◌, All}
use Rattle.std.specs.List.{slice_get}
use Rattle.std.proofs.lemmas.List.Elements.{All-weaker, All-push}
use Rattle.psa_nodes.specs.declared.node.Kind.TheVariants as node
use Rattle.psa_nodes.specs.declared.node.Node.{Node}
use Rattle.psa_nodes.specs.Nodes.{Grown}
use Rattle.psa_nodes.specs.Progress.{Progress, IsFrom}
use Rattle.psa_nodes.specs.Readings.{Reading, reading, node_at}
use Rattle.psa_nodes.specs.Table.{Table}
use Rattle.psa_nodes.proofs.CallerLemmas.{stands-below, node_at-below, stands-kept, reading-kept}
use Rattle.psa_model.specs.declared.targets.Target.{Target}
use Rattle.psa_model.specs.Report.{Analysis, IsProductOf}
use Rattle.psa_outcome.specs.Origins.{AllFrom, Origin, OriginIn}
use Rattle.psa_outcome.specs.Runs.{HasProducts}

-- ---- the place of a target in a list

-- an element of the first list stands in both
get-first : (before more : List Target) (place : ℕ) (target : Target) → slice_get before place ≡ Some target → slice_get (before ++ more) place ≡ Some target
get-first [] more place target is = absurd (cc)
get-first (one ∷ before) more zero target is = is
get-first (one ∷ before) more (suc place) target is = get-first before more place target is

-- the first of the second list stands behind the first
get-next : (before : List Target) (target : Target) (more : List Target) → slice_get (before ++ target ∷ more) (length before) ≡ Some target
get-next [] target more = refl
get-next (one ∷ before) target more = get-next before target more

-- ---- the origin of nodes

-- an origin in one of some targets is one in more
origin-more : (analysis : Analysis) (targets more : List Target) (n : Node) (r : Reading) → OriginIn analysis targets n.kind n.var r → OriginIn analysis (targets ++ more) n.kind n.var r
origin-more analysis targets more n r from =
    (from.0, from.1, get-first targets more from.0 from.1 from.2, from.3)

module _ (analysis : Analysis) (done : List Target) (target : Target) (before now : Table) (p : Progress (Origin analysis target) 0 before now) where
  -- after a target's section the nodes have their origin in the targets up to it
  pub nodes-after : AllFrom analysis done before → AllFrom analysis (done ++ target ∷ []) now
  nodes-after from id n is = of (p.added id n is)
    where
      of : (node_at before.nodes id ≡ Some n) ⊎ IsFrom (Origin analysis target) 0 n (reading now.nodes id) → OriginIn analysis (done ++ target ∷ []) n.kind n.var (reading now.nodes id)
      of (inl old) =
          origin-more analysis done (target ∷ []) n (reading now.nodes id)
          (subst (λ r. OriginIn analysis done n.kind n.var r)
          (sym (reading-kept p.nodes id (node_at-below before.nodes id n old)))
          (from id n old))
      of (inr new) = (length done, target, get-next done target [], new.origin)

-- ---- products

-- the node of a target's products stays that
products-kept : (analysis : Analysis) (before now : Table) → Grown before.nodes now.nodes → (target : Target) → HasProducts analysis before target → HasProducts analysis now target
products-kept analysis before now grown target (id, stands_at, reads) =
    (id, stands-kept grown node.Zbdd 0 id stands_at, λ product. subst (λ (r : Reading). (r.as_family product ≡ true) ↔ IsProductOf analysis target product) (sym (reading-kept grown id (stands-below node.Zbdd 0 before.nodes id stands_at))) (reads product))

-- with those of one more target
pub products-after : (analysis : Analysis) (before now : Table) → Grown before.nodes now.nodes → (done : List Target) (target : Target) → All (HasProducts analysis before) done → HasProducts analysis now target → All (HasProducts analysis now) (done ++ target ∷ [])
products-after analysis before now grown done target all one =
    All-push (HasProducts analysis now) done target
    (All-weaker (HasProducts analysis before) (HasProducts analysis now) (products-kept analysis before now grown) done all) one
