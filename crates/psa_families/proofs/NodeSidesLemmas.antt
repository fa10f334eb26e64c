-- The sides of a family's node in a table that grows, for the recursions over one family.
use Rattle.std.proofs.Common.{◌≡◌, ℕ, ◌+◌, ◌^◌, ◌<◌, ◌≤◌, true, List, ◌∷◌, Some, sym, ap, ◌∙◌, arith}
use Rattle.psa_nodes.specs.declared.node.Kind.TheVariants.{Zbdd}
use Rattle.psa_nodes.specs.declared.node.Node.{Node}
use Rattle.psa_nodes.specs.declared.node.NodeId.{NodeId}
use Rattle.psa_nodes.specs.declared.node.MemoKey.{MemoKey}
use Rattle.psa_nodes.specs.declared.node.Operation.{Operation}
use Rattle.psa_nodes.specs.declared.node.TheConstants.{MAX_LITERAL_NUMBERS}
use Rattle.psa_nodes.specs.declared.node.TheConstants.MemoKey.{NO_RIGHT, NO_LIMIT}
use Rattle.psa_nodes.specs.Readings.{node_at, has, stands, level, first_literal}
use Rattle.psa_nodes.specs.Nodes.{AllFit, Grown}
use Rattle.psa_nodes.specs.Table.{Table}
use Rattle.psa_nodes.specs.Progress.{key_level}
use Rattle.psa_nodes.proofs.CallerLemmas.{stands-at, stands-below, stands-weaker, stands-terminal, level-node, level-stands, level-kept, node_at-kept, has-kept}
use Rattle.psa_families.specs.Sides.{IsSplit}
use Rattle.psa_families.proofs.SidesLemmas.{split-own, low-member, high-member}

-- what the result of an operation on one family is remembered by
abbrev pub family_key : Operation → NodeId → MemoKey
family_key operation root = record { operation = operation; left = root; right = NO_RIGHT; limit = NO_LIMIT }

module _ (old : Table) (root : NodeId) (n : Node) (st : stands Zbdd 0 old.nodes root.0 ≡ true) (there : node_at old.nodes root.0 ≡ Some n) (bound : n.var < MAX_LITERAL_NUMBERS) where
  kind : n.kind ≡ Zbdd
  kind = (stands-at Zbdd 0 old.nodes root.0 n st there).0

  -- where the family stands
  pub old_level : n.var ≡ level old.nodes root.0
  old_level = sym (level-node old.nodes root.0 n there ∙ ap (λ k. first_literal k n.var) kind)

  -- its variable is not before its level
  pub low_least : level old.nodes root.0 ≤ n.var
  low_least = let e = old_level in omega (arith, e)

  -- in a table that grew
  module _ (now : Table) (g : Grown old.nodes now.nodes) (fit : AllFit now.nodes) where
    -- its sides
    pub sides : IsSplit now.nodes n.var root.0 n.hi.0 n.lo.0
    sides = split-own now.nodes root.0 n fit (node_at-kept g root.0 n there) kind

    -- the family is as it was
    pub back : (set : List ℕ) → has now.nodes root.0 set ≡ true → has old.nodes root.0 set ≡ true
    back set m = sym (has-kept g root.0 set (stands-below Zbdd 0 old.nodes root.0 st)) ∙ m

    -- the sets of its high side are members with the variable
    pub in-high : (set : List ℕ) → has now.nodes n.hi.0 set ≡ true → has old.nodes root.0 (n.var ∷ set) ≡ true
    in-high set m = back (n.var ∷ set) (high-member now.nodes n.var root.0 n.hi.0 n.lo.0 sides set m)

    -- and those of its low side are members
    pub in-low : (set : List ℕ) → has now.nodes n.lo.0 set ≡ true → has old.nodes root.0 set ≡ true
    in-low set m = back set (low-member now.nodes fit n.var root.0 n.hi.0 n.lo.0 sides set m)

    -- the high side's level is past the variable
    pub past_hi : n.var + 1 ≤ level now.nodes n.hi.0
    past_hi = level-stands Zbdd (n.var + 1) now.nodes n.hi.0 (omega (arith, bound)) sides.hi_stands

    -- and the low side's
    pub past_lo : n.var + 1 ≤ level now.nodes n.lo.0
    past_lo = level-stands Zbdd (n.var + 1) now.nodes n.lo.0 (omega (arith, bound)) sides.lo_stands

    -- both may be operands
    pub hi_zero : stands Zbdd 0 now.nodes n.hi.0 ≡ true
    hi_zero = stands-weaker Zbdd (n.var + 1) 0 now.nodes n.hi.0 (omega arith) sides.hi_stands

    -- the low one too
    pub lo_zero : stands Zbdd 0 now.nodes n.lo.0 ≡ true
    lo_zero = stands-weaker Zbdd (n.var + 1) 0 now.nodes n.lo.0 (omega arith) sides.lo_stands

    kept_level : level now.nodes root.0 ≡ n.var
    kept_level = level-kept g root.0 (stands-below Zbdd 0 old.nodes root.0 st) ∙ sym old_level

    -- the key stands at the variable
    pub its_level : (operation : Operation) → key_level now.nodes (family_key operation root) ≤ n.var
    its_level operation = let e = kept_level in omega (arith, e)

    -- and not before it
    pub key_past : (operation : Operation) → n.var ≤ key_level now.nodes (family_key operation root)
    key_past operation =
        let e = kept_level in
        let z : 2 ^ 32 ≤ level now.nodes 0 = level-stands Zbdd (2 ^ 32) now.nodes 0 (omega arith) (stands-terminal Zbdd (2 ^ 32) now.nodes 0 (omega arith)) in
        omega (arith, e, z, bound)
