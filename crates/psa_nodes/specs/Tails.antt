-- From where the nodes of an operation on families come (this project's own): the members of each new node
-- are tails of members of a source. A source is any relation on sets, so that it may also speak of a result
-- that is not made yet, or that a full table refused.
use Rattle.std.specs.Prelude.{◌≡◌, ℕ, Bool, true, List, [], ◌∷◌, nat_lt, ◌||◌, if◌then◌else◌}
use Rattle.psa_nodes.specs.declared.node.Kind.{Kind}
use Rattle.psa_nodes.specs.declared.node.Kind.TheVariants.{Zbdd}
use Rattle.psa_nodes.specs.Readings.{Reading}

-- what is left of an ascending list when its numbers below a variable are dropped
abbrev pub tail_from : ℕ → List ℕ → List ℕ
tail_from var [] = []
tail_from var (x ∷ xs) = if nat_lt x var then tail_from var xs else x ∷ xs

-- the set is the tail, at the variable, of a set of the source
pub record IsTailOf (Source : List ℕ → Type 0) (var : ℕ) (set : List ℕ) : Type 0 where
  pub whole : List ℕ
  pub member : Source whole
  pub tail : set ≡ tail_from var whole

-- a node of a family, of which each member is the tail, at the node's variable, of a set of the source
pub record AreTailsOf
    (Source : List ℕ → Type 0) (kind : Kind) (var : ℕ) (r : Reading) : Type 0 where
  pub of_zbdd : kind ≡ Zbdd
  pub tails : (set : List ℕ) → r.as_family set ≡ true → IsTailOf Source var set

-- the members of a family, as a source
abbrev pub IsMember : (List ℕ → Bool) → List ℕ → Type 0
IsMember family set = family set ≡ true

-- the sets of either family
abbrev pub either : (List ℕ → Bool) → (List ℕ → Bool) → List ℕ → Bool
either left right set = left set || right set
