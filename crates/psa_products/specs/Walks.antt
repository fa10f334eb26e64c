-- A walk through a family.
use Rattle.std.specs.Prelude.{◌≡◌, ◌≤◌, ◌+◌, ◌-◌, ℕ, true, List, [], ◌∷◌, length, map}
use Rattle.psa_nodes.specs.declared.node.Kind.TheVariants.{Zbdd}
use Rattle.psa_nodes.specs.declared.node.Node.{Node}
use Rattle.psa_nodes.specs.Readings.{stands}
use Rattle.psa_products.specs.Members.{coming}
use Rattle.psa_products.specs.Products.{literal_of}
use Rattle.psa_products.specs.declared.walk.Walk.{Walk}

-- the members that the walk has not given yet
abbrev pub to_come : Walk → List (List ℕ)
to_come w = coming w.table.now.nodes w.root.0 w.limit w.taken.items w.at.0 w.left

-- each node's low side stands
abbrev pub AreTaken : List Node → List Node → Type 0
AreTaken ns [] = Unit {0}
AreTaken ns (n ∷ taken) = (stands Zbdd 0 ns n.lo.0 ≡ true) × AreTaken ns taken

pub record IsWalk (w : Walk) : Type 0 where
  pub root : stands Zbdd 0 w.table.now.nodes w.root.0 ≡ true
  pub at : stands Zbdd 0 w.table.now.nodes w.at.0 ≡ true
  pub taken : AreTaken w.table.now.nodes w.taken.items
  pub product : w.product.items ≡ map (λ (n : Node). literal_of n.var) w.taken.items
  pub size : length w.taken.items + w.left ≤ w.limit
  pub limit : w.limit ≤ 32

-- how often the walk can go up at most, if it does not go down
abbrev pub steps_up : Walk → ℕ
steps_up w = length w.taken.items + (w.limit - (length w.taken.items + w.left))
