-- The product of two families (Minato) by their sides, and from where its nodes come (this project's own).
use Rattle.std.specs.Prelude.{◌≡◌, ◌⊎◌, ◌↔◌, ℕ, ◌+◌, ◌<◌, Bool, true, false, List, ◌∷◌, if◌then◌else◌}
use Rattle.psa_logic.specs.Sets.{occurs}
use Rattle.psa_logic.specs.Products.{is_positive}
use Rattle.psa_nodes.specs.declared.node.Kind.TheVariants.{Zbdd}
use Rattle.psa_nodes.specs.declared.node.Node.{Node}
use Rattle.psa_nodes.specs.declared.node.TheConstants.{MAX_LITERAL_NUMBERS}
use Rattle.psa_nodes.specs.declared.node.Operation.TheVariants.{Product}
use Rattle.psa_nodes.specs.Families.{IsProductMember}
use Rattle.psa_nodes.specs.Nodes.{AllFit}
use Rattle.psa_nodes.specs.Progress.{IsResult}
use Rattle.psa_nodes.specs.Readings.{has, joined, stands}
use Rattle.psa_families.specs.declared.sides.Sides.{Sides}

-- a member of one of two families, or of their product within a limit
abbrev pub IsProductSource : (List ℕ → Bool) → (List ℕ → Bool) → ℕ → List ℕ → Type 0
IsProductSource left right limit set =
    (left set ≡ true) ⊎ ((right set ≡ true) ⊎ IsProductMember left right limit set)

-- how much a literal counts: those of events that occur count
abbrev pub weight : ℕ → ℕ
weight x = if is_positive x then 1 else 0

-- the id is the product in every table in which both operands stand, for every limit
abbrev pub IsTrivialProduct : ℕ → ℕ → ℕ → Type 0
IsTrivialProduct left right id =
    (limit : ℕ) (ns : List Node) → AllFit ns → stands Zbdd 0 ns left ≡ true
    → stands Zbdd 0 ns right ≡ true → IsResult Product limit ns left right id

-- The members of the family that go with x: where x is the literal of an event that occurs, those without the
-- opposite literal, which is the next number.
abbrev pub AreClear : ℕ → (List ℕ → Bool) → (List ℕ → Bool) → Type 0
AreClear x family clear =
    (set : List ℕ) → (clear set ≡ true)
    ↔ ((family set ≡ true) × (is_positive x ≡ true → occurs set (x + 1) ≡ false))

-- an id of such members, which stands past the variable
pub record IsClear (ns : List Node) (var id clear : ℕ) : Type 0 where
  pub clear_stands : stands Zbdd (var + 1) ns clear ≡ true
  pub are : AreClear var (has ns id) (has ns clear)

-- four sides stand past their variable
pub record SidesStand (ns : List Node) (s : Sides) : Type 0 where
  pub bound : s.var < MAX_LITERAL_NUMBERS
  pub left_hi : stands Zbdd (s.var + 1) ns s.left_hi.0 ≡ true
  pub left_lo : stands Zbdd (s.var + 1) ns s.left_lo.0 ≡ true
  pub right_hi : stands Zbdd (s.var + 1) ns s.right_hi.0 ≡ true
  pub right_lo : stands Zbdd (s.var + 1) ns s.right_lo.0 ≡ true

-- what goes with the variable of four sides
pub record AreClearSides (ns : List Node) (s c : Sides) : Type 0 where
  pub same_var : c.var ≡ s.var
  pub left_hi : IsClear ns s.var s.left_hi.0 c.left_hi.0
  pub left_lo : IsClear ns s.var s.left_lo.0 c.left_lo.0
  pub right_hi : IsClear ns s.var s.right_hi.0 c.right_hi.0
  pub right_lo : IsClear ns s.var s.right_lo.0 c.right_lo.0

-- the families of two pairs of sides
abbrev pub left_family : List Node → Sides → List ℕ → Bool
left_family ns s = joined s.var (has ns s.left_hi.0) (has ns s.left_lo.0)

abbrev pub right_family : List Node → Sides → List ℕ → Bool
right_family ns s = joined s.var (has ns s.right_hi.0) (has ns s.right_lo.0)

-- the side with the variable of the product of two families, in a table that may have grown
pub record IsHighSide (before now : List Node) (s : Sides) (limit id : ℕ) : Type 0 where
  pub stands_at : stands Zbdd (s.var + 1) now id ≡ true
  pub computes : (set : List ℕ) → (has now id set ≡ true)
      ↔ IsProductMember (left_family before s) (right_family before s) limit (s.var ∷ set)
