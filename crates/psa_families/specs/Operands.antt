-- What some operations on families ask of their operands.
use Rattle.std.specs.Prelude.{◌≡◌, ℕ, Bool, true, List}
use Rattle.psa_logic.specs.Sets.{is_part}
use Rattle.psa_logic.specs.Products.{positive_product}
use Rattle.psa_nodes.specs.declared.node.Kind.TheVariants.{Zbdd}
use Rattle.psa_nodes.specs.declared.node.Node.{Node}
use Rattle.psa_nodes.specs.declared.node.TheConstants.MemoKey.{NO_LIMIT}
use Rattle.psa_nodes.specs.declared.node.Operation.TheVariants.{Without}
use Rattle.psa_nodes.specs.Readings.{has, stands}
use Rattle.psa_nodes.specs.Nodes.{AllFit}
use Rattle.psa_nodes.specs.Progress.{IsResult}

-- each set of the family is a product of events that occur
abbrev pub ArePositive : (List ℕ → Bool) → Type 0
ArePositive family = (set : List ℕ) → family set ≡ true
    → (ranks : List ℕ) × (set ≡ positive_product ranks)

-- a set of the left family that includes one of the right family is that one
abbrev pub AreApart : (List ℕ → Bool) → (List ℕ → Bool) → Type 0
AreApart left right =
    (set part : List ℕ) → left set ≡ true → right part ≡ true → is_part part set ≡ true → part ≡ set

-- the id is the difference in every table in which both operands stand so
abbrev pub IsTrivialDifference : ℕ → ℕ → ℕ → Type 0
IsTrivialDifference left right id =
    (ns : List Node) → AllFit ns → stands Zbdd 0 ns left ≡ true → stands Zbdd 0 ns right ≡ true
    → AreApart (has ns right) (has ns right) → IsResult Without NO_LIMIT ns left right id
