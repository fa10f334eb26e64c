-- At least so many of the arguments from a place on, for each count up to a bound.
use Rattle.std.specs.Prelude.{◌≡◌, ◌≤◌, ◌+◌, ℕ, zero, suc, Bool, true, false, List, [], ◌∷◌, ◌++◌, Some, length, drop, nat_le}
use Rattle.std.specs.List.{slice_get}
use Rattle.psa_model.specs.Formulas.{count_true}
use Rattle.psa_prep.specs.declared.builder.Builder.{Builder}
use Rattle.psa_prep.specs.declared.connectives.Operands.{Operands}
use Rattle.psa_prep.specs.declared.lowering.Context.{Context}
use Rattle.psa_prep.specs.declared.pairs.Pair.{Pair}
use Rattle.psa_prep.specs.declared.pairs.Signs.{Signs}
use Rattle.psa_prep.specs.Connectives.{truths}
use Rattle.psa_prep.specs.Lowering.{world_of}
use Rattle.psa_prep.specs.Nodes.{nodes_of}
use Rattle.psa_prep.specs.Pairs.{Reads, constant_pair}
use Rattle.psa_prep.specs.Places.{Grown}
use Rattle.psa_prep.specs.Sound.{IsSound}

-- at least so many of the arguments from a place on
abbrev pub counts : Context → Operands → ℕ → ℕ → (ℕ → Bool) → Bool
counts context operands place count s = nat_le count (count_true (truths context s (drop place operands.arguments.now)))

abbrev pub ReadsCount : Context → Operands → Signs → ℕ → Builder → ℕ → Pair → Type 0
ReadsCount context operands signs place builder count pair = Reads signs (counts context operands place count) (nodes_of builder) pair

-- whether a row of this size, with the arguments before the place, can still come to the last count
abbrev pub IsWanted : ℕ → ℕ → ℕ → Type 0
IsWanted size place count = size ≤ count + place + 1

-- The pair reads so where it is wanted.
pub record MakesCount (context : Context) (operands : Operands) (signs : Signs) (size place count : ℕ) (before now : Builder) (pair : Pair) : Type 0 where
  pub reads : IsWanted size place count → ReadsCount context operands signs place now count pair
  pub grown : Grown (nodes_of before) (nodes_of now)
  pub sound : IsSound (world_of context) now

-- the wanted pairs of a row read so, each for the count of its place
abbrev pub IsRow : Context → Operands → Signs → ℕ → ℕ → Builder → List Pair → Type 0
IsRow context operands signs size place builder row =
    (count : ℕ) (pair : Pair) → slice_get row count ≡ Some pair → IsWanted size place count → ReadsCount context operands signs place builder count pair

-- The first pairs of a row of this size are made.
pub record MakesRow (context : Context) (operands : Operands) (signs : Signs) (size place made : ℕ) (before now : Builder) (row : List Pair) : Type 0 where
  pub is_made : length row ≡ made
  pub row_reads : IsRow context operands signs size place now row
  pub grown : Grown (nodes_of before) (nodes_of now)
  pub sound : IsSound (world_of context) now

-- the row of no arguments
abbrev pub falses : ℕ → List Pair
falses zero = []
falses (suc n) = falses n ++ (constant_pair false ∷ [])

abbrev pub first_pairs : ℕ → List Pair
first_pairs bound = constant_pair true ∷ falses bound
