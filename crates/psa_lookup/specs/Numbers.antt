-- The numbers of the containers of definitions. (This project's own.)
use Rattle.std.specs.Prelude.{◌≡◌, ℕ, List, Some, length, slice_get}
use Rattle.psa_model.specs.declared.draft.DraftDefinition.{DraftDefinition}
use Rattle.psa_spaces.specs.Paths.{Path, IsPath, AreContainers}

-- each definition has the number of its container
pub record IsNumbered (paths : List Path) (numbers : List ℕ) (definitions : List DraftDefinition) : Type 0 where
  pub containers : AreContainers paths
  pub all : length numbers ≡ length definitions
  pub each : (place : ℕ) (one : DraftDefinition) → slice_get definitions place ≡ Some one
      → (number : ℕ) × (slice_get numbers place ≡ Some number) × IsPath paths number one.container
