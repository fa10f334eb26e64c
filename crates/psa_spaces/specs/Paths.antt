-- The paths of containers, by their numbers. (This project's own.)
use Rattle.std.specs.Prelude.{◌≡◌, ◌<◌, ◌≤◌, ◌^◌, ◌==◌, ◌&&◌, ℕ, Bool, List, [], ◌∷◌, ◌++◌, Some, length, get_or, slice_get}
use Rattle.std.specs.Str.{bytes_eq}
use Rattle.psa_spaces.specs.declared.containers.Step.{Step}

-- the names of a container, from the outside
abbrev pub Path : Type 0
Path = List (List ℕ)

abbrev pub path_at : List Path → ℕ → Path
path_at paths number = get_or paths number []

abbrev pub IsPath : List Path → ℕ → Path → Type 0
IsPath paths number path = slice_get paths number ≡ Some path

-- a container stands directly in another
pub record IsAround (paths : List Path) (number outer : ℕ) : Type 0 where
  pub name : List ℕ
  pub before : outer < number
  pub path : path_at paths number ≡ path_at paths outer ++ name ∷ []

-- The container of the number 0 is none; each container has one number; what is around a container has a number too.
pub record AreContainers (paths : List Path) : Type 0 where
  pub none : IsPath paths 0 []
  pub apart : (one other : ℕ) (path : Path) → IsPath paths one path → IsPath paths other path → one ≡ other
  pub nested : (number : ℕ) (path : Path) (name : List ℕ)
      → IsPath paths number (path ++ name ∷ []) → (outer : ℕ) × IsPath paths outer path

-- ---- as they are kept: each container by that around it and its last name

abbrev pub paths_from : List Path → List Step → List Path
paths_from paths [] = paths
paths_from paths (step ∷ steps) = paths_from (paths ++ (path_at paths step.within ++ step.name.now ∷ []) ∷ []) steps

abbrev pub paths_of : List Step → List Path
paths_of steps = paths_from ([] ∷ []) steps

abbrev pub same_step : Step → Step → Bool
same_step one other = one.within == other.within && bytes_eq one.name.now other.name.now

-- each step is in one before it, stands once, and has a number
pub record AreSteps (steps : List Step) : Type 0 where
  pub enclosed : (i : ℕ) (step : Step) → slice_get steps i ≡ Some step → step.within ≤ i
  pub apart : (i j : ℕ) (one other : Step) → slice_get steps i ≡ Some one → slice_get steps j ≡ Some other
      → one.within ≡ other.within → one.name.now ≡ other.name.now → i ≡ j
  pub few : length steps < 2 ^ 32
