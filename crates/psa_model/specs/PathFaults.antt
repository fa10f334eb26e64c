-- The fault of a model's paths: a path too long, or a path too many. This project's own limits.
use Rattle.std.specs.Prelude.{◌==◌, ◌-◌, ℕ, suc, List, [], ◌∷◌, ◌++◌, map, Option, None, Some, if◌then◌else◌}
use Rattle.psa_model.specs.declared.fault.FaultKind.{FaultKind}
use Rattle.psa_model.specs.declared.fault.FaultKind.TheVariants.{LongPath, TooManyPaths}
use Rattle.psa_model.specs.declared.fault.ModelFault.{ModelFault}
use Rattle.psa_model.specs.declared.limits.TheConstants.{MAX_PATHS}
use Rattle.psa_model.specs.declared.model.Initiating.{Initiating}
use Rattle.psa_model.specs.declared.model.Model.{Model}
use Rattle.psa_model.specs.Faults.{fault_at}
use Rattle.psa_model.specs.Paths.{Arrival, too_long, arrives, paths_of}

-- a fault at an initiating event
abbrev pub walk_fault_at : FaultKind → Initiating → ModelFault
walk_fault_at kind initiating = fault_at kind (Some (initiating.place, initiating.name))

-- the paths of all initiating events joined, of which the first event has this place, each with its event
abbrev pub joined_paths : Model → ℕ → List Initiating → List (Initiating × Arrival)
joined_paths model place [] = []
joined_paths model place (initiating ∷ more) =
    map (λ arrival. (initiating, arrival)) (paths_of model place initiating) ++ joined_paths model (suc place) more

-- a mark is a fault, and so is a path where no more may arrive
abbrev pub fault_or : ℕ → Initiating → Arrival → (ℕ → Option ModelFault) → Option ModelFault
fault_or left initiating too_long later = Some (walk_fault_at LongPath initiating)
fault_or left initiating (arrives a) later =
    if left == 0 then Some (walk_fault_at TooManyPaths initiating) else later (left - 1)

-- the first fault of paths of which `left` may arrive
abbrev pub first_fault : ℕ → List (Initiating × Arrival) → Option ModelFault
first_fault left [] = None
first_fault left (one ∷ more) = fault_or left one.0 one.1 (λ rest. first_fault rest more)

-- the fault of a model's paths: the first mark, or the first path past the limit, whichever stands first
abbrev pub walk_fault : Model → Option ModelFault
walk_fault model = first_fault MAX_PATHS (joined_paths model 0 model.initiatings)
