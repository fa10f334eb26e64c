-- What a walk answers of faults.
use Rattle.std.specs.Prelude.{◌≡◌, ◌++◌, ℕ, List, map, Some}
use Rattle.psa_model.specs.declared.fault.ModelFault.{ModelFault}
use Rattle.psa_model.specs.declared.model.Initiating.{Initiating}
use Rattle.psa_walk.specs.declared.listing.WalkError.{WalkError}
use Rattle.psa_walk.specs.declared.listing.WalkError.TheVariants.{Fault, Memory}
use Rattle.psa_model.specs.PathFaults.{first_fault}
use Rattle.psa_model.specs.Paths.{Arrival}

-- the fault that is answered; want of memory tells nothing
abbrev pub Tells : WalkError → (ModelFault → Type 0) → Type 0
Tells (Fault fault) P = P fault
Tells Memory P = Unit {0}

-- the paths of an initiating event
abbrev pub with_event : Initiating → List Arrival → List (Initiating × Arrival)
with_event initiating = map (λ arrival. (initiating, arrival))

-- after the paths of an initiating event `rest` more may arrive
abbrev pub GoesOn : ℕ → ℕ → Initiating → List Arrival → Type 0
GoesOn left rest initiating paths =
    (more : List (Initiating × Arrival)) → first_fault left (with_event initiating paths ++ more) ≡ first_fault rest more

-- one of them is the first fault, whatever follows
abbrev pub Fails : ℕ → Initiating → List Arrival → ModelFault → Type 0
Fails left initiating paths fault =
    (more : List (Initiating × Arrival)) → first_fault left (with_event initiating paths ++ more) ≡ Some fault
