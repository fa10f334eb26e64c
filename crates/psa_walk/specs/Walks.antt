-- What a walk has gathered so far, and what its answers say of the lists of paths.
use Rattle.std.specs.Prelude.{⊤, ◌≡◌, ◌==◌, ◌-◌, ℕ, List, [], ◌∷◌, ◌++◌, Option, None, Some, Result, Ok, Err, if◌then◌else◌}
use Rattle.psa_model.specs.Paths.{Arrived, Travelled, Carried, Arrival, too_long, arrives}
use Rattle.psa_walk.specs.declared.walk.Stop.{Stop}
use Rattle.psa_walk.specs.declared.walk.Stop.TheVariants as stop

-- how many more paths may arrive, and those that did
pub record GatheredPaths : Type 0 where
  pub left : ℕ
  pub arrived : List Arrived

-- instructions were carried out as they should, or one too many would have been
abbrev pub Carries : Option Carried → Result ℕ Stop → Travelled → Type 0
Carries outcome (Ok left) now = outcome ≡ Some (record { left = left; along = now })
Carries outcome (Err stop.LongPath) now = outcome ≡ None
Carries outcome (Err stop.TooManyPaths) now = ⊥
Carries outcome (Err stop.Memory) now = Unit {0}

-- what is gathered after these paths, or why the walk stops at one of them
abbrev pub gather : List Arrival → GatheredPaths → Result GatheredPaths Stop
gather [] gathered = Ok gathered
gather (too_long ∷ more) gathered = Err stop.LongPath
gather (arrives a ∷ more) gathered =
    if gathered.left == 0 then Err stop.TooManyPaths
    else gather more (record { left = gathered.left - 1; arrived = gathered.arrived ++ a ∷ [] })

-- the walk gathered these paths, or stopped where it should
abbrev pub Gathers : List Arrival → GatheredPaths → Result ⊤ Stop → GatheredPaths → Type 0
Gathers arrivals before (Ok done) now = gather arrivals before ≡ Ok now
Gathers arrivals before (Err stop.LongPath) now = gather arrivals before ≡ Err stop.LongPath
Gathers arrivals before (Err stop.TooManyPaths) now = gather arrivals before ≡ Err stop.TooManyPaths
Gathers arrivals before (Err stop.Memory) now = Unit {0}
