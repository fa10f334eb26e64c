-- How the forks taken are kept.
use Rattle.std.specs.Prelude.{List, map}
use Rattle.psa_walk.specs.declared.travelled.Taken.{Taken}
use Rattle.psa_model.specs.Tests.{Fork}

-- the forks by names and states
abbrev pub forks_of : List Taken → List Fork
forks_of = map (λ taken. record { name = taken.name.now; state = taken.state.now })
