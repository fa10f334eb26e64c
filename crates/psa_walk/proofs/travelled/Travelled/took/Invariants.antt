use Rattle.std.proofs.Common.{◌≡◌, false, take}
use Rattle.psa_model.specs.Tests.{took}
use Rattle.psa_walk.specs.TakenForks.{forks_of}
use Rattle.psa_walk.proofs.travelled.Travelled.took.Given as goal

abbrev pub invariant-loop-place : goal.invariant-loop-place
invariant-loop-place l = took l.name l.state false (forks_of (take l.place l.forks)) ≡ took l.name l.state false (forks_of l.forks)
