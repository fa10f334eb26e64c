use Rattle.psa_prep.specs.Lowering.{world_of}
use Rattle.psa_prep.specs.Sound.{Made}
use Rattle.psa_prep.proofs.EventLemmas.{some_of}
use Rattle.psa_prep.proofs.events.lower_basic.Given as goal

abbrev pub invariant-loop-place : goal.invariant-loop-place
invariant-loop-place l = Made (world_of l.context) l.signs (some_of (world_of l.context) l.events l.place) l.fn.builder l.builder l.pair
