use Rattle.std.proofs.Common.{◌≡◌, take}
use Rattle.std.specs.List.{flat_map}
use Rattle.psa_model.specs.Expansion.{events_of_valued}
use Rattle.psa_ccf.proofs.expansion.expand.Given as goal

abbrev pub invariant-loop-valued : goal.invariant-loop-valued
invariant-loop-valued l = l.events ≡ flat_map (events_of_valued l.fn.model l.on) (take l.valued-index l.valued-items)
