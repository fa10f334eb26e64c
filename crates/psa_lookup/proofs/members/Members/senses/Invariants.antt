use Rattle.std.proofs.Common.{◌≡◌, map, take}
use Rattle.psa_lookup.specs.Members.{sense_of_key}
use Rattle.psa_lookup.proofs.members.Members.senses.Given as goal

abbrev pub invariant-loop-key : goal.invariant-loop-key
invariant-loop-key l = l.senses ≡ map sense_of_key (take l.key-index l.key-items)
