use Rattle.std.proofs.Common.{take}
use Rattle.psa_lookup.specs.Numbers.{IsNumbered}
use Rattle.psa_lookup.proofs.numbers.number_containers.Given as goal

abbrev pub invariant-loop-definition : goal.invariant-loop-definition
invariant-loop-definition l = IsNumbered l.containers l.numbers (take l.definition-index l.definitions)
