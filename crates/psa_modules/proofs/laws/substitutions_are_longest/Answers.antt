use Rattle.std.proofs.Common.{◌==◌}
use Rattle.psa_logic.proofs.PartLemmas.{part-le}
use Rattle.psa_modules.specs.Modules.{part_of}
use Rattle.psa_modules.proofs.TestLemmas.{kept-part}
use Rattle.psa_modules.proofs.LengthLemmas.{modules-le}
use Rattle.psa_modules.proofs.laws.substitutions_are_longest.Goals as goal

pub returns-clause-quotient : goal.returns-clause-quotient
returns-clause-quotient c = modules-le

pub returns-clause-part : goal.returns-clause-part
returns-clause-part c = λ module_of m set. part-le (part_of module_of m set) set
    (kept-part (λ event. module_of event == m) set)
