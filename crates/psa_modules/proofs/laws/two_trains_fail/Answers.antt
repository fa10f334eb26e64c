use Rattle.std.proofs.Common.{subst, sym}
use Rattle.psa_logic.specs.Products.{IsMinimalCutSet}
use Rattle.psa_modules.specs.TwoTrains.{both_fail}
use Rattle.psa_modules.proofs.TrainLemmas.{trains-only, trains-minimal, four-only, four-minimal, puts-only, puts-each}
use Rattle.psa_modules.proofs.laws.two_trains_fail.Goals as goal

pub returns-clause-trains : goal.returns-clause-trains
returns-clause-trains c = λ modules. (
  trains-only modules,
  λ same. subst (λ xs. IsMinimalCutSet both_fail xs)
      (sym same) trains-minimal,
)

pub returns-clause-puts : goal.returns-clause-puts
returns-clause-puts c = λ set. (puts-only set, puts-each set)

pub returns-clause-cut_sets : goal.returns-clause-cut_sets
returns-clause-cut_sets c = λ set. (four-only set, four-minimal set)
