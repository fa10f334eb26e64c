use Rattle.psa_logic.proofs.PartLemmas.{part-has, part-from_has, part-ascending}
use Rattle.psa_logic.proofs.laws.parts_are_subsets.Goals as goal

pub returns-clause-subsets : goal.returns-clause-subsets
returns-clause-subsets c = λ part set left right. (λ h x m. part-has part set x h m, λ each. part-from_has part set left right each)

pub returns-clause-sets : goal.returns-clause-sets
returns-clause-sets c = λ part set h k. part-ascending part set k h
