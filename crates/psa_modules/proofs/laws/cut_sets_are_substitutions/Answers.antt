use Rattle.psa_modules.proofs.SubstitutionLemmas.{comes, gives}
use Rattle.psa_modules.proofs.laws.cut_sets_are_substitutions.Goals as goal

pub returns : goal.returns
returns c = λ module_of truth_of quotient set none. (
  comes module_of truth_of quotient set none,
  λ from. gives module_of truth_of quotient set none from.0 from.1 from.2,
)
