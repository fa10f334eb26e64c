use Rattle.std.proofs.Common.{subst, sym}
use Rattle.psa_logic.specs.Products.{IsMinimalCutSet}
use Rattle.psa_modules.proofs.LoneLemmas.{seen-outside, outside-same, lone-minimal, lone-only, minimal-inside}
use Rattle.psa_modules.proofs.laws.lone_events_are_modules.Goals as goal

pub returns-clause-seen : goal.returns-clause-seen
returns-clause-seen c = seen-outside

pub returns-clause-outside : goal.returns-clause-outside
returns-clause-outside c = outside-same

pub returns-clause-lone : goal.returns-clause-lone
returns-clause-lone c = λ event set. (
  lone-only event set,
  λ same. subst (λ xs. IsMinimalCutSet (λ s. s event) xs)
      (sym same) (lone-minimal event),
)

pub returns-clause-sees : goal.returns-clause-sees
returns-clause-sees c = minimal-inside
