use Rattle.psa_model.proofs.UnitValues.{values-in}
use Rattle.psa_model.proofs.value_laws.values_lie_in_unit.Goals as goal

pub returns : goal.returns
returns c = values-in
