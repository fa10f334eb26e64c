use Rattle.psa_whatif.specs.Edits.{with_item, with_number}
use Rattle.psa_whatif.proofs.EditLemmas.{value-truth}
use Rattle.psa_whatif.proofs.laws.probabilities_change_no_truth.Goals as goal

pub returns : goal.returns
returns c expanded target id number =
    value-truth expanded.model (with_item (with_number number) expanded.model.basics id) expanded.events target
