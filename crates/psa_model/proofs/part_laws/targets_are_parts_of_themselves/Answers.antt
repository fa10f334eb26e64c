use Rattle.psa_model.proofs.PartForms.{whole-part, opposite-part}
use Rattle.psa_model.proofs.part_laws.targets_are_parts_of_themselves.Goals as goal

pub returns-clause-whole : goal.returns-clause-whole
returns-clause-whole c = whole-part

pub returns-clause-opposite : goal.returns-clause-opposite
returns-clause-opposite c = opposite-part
