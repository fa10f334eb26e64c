use Rattle.psa_names.proofs.Computed.{group, short_group}
use Rattle.psa_names.proofs.Modelled as modelled
use Rattle.psa_names.proofs.examples.a_group_defines_its_members.Goals as goal

pub returns-clause-short : goal.returns-clause-short
returns-clause-short c = short_group

pub returns-clause-whole : goal.returns-clause-whole
returns-clause-whole c = group

pub returns-clause-model : goal.returns-clause-model
returns-clause-model c = modelled.group
