use Rattle.psa_names.proofs.Computed.{components, event_of_other, path_without_tree}
use Rattle.psa_names.proofs.Modelled.{basic_names, gate_names}
use Rattle.psa_names.proofs.examples.components_are_private.Goals as goal

pub returns-clause-paths : goal.returns-clause-paths
returns-clause-paths c = components

pub returns-clause-without_tree : goal.returns-clause-without_tree
returns-clause-without_tree c = path_without_tree

pub returns-clause-other_component : goal.returns-clause-other_component
returns-clause-other_component c = event_of_other

pub returns-clause-gates : goal.returns-clause-gates
returns-clause-gates c = gate_names

pub returns-clause-basics : goal.returns-clause-basics
returns-clause-basics c = basic_names
