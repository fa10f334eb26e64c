use Rattle.std.proofs.Common.{refl}
use Rattle.psa_text.specs.declared.tree.Element.TheFolds.{fold-roll-Element}
use Rattle.psa_elements.specs.ShapeFaults.{ElementFaults, faults_layer}
use Rattle.psa_elements.proofs.examples.bounds_are_on_the_arguments.Goals as goal

pub returns-clause-two : goal.returns-clause-two
returns-clause-two c = simp (fold-roll-Element ElementFaults (faults_layer 0)) refl

pub returns-clause-three : goal.returns-clause-three
returns-clause-three c = simp (fold-roll-Element ElementFaults (faults_layer 0)) refl

pub returns-clause-child : goal.returns-clause-child
returns-clause-child c = simp (fold-roll-Element ElementFaults (faults_layer 0)) refl
