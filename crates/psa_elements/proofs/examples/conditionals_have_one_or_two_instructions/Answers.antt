use Rattle.std.proofs.Common.{refl}
use Rattle.psa_text.specs.declared.tree.Element.TheFolds.{fold-roll-Element}
use Rattle.psa_elements.specs.ShapeFaults.{ElementFaults, faults_layer}
use Rattle.psa_elements.proofs.examples.conditionals_have_one_or_two_instructions.Goals as goal

pub returns-clause-two : goal.returns-clause-two
returns-clause-two c = simp (fold-roll-Element ElementFaults (faults_layer 0)) refl

pub returns-clause-three : goal.returns-clause-three
returns-clause-three c = simp (fold-roll-Element ElementFaults (faults_layer 0)) refl
