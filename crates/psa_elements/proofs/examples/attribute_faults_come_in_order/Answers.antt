use Rattle.std.proofs.Common.{refl}
use Rattle.psa_text.specs.declared.tree.Element.TheFolds.{fold-roll-Element}
use Rattle.psa_elements.specs.ShapeFaults.{ElementFaults, faults_layer}
use Rattle.psa_elements.proofs.examples.attribute_faults_come_in_order.Goals as goal

pub returns-clause-repeated : goal.returns-clause-repeated
returns-clause-repeated c = simp (fold-roll-Element ElementFaults (faults_layer 0)) refl

pub returns-clause-missing : goal.returns-clause-missing
returns-clause-missing c = simp (fold-roll-Element ElementFaults (faults_layer 0)) refl
