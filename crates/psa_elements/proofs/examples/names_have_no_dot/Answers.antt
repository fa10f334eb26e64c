use Rattle.std.proofs.Common.{refl}
use Rattle.psa_text.specs.declared.tree.Element.TheFolds.{fold-roll-Element}
use Rattle.psa_elements.specs.ShapeFaults.{ElementFaults, faults_layer}
use Rattle.psa_elements.proofs.examples.names_have_no_dot.Goals as goal

pub returns-clause-definition : goal.returns-clause-definition
returns-clause-definition c = simp (fold-roll-Element ElementFaults (faults_layer 0)) refl

pub returns-clause-path : goal.returns-clause-path
returns-clause-path c = simp (fold-roll-Element ElementFaults (faults_layer 0)) refl

pub returns-clause-two_dots : goal.returns-clause-two_dots
returns-clause-two_dots c = simp (fold-roll-Element ElementFaults (faults_layer 0)) refl
