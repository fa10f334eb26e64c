use Rattle.std.proofs.Common.{refl}
use Rattle.psa_text.specs.declared.tree.Element.TheFolds.{fold-roll-Element}
use Rattle.psa_elements.specs.ShapeFaults.{ElementFaults, faults_layer}
use Rattle.psa_elements.proofs.examples.stray_if_is_unknown.Goals as goal

pub returns : goal.returns
returns c = simp (fold-roll-Element ElementFaults (faults_layer 0)) refl
