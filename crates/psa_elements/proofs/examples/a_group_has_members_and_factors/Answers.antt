use Rattle.std.proofs.Common.{refl}
use Rattle.psa_text.specs.declared.tree.Element.TheFolds.{fold-roll-Element}
use Rattle.psa_elements.specs.ShapeFaults.{ElementFaults, faults_layer}
use Rattle.psa_elements.specs.DraftReading.{ElementReading, reading_layer}
use Rattle.psa_elements.proofs.Forms.{out-event}
use Rattle.psa_elements.proofs.examples.a_group_has_members_and_factors.Goals as goal

pub returns-clause-shape : goal.returns-clause-shape
returns-clause-shape c = simp (fold-roll-Element ElementFaults (faults_layer 0)) refl

pub returns-clause-draft : goal.returns-clause-draft
returns-clause-draft c = simp (fold-roll-Element ElementReading reading_layer, out-event) refl
