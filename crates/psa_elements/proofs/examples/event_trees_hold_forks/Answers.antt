use Rattle.std.proofs.Common.{refl}
use Rattle.psa_text.specs.declared.tree.Element.TheFolds.{fold-roll-Element}
use Rattle.psa_elements.specs.ShapeFaults.{ElementFaults, faults_layer}
use Rattle.psa_elements.specs.DraftReading.{ElementReading, reading_layer}
use Rattle.psa_elements.proofs.examples.event_trees_hold_forks.Goals as goal

pub returns-clause-shape : goal.returns-clause-shape
returns-clause-shape c = simp (fold-roll-Element ElementFaults (faults_layer 0)) refl

pub returns-clause-draft : goal.returns-clause-draft
returns-clause-draft c = simp (fold-roll-Element ElementReading reading_layer) refl
