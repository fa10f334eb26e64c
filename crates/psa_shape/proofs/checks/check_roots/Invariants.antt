use Rattle.std.proofs.Common.{◌≡◌, drop, map}
use Rattle.psa_text.specs.declared.tree.Document.{Document}
use Rattle.psa_elements.specs.ShapeFaults.{shape_faults}
use Rattle.psa_shape.proofs.FaultLemmas.{roots_faults}
use Rattle.psa_shape.proofs.checks.check_roots.Given as goal

abbrev pub invariant-loop-file : goal.invariant-loop-file
invariant-loop-file l = roots_faults l.file (map (λ (d : Document). d.root) (drop l.file l.docs)) ≡ shape_faults
    (map (λ (d : Document). d.root) l.docs)
