use Rattle.std.proofs.Common.{◌≤◌, length}
use Rattle.std.specs.Prelude.{All}
use Rattle.psa_model.specs.declared.limits.TheConstants.{MAX_FILES}
use Rattle.psa_names_tests.specs.Sizes.{IsSmall}
use Rattle.psa_names_tests.proofs.documents.documents.Given as goal

abbrev pub invariant-loop-file : goal.invariant-loop-file
invariant-loop-file l = (length l.docs ≤ MAX_FILES) × All IsSmall l.docs
