use Rattle.psa_prep.specs.Paths.{Stepped, changes_of}
use Rattle.psa_prep.proofs.paths.lower_path.Given as goal

abbrev pub invariant-loop-place : goal.invariant-loop-place
invariant-loop-place l = Stepped l.task l.path l.place (changes_of l.fn.states) (changes_of l.states) l.fn.builder l.builder l.progress
