use Rattle.std.proofs.Common.{take}
use Rattle.psa_prep.specs.Paths.{MadeAt, paths_truth, changes_of}
use Rattle.psa_prep.proofs.paths.lower_paths.Given as goal

abbrev pub invariant-loop-path : goal.invariant-loop-path
invariant-loop-path l = MadeAt l.task (paths_truth l.task (take l.path-index l.paths)) (changes_of l.fn.states) (changes_of l.states) l.fn.builder l.builder l.pair
