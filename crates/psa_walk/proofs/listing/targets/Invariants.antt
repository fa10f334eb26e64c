use Rattle.std.proofs.Common.{◌≡◌, ◌++◌, drop}
use Rattle.psa_model.specs.PathFaults.{joined_paths, first_fault, walk_fault}
use Rattle.psa_model.specs.PathTargets.{targets_of, all_sequences}
use Rattle.psa_walk.proofs.listing.targets.Given as goal

abbrev pub invariant-loop-place : goal.invariant-loop-place
invariant-loop-place l = record {
  listed : l.targets ++ all_sequences l.model l.place (drop l.place l.model.initiatings) ≡ targets_of l.model;
  faults : first_fault l.left (joined_paths l.model l.place (drop l.place l.model.initiatings)) ≡ walk_fault l.model;
}
