use Rattle.std.proofs.Common.{◌≡◌, map, take}
use Rattle.psa_names.specs.Outlines.{entry_of}
use Rattle.psa_cycles.specs.Graphs.{steps, target_of}
use Rattle.psa_cycles.proofs.graph.row_of.Given as goal

abbrev pub invariant-loop-place : goal.invariant-loop-place
invariant-loop-place l = l.row ≡ steps (take l.place l.levels) (map (target_of (map entry_of l.definitions)) (take l.place l.senses))
