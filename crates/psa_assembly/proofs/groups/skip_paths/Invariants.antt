use Rattle.std.proofs.Common.{ℕ, take}
use Rattle.std.specs.List.{flat_map}
use Rattle.psa_assembly.specs.Groups.{path_references}
use Rattle.psa_bodies.specs.Reading.{Reads}
use Rattle.psa_assembly.proofs.groups.skip_paths.Given as goal

abbrev pub invariant-loop-member : goal.invariant-loop-member
invariant-loop-member l = Reads {A = ℕ} l.numbers l.initial.cursor l.cursor (flat_map path_references (take l.member-index l.members)) (λ entries from. 0) 0
