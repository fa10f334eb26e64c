use Rattle.std.proofs.Common.{ℕ, take}
use Rattle.psa_spaces.specs.Paths.{AreContainers, IsPath, Path}
use Rattle.psa_lookup.proofs.numbers.enter_all.Given as goal

abbrev pub invariant-loop-name : goal.invariant-loop-name
invariant-loop-name l = record {
  containers : AreContainers l.containers;
  entered : IsPath l.containers l.number (take l.name-index l.names);
  kept : (number : ℕ) (path : Path) → IsPath l.fn.containers number path → IsPath l.containers number path;
}
