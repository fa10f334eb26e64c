-- No file before this place has the name.
use Rattle.std.proofs.Common.{◌≡◌, drop}
use Rattle.psa_ports.specs.Folder.{text_of}
use Rattle.psa_ports.proofs.memory_folder.place_of.Given as goal

abbrev pub invariant-loop-place : goal.invariant-loop-place
invariant-loop-place l = text_of l.name (drop l.place l.texts) ≡ text_of l.name l.texts
