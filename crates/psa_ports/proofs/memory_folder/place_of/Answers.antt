-- The file that has the name is the first that has it.
use Rattle.std.proofs.Common.{rules}
use Rattle.psa_ports.proofs.FilePlaceLemmas.{text_of-file}
use Rattle.psa_ports.proofs.memory_folder.place_of.Goals as goal

pub returns-then-eq : goal.returns-then-eq
returns-then-eq c = text_of-file c.args.name.now c.args.texts.now c.loop-place.place c.index-texts-place.result (search rules) c.index-texts-place.is (search rules) c.loop-place.invariant
