use Rattle.psa_names.specs.Outlines.{entries_of}
use Rattle.psa_assembly.specs.Assembling.{AreAssembled}
use Rattle.psa_assembly.proofs.assembly.Assembly.add_definitions.Given as goal

abbrev pub invariant-loop-place : goal.invariant-loop-place
invariant-loop-place l = AreAssembled (entries_of l.context.draft.now) l.place l.self l.lists.items
