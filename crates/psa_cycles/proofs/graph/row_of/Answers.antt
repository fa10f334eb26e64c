use Rattle.std.proofs.Common.{map, refl}
use Rattle.psa_names.specs.Outlines.{entry_of}
use Rattle.psa_cycles.specs.Graphs.{target_of}
use Rattle.psa_cycles.proofs.ReferenceRows.{steps-pushed}
use Rattle.psa_cycles.proofs.graph.row_of.Goals as goal

pub loop-place-preserved : goal.loop-place-preserved
loop-place-preserved c =
    steps-pushed (target_of (map entry_of c.args.definitions.now)) c.args.levels.now c.args.senses.now c.loop-place.place _ _ c.loop-place.row c.push_step.new.row c.requires c.loop-place-test.true refl c.loop-place.invariant c.in_ok-push_step.ensures
