use Rattle.std.proofs.Common.{ap}
use Rattle.psa_prep.specs.declared.pairs.Pair.{Pair}
use Rattle.psa_prep.specs.declared.paths.Progress.{Progress}
use Rattle.psa_prep.specs.Paths.{changes_of}
use Rattle.psa_prep.proofs.PathLemmas.{stepped-start, stepped-then, path-end}
use Rattle.psa_prep.proofs.paths.lower_path.Goals as goal

pub loop-place-init : goal.loop-place-init
loop-place-init c = stepped-start c.args.task.now c.args.path.now (changes_of c.args.states.now) c.args.builder.now _ (ap (λ (p : Pair). let progress : Progress = record { pair = p; number = 0 } in progress) c.constant.ensures) c.requires.started

pub lower_step-requires-clause-so_far : goal.lower_step-requires-clause-so_far
lower_step-requires-clause-so_far c = c.loop-place.invariant.prepared

pub loop-place-preserved : goal.loop-place-preserved
loop-place-preserved c =
    stepped-then c.args.task.now c.args.path.now _ (changes_of c.args.states.now) (changes_of c.loop-place.states) _ c.args.builder.now c.loop-place.builder _ _ c.loop-place.invariant.set c.loop-place.invariant.grown c.in_ok-progress.ensures

pub returns : goal.returns
returns c = path-end c.args.task.now c.args.path.now c.loop-place.place (changes_of c.args.states.now) (changes_of c.loop-place.states) c.args.builder.now c.loop-place.builder c.loop-place.progress c.loop-place-test.false c.loop-place.invariant
