use Rattle.std.proofs.Common.{List, false, subst, sym}
use Rattle.psa_prep.specs.declared.pairs.Signs.{Signs}
use Rattle.psa_prep.specs.Sound.{JoinsPairs}
use Rattle.psa_model.specs.declared.targets.PathStep.{PathStep}
use Rattle.psa_prep.specs.Paths.{IsPath, MadeAt, path_truth, changes_of}
use Rattle.psa_prep.proofs.PathLemmas.{paths-start, paths-more, paths-end, path-of}
use Rattle.psa_prep.proofs.paths.lower_paths.Goals as goal

pub loop-path-init : goal.loop-path-init
loop-path-init c = rw c.constant-pair.ensures (paths-start c.args.task.now c.args.paths.now (changes_of c.args.states.now) c.args.builder.now c.requires.started)

pub lower_path-requires-clause-path : goal.lower_path-requires-clause-path
lower_path-requires-clause-path c =
    subst (λ (steps : List PathStep). IsPath c.args.task.now steps) (sym c.as_slice.ensures)
    (path-of c.args.task.now c.args.paths.now c.loop-path.path-index c.path-item.result c.requires.paths c.loop-path-test.true c.path-item.is)

pub lower_path-requires-clause-started : goal.lower_path-requires-clause-started
lower_path-requires-clause-started c = c.loop-path.invariant.started

pub loop-path-preserved : goal.loop-path-preserved
loop-path-preserved c =
    paths-more c.args.task.now c.args.paths.now c.loop-path.path-index c.path-item.result (changes_of c.args.states.now) (changes_of c.loop-path.states) (changes_of c.lower_path.new.states) c.args.builder.now c.loop-path.builder c.lower_path.new.builder c.join_pair.new.builder c.loop-path.pair c.in_ok-one.one c.in_ok-pair.pair
    c.requires.paths c.loop-path-test.true c.path-item.is c.loop-path.invariant
    (subst (λ (steps : List PathStep). MadeAt c.args.task.now (path_truth c.args.task.now steps) (changes_of c.loop-path.states) (changes_of c.lower_path.new.states) c.loop-path.builder c.lower_path.new.builder c.in_ok-one.one) c.as_slice.ensures c.in_ok-one.ensures)
    (subst (λ (some : Signs). JoinsPairs some false c.loop-path.pair c.in_ok-one.one c.lower_path.new.builder c.join_pair.new.builder c.in_ok-pair.pair) c.yes.ensures c.in_ok-pair.ensures)

pub returns : goal.returns
returns c = paths-end c.args.task.now c.args.paths.now c.loop-path.path-index (changes_of c.args.states.now) (changes_of c.loop-path.states) c.args.builder.now c.loop-path.builder c.loop-path.pair c.loop-path-test.false c.loop-path.invariant
