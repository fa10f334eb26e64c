use Rattle.std.proofs.Common.{◌<◌, ℕ, Ok, Err, take, ap, ◌∙◌, arith}
use Rattle.std.proofs.lemmas.Result.{err_from_is_err_and}
use Rattle.psa_model.specs.Paths.{Travelled, below, with_fork}
use Rattle.psa_walk.specs.Walks.{gather}
use Rattle.psa_walk.proofs.GatheredPathLemmas.{arrivals-none}
use Rattle.psa_walk.proofs.BranchStepLemmas.{branch-gathers, branch-stops, carried-back, fork-more, fork-stops, fork-left}
use Rattle.psa_walk.proofs.branches.+walking.Goals as goal

pub walk_branch-returns-then-depth-eq0-clause-gathered : goal.walk_branch-returns-then-depth-eq0-clause-gathered
walk_branch-returns-then-depth-eq0-clause-gathered t c =
    let a = c.args in
    ap (λ l. gather l a.gathered.now) (arrivals-none a.depth a.walk.now.model.now a.walk.now.initiating.0 a.left a.branch.now a.travelled.now c.if-depth-eq0.true)

pub walk_branch-returns-in_err-rest-clause-gathered : goal.walk_branch-returns-in_err-rest-clause-gathered
walk_branch-returns-in_err-rest-clause-gathered t c =
    let a = c.args in
    let p = err_from_is_err_and c.from_residual.result c.from_residual.ensures.1 in
    let some : 0 < a.depth = omega (arith, c.if-depth-eq0.false) in
    rw (p.1, p.2) (branch-stops a.depth a.walk.now.model.now a.walk.now.initiating.0 a.left a.branch.now a.travelled.now c.as_slice.result.now c.as_slice.ensures some
    c.carry_out_all.new.travelled a.gathered.now a.gathered.now c.in_err-rest.field-0.0 c.in_err-rest.ensures.carried)

pub walk_branch-returns-in_err-walk_end-clause-gathered : goal.walk_branch-returns-in_err-walk_end-clause-gathered
walk_branch-returns-in_err-walk_end-clause-gathered t c =
    let a = c.args in
    let p = err_from_is_err_and c.from_residual-in_err-walk_end.result c.from_residual-in_err-walk_end.ensures.1 in
    let some : 0 < a.depth = omega (arith, c.if-depth-eq0.false) in
    rw (p.1, p.2) (branch-gathers a.depth a.walk.now.model.now a.walk.now.initiating.0 a.left a.branch.now a.travelled.now c.as_slice.result.now c.as_slice.ensures some
    c.in_ok-rest.rest c.carry_out_all.new.travelled a.gathered.now c.walk_end.new.gathered (Err c.in_err-walk_end.field-0.0) c.in_ok-rest.ensures.carried c.in_err-walk_end.ensures.gathered)

pub walk_branch-returns-clause-gathered : goal.walk_branch-returns-clause-gathered
walk_branch-returns-clause-gathered t c =
    let a = c.args in
    let some : 0 < a.depth = omega (arith, c.if-depth-eq0.false) in
    branch-gathers a.depth a.walk.now.model.now a.walk.now.initiating.0 a.left a.branch.now a.travelled.now c.as_slice.result.now c.as_slice.ensures some
    c.in_ok-rest.rest c.carry_out_all.new.travelled a.gathered.now c.walk_end.new.gathered (Ok tt) c.in_ok-rest.ensures.carried c.in_ok-walk_end.ensures.gathered

pub walk_branch-returns-clause-back : goal.walk_branch-returns-clause-back
walk_branch-returns-clause-back t c =
    let a = c.args in
    c.back_to.ensures ∙ ap (λ (n : ℕ). record c.walk_end.new.travelled { steps = take n c.walk_end.new.travelled.steps }) c.len-steps.ensures
    ∙ carried-back a.left a.walk.now.model.now a.walk.now.initiating.0 c.as_slice.result.now a.travelled.now c.in_ok-rest.rest c.carry_out_all.new.travelled c.walk_end.new.travelled
    c.in_ok-rest.ensures.carried c.in_ok-walk_end.ensures.back

pub walk_fork-returns-in_err-walk_branch-clause-gathered : goal.walk_fork-returns-in_err-walk_branch-clause-gathered
walk_fork-returns-in_err-walk_branch-clause-gathered t c =
    let a = c.args in
    let p = err_from_is_err_and c.from_residual-in_err-walk_branch.result c.from_residual-in_err-walk_branch.ensures.1 in
    let taken = c.in_ok-take_fork.ensures ∙ ap (λ (w : Travelled). with_fork w a.event.now c.path-item.result) c.loop-path.invariant.back in
    rw (p.1, p.2) (fork-stops (below a.depth a.walk.now.model.now a.walk.now.initiating.0) a.left a.travelled.now a.event.now a.paths.now c.loop-path.path-index c.path-item.result
    c.loop-path-test.true c.path-item.is c.take_fork.new.self taken a.gathered.now c.loop-path.gathered c.loop-path.invariant.gathered c.walk_branch.new.gathered c.in_err-walk_branch.field-0.0 c.in_err-walk_branch.ensures.gathered)

pub walk_fork-loop-path-preserved : goal.walk_fork-loop-path-preserved
walk_fork-loop-path-preserved t c =
    let a = c.args in
    let taken = c.in_ok-take_fork.ensures ∙ ap (λ (w : Travelled). with_fork w a.event.now c.path-item.result) c.loop-path.invariant.back in
    record {
      gathered = fork-more (below a.depth a.walk.now.model.now a.walk.now.initiating.0) a.left a.travelled.now a.event.now a.paths.now c.loop-path.path-index c.path-item.result
          c.loop-path-test.true c.path-item.is c.take_fork.new.self taken a.gathered.now c.loop-path.gathered c.loop-path.invariant.gathered c.walk_branch.new.gathered c.in_ok-walk_branch.ensures.gathered;
      back = c.leave_fork.ensures ∙ fork-left a.travelled.now c.take_fork.new.self c.walk_branch.new.travelled a.event.now c.path-item.result taken c.in_ok-walk_branch.ensures.back;
    }

pub walk_sequence-returns-clause-back : goal.walk_sequence-returns-clause-back
walk_sequence-returns-clause-back t c =
    let a = c.args in
    c.back_to.ensures ∙ ap (λ (n : ℕ). record c.walk_link.new.travelled { steps = take n c.walk_link.new.travelled.steps }) c.len-steps.ensures
    ∙ carried-back a.left a.walk.now.model.now a.walk.now.initiating.0 c.as_slice.result.now a.travelled.now c.in_ok-rest.rest c.carry_out_all.new.travelled c.walk_link.new.travelled
    c.in_ok-rest.ensures.carried c.in_ok-walk_link.ensures.back
