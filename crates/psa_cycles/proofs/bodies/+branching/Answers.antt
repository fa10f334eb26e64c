use Rattle.std.proofs.Common.{arith, ◌<◌, ◌∙◌, ap, sym, refl}
use Rattle.psa_names.specs.Outlines.{branch_outlines, joined, plain}
use Rattle.psa_cycles.specs.Levels.{with_outlines}
use Rattle.psa_cycles.proofs.AddedElements.{on-ok, pushed-none, pushed-more, pushed-all}
use Rattle.psa_cycles.proofs.BodyForms.{branch-none, branch-inside-instructions, branch-inside-end, branch-pushed, fork-inside, fork-pushed, sequence-pushed, named-pushed, path-inside, path-pushed}
use Rattle.psa_cycles.proofs.bodies.+branching.Goals as goal

pub push_branch-returns-then-depth-eq0 : goal.push_branch-returns-then-depth-eq0
push_branch-returns-then-depth-eq0 t c =
    pushed-none c.args.around c.args.levels.now ∙ ap (λ os. with_outlines c.args.around (joined os) c.args.levels.now) (sym (branch-none c.args.depth c.args.branch.now c.if-depth-eq0.true))

pub push_branch-push_instructions-requires : goal.push_branch-push_instructions-requires
push_branch-push_instructions-requires t c =
    let some : 0 < c.args.depth = omega (arith, c.if-depth-eq0.false) in
    let inside = branch-inside-instructions c.args.depth c.args.branch.now c.as_slice.result.now some c.as_slice.ensures in
    omega arith

pub push_branch-push_end-requires : goal.push_branch-push_end-requires
push_branch-push_end-requires t c =
    let some : 0 < c.args.depth = omega (arith, c.if-depth-eq0.false) in
    let inside = branch-inside-end c.args.depth c.args.branch.now some in
    (omega arith, omega arith)

pub push_branch-returns : goal.push_branch-returns
push_branch-returns t c =
    let some : 0 < c.args.depth = omega (arith, c.if-depth-eq0.false) in
    on-ok c.push_end.result _ _ (λ h. branch-pushed c.args.around c.args.depth c.args.branch.now c.as_slice.result.now c.args.levels.now _ _ some c.as_slice.ensures c.in_ok-push_instructions.ensures h) c.push_end.ensures

pub push_end-push_paths-requires : goal.push_end-push_paths-requires
push_end-push_paths-requires t c =
    let inside = fork-inside c.args.depth c.args.end.now _ c.in-Fork.paths c.as_slice.result.now c.in-Fork.is c.as_slice.ensures in
    (omega arith, omega arith)

pub push_end-returns-in-Fork : goal.push_end-returns-in-Fork
push_end-returns-in-Fork t c =
    on-ok c.push_paths.result _ _ (λ h. fork-pushed c.args.around c.args.depth c.args.end.now _ c.in-Fork.paths c.as_slice.result.now c.args.levels.now _ _ c.in-Fork.is c.as_slice.ensures c.in_ok-push_naming.ensures h) c.push_paths.ensures

pub push_end-returns-in-Sequence : goal.push_end-returns-in-Sequence
push_end-returns-in-Sequence t c = sequence-pushed c.args.around c.args.depth c.args.end.now _ c.args.levels.now _ c.in-Sequence.is c.in_ok-push_naming.ensures

pub push_end-returns-in-Branch : goal.push_end-returns-in-Branch
push_end-returns-in-Branch t c = named-pushed c.args.around c.args.depth c.args.end.now _ c.args.levels.now _ c.in-Branch.is c.in_ok-push_naming.ensures

pub push_paths-push_branch-requires : goal.push_paths-push_branch-requires
push_paths-push_branch-requires t c =
    let inside = path-inside c.args.depth c.args.paths.now c.loop-path.path-index c.path-item.result c.loop-path-test.true c.path-item.is in
    (omega arith, omega arith)

pub push_paths-loop-path-init : goal.push_paths-loop-path-init
push_paths-loop-path-init t c = pushed-none c.args.around c.args.levels.now

pub push_paths-loop-path-preserved : goal.push_paths-loop-path-preserved
push_paths-loop-path-preserved t c =
    pushed-more (λ path. plain (branch_outlines c.args.depth path.branch)) c.args.around c.args.paths.now c.loop-path.path-index c.path-item.result _ _ _ c.loop-path-test.true c.path-item.is c.loop-path.invariant
    (path-pushed c.args.around c.args.depth c.path-item.result _ _ _ c.push_plain.ensures c.in_ok-push_branch.ensures)

pub push_paths-returns : goal.push_paths-returns
push_paths-returns t c = pushed-all (λ path. plain (branch_outlines c.args.depth path.branch)) c.args.around c.args.paths.now c.args.paths.now c.loop-path.path-index _ _ refl c.loop-path-test.false c.loop-path.invariant
