use Rattle.std.proofs.Common.{◌∙◌, arith}
use Rattle.psa_bodies.specs.Branches.{path_value, path_formulas, path_references}
use Rattle.psa_bodies.proofs.CollectingInOrder.{collects-none, collects-more, collects-all}
use Rattle.psa_bodies.proofs.BranchForms.{some-levels, end-has, fork-has, path-has, branch-collects, fork-collects, sequence-collects, named-collects, path-collects}
use Rattle.psa_bodies.proofs.branches.+branch.Goals as goal

pub resolve_paths-loop-path-init : goal.resolve_paths-loop-path-init
resolve_paths-loop-path-init t c = collects-none c.args.numbers.now c.args.cursor.now c.args.collected.now (λ entries from one. path_value c.args.depth entries from one) _ c.new-made.ensures

pub resolve_paths-loop-path-preserved : goal.resolve_paths-loop-path-preserved
resolve_paths-loop-path-preserved t c =
    collects-more c.args.numbers.now c.args.cursor.now c.loop-path.cursor c.resolve_path.new.cursor c.args.collected.now c.loop-path.collected c.resolve_path.new.collected (path_references c.args.depth) (path_formulas c.args.depth) (λ entries from one. path_value c.args.depth entries from one) c.args.paths.now c.loop-path.path-index c.path-item.result c.loop-path.made c.push.new.self c.in_ok-resolve_path.field-0
    c.loop-path-test.true c.path-item.is c.loop-path.invariant c.in_ok-resolve_path.ensures c.in_ok-push.ensures.ok

pub resolve_paths-returns : goal.resolve_paths-returns
resolve_paths-returns t c =
    collects-all c.args.numbers.now c.args.cursor.now c.loop-path.cursor c.args.collected.now c.loop-path.collected (path_references c.args.depth) (path_formulas c.args.depth) (λ entries from one. path_value c.args.depth entries from one) c.args.paths.now c.loop-path.path-index c.loop-path.made c.loop-path-test.false c.loop-path.invariant

pub resolve_branch-overflow_sub-depth : goal.resolve_branch-overflow_sub-depth
resolve_branch-overflow_sub-depth t c =
    let some = some-levels c.args.depth c.args.branch.now c.requires.shallow in omega arith

pub resolve_branch-resolve_end-requires : goal.resolve_branch-resolve_end-requires
resolve_branch-resolve_end-requires t c =
    let some = some-levels c.args.depth c.args.branch.now c.requires.shallow in (
      omega arith,
      (end-has c.args.depth c.args.branch.now c.requires.shallow, omega arith),
    )

pub resolve_branch-returns : goal.resolve_branch-returns
resolve_branch-returns t c =
    branch-collects c.args.depth c.args.numbers.now c.args.cursor.now c.resolve_instructions.new.cursor c.resolve_end.new.cursor c.args.collected.now c.resolve_instructions.new.collected c.resolve_end.new.collected c.args.branch.now c.as_slice-instructions.result.now c.in_ok-instructions.instructions c.in_ok-end.end
    (some-levels c.args.depth c.args.branch.now c.requires.shallow) c.as_slice-instructions.ensures c.in_ok-instructions.ensures c.in_ok-end.ensures

pub resolve_end-returns-in_ok-paths-in-Fork : goal.resolve_end-returns-in_ok-paths-in-Fork
resolve_end-returns-in_ok-paths-in-Fork t c =
    fork-collects c.args.depth c.args.numbers.now c.args.cursor.now c.next_id-id.new.cursor c.resolve_paths.new.cursor c.args.collected.now c.resolve_paths.new.collected c.args.end.now c.in-Fork.field-0 c.in-Fork.paths c.as_slice-paths.result.now c.next_id-id.result c.in_ok-paths-in-Fork.paths
    c.in-Fork.is c.as_slice-paths.ensures c.next_id-id.ensures c.in_ok-paths-in-Fork.ensures

pub resolve_end-returns-in-Sequence : goal.resolve_end-returns-in-Sequence
resolve_end-returns-in-Sequence t c =
    sequence-collects c.args.depth c.args.numbers.now c.args.cursor.now c.next_id-id-in-Sequence.new.cursor c.args.collected.now c.args.end.now c.in-Sequence.field-0 c.next_id-id-in-Sequence.result c.in-Sequence.is c.next_id-id-in-Sequence.ensures

pub resolve_end-returns-in-Branch : goal.resolve_end-returns-in-Branch
resolve_end-returns-in-Branch t c =
    named-collects c.args.depth c.args.numbers.now c.args.cursor.now c.next_id-id-in-Branch.new.cursor c.args.collected.now c.args.end.now c.in-Branch.field-0 c.next_id-id-in-Branch.result c.in-Branch.is c.next_id-id-in-Branch.ensures

pub resolve_end-resolve_paths-requires : goal.resolve_end-resolve_paths-requires
resolve_end-resolve_paths-requires t c = (
  omega arith,
  (fork-has c.args.depth c.args.end.now c.in-Fork.field-0 c.in-Fork.paths c.as_slice-paths.result.now c.in-Fork.is c.as_slice-paths.ensures c.requires.shallow, c.requires.within),
)

pub resolve_paths-resolve_path-requires : goal.resolve_paths-resolve_path-requires
resolve_paths-resolve_path-requires t c = (
  omega arith,
  (path-has c.args.depth c.args.paths.now c.loop-path.path-index c.path-item.result c.loop-path-test.true c.path-item.is c.requires.shallow, c.requires.within),
)

pub resolve_path-returns : goal.resolve_path-returns
resolve_path-returns t c =
    path-collects c.args.depth c.args.numbers.now c.args.cursor.now c.resolve_branch.new.cursor c.args.collected.now c.resolve_branch.new.collected c.args.path.now c.in_ok-from_str.field-0 c.in_ok-branch.branch
    c.requires.within c.requires.shallow (c.in_ok-from_str.ensures ∙ c.as_str.ensures) c.in_ok-branch.ensures
