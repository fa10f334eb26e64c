use Rattle.std.proofs.Common.{ap, ◌∙◌, length, arith}
use Rattle.std.specs.List.{flat_map}
use Rattle.std.proofs.lemmas.List.Folds.{length-flat_map-take}
use Rattle.psa_names.specs.Collected.{collected_by, branch_collected}
use Rattle.psa_bodies.proofs.CollectedNumbers.{no-number, branch-number, part-number}
use Rattle.psa_bodies.proofs.counting.+branch.Goals as goal

pub count_branch-returns-then-depth-eq0 : goal.count_branch-returns-then-depth-eq0
count_branch-returns-then-depth-eq0 t c = no-number c.args.depth c.args.branch.now c.if-depth-eq0.true

pub count_branch-count_instructions-requires : goal.count_branch-count_instructions-requires
count_branch-count_instructions-requires t c =
    let few = c.requires.few in
    let same = branch-number c.args.depth c.args.branch.now (omega arith) in
    let own = ap (λ xs. length (flat_map collected_by xs)) c.as_slice.ensures in
    record { few = omega (arith, few, same, own) }

pub count_branch-count_end-requires : goal.count_branch-count_end-requires
count_branch-count_end-requires t c =
    let few = c.requires.few in
    let same = branch-number c.args.depth c.args.branch.now (omega arith) in
    (omega arith, omega (arith, few, same))

pub count_branch-overflow_add-result : goal.count_branch-overflow_add-result
count_branch-overflow_add-result t c =
    let few = c.requires.few in
    let same = branch-number c.args.depth c.args.branch.now (omega arith) in
    let first = c.count_instructions.ensures ∙ ap (λ xs. length (flat_map collected_by xs)) c.as_slice.ensures in
    let second = c.count_end.ensures in
    omega (arith, few, same, first, second)

pub count_branch-returns : goal.count_branch-returns
count_branch-returns t c =
    let same = branch-number c.args.depth c.args.branch.now (omega arith) in
    let first = c.count_instructions.ensures ∙ ap (λ xs. length (flat_map collected_by xs)) c.as_slice.ensures in
    let second = c.count_end.ensures in
    omega (arith, same, first, second)

pub count_paths-count_branch-count-requires : goal.count_paths-count_branch-count-requires
count_paths-count_branch-count-requires t c =
    let few = c.requires.few in
    let part = part-number (λ path. branch_collected c.args.depth path.branch) c.args.paths.now c.loop-path.path-index c.path-item.result c.loop-path-test.true c.path-item.is in
    (omega arith, omega (arith, few, part))

pub count_paths-overflow_add-count : goal.count_paths-overflow_add-count
count_paths-overflow_add-count t c =
    let few = c.requires.few in
    let before = c.loop-path.invariant in
    let own = c.count_branch-count.ensures in
    let less = length-flat_map-take (λ path. branch_collected c.args.depth path.branch) c.args.paths.now c.loop-path.path-index c.path-item.result c.loop-path-test.true in
    let same = ap (λ path. length (branch_collected c.args.depth path.branch)) c.path-item.is in
    omega (arith, few, before, own, less, same)
