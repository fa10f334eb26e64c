use Rattle.std.proofs.Common.{◌≡◌, ◌++◌, ◌∷◌, ◌-◌, [], List, flat_map, refl, ap, ◌∙◌, arith}
use Rattle.psa_model.specs.declared.draft.DraftForkPath.{DraftForkPath}
use Rattle.psa_model.specs.declared.draft.DraftInstruction.{DraftInstruction}
use Rattle.psa_names.specs.Chains.{references_in}
use Rattle.psa_names.specs.Outlines as outline
use Rattle.psa_names.specs.Outlines.{Reference, instruction_outline}
use Rattle.psa_lookup.specs.Asking.{asked_references, branch_references, paths_references}
use Rattle.psa_lookup.proofs.StateLemmas.{on-ok}
use Rattle.psa_lookup.proofs.AskedLemmas.{branch-none, branch-some, end_references, end-fork, end-sequence, end-branch, refers, none-added, one-added, two-added, more-added}
use Rattle.psa_lookup.proofs.asked.+branch.Goals as goal

pub push_branch-returns-then-levels-eq0 : goal.push_branch-returns-then-levels-eq0
push_branch-returns-then-levels-eq0 t c = none-added _ _ (branch-none c.args.levels c.args.branch.now c.if-levels-eq0.true)

pub push_branch-returns : goal.push_branch-returns
push_branch-returns t c =
    let its : List DraftInstruction → List Reference = λ all. flat_map (λ one. references_in (instruction_outline one)) all in
    on-ok c.push_end.result
    (λ (made : asked_references c.push_end.new.asked.items ≡ asked_references c.push_instructions.new.asked.items ++ end_references (c.args.levels - 1) c.args.branch.now.end).
    two-added (asked_references c.args.asked.now.items) (asked_references c.push_instructions.new.asked.items) (asked_references c.push_end.new.asked.items)
    (its c.args.branch.now.instructions) (end_references (c.args.levels - 1) c.args.branch.now.end) (branch_references c.args.levels c.args.branch.now)
    (c.in_ok-push_instructions.ensures ∙ ap (λ all. asked_references c.args.asked.now.items ++ its all) c.as_slice.ensures) made
    (branch-some c.args.levels c.args.branch.now (λ zero. let some = c.if-levels-eq0.false in omega (arith, zero))))
    c.push_end.ensures

pub push_paths-loop-path-preserved : goal.push_paths-loop-path-preserved
push_paths-loop-path-preserved t c =
    more-added (λ (path : DraftForkPath). branch_references c.args.levels path.branch) _ _ _ c.args.paths.now c.loop-path.path-index c.path-item.result c.loop-path-test.true c.path-item.is c.loop-path.invariant c.in_ok-push_branch.ensures

pub push_end-returns-in_ok-push-in-Fork : goal.push_end-returns-in_ok-push-in-Fork
push_end-returns-in_ok-push-in-Fork t c =
    let old = c.args.asked.now.items in
    let own : List Reference = refers outline.functional_event c.in-Fork.written ∷ [] in
    on-ok c.push_paths.result
    (λ (made : asked_references c.push_paths.new.asked.items ≡ asked_references c.push.new.self.items ++ paths_references c.args.levels c.as_slice.result.now).
    two-added (asked_references old) (asked_references c.push.new.self.items) (asked_references c.push_paths.new.asked.items) own (paths_references c.args.levels c.in-Fork.paths) (end_references c.args.levels c.args.end.now)
    (one-added old c.push.new.self.items _ own c.in_ok-push-in-Fork.ensures.items refl)
    (made ∙ ap (λ ps. asked_references c.push.new.self.items ++ paths_references c.args.levels ps) c.as_slice.ensures)
    (ap (end_references c.args.levels) c.in-Fork.is ∙ end-fork c.args.levels c.in-Fork.written c.in-Fork.paths))
    c.push_paths.ensures

pub push_end-returns-in_ok-push-in-Sequence : goal.push_end-returns-in_ok-push-in-Sequence
push_end-returns-in_ok-push-in-Sequence t c =
    one-added c.args.asked.now.items c.push-in-Sequence.new.self.items _ (end_references c.args.levels c.args.end.now) c.in_ok-push-in-Sequence.ensures.items
    (ap (end_references c.args.levels) c.in-Sequence.is ∙ end-sequence c.args.levels c.in-Sequence.written)

pub push_end-returns-in_ok-push-in-Branch : goal.push_end-returns-in_ok-push-in-Branch
push_end-returns-in_ok-push-in-Branch t c =
    one-added c.args.asked.now.items c.push-in-Branch.new.self.items _ (end_references c.args.levels c.args.end.now) c.in_ok-push-in-Branch.ensures.items
    (ap (end_references c.args.levels) c.in-Branch.is ∙ end-branch c.args.levels c.in-Branch.written)
