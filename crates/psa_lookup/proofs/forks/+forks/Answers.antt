use Rattle.std.proofs.Common.{◌≡◌, ◌++◌, ◌-◌, [], List, refl, sym, ap, ◌∙◌, append-nil, arith}
use Rattle.psa_names.specs.Outlines.{ForkState}
use Rattle.psa_lookup.specs.States.{fork_states, path_states}
use Rattle.psa_lookup.proofs.StateLemmas.{branch-zero, branch-fork, branch-sequence, branch-branch, on-ok, paths-one}
use Rattle.psa_lookup.proofs.forks.+forks.Goals as goal

none-more : (xs ys : List ForkState) → ys ≡ [] → xs ≡ xs ++ ys
none-more xs ys h = sym (ap (λ (zs : List ForkState). xs ++ zs) h ∙ append-nil xs)

pub push_branch-returns-then-levels-eq0 : goal.push_branch-returns-then-levels-eq0
push_branch-returns-then-levels-eq0 t c = none-more _ _ (branch-zero c.args.levels c.args.branch.now c.if-levels-eq0.true)

pub push_branch-returns-in-Fork : goal.push_branch-returns-in-Fork
push_branch-returns-in-Fork t c =
    on-ok c.push_paths.result
    (λ (made : fork_states c.push_paths.new.states.items ≡ fork_states c.args.states.now.items ++ path_states (c.args.levels - 1) c.in-Fork.fork c.as_slice.result.now).
    made
    ∙ ap (λ ps. fork_states c.args.states.now.items ++ path_states (c.args.levels - 1) c.in-Fork.fork ps) c.as_slice.ensures
    ∙ ap (λ (xs : List ForkState). fork_states c.args.states.now.items ++ xs) (sym (branch-fork c.args.levels c.args.branch.now c.in-Fork.fork c.in-Fork.paths (λ zero. let some = c.if-levels-eq0.false in omega (arith, zero)) c.in-Fork.is)))
    c.push_paths.ensures

pub push_branch-returns-in-Sequence : goal.push_branch-returns-in-Sequence
push_branch-returns-in-Sequence t c = none-more _ _ (branch-sequence c.args.levels c.args.branch.now c.in-Sequence.field-0 c.in-Sequence.is)

pub push_branch-returns-in-Branch : goal.push_branch-returns-in-Branch
push_branch-returns-in-Branch t c = none-more _ _ (branch-branch c.args.levels c.args.branch.now c.in-Branch.field-0 c.in-Branch.is)

pub push_paths-loop-path-preserved : goal.push_paths-loop-path-preserved
push_paths-loop-path-preserved t c =
    paths-one c.args.levels c.args.fork.now c.args.states.now.items c.push.new.self.items c.loop-path.states.items c.push_branch.new.states.items c.args.paths.now c.loop-path.path-index
    _ c.loop-path-test.true c.path-item.is refl c.loop-path.invariant c.in_ok-push.ensures.items c.in_ok-push_branch.ensures
