use Rattle.std.proofs.Common.{◌≡◌, ◌<◌, ◌-◌, [], List, length, sym, ap, ◌∙◌, subst, arith}
use Rattle.psa_spaces.specs.Paths.{Path, path_at, IsAround, paths_of}
use Rattle.psa_spaces.proofs.ContainerLemmas.{is-around, no-step, path-is, root-path}
use Rattle.psa_spaces.proofs.containers.Containers.around.Goals as goal

pub returns-then-number-eq0-clause-outermost : goal.returns-then-number-eq0-clause-outermost
returns-then-number-eq0-clause-outermost c =
    let steps = c.self.inside.steps.keys in
    subst (λ (p : List Path). path_at p c.args.number ≡ []) c.self.view_is
    (ap (path_at (paths_of steps)) c.if-number-eq0.true ∙ path-is (paths_of steps) 0 [] (root-path steps))

pub returns-in_err-get_index-clause-outermost : goal.returns-in_err-get_index-clause-outermost
returns-in_err-get_index-clause-outermost c =
    absurd (no-step c.self.inside.steps.keys c.args.number
    (subst (λ (p : List Path). c.args.number < length p) (sym c.self.view_is) c.requires) (let some = c.if-number-eq0.false in omega arith) c.in_err-get_index.ensures.key)

pub returns-clause-inner : goal.returns-clause-inner
returns-clause-inner c =
    let some = c.if-number-eq0.false in
    subst (λ (p : List Path). IsAround p c.args.number c.in_ok-get_index.field-0.now.within) c.self.view_is
    (is-around c.self.inside.steps.keys c.self.invariant c.args.number (c.args.number - 1) c.in_ok-get_index.field-0.now (omega arith) (sym c.in_ok-get_index.ensures.key))
