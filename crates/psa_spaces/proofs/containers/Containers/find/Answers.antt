use Rattle.std.proofs.Common.{◌<◌, ◌+◌, ◌++◌, ◌∷◌, [], List, length, sym, subst}
use Rattle.psa_spaces.specs.declared.containers.Step.{Step}
use Rattle.psa_spaces.specs.Paths.{Path, path_at, IsPath}
use Rattle.psa_spaces.proofs.ListLemmas.{none-holds}
use Rattle.psa_spaces.proofs.ContainerLemmas.{found-path, absent-path}
use Rattle.psa_spaces.proofs.containers.Containers.find.Goals as goal

pub returns-in_err-index-clause-absent : goal.returns-in_err-index-clause-absent
returns-in_err-index-clause-absent c =
    let steps = c.self.inside.steps.keys in
    let step : Step = record { within = c.args.within; name = c.args.name } in
    none-holds c.from_residual.result
    (λ number at. absent-path steps step c.self.invariant (subst (λ (p : List Path). c.args.within < length p) (sym c.self.view_is) c.requires) c.in_err-index.ensures.index number
    (subst (λ (p : List Path). IsPath p number (path_at p c.args.within ++ c.args.name.now ∷ [])) (sym c.self.view_is) at))

pub returns-clause-found : goal.returns-clause-found
returns-clause-found c =
    let steps = c.self.inside.steps.keys in
    let step : Step = record { within = c.args.within; name = c.args.name } in
    subst (λ (p : List Path). IsPath p (c.in_ok-index.index + 1) (path_at p c.args.within ++ c.args.name.now ∷ [])) c.self.view_is
    (found-path steps step c.in_ok-index.index c.self.invariant c.in_ok-index.ensures.index)
