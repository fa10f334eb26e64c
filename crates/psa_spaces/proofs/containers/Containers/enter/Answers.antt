use Rattle.std.proofs.Common.{◌≡◌, ◌<◌, ◌+◌, ◌++◌, ◌∷◌, [], ℕ, List, length, sym, subst, arith}
use Rattle.std.specs.List.{list_any}
use Rattle.psa_spaces.specs.declared.containers.Step.{Step}
use Rattle.psa_spaces.specs.Paths.{Path, path_at, IsPath, paths_of, same_step}
use Rattle.psa_spaces.proofs.ContainerLemmas.{are-containers, steps-entered, entered-kept, entered-path}
use Rattle.psa_spaces.proofs.containers.Containers.enter.Goals as goal

low-as : (old : List Step) (paths : List Path) (within : ℕ) → paths_of old ≡ paths → within < length paths → within < length (paths_of old)
low-as old paths within is low = subst (λ (p : List Path). within < length p) (sym is) low

pub invariant_of-self-2 : goal.invariant_of-self-2
invariant_of-self-2 c =
    let old = c.self.inside.steps.keys in
    let step : Step = record { within = c.args.within; name = c.args.name } in
    steps-entered old c.insert_full.new.self.keys step c.self.invariant
    (low-as old c.args.self.now c.args.within c.self.view_is c.requires)
    (let few = c.if-len-ge-MAX_CONTAINERS.false in let size = c.len.ensures.len in omega arith)
    c.in_ok-index.ensures.keys c.insert_full.ensures.unique

pub returns-clause-entered : goal.returns-clause-entered
returns-clause-entered c =
    let old = c.self.inside.steps.keys in
    let step : Step = record { within = c.args.within; name = c.args.name } in
    let low = low-as old c.args.self.now c.args.within c.self.view_is c.requires in
    let are = steps-entered old c.insert_full.new.self.keys step c.self.invariant low
    (let few = c.if-len-ge-MAX_CONTAINERS.false in let size = c.len.ensures.len in omega arith)
    c.in_ok-index.ensures.keys c.insert_full.ensures.unique in
    let s = c.in_ok-index.ensures.stored in
    subst (λ (p : List Path). IsPath (paths_of c.insert_full.new.self.keys) (c.in_ok-index.index + 1) (path_at p c.args.within ++ c.args.name.now ∷ [])) c.self.view_is
    (entered-path old c.insert_full.new.self.keys step s.0 (list_any (same_step step) old) c.in_ok-index.index are low c.in_ok-index.ensures.keys s.1 s.2)

pub returns-clause-kept : goal.returns-clause-kept
returns-clause-kept c number path h =
    let old = c.self.inside.steps.keys in
    let step : Step = record { within = c.args.within; name = c.args.name } in
    entered-kept old c.insert_full.new.self.keys step (list_any (same_step step) old) c.in_ok-index.ensures.keys number path
    (subst (λ (p : List Path). IsPath p number path) (sym c.self.view_is) h)

pub returns-clause-containers : goal.returns-clause-containers
returns-clause-containers c =
    let old = c.self.inside.steps.keys in
    let step : Step = record { within = c.args.within; name = c.args.name } in
    are-containers c.insert_full.new.self.keys
    (steps-entered old c.insert_full.new.self.keys step c.self.invariant
    (low-as old c.args.self.now c.args.within c.self.view_is c.requires)
    (let few = c.if-len-ge-MAX_CONTAINERS.false in let size = c.len.ensures.len in omega arith)
    c.in_ok-index.ensures.keys c.insert_full.ensures.unique)
