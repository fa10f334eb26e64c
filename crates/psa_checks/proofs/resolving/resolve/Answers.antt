use Rattle.std.proofs.Common.{rules}
use Rattle.psa_checks.proofs.ResolvedModels.{is-model, is-of-size}
use Rattle.psa_checks.proofs.resolving.resolve.Goals as goal

pub returns-clause-promised : goal.returns-clause-promised
returns-clause-promised c = search (rules, is-model c.args.draft.now c.in_ok-model.model)

pub returns-clause-size : goal.returns-clause-size
returns-clause-size c = search (rules, is-of-size c.args.draft.now c.in_ok-model.model)
