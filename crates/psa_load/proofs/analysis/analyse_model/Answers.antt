use Rattle.std.proofs.Common.{◌≡◌, List, None, Some, Err, map, length, refl, subst, sym, ap, ◌∙◌, arith}
use Rattle.psa_model.specs.declared.expanded.Expanded.{Expanded}
use Rattle.psa_model.specs.declared.model.Model.{Model}
use Rattle.psa_model.specs.declared.targets.Target.{Target}
use Rattle.psa_model.specs.PathFaults.{walk_fault}
use Rattle.psa_model.specs.RankFaults.{rank_fault}
use Rattle.psa_model.specs.Ranks.{ranks_of}
use Rattle.psa_model.specs.Truth.{IsResolved}
use Rattle.psa_expr.specs.Events.{HaveValues}
use Rattle.psa_expr.proofs.Callers.{values-of-model}
use Rattle.psa_ccf.proofs.Callers.{small-groups-of-model}
use Rattle.psa_load.proofs.AnalysisLemmas.{is-loaded, walk-stops, rank-stops, valued, targets-stand, answered, no-memory, walk-answered}
use Rattle.psa_load.proofs.FewEvents.{few-events}
use Rattle.psa_load.proofs.analysis.analyse_model.Goals as goal

pub expand-requires : goal.expand-requires
expand-requires c = small-groups-of-model c.args.model c.requires.promised

pub returns-in_err-targets-clause-fault : goal.returns-in_err-targets-clause-fault
returns-in_err-targets-clause-fault c found same =
    walk-stops c.args.settings c.args.model found
    (walk-answered c.from_residual.result found c.in_err-targets.field-0.0 (λ f. walk_fault c.args.model ≡ Some f)
    c.in_err-targets.ensures.fault c.from_residual.ensures.1 same)

pub returns-in_err-expanded-clause-fault : goal.returns-in_err-expanded-clause-fault
returns-in_err-expanded-clause-fault c found same = absurd (no-memory c.from_residual-in_err-expanded.result found c.from_residual-in_err-expanded.ensures.1 same)

pub rank_targets-requires-clause-resolved : goal.rank_targets-requires-clause-resolved
rank_targets-requires-clause-resolved c =
    subst (λ (m : Model). IsResolved m) (sym (ap (λ (e : Expanded). e.model) c.in_ok-expanded.ensures)) c.requires.promised.resolved

pub rank_targets-requires-clause-few : goal.rank_targets-requires-clause-few
rank_targets-requires-clause-few c =
    let bound = few-events c.args.settings.ccf c.args.model c.requires.promised c.requires.few in
    let same = ap (λ (e : Expanded). length e.events) c.in_ok-expanded.ensures in
    omega (arith, bound, same)

pub rank_targets-requires-clause-stand : goal.rank_targets-requires-clause-stand
rank_targets-requires-clause-stand c =
    targets-stand c.args.settings c.args.model c.in_ok-targets.ensures.sound c.in_ok-expanded.expanded c.in_ok-expanded.ensures c.as_slice.result.now
    (c.as_slice.ensures ∙ c.in_ok-targets.ensures.targets) c.requires.promised

pub returns-in_err-ranks-clause-fault : goal.returns-in_err-ranks-clause-fault
returns-in_err-ranks-clause-fault c found same =
    rank-stops c.args.settings c.args.model c.in_ok-targets.ensures.sound c.in_ok-expanded.expanded c.in_ok-expanded.ensures c.as_slice.result.now
    (c.as_slice.ensures ∙ c.in_ok-targets.ensures.targets) found
    (c.in_err-ranks.ensures.fault found (ap Err (answered c.from_residual-in_err-ranks.result c.in_err-ranks.field-0.0 found c.from_residual-in_err-ranks.ensures.1 same)))

pub asked_values-requires : goal.asked_values-requires
asked_values-requires c =
    subst (λ (m : Model). HaveValues m) (sym (ap (λ (e : Expanded). e.model) c.in_ok-expanded.ensures))
    (values-of-model c.args.model c.requires.promised)

pub returns-in_err-values-clause-fault : goal.returns-in_err-values-clause-fault
returns-in_err-values-clause-fault c found same =
    valued c.args.settings c.args.model c.in_ok-targets.ensures.sound c.in_ok-expanded.expanded c.in_ok-expanded.ensures c.as_slice.result.now
    (c.as_slice.ensures ∙ c.in_ok-targets.ensures.targets) (Err found) c.in_ok-ranks.ensures.sound
    (c.in_err-values.ensures.fault found (ap Err (answered c.from_residual-in_err-values.result c.in_err-values.field-0.0 found c.from_residual-in_err-values.ensures.1 same)))

pub returns-clause-loaded : goal.returns-clause-loaded
returns-clause-loaded c =
    is-loaded c.args.settings c.args.model _ c.requires.promised c.requires.few c.in_ok-targets.ensures.sound c.in_ok-expanded.ensures c.in_ok-targets.ensures.targets
    (subst (λ (ts : List Target). rank_fault c.in_ok-expanded.expanded ts ≡ None) c.as_slice.ensures c.in_ok-ranks.ensures.sound)
    (c.in_ok-ranks.ensures.ranks ∙ ap (map (ranks_of c.in_ok-expanded.expanded)) c.as_slice.ensures)
    c.in_ok-values.ensures.values refl
