use Rattle.std.proofs.Common.{sym, ap, ◌∙◌, subst, arith}
use Rattle.std.specs.List.{list_all}
use Rattle.psa_model.specs.declared.expanded.Expanded.{Expanded}
use Rattle.psa_model.specs.declared.model.Model.{Model}
use Rattle.psa_model.specs.Standing.{target_stands}
use Rattle.psa_model.specs.Truth.{IsResolved}
use Rattle.psa_ccf.proofs.Callers.{small-groups-of-model}
use Rattle.psa_prep_tests.proofs.studies.study_with.Goals as goal

pub expand-requires : goal.expand-requires
expand-requires c = small-groups-of-model c.args.model c.requires.promised

pub returns-then-len-lt-MANY_EVENTS : goal.returns-then-len-lt-MANY_EVENTS
returns-then-len-lt-MANY_EVENTS c =
    let same = ap (λ (e : Expanded). e.model) c.in-Ok.ensures in record {
      resolved = subst (λ (m : Model). IsResolved m) (sym same) c.requires.promised.resolved;
      few = omega arith;
      stand = ap (λ (m : Model). list_all (target_stands m) c.args.targets) same ∙ c.requires.stand;
    }
