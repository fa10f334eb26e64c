use Rattle.std.proofs.Common.{ap, sym, ◌∙◌}
use Rattle.psa_model.specs.declared.expanded.Expanded.{Expanded}
use Rattle.psa_model.specs.Expansion.{expanded_of}
use Rattle.psa_outcome.proofs.SettingsLemmas.{of-trees}
use Rattle.psa_outcome.proofs.laws.analyses_are_by_their_settings.Goals as goal

pub returns-clause-settings : goal.returns-clause-settings
returns-clause-settings c settings roots analysis p = (of-trees settings roots analysis p).settings_are

pub returns-clause-events : goal.returns-clause-events
returns-clause-events c settings roots analysis p =
    let e = (of-trees settings roots analysis p).events_are in
    e ∙ sym (ap (λ (x : Expanded). expanded_of settings.ccf x.model) e)

pub returns-clause-values : goal.returns-clause-values
returns-clause-values c settings roots analysis p = (of-trees settings roots analysis p).has_values
