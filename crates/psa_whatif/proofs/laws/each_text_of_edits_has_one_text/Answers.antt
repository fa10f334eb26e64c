use Rattle.std.proofs.Common.{refl, List}
use Rattle.std.proofs.lemmas.List.Elements.{All-weaker}
use Rattle.std.specs.Prelude.{All}
use Rattle.psa_model.specs.Report.{Analysis}
use Rattle.psa_outcome.specs.Loading.{loaded_analysis}
use Rattle.psa_whatif.specs.EditedLoads.{loaded_after}
use Rattle.psa_whatif.specs.Edits.{Edit, IsEdited, IsTaken}
use Rattle.psa_whatif.specs.EditText.{reported_states}
use Rattle.psa_whatif.proofs.EditLemmas.{edits-analysed}
use Rattle.psa_whatif.proofs.ScriptLemmas.{reports-exist, reports-once, script-taken}
use Rattle.psa_whatif.proofs.laws.each_text_of_edits_has_one_text.Goals as goal

pub returns-clause-taken : goal.returns-clause-taken
returns-clause-taken c accepted edits = script-taken accepted edits

pub returns-clause-exists : goal.returns-clause-exists
returns-clause-exists c loaded edits is =
    reports-exist (loaded_analysis loaded) (reported_states (loaded_analysis loaded) edits)
    (All-weaker (All (IsTaken (loaded_analysis loaded)))
    (λ (es : List Edit). (analysis : Analysis) × IsEdited (loaded_analysis loaded) es analysis)
    (λ es taken. (loaded_analysis (loaded_after es loaded), edits-analysed loaded es is taken))
    (reported_states (loaded_analysis loaded) edits) (script-taken (loaded_analysis loaded) edits))

pub returns-clause-unique : goal.returns-clause-unique
returns-clause-unique c accepted edits one other p q =
    reports-once accepted (reported_states accepted edits) (reported_states accepted edits) one other p q refl
