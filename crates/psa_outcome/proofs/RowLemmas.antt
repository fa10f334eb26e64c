-- Where files are told, the rows of a run exclude each other, and the line of a fault is one.
use Rattle.std.proofs.Common.{◌≡◌, ℕ, List, Option, Some, sym, ap, subst, ◌∙◌}
use Rattle.std.specs.Prelude.{⊤, Ok, Err, MatchOption}
use Rattle.psa_text.specs.TextOutcome.{ReadsOnce}
use Rattle.psa_nodes.specs.Table.{Table}
use Rattle.psa_model.specs.declared.fault.ModelFault.{ModelFault}
use Rattle.psa_model.specs.declared.settings.Settings.{Settings}
use Rattle.psa_model.specs.FaultTexts.{fault_line}
use Rattle.psa_outcome.specs.Causes.{names_of, Analysed, IsBadModel}
use Rattle.psa_outcome.specs.Inputs.{Told, IsFirstFault}
use Rattle.psa_outcome.specs.RunOutcome.{BadModelRow, DoneRow, IsFinished, file_name}
use Rattle.psa_outcome.specs.Runs.{Run}
use Rattle.psa_outcome.proofs.OutcomeLemmas.{outcomes-same, ok-err, err-same}

-- the cause of a fault of the model where the files are told
first-of : (settings : Settings) (told : Option Told) (files : Told) (found : ModelFault) → told ≡ Some files → IsBadModel settings told found → IsFirstFault settings (names_of settings.input) files found
first-of settings told files found is cause =
    subst (λ (o : Option Told). MatchOption o ⊤ (λ files. IsFirstFault settings (names_of settings.input) files found)) is cause.first

-- a run tells one line of a fault alone
pub lines-same : ReadsOnce → (settings : Settings) (run : Run) (files : Told) (line other : List ℕ) → run.told ≡ Some files → BadModelRow settings run line → BadModelRow settings run other → line ≡ other
lines-same once settings run files line other is p q =
    p.spelled ∙ ap (λ (f : ModelFault). fault_line (file_name settings f.file) f) same ∙ sym q.spelled
  where
    same : p.found ≡ q.found
    same =
        err-same (outcomes-same once files settings (names_of settings.input) (Err p.found) (Err q.found)
        (first-of settings run.told files p.found is p.cause) (first-of settings run.told files q.found is q.cause))

-- no run is both done and told a fault
pub rows-exclude : ReadsOnce → (settings : Settings) (run : Run) (table : Table) (files : Told) (line other : List ℕ) → run.told ≡ Some files → DoneRow settings run table line → BadModelRow settings run other → ⊥
rows-exclude once settings run table files line other is p q = on (subst (λ (o : Option Told). Analysed settings o (IsFinished run table)) is p.finished)
  where
    on : Analysed settings (Some files) (IsFinished run table) → ⊥
    on finished =
        ok-err (outcomes-same once files settings (names_of settings.input) (Ok finished.0) (Err q.found)
        finished.1 (first-of settings run.told files q.found is q.cause))
