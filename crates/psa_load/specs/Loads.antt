-- The cause of each answer of `load`. This project's own.
use Rattle.std.specs.Prelude.{◌≡◌, ℕ, suc, List, Option, Result, Ok, Err, ⊤}
use Rattle.psa_ports.specs.Counts.{Rose}
use Rattle.psa_model.specs.declared.settings.Settings.{Settings}
use Rattle.psa_outcome.specs.declared.loaded.Loaded.{Loaded}
use Rattle.psa_outcome.specs.declared.loaded.LoadError.{LoadError}
use Rattle.psa_outcome.specs.declared.loaded.LoadError.TheVariants.{Bad, Read, Memory}
use Rattle.psa_outcome.specs.Causes.{Analysed, IsBadModel, IsUnread}
use Rattle.psa_outcome.specs.Inputs.{Told}
use Rattle.psa_outcome.specs.Loading.{IsLoaded, loaded_analysis}
use Rattle.psa_load.specs.declared.analysis.AnalysisError.{AnalysisError}
use Rattle.psa_load.specs.declared.analysis.AnalysisError.TheVariants as analysis

-- the error of an analysis as one of `load`
abbrev pub load_error : AnalysisError → LoadError
load_error (analysis.Fault found) = Bad found
load_error analysis.Memory = Memory

-- Why this is answered, by these settings, where these files are told and what is left of the one opened last: what is
-- loaded is the analysis of the files; or their first fault; or a file could not be read.
abbrev pub HasCause : Settings → Option Told → Option (List ℕ) → ℕ → ℕ × ℕ → Result Loaded LoadError → Type 0
HasCause settings told rest opened faults (Ok loaded) =
    (loaded.settings ≡ settings) × IsLoaded loaded × Analysed settings told (λ analysis. loaded_analysis loaded ≡ analysis)
HasCause settings told rest opened faults (Err (Bad found)) = IsBadModel settings told found
HasCause settings told rest opened faults (Err (Read number)) =
    Rose faults.0 faults.1 × (suc number ≡ opened) × IsUnread settings told rest number
HasCause settings told rest opened faults (Err Memory) = ⊤
