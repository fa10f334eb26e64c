-- What is loaded of an input, and when it is not. This project's own.
use Rattle.std.specs.Prelude.{◌≡◌, ◌⊎◌, ◌≤◌, ℕ, suc, List, Option, Result, Ok, Err, IsSomeAnd, map, length}
use Rattle.psa_model.specs.declared.fault.ModelFault.{ModelFault}
use Rattle.psa_model.specs.declared.limits.TheConstants.{MAX_FILES, MAX_SAMPLE, MIN_SAMPLE}
use Rattle.psa_model.specs.declared.settings.Input.{Input}
use Rattle.psa_model.specs.declared.settings.Input.TheVariants.{Files, Sample}
use Rattle.psa_model.specs.declared.settings.Settings.{Settings}
use Rattle.psa_model.specs.Models.{IsModel, IsOfSize}
use Rattle.psa_model.specs.PathTargets.{targets_of}
use Rattle.psa_ports.specs.Counts.{Rose}
use Rattle.psa_outcome.specs.declared.loaded.Loaded.{Loaded}
use Rattle.psa_outcome.specs.declared.loaded.LoadError.{LoadError}
use Rattle.psa_outcome.specs.declared.loaded.LoadError.TheVariants.{Bad, Read, Memory}
use Rattle.psa_outcome.specs.Analyses.{analysis_of_model}
use Rattle.psa_outcome.specs.Causes.{names_of, Analysed, IsBadModel, IsUnread}
use Rattle.psa_outcome.specs.Inputs.{Told, IsFirstFault, IsAnalysis}
use Rattle.psa_model.specs.Ranks.{ranks_of}
use Rattle.psa_model.specs.Report.{Analysis}

-- the inputs that may be loaded: at least one file and no more than a model has, or a sample of a size that there is
abbrev pub IsInput : Input → Type 0
IsInput (Files names) = (1 ≤ length names) × (length names ≤ MAX_FILES)
IsInput (Sample n) = (MIN_SAMPLE ≤ n) × (n ≤ MAX_SAMPLE)

-- the analysis that is loaded
abbrev pub loaded_analysis : Loaded → Analysis
loaded_analysis loaded = record { settings = loaded.settings; expanded = loaded.expanded; values = loaded.values }

-- The model is resolved, of limited size, and has no fault of paths, of too many events or of values; events, targets,
-- ranks and values are those of the settings and the model.
pub record IsLoaded (loaded : Loaded) : Type 0 where
  pub model : IsModel loaded.expanded.model
  pub few : IsOfSize loaded.expanded.model
  pub analysed : analysis_of_model loaded.settings loaded.expanded.model ≡ Ok (loaded_analysis loaded)
  pub targets : loaded.targets ≡ targets_of loaded.expanded.model
  pub ranks : loaded.ranks ≡ map (ranks_of loaded.expanded) loaded.targets

-- What `load` answers by these settings, where these files are told (the sample always is, by `told_of`) and what is
-- left of the one opened last, the folder's opens rose by a number, and its count of faults from one to another.
pub record LoadOutcome (settings : Settings) (told : Option Told) (rest : Option (List ℕ)) (opened : ℕ) (faults : ℕ × ℕ) (answer : Result Loaded LoadError) : Type 0 where
  pub ok :
      (loaded : Loaded) → answer ≡ Ok loaded
      → (loaded.settings ≡ settings) × IsLoaded loaded × Analysed settings told (λ analysis. loaded_analysis loaded ≡ analysis)
  pub bad : (found : ModelFault) → answer ≡ Err (Bad found) → IsBadModel settings told found
  pub read :
      (number : ℕ) → answer ≡ Err (Read number)
      → Rose faults.0 faults.1 × (suc number ≡ opened) × IsUnread settings told rest number
  -- without read faults a first fault is told, and an input without one is loaded
  pub refused :
      (Rose faults.0 faults.1 → ⊥) → (found : ModelFault)
      → IsSomeAnd told (λ files. IsFirstFault settings (names_of settings.input) files found)
      → (answer ≡ Err (Bad found)) ⊎ (answer ≡ Err Memory)
  pub accepted :
      (Rose faults.0 faults.1 → ⊥) → (analysis : Analysis)
      → IsSomeAnd told (λ files. IsAnalysis settings (names_of settings.input) files analysis)
      → ((loaded : Loaded) × (answer ≡ Ok loaded)) ⊎ (answer ≡ Err Memory)
