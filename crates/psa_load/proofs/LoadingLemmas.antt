-- What is loaded of an input: each answer has its cause, and so comes where it is to come.
use Rattle.std.proofs.Common.{◌≡◌, ◌⊎◌, ◌+◌, ◌-◌, ◌<◌, ◌≤◌, ℕ, suc, List, Option, Some, None, Result, Ok, Err, IsSomeAnd, MatchOption, length, refl, sym, ap, subst, inl, inr, ◌∙◌, IsErrAnd, arith}
use Rattle.std.proofs.lemmas.List.{length-map}
use Rattle.std.specs.Bool.{⊤}
use Rattle.std.specs.List.{AllZip}
use Rattle.psa_text.specs.declared.tree.Document.{Document}
use Rattle.psa_text.specs.declared.tree.Element.{Element}
use Rattle.psa_text.proofs.OneOutcome.{reads_once}
use Rattle.psa_ports.specs.Counts.{Rose}
use Rattle.psa_model.specs.declared.fault.ModelFault.{ModelFault}
use Rattle.psa_model.specs.declared.settings.Input.{Input}
use Rattle.psa_model.specs.declared.settings.Input.TheVariants.{Files, Sample}
use Rattle.psa_model.specs.declared.settings.Settings.{Settings}
use Rattle.psa_model.specs.Report.{Analysis}
use Rattle.psa_outcome.specs.declared.loaded.Loaded.{Loaded}
use Rattle.psa_outcome.specs.declared.loaded.LoadError.{LoadError}
use Rattle.psa_outcome.specs.declared.loaded.LoadError.TheVariants.{Bad, Read, Memory}
use Rattle.psa_outcome.specs.Analyses.{analysis_of}
use Rattle.psa_outcome.specs.Causes.{names_of, Analysed, IsBadModel, IsFiles, IsUnread}
use Rattle.psa_model.specs.declared.limits.TheConstants.{MAX_FILES}
use Rattle.psa_outcome.specs.Inputs.{Told, HasTree, IsFirstFault, of_trees, IsAnalysis}
use Rattle.psa_outcome.specs.Loading.{IsInput, IsLoaded, loaded_analysis, LoadOutcome}
use Rattle.psa_outcome.proofs.OutcomeLemmas.{ok-err, err-same, outcomes-same}
use Rattle.psa_load.specs.Files.{FilesAnswer, IsTextFault, StopsAt, roots_of}
use Rattle.psa_load.specs.declared.analysis.AnalysisError.{AnalysisError}
use Rattle.psa_load.specs.declared.analysis.AnalysisError.TheVariants as analysis
use Rattle.psa_load.specs.Loads.{HasCause, load_error}
use Rattle.psa_load.proofs.FaultFiles.{faults-of-files}

abbrev root : Document → Element
root document = document.root

-- an input has at least one file, and no more than a model has
pub some-names : (input : Input) → IsInput input → 1 ≤ length (names_of input)
some-names (Files names) is = is.0
some-names (Sample n) is = omega arith

pub few-names : (input : Input) → IsInput input → length (names_of input) ≤ MAX_FILES
few-names (Files names) is = is.1
few-names (Sample n) is = omega arith

-- so many opens more
pub opened-more : (before now number : ℕ) → before + suc number ≡ now → suc number ≡ now - before
opened-more before now number is = omega (arith, is)

module _ (settings : Settings) where
  -- a fault of a text is one of the model
  pub bad-text : (told : Option Told) (found : ModelFault) → IsTextFault (names_of settings.input) told found → IsBadModel settings told found
  bad-text told found fault = record { of_files = fault.of_files; first = by-told told fault.first }
    where
      by-told : (told : Option Told) → MatchOption told ⊤ (λ files. (other : Settings) → IsFirstFault other (names_of settings.input) files found) → MatchOption told ⊤ (λ files. IsFirstFault settings (names_of settings.input) files found)
      by-told None first = tt
      by-told (Some files) first = first settings

  -- so is one of the trees
  pub bad-trees : (told : Option Told) (documents : List Document) (found : ModelFault)
      → MatchOption told ⊤ (λ files. AllZip (HasTree files) (names_of settings.input) (roots_of documents))
      → analysis_of settings (roots_of documents) ≡ Err found → found.file < length (names_of settings.input) → IsBadModel settings told found
  bad-trees told documents found trees fault of_files = record { of_files = of_files; first = by-told told trees }
    where
      by-told : (told : Option Told) → MatchOption told ⊤ (λ files. AllZip (HasTree files) (names_of settings.input) (roots_of documents)) → MatchOption told ⊤ (λ files. IsFirstFault settings (names_of settings.input) files found)
      by-told None trees = tt
      by-told (Some files) trees = of_trees (roots_of documents) found trees fault

  -- the analysis of the trees is that of the files
  pub analysed-trees : (told : Option Told) (documents : List Document) (analysis : Analysis)
      → MatchOption told ⊤ (λ files. AllZip (HasTree files) (names_of settings.input) (roots_of documents))
      → analysis_of settings (roots_of documents) ≡ Ok analysis → Analysed settings told (λ found. analysis ≡ found)
  analysed-trees None documents analysis trees analysed = tt
  analysed-trees (Some files) documents analysis trees analysed =
      (analysis, record { roots = roots_of documents; trees = trees; analysed = analysed }, refl)

  -- a file that could not be read
  pub unread : (told : Option Told) (rest : Option (List ℕ)) (number : ℕ) → IsFiles settings.input → StopsAt (names_of settings.input) told rest number → IsUnread settings told rest number
  unread told rest number files stops = record {
    of_files = files;
    before = stops.before;
    file = stops.file;
    behind = stops.behind;
    files = stops.files;
    place = stops.place;
    earlier = stops.earlier;
    left = stops.left;
  }

  module _ (told : Option Told) (rest : Option (List ℕ)) (opened : ℕ) (faults : ℕ × ℕ) where
    -- a first fault and an analysis exclude each other, and of two first faults each is the other
    never-both : (told : Option Told) (analysis : Analysis) (found : ModelFault) → Analysed settings told (λ other. analysis ≡ other) → IsSomeAnd told (λ files. IsFirstFault settings (names_of settings.input) files found) → ⊥
    never-both None analysis found has fault = absurd fault
    never-both (Some files) analysis found has fault =
        ok-err (outcomes-same reads_once files settings (names_of settings.input) (Ok has.0) (Err found) has.1 fault)

    same-first : (told : Option Told) (one found : ModelFault) → MatchOption told ⊤ (λ files. IsFirstFault settings (names_of settings.input) files one) → IsSomeAnd told (λ files. IsFirstFault settings (names_of settings.input) files found) → one ≡ found
    same-first None one found first fault = absurd fault
    same-first (Some files) one found first fault =
        err-same (outcomes-same reads_once files settings (names_of settings.input) (Err one) (Err found) first fault)

    no-analysis : (told : Option Told) (analysis : Analysis) (found : ModelFault) → MatchOption told ⊤ (λ files. IsFirstFault settings (names_of settings.input) files found) → IsSomeAnd told (λ files. IsAnalysis settings (names_of settings.input) files analysis) → ⊥
    no-analysis None analysis found first has = absurd has
    no-analysis (Some files) analysis found first has =
        ok-err (outcomes-same reads_once files settings (names_of settings.input) (Ok analysis) (Err found) has first)

    refuses : (answer : Result Loaded LoadError) → HasCause settings told rest opened faults answer → (Rose faults.0 faults.1 → ⊥) → (found : ModelFault) → IsSomeAnd told (λ files. IsFirstFault settings (names_of settings.input) files found) → (answer ≡ Err (Bad found)) ⊎ (answer ≡ Err Memory)
    refuses (Ok loaded) cause none found fault = absurd (never-both told (loaded_analysis loaded) found cause.2 fault)
    refuses (Err (Bad one)) cause none found fault = inl (ap (λ f. Err (Bad f)) (same-first told one found cause.first fault))
    refuses (Err (Read number)) cause none found fault = absurd (none cause.0)
    refuses (Err Memory) cause none found fault = inr refl

    accepts : (answer : Result Loaded LoadError) → HasCause settings told rest opened faults answer → (Rose faults.0 faults.1 → ⊥) → (analysis : Analysis) → IsSomeAnd told (λ files. IsAnalysis settings (names_of settings.input) files analysis) → ((loaded : Loaded) × (answer ≡ Ok loaded)) ⊎ (answer ≡ Err Memory)
    accepts (Ok loaded) cause none analysis has = inl (loaded, refl)
    accepts (Err (Bad one)) cause none analysis has = absurd (no-analysis told analysis one cause.first has)
    accepts (Err (Read number)) cause none analysis has = absurd (none cause.0)
    accepts (Err Memory) cause none analysis has = inr refl

    -- the error of the texts is answered with its cause
    pub stop-cause : (failed : LoadError) → FilesAnswer (names_of settings.input) told rest (Err failed)
        → ((number : ℕ) → failed ≡ Read number → IsFiles settings.input)
        → ((number : ℕ) → failed ≡ Read number → Rose faults.0 faults.1 × (suc number ≡ opened))
        → HasCause settings told rest opened faults (Err failed)
    stop-cause (Bad found) answers files read = bad-text told found answers
    stop-cause (Read number) answers files read =
        ((read number refl).0, (read number refl).1, unread told rest number (files number refl) answers)
    stop-cause Memory answers files read = tt

    module _ (documents : List Document) (trees : MatchOption told ⊤ (λ files. AllZip (HasTree files) (names_of settings.input) (roots_of documents))) where
      -- what is loaded of the trees is answered with its cause
      pub loaded-cause : (loaded : Loaded) → IsLoaded loaded → loaded.settings ≡ settings
          → analysis_of settings (roots_of documents) ≡ Ok (loaded_analysis loaded) → HasCause settings told rest opened faults (Ok loaded)
      loaded-cause loaded is same analysed = (same, is, analysed-trees told documents (loaded_analysis loaded) trees analysed)

      -- so is the fault of the trees
      pub fault-cause : (failed : AnalysisError) → ((found : ModelFault) → failed ≡ analysis.Fault found → analysis_of settings (roots_of documents) ≡ Err found)
          → length documents ≡ length (names_of settings.input) → 1 ≤ length documents → HasCause settings told rest opened faults (Err (load_error failed))
      fault-cause (analysis.Fault found) fault same some =
          bad-trees told documents found trees (fault found refl)
          (faults-of-files settings (roots_of documents) found (length (names_of settings.input)) (length-map documents root ∙ same) (omega (arith, length-map documents root, some)) (fault found refl))
      fault-cause analysis.Memory fault same some = tt

    -- an error that was passed on has its cause
    pub passed-cause : (failed : LoadError) (answer : Result Loaded LoadError) → IsErrAnd answer (λ e. e ≡ failed) → HasCause settings told rest opened faults (Err failed) → HasCause settings told rest opened faults answer
    passed-cause failed (Ok loaded) is cause = absurd is
    passed-cause failed (Err e) is cause = subst (λ x. HasCause settings told rest opened faults (Err x)) (sym is) cause

    -- an answer with its cause is what is to be answered
    pub load-outcome : (answer : Result Loaded LoadError) → HasCause settings told rest opened faults answer → LoadOutcome settings told rest opened faults answer
    load-outcome answer cause = record {
      ok = λ loaded is. subst (λ r. HasCause settings told rest opened faults r) is cause;
      bad = λ found is. subst (λ r. HasCause settings told rest opened faults r) is cause;
      read = λ number is. subst (λ r. HasCause settings told rest opened faults r) is cause;
      refused = λ none found fault. refuses answer cause none found fault;
      accepted = λ none analysis has. accepts answer cause none analysis has;
    }
