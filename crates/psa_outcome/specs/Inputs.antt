-- What the files of an input come to: the first fault, or the analysis of their trees. A file is told by its name and
-- its bytes. The order of faults is this project's own.
use Rattle.std.specs.Prelude.{◌≡◌, ℕ, true, List, [], ◌∷◌, ◌++◌, Result, Ok, Err, IsSomeAnd, is_some, length}
use Rattle.std.specs.List.{AllZip, list_all}
use Rattle.psa_text.specs.declared.scanner.error.TextFault.{TextFault}
use Rattle.psa_text.specs.declared.scanner.error.TextKind.{TextKind}
use Rattle.psa_text.specs.declared.scanner.error.TextKind.TheVariants as text
use Rattle.psa_text.specs.declared.tree.Element.{Element}
use Rattle.psa_text.specs.TextOutcome.{IsRead}
use Rattle.psa_ports.specs.Folder.{text_of}
use Rattle.psa_model.specs.declared.fault.FaultKind.{FaultKind}
use Rattle.psa_model.specs.declared.fault.FaultKind.TheVariants as fault
use Rattle.psa_model.specs.declared.fault.ModelFault.{ModelFault}
use Rattle.psa_model.specs.declared.settings.Settings.{Settings}
use Rattle.psa_outcome.specs.Analyses.{analysis_of}
use Rattle.psa_model.specs.Report.{Analysis}

-- the files that are told, each by its name and its bytes
abbrev pub Told : Type 0
Told = List (List ℕ × List ℕ)

-- all files with these names are told
abbrev pub AllAreTold : Told → List (List ℕ) → Type 0
AllAreTold told names = list_all (λ name. is_some (text_of name told)) names ≡ true

-- the file with this name is told, and its text is read with this outcome
abbrev pub ReadsAs : Told → Result Element TextFault → List ℕ → Type 0
ReadsAs told outcome name = IsSomeAnd (text_of name told) (λ bytes. IsRead bytes outcome)

-- its text has no fault and this tree
abbrev pub HasTree : Told → List ℕ → Element → Type 0
HasTree told name root = ReadsAs told (Ok root) name

-- a fault of a text as a fault of the model: that of the file with this number
abbrev pub text_fault_kind : TextKind → FaultKind
text_fault_kind text.LongFile = fault.LongFile
text_fault_kind text.BadMarkup = fault.BadMarkup
text_fault_kind text.LongToken = fault.LongToken
text_fault_kind text.BadNesting = fault.BadNesting

-- the fault of a text, as that of a file of the model
abbrev pub text_fault_in : ℕ → TextFault → ModelFault
text_fault_in file found = record { kind = text_fault_kind found.kind; file = file; line = found.line; name = [] }

-- The first fault of an input: the text fault of the first file that has one, else that of the trees. The files
-- behind one with a text fault need not be told.
pub data IsFirstFault (settings : Settings) (names : List (List ℕ)) (told : Told) : ModelFault → Type 0 where
  of_text :
      (before : List (List ℕ)) (name : List ℕ) (behind : List (List ℕ)) (roots : List Element) (found : TextFault)
      → names ≡ before ++ name ∷ behind → AllZip (HasTree told) before roots → ReadsAs told (Err found) name
      → IsFirstFault settings names told (text_fault_in (length before) found)
  of_trees :
      (roots : List Element) (found : ModelFault)
      → AllZip (HasTree told) names roots → analysis_of settings roots ≡ Err found
      → IsFirstFault settings names told found

-- the analysis of an input without a fault
pub record IsAnalysis (settings : Settings) (names : List (List ℕ)) (told : Told) (analysis : Analysis) : Type 0 where
  pub roots : List Element
  pub trees : AllZip (HasTree told) names roots
  pub analysed : analysis_of settings roots ≡ Ok analysis

-- the outcome of an input: its analysis, or its first fault
abbrev pub IsOutcome : Settings → List (List ℕ) → Told → Result Analysis ModelFault → Type 0
IsOutcome settings names told (Ok analysis) = IsAnalysis settings names told analysis
IsOutcome settings names told (Err found) = IsFirstFault settings names told found
