-- The causes of the answers of a run that come from its input, each said where the folder tells its files. This
-- project's own.
use Rattle.std.specs.Prelude.{◌≡◌, ◌<◌, ℕ, List, [], ◌∷◌, ◌++◌, Option, Some, None, IsSomeAnd, MatchOption, ⊤, length, codes}
use Rattle.std.specs.List.{AllZip}
use Rattle.psa_text.specs.declared.tree.Element.{Element}
use Rattle.psa_text.specs.TextFaults.{NoFault}
use Rattle.psa_ports.specs.Folder.{text_of}
use Rattle.psa_model.specs.declared.fault.ModelFault.{ModelFault}
use Rattle.psa_model.specs.declared.settings.Input.{Input}
use Rattle.psa_model.specs.declared.settings.Input.TheVariants.{Files, Sample}
use Rattle.psa_model.specs.declared.settings.Settings.{Settings}
use Rattle.psa_outcome.specs.Inputs.{Told, HasTree, IsFirstFault, IsAnalysis}
use Rattle.psa_outcome.specs.SampleText.{sample_text}
use Rattle.psa_model.specs.Report.{Analysis}

-- ---- the input

-- the input is files
abbrev pub IsFiles : Input → Type 0
IsFiles (Files names) = ⊤
IsFiles (Sample n) = ⊥

-- the input is the sample
abbrev pub IsSample : Input → Type 0
IsSample (Files names) = ⊥
IsSample (Sample n) = ⊤

-- the name of the sample, which takes the place of a file
abbrev pub sample_name : List ℕ
sample_name = codes "sample"

-- the names of the files, in order
abbrev pub names_of : Input → List (List ℕ)
names_of (Files names) = names
names_of (Sample n) = sample_name ∷ []

-- the files that a run opens: the sample is no file of the folder
abbrev pub opened_files : Input → List (List ℕ)
opened_files (Files names) = names
opened_files (Sample n) = []

-- the files that are told: the sample always is
abbrev pub told_of : Input → Option Told → Option Told
told_of (Files names) told = told
told_of (Sample n) told = Some ((sample_name, sample_text n) ∷ [])

-- ---- causes

-- where the files are told, they have no fault, and P holds of their analysis
abbrev pub Analysed : Settings → Option Told → (Analysis → Type 0) → Type 0
Analysed settings told P =
    MatchOption told ⊤ (λ files. (analysis : Analysis) × IsAnalysis settings (names_of settings.input) files analysis × P analysis)

-- A fault of one of the files; where they are told, it is their first.
pub record IsBadModel (settings : Settings) (told : Option Told) (found : ModelFault) : Type 0 where
  pub of_files : found.file < length (names_of settings.input)
  pub first : MatchOption told ⊤ (λ files. IsFirstFault settings (names_of settings.input) files found)

-- What is left of a file where reading ended: where it is told and not empty, it is the end of the file's bytes, and
-- no byte before it decides a fault.
abbrev pub LeavesRest : Told → List ℕ → Option (List ℕ) → Type 0
LeavesRest files name None = ⊤
LeavesRest files name (Some []) = ⊤
LeavesRest files name (Some (b ∷ bytes)) =
    IsSomeAnd (text_of name files) (λ text. (front : List ℕ) × (text ≡ front ++ b ∷ bytes) × NoFault front)

-- The file with this number could not be read: it is no sample; where the files are told, each one before it has a
-- tree, and what is left of it is its end.
pub record IsUnread (settings : Settings) (told : Option Told) (rest : Option (List ℕ)) (number : ℕ) : Type 0 where
  pub of_files : IsFiles settings.input
  pub before : List (List ℕ)
  pub file : List ℕ
  pub behind : List (List ℕ)
  pub files : names_of settings.input ≡ before ++ file ∷ behind
  pub place : length before ≡ number
  pub earlier : MatchOption told ⊤ (λ files. (roots : List Element) × AllZip (HasTree files) before roots)
  pub left : MatchOption told ⊤ (λ files. LeavesRest files file rest)
