-- What is answered of the texts of files. This project's own.
use Rattle.std.specs.Prelude.{◌≡◌, ◌<◌, ◌≤◌, ℕ, List, ◌∷◌, ◌++◌, Option, Result, Ok, Err, MatchOption, ⊤, All, length, map, take}
use Rattle.std.specs.List.{AllZip}
use Rattle.psa_text.specs.declared.limits.TheConstants.{MAX_DEPTH, MAX_ELEMENTS}
use Rattle.psa_text.specs.declared.tree.Document.{Document}
use Rattle.psa_text.specs.declared.tree.Element.{Element}
use Rattle.psa_text.specs.Tree.{depth}
use Rattle.psa_text.specs.TreeSize.{elements_in}
use Rattle.psa_model.specs.declared.fault.ModelFault.{ModelFault}
use Rattle.psa_model.specs.declared.settings.Settings.{Settings}
use Rattle.psa_outcome.specs.declared.loaded.LoadError.{LoadError}
use Rattle.psa_outcome.specs.declared.loaded.LoadError.TheVariants.{Bad, Read, Memory}
use Rattle.psa_outcome.specs.Causes.{LeavesRest}
use Rattle.psa_outcome.specs.Inputs.{Told, HasTree, IsFirstFault, text_fault_in}
use Rattle.psa_load.specs.declared.document.DocumentError.{DocumentError}
use Rattle.psa_load.specs.declared.document.DocumentError.TheVariants as document

-- the roots of documents
abbrev pub roots_of : List Document → List Element
roots_of documents = map (λ document. document.root) documents

-- The error of the file with this number as one of all files; memory may be wanting for a fault.
abbrev pub IsErrorOf : ℕ → DocumentError → LoadError → Type 0
IsErrorOf number (document.Fault found) (Bad fault) = fault ≡ text_fault_in number found
IsErrorOf number (document.Fault found) (Read other) = ⊥
IsErrorOf number (document.Fault found) Memory = ⊤
IsErrorOf number document.Read (Bad fault) = ⊥
IsErrorOf number document.Read (Read other) = other ≡ number
IsErrorOf number document.Read Memory = ⊥
IsErrorOf number document.Memory (Bad fault) = ⊥
IsErrorOf number document.Memory (Read other) = ⊥
IsErrorOf number document.Memory Memory = ⊤

-- The fault of the text of one of the files; where the files are told, their first.
pub record IsTextFault (names : List (List ℕ)) (texts : Option Told) (found : ModelFault) : Type 0 where
  pub of_files : found.file < length names
  pub first : MatchOption texts ⊤ (λ told. (settings : Settings) → IsFirstFault settings names told found)

-- The file with this number could not be read; where the files are told, each one before it has a tree, and what is left
-- of it is its end.
pub record StopsAt (names : List (List ℕ)) (texts : Option Told) (rest : Option (List ℕ)) (number : ℕ) : Type 0 where
  pub before : List (List ℕ)
  pub file : List ℕ
  pub behind : List (List ℕ)
  pub files : names ≡ before ++ file ∷ behind
  pub place : length before ≡ number
  pub earlier : MatchOption texts ⊤ (λ told. (roots : List Element) × AllZip (HasTree told) before roots)
  pub left : MatchOption texts ⊤ (λ told. LeavesRest told file rest)

-- What is answered of files with these names, where this is left of the one opened last: their trees, where they are
-- told; or the first fault of a text; or which file could not be read.
abbrev pub FilesAnswer : List (List ℕ) → Option Told → Option (List ℕ) → Result (List Document) LoadError → Type 0
FilesAnswer names texts rest (Ok documents) = MatchOption texts ⊤ (λ told. AllZip (HasTree told) names (roots_of documents))
FilesAnswer names texts rest (Err (Bad found)) = IsTextFault names texts found
FilesAnswer names texts rest (Err (Read number)) = StopsAt names texts rest number
FilesAnswer names texts rest (Err Memory) = ⊤

-- The first so many files are read: these are their documents, where they are told, and of limited depth and size.
pub record AreRead (names : List (List ℕ)) (texts : Option Told) (count : ℕ) (documents : List Document) : Type 0 where
  pub trees : MatchOption texts ⊤ (λ told. AllZip (HasTree told) (take count names) (roots_of documents))
  pub number : length documents ≡ count
  pub flat : All (λ document. depth document.root ≤ MAX_DEPTH) documents
  pub small : All (λ document. elements_in document.root ≤ MAX_ELEMENTS) documents
