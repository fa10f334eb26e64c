-- What is answered of a file's text, and what is known of it while it is read. This project's own.
use Rattle.std.specs.Prelude.{◌≡◌, ◌≤◌, ℕ, List, ◌++◌, Option, Some, None, Result, Ok, Err, ⊤, length}
use Rattle.psa_text.specs.declared.scanner.Scanner.{Scanner}
use Rattle.psa_text.specs.declared.scanner.error.TextError.{TextError}
use Rattle.psa_text.specs.declared.scanner.error.TextError.TheVariants as text
use Rattle.psa_text.specs.declared.tree.Document.{Document}
use Rattle.psa_text.specs.scanner.State.{HasRead}
use Rattle.psa_text.specs.TextFaults.{NoFault}
use Rattle.psa_ports.specs.Folder.{text_of}
use Rattle.psa_outcome.specs.Causes.{LeavesRest}
use Rattle.psa_outcome.specs.Inputs.{Told, HasTree, ReadsAs}
use Rattle.psa_load.specs.declared.document.DocumentError.{DocumentError}
use Rattle.psa_load.specs.declared.document.DocumentError.TheVariants.{Fault, Read, Memory}

-- an error of a text as one of a file
abbrev pub text_error : TextError → DocumentError
text_error (text.Fault found) = Fault found
text_error text.Memory = Memory

-- What is answered of a file, where the files are told and this is left of it: its tree, or its first fault, or that a
-- read failed, where what is left is its end.
abbrev pub DocumentAnswers : Told → List ℕ → Option (List ℕ) → Result Document DocumentError → Type 0
DocumentAnswers told name rest (Ok document) = HasTree told name document.root
DocumentAnswers told name rest (Err (Fault found)) = ReadsAs told (Err found) name
DocumentAnswers told name rest (Err Read) = LeavesRest told name rest
DocumentAnswers told name rest (Err Memory) = ⊤

-- where the files are told, the bytes that were got and those that are left are the file's
abbrev pub Reads : Option Told → List ℕ → List ℕ → Option (List ℕ) → Type 0
Reads None name got left = ⊤
Reads (Some told) name got None = ⊥
Reads (Some told) name got (Some left) = text_of name told ≡ Some (got ++ left)

-- A file while it is read: the scanner has read its bytes so far, one in each turn at least, and none of them decides a
-- fault.
pub record HasGot (texts : Option Told) (name : List ℕ) (rest : Option (List ℕ)) (turns : ℕ) (scanner : Scanner) : Type 0 where
  pub bytes : List ℕ
  pub read : HasRead scanner bytes
  pub sound : NoFault bytes
  pub turned : turns ≤ length bytes
  pub reads : Reads texts name bytes rest
