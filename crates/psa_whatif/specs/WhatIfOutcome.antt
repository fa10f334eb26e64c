-- How a run of edits ends: for each status when it comes, what it leaves on out, and its line on err. This project's
-- own.
use Rattle.std.specs.Prelude.{⊤, ◌≡◌, ◌⊎◌, ◌<◌, ◌≤◌, ◌+◌, ℕ, List, [], ◌∷◌, ◌++◌, Option, Some, None, MatchOption, IsSomeAnd, codes, decimal, length, take}
use Rattle.std.specs.Io.KnownBytes.{Appends}
use Rattle.psa_model.specs.declared.settings.Settings.{Settings}
use Rattle.psa_model.specs.Report.{Analysis}
use Rattle.psa_ports.specs.Folder.{text_of}
use Rattle.psa_ports.specs.Sink.{AppendsPrefix}
use Rattle.psa_outcome.specs.Causes.{Analysed, IsUnread}
use Rattle.psa_outcome.specs.Inputs.{Told}
use Rattle.psa_outcome.specs.RunOutcome.{BadModelRow, HasAnalysis, HasFault, out_of_memory_line, unread_line, unwritten_line}
use Rattle.psa_outcome.specs.Runs.{NoFaultRose, ReadRose, Run, WriteRose}
use Rattle.psa_whatif.specs.declared.status.WhatIfStatus.{WhatIfStatus}
use Rattle.psa_whatif.specs.declared.status.WhatIfStatus.TheVariants.{Done, BadModel, BadEdit, BadWords, ReadFault, WriteFault, OutOfMemory}
use Rattle.psa_whatif.specs.EditText.{AreReports, IsWhatIfText, lines_of, reported_states, script_of}
use Rattle.psa_whatif.specs.Edits.{Edit}

-- ---- lines

-- the most bytes of a file of edits
abbrev pub most_bytes : ℕ
most_bytes = 1048576

-- the number of the line in which a byte stands, from 1, by the bytes before it
abbrev pub line_behind : List ℕ → ℕ
line_behind bytes = length (lines_of bytes)

-- the line of a bad edit, by the file of edits and the number of its line
abbrev pub bad_edit_line : List ℕ → ℕ → List ℕ
bad_edit_line file number = codes "scram: " ++ file ++ codes ":" ++ decimal number ++ codes ": bad edit\n"

-- the exit status of the program
abbrev pub exit_of : WhatIfStatus → ℕ
exit_of Done = 0
exit_of BadModel = 1
exit_of (BadEdit number) = 1
exit_of BadWords = 2
exit_of ReadFault = 3
exit_of WriteFault = 3
exit_of OutOfMemory = 5

-- ---- the files

-- A run of edits: the file of edits, settings that name the files of the model alone, and a run over these whose number
-- of opens counts all files, that of edits first.
pub record EditRun : Type 0 where
  pub name : List ℕ
  pub settings : Settings
  pub run : Run

-- where files are told, that of edits is, and P holds of its text
abbrev pub OfEdits : EditRun → (List ℕ → Type 0) → Type 0
OfEdits e P = MatchOption e.run.told ⊤ (λ files. IsSomeAnd (text_of e.name files) P)

-- a text of edits is not too long
abbrev pub IsShort : List ℕ → Type 0
IsShort text = length text ≤ most_bytes

-- a text of edits is too long, and the first byte too many stands in the line with this number
abbrev pub IsLongAt : ℕ → List ℕ → Type 0
IsLongAt number text = (most_bytes < length text) × (line_behind (take most_bytes text) ≡ number)

-- where files are told: the text of edits is not too long, the model has an analysis, and P holds of both
abbrev pub OfBoth : EditRun → (List ℕ → Analysis → Type 0) → Type 0
OfBoth e P = OfEdits e (λ text. IsShort text × Analysed e.settings e.run.told (P text))

-- ---- what out grew by

-- out grew by the whole text
pub record WroteAll (edits : List ℕ) (accepted : Analysis) (before after : Option (List ℕ)) : Type 0 where
  pub text : List ℕ
  pub is_text : IsWhatIfText accepted edits text
  pub appended : Appends before after text

-- out grew by a prefix of the text
pub record WrotePrefix (edits : List ℕ) (accepted : Analysis) (before after : Option (List ℕ)) : Type 0 where
  pub text : List ℕ
  pub is_text : IsWhatIfText accepted edits text
  pub appended : AppendsPrefix before after text

-- out grew by some first whole reports of the text
pub record WroteReports (edits : List ℕ) (accepted : Analysis) (before after : Option (List ℕ)) : Type 0 where
  pub states : List (List Edit)
  pub more : List (List Edit)
  pub are_states : reported_states accepted edits ≡ states ++ more
  pub text : List ℕ
  pub are_reports : AreReports accepted states text
  pub appended : Appends before after text

-- ---- the rows

-- no line is bad, and the whole text was written
pub record DoneRow (e : EditRun) (line : List ℕ) : Type 0 where
  pub silent : line ≡ []
  pub finished : OfBoth e (λ edits accepted. ((script_of accepted edits).bad ≡ None)
      × WroteAll edits accepted e.run.before e.run.after)

-- the first fault of the model; the text of edits is not too long
pub record ModelRow (e : EditRun) (line : List ℕ) : Type 0 where
  pub short : OfEdits e IsShort
  pub row : BadModelRow e.settings e.run line

-- the text of edits is too long: no file of the model was opened, and nothing was written
pub record IsTooLong (e : EditRun) (number : ℕ) : Type 0 where
  pub only : e.run.opened ≡ 1
  pub unchanged : e.run.after ≡ e.run.before
  pub byte : OfEdits e (IsLongAt number)

-- this line is the first bad one, and the reports before it were written
abbrev pub IsFirstBad : EditRun → ℕ → Type 0
IsFirstBad e number =
    OfBoth e (λ edits accepted. ((script_of accepted edits).bad ≡ Some number)
    × WroteAll edits accepted e.run.before e.run.after)

-- a bad line of one of the two kinds
pub record BadEditRow (e : EditRun) (number : ℕ) (line : List ℕ) : Type 0 where
  pub cause : IsTooLong e number ⊎ IsFirstBad e number
  pub spelled : line ≡ bad_edit_line e.name number

-- What is left of the file of edits where reading ended: where it is told and not empty, it is the end of its bytes.
abbrev pub LeavesEnd : Told → List ℕ → Option (List ℕ) → Type 0
LeavesEnd files name None = ⊤
LeavesEnd files name (Some []) = ⊤
LeavesEnd files name (Some (b ∷ bytes)) =
    IsSomeAnd (text_of name files) (λ text. (front : List ℕ) × (text ≡ front ++ b ∷ bytes))

-- the file of edits could not be read: it was the only one opened
pub record IsUnreadEdits (e : EditRun) (line : List ℕ) : Type 0 where
  pub only : e.run.opened ≡ 1
  pub left : MatchOption e.run.told ⊤ (λ files. LeavesEnd files e.name e.run.rest)
  pub spelled : line ≡ unread_line e.name

-- a file of the model could not be read: the one opened last, after that of edits, whose text is not too long
pub record IsUnreadModel (e : EditRun) (line : List ℕ) : Type 0 where
  pub number : ℕ
  pub last_opened : number + 2 ≡ e.run.opened
  pub short : OfEdits e IsShort
  pub cause : IsUnread e.settings e.run.told e.run.rest number
  pub spelled : line ≡ unread_line cause.file

-- the file that was opened last could not be read
pub record ReadFaultRow (e : EditRun) (line : List ℕ) : Type 0 where
  pub rose : ReadRose e.run
  pub unchanged : e.run.after ≡ e.run.before
  pub cause : IsUnreadEdits e line ⊎ IsUnreadModel e line

-- standard output failed, and a prefix of the text was written
pub record WriteFaultRow (e : EditRun) (line : List ℕ) : Type 0 where
  pub rose : WriteRose e.run
  pub reported : OfBoth e (λ edits accepted. WrotePrefix edits accepted e.run.before e.run.after)
  pub spelled : line ≡ unwritten_line

-- memory was wanting, and nothing was written, or some first whole reports
pub record OutOfMemoryRow (e : EditRun) (line : List ℕ) : Type 0 where
  pub reported : (e.run.after ≡ e.run.before)
      ⊎ OfBoth e (λ edits accepted. WroteReports edits accepted e.run.before e.run.after)
  pub spelled : line ≡ out_of_memory_line

-- Where the words ask for a run: each status with its row; the words are then not refused.
abbrev pub EditOutcome : EditRun → List ℕ → WhatIfStatus → Type 0
EditOutcome e line Done = DoneRow e line
EditOutcome e line BadModel = ModelRow e line
EditOutcome e line (BadEdit number) = BadEditRow e number line
EditOutcome e line BadWords = ⊥
EditOutcome e line ReadFault = ReadFaultRow e line
EditOutcome e line WriteFault = WriteFaultRow e line
EditOutcome e line OutOfMemory = OutOfMemoryRow e line

-- Where the words ask for none: the statuses, each with its text on err. `refused` is that on refused words.
pub data IsEditRefusal (refused : List ℕ) : WhatIfStatus → List ℕ → Type 0 where
  bad_words : IsEditRefusal refused BadWords refused
  out_of_memory : IsEditRefusal refused OutOfMemory out_of_memory_line

-- ---- when a run does not fail

-- the file of edits is told, and P holds of its text
abbrev pub HasEdits : EditRun → (List ℕ → Type 0) → Type 0
HasEdits e P = IsSomeAnd e.run.told (λ files. IsSomeAnd (text_of e.name files) P)

-- it is told and not too long, the model has an analysis, and its first bad line is this
abbrev pub HasScript : EditRun → Option ℕ → Type 0
HasScript e bad =
    HasEdits e (λ text. IsShort text × HasAnalysis e.settings e.run (λ accepted. (script_of accepted text).bad ≡ bad))

-- a status, or that memory was wanting
abbrev pub IsOr : WhatIfStatus → WhatIfStatus → Type 0
IsOr status other = (status ≡ other) ⊎ (status ≡ OutOfMemory)

-- That a run ends as its input says, where no file and no sink fails; want of memory alone may come in between.
pub record EditCompleteness (e : EditRun) (status : WhatIfStatus) : Type 0 where
  -- without read faults: a text of edits that is too long is told, whatever the model; else a first fault is
  pub too_long : (ReadRose e.run → ⊥) → (number : ℕ) → HasEdits e (IsLongAt number) → IsOr status (BadEdit number)
  pub refused : (ReadRose e.run → ⊥) → HasEdits e IsShort → HasFault e.settings e.run → IsOr status BadModel
  -- without faults of devices: the first bad line is told, and without one all is written
  pub bad_edit : NoFaultRose e.run → (number : ℕ) → HasScript e (Some number) → IsOr status (BadEdit number)
  pub reported : NoFaultRose e.run → HasScript e None → IsOr status Done
