-- How a run ends, its status and its line. (This project's own.)
use Rattle.std.specs.Prelude.{◌≡◌, ◌⊎◌, ◌≤◌, ℕ, Bool, true, false, ⊤, List, [], Option, unwrap_or}
use Rattle.std.specs.Io.KnownBytes.{Keeps}
use Rattle.psa_model.specs.declared.fault.ModelFault.{ModelFault}
use Rattle.std.specs.List.{slice_get}
use Rattle.psa_nodes.specs.Table.{Table}
use Rattle.psa_model.specs.declared.settings.Input.{Input}
use Rattle.psa_model.specs.declared.settings.Settings.{Settings}
use Rattle.psa_model.specs.FaultTexts.{fault_line}
use Rattle.psa_model.specs.Report.{Analysis}
use Rattle.psa_outcome.specs.declared.status.Status.{Status}
use Rattle.psa_outcome.specs.declared.status.Status.TheVariants as status
use Rattle.psa_outcome.specs.Causes.{names_of}
use Rattle.psa_outcome.specs.RunOutcome.{IsBetweenSections, node_limit_line, out_of_memory_line, unread_line, unwritten_line}
use Rattle.psa_outcome.specs.Runs.{ReportedPart}
use Rattle.psa_ports.specs.Counts.{Rose}
use Rattle.psa_sections.specs.Reports.{HasReport, IsFullReport}
use Rattle.psa_words.specs.declared.fault.WordsError.{WordsError}
use Rattle.psa_words.specs.declared.fault.WordsError.TheVariants as words
use Rattle.psa_words.specs.Refused.{refused_text}
use Rattle.psa_engine.specs.declared.end.End.{End}
use Rattle.psa_engine.specs.declared.end.End.TheVariants.{Done, Bad, Read, Write, Full, Memory}

-- the status and the text on err where words give no settings
abbrev pub refusal_status : WordsError → Status
refusal_status words.BadWords = status.BadWords
refusal_status words.Memory = status.OutOfMemory

abbrev pub refusal_text : List ℕ → WordsError → List ℕ
refusal_text program words.BadWords = refused_text program
refusal_text program words.Memory = out_of_memory_line

-- the name of the file with this number
abbrev pub name_in_input : Input → ℕ → List ℕ
name_in_input input number = unwrap_or (slice_get (names_of input) number) []

abbrev pub status_of : End → Status
status_of Done = status.Done
status_of (Bad fault file) = status.BadModel
status_of (Read number) = status.ReadFault
status_of Write = status.WriteFault
status_of (Full number) = status.NodeLimit number
status_of Memory = status.OutOfMemory

abbrev pub line_of : Settings → End → List ℕ
line_of settings Done = []
line_of settings (Bad fault file) = fault_line file fault
line_of settings (Read number) = unread_line (name_in_input settings.input number)
line_of settings Write = unwritten_line
line_of settings (Full number) = node_limit_line number
line_of settings Memory = out_of_memory_line

-- the statuses at which the report, or its head and first sections, stands and nothing of it waits in the sink
abbrev pub passes_on : Status → Bool
passes_on status.Done = true
passes_on (status.NodeLimit number) = true
passes_on status.BadModel = false
passes_on status.BadWords = false
passes_on status.ReadFault = false
passes_on status.WriteFault = false
passes_on status.OutOfMemory = false

-- how a report ends that was begun
abbrev pub EndsShown : Analysis → Table → ℕ × ℕ → Option (List ℕ) → Option (List ℕ) → End → Type 0
EndsShown analysis table faults before after Done = HasReport analysis table before after
EndsShown analysis table faults before after (Bad fault file) = ⊥
EndsShown analysis table faults before after (Read number) = ⊥
EndsShown analysis table faults before after Write = Rose faults.0 faults.1 × ReportedPart analysis before after
EndsShown analysis table faults before after (Full number) = IsFullReport analysis number table before after
EndsShown analysis table faults before after Memory = IsBetweenSections analysis before after

-- How a run ends whose input was loaded: the model is only checked, memory was wanting before the report, or the
-- report was begun.
pub data EndsLoaded (analysis : Analysis) (table : Table) (faults : ℕ × ℕ) (before after : Option (List ℕ)) : End → Type 0 where
  checked : analysis.settings.validate ≡ true → after ≡ before → EndsLoaded analysis table faults before after Done
  unbegun : after ≡ before → EndsLoaded analysis table faults before after Memory
  shown :
      (end : End) → analysis.settings.validate ≡ false → table.limit ≡ analysis.settings.node_limit
      → EndsShown analysis table faults before after end → EndsLoaded analysis table faults before after end

-- the end where the model has a fault: the fault with the name of its file, or want of memory
abbrev pub IsRefusedModel : Settings → ModelFault → End → Type 0
IsRefusedModel settings fault (Bad found file) = (found ≡ fault) × (file ≡ name_in_input settings.input fault.file)
IsRefusedModel settings fault Memory = ⊤
IsRefusedModel settings fault _ = ⊥

-- what the sink was given stays; the end is the same where it was passed on, else that of a failed write
pub record PassesOn (faults : ℕ × ℕ) (before after : Option (List ℕ)) (one other : End) : Type 0 where
  pub kept : Keeps before after
  pub later : faults.0 ≤ faults.1
  pub end : (other ≡ one) ⊎ ((other ≡ Write) × Rose faults.0 faults.1)
