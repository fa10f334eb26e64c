-- How a run ends: for each status when it comes, what it leaves on out, and its line on err. This project's own.
use Rattle.std.specs.Prelude.{◌≡◌, ◌⊎◌, ◌<◌, ℕ, suc, Bool, true, false, List, [], ◌∷◌, ◌++◌, Option, Some, IsSomeAnd, IfSome, length, codes, decimal, unwrap_or}
use Rattle.std.specs.List.{slice_get}
use Rattle.std.specs.Io.KnownBytes.{Appends}
use Rattle.psa_nodes.specs.declared.node.Node.{Node}
use Rattle.psa_nodes.specs.Readings.{node_reading}
use Rattle.psa_nodes.specs.Table.{Table}
use Rattle.psa_model.specs.declared.fault.ModelFault.{ModelFault}
use Rattle.psa_model.specs.declared.settings.Settings.{Settings}
use Rattle.psa_model.specs.declared.targets.Target.{Target}
use Rattle.psa_model.specs.FaultTexts.{fault_line}
use Rattle.psa_ports.specs.Counts.{Rose}
use Rattle.psa_ports.specs.Sink.{AppendsPrefix}
use Rattle.psa_outcome.specs.declared.status.Status.{Status}
use Rattle.psa_outcome.specs.declared.status.Status.TheVariants.{Done, BadModel, BadWords, ReadFault, WriteFault, NodeLimit, OutOfMemory}
use Rattle.psa_outcome.specs.Causes.{names_of, Analysed, IsBadModel, IsUnread}
use Rattle.psa_outcome.specs.Inputs.{IsFirstFault, IsAnalysis}
use Rattle.psa_outcome.specs.Origins.{Origin, AllFrom, AtMost}
use Rattle.psa_outcome.specs.Runs.{Run, ReadRose, WriteRose, NoFaultRose, all_targets, Texts, Wrote, WroteFirst, WrotePart, Reported, ReportedFirst, IsOwnTable}
use Rattle.psa_model.specs.Report.{Analysis, IsReport}

-- the exit status of the program
abbrev pub exit_of : Status → ℕ
exit_of Done = 0
exit_of BadModel = 1
exit_of BadWords = 2
exit_of ReadFault = 3
exit_of WriteFault = 3
exit_of (NodeLimit number) = 4
exit_of OutOfMemory = 5

-- ---- lines

-- the name of the file with this number
abbrev pub file_name : Settings → ℕ → List ℕ
file_name settings file = unwrap_or (slice_get (names_of settings.input) file) []

-- the line where a file could not be read
abbrev pub unread_line : List ℕ → List ℕ
unread_line file = codes "scram: cannot read " ++ file ++ codes "\n"

-- the line where standard output failed
abbrev pub unwritten_line : List ℕ
unwritten_line = codes "scram: cannot write\n"

-- the line where the node limit stopped the run at a target
abbrev pub node_limit_line : ℕ → List ℕ
node_limit_line number = codes "scram: node limit at target " ++ decimal number ++ codes "\n"

-- the line where memory was wanting
abbrev pub out_of_memory_line : List ℕ
out_of_memory_line = codes "scram: out of memory\n"

-- ---- the rows

-- out grew by the report, and with a target, where more is asked than to validate, the table is the run's own
pub record IsFinished (run : Run) (table : Table) (analysis : Analysis) : Type 0 where
  pub reported : Reported analysis run.before run.after
  pub own_table : analysis.settings.validate ≡ false → (all_targets analysis ≡ [] → ⊥) → IsOwnTable analysis table

-- the report was written whole
pub record DoneRow (settings : Settings) (run : Run) (table : Table) (line : List ℕ) : Type 0 where
  pub silent : line ≡ []
  pub finished : Analysed settings run.told (IsFinished run table)

-- the first fault
pub record BadModelRow (settings : Settings) (run : Run) (line : List ℕ) : Type 0 where
  pub unchanged : run.after ≡ run.before
  pub found : ModelFault
  pub cause : IsBadModel settings run.told found
  pub spelled : line ≡ fault_line (file_name settings found.file) found

-- the file that was opened last
pub record ReadFaultRow (settings : Settings) (run : Run) (line : List ℕ) : Type 0 where
  pub rose : ReadRose run
  pub unchanged : run.after ≡ run.before
  pub number : ℕ
  pub last_opened : suc number ≡ run.opened
  pub cause : IsUnread settings run.told run.rest number
  pub spelled : line ≡ unread_line cause.file

-- standard output failed, and a prefix of the report was written
pub record WriteFaultRow (IsText : Texts) (settings : Settings) (run : Run) (line : List ℕ) : Type 0 where
  pub rose : WriteRose run
  pub writes : settings.validate ≡ false
  pub reported : Analysed settings run.told (λ analysis. WrotePart IsText analysis run.before run.after)
  pub spelled : line ≡ unwritten_line

-- as many nodes stand as the option allows, and a triple was refused
pub record IsTableFull (settings : Settings) (table : Table) : Type 0 where
  pub limit : settings.node_limit ≡ Some (length table.nodes)
  pub triple : Node
  pub refused : table.refused ≡ Some triple

-- A run stopped at the target with this number, from 1: the nodes have their origin in the targets up to it, the
-- refused triple in the target itself, and out grew by the head and the sections before it.
pub record IsStopped (analysis : Analysis) (number : ℕ) (table : Table) (triple : Node) (before after : Option (List ℕ)) : Type 0 where
  pub earlier : List Target
  pub target : Target
  pub behind : List Target
  pub targets : all_targets analysis ≡ earlier ++ target ∷ behind
  pub place : suc (length earlier) ≡ number
  pub nodes : AllFrom analysis (earlier ++ target ∷ []) table
  pub from_target : Origin analysis target triple.kind triple.var (node_reading table.nodes triple)
  pub reported : ReportedFirst analysis (length earlier) before after

-- a node was refused at the limit, and the head and the sections before that target were written
pub record NodeLimitRow (settings : Settings) (run : Run) (table : Table) (number : ℕ) (line : List ℕ) : Type 0 where
  pub from_one : 0 < number
  pub writes : settings.validate ≡ false
  pub full : IsTableFull settings table
  pub stopped : Analysed settings run.told (λ analysis. IsStopped analysis number table full.triple run.before run.after)
  pub spelled : line ≡ node_limit_line number

-- out grew by the text over the targets before some target
pub record IsBetween (IsText : Texts) (analysis : Analysis) (before after : Option (List ℕ)) : Type 0 where
  pub count : ℕ
  pub before_one : count < length (all_targets analysis)
  pub reported : WroteFirst IsText analysis count before after

-- out grew by the head and the whole sections of the targets before some target
abbrev pub IsBetweenSections : Analysis → Option (List ℕ) → Option (List ℕ) → Type 0
IsBetweenSections = IsBetween IsReport

-- memory was wanting, and nothing was written, or the head and the sections before some target
pub record OutOfMemoryRow (IsText : Texts) (settings : Settings) (run : Run) (line : List ℕ) : Type 0 where
  pub reported : (run.after ≡ run.before) ⊎ Analysed settings run.told (λ analysis. IsBetween IsText analysis run.before run.after)
  pub spelled : line ≡ out_of_memory_line

-- Where the words give these settings: each status with its row; the words are then not refused.
abbrev pub RunOutcome : Settings → Run → Table → List ℕ → Status → Type 0
RunOutcome settings run table line Done = DoneRow settings run table line
RunOutcome settings run table line BadModel = BadModelRow settings run line
RunOutcome settings run table line BadWords = ⊥
RunOutcome settings run table line ReadFault = ReadFaultRow settings run line
RunOutcome settings run table line WriteFault = WriteFaultRow IsReport settings run line
RunOutcome settings run table line (NodeLimit number) = NodeLimitRow settings run table number line
RunOutcome settings run table line OutOfMemory = OutOfMemoryRow IsReport settings run line

-- The same of a program that writes another text, and makes node tables of its own, without a limit.
pub record WrittenRow (IsText : Texts) (settings : Settings) (run : Run) (line : List ℕ) : Type 0 where
  pub silent : line ≡ []
  pub finished : Analysed settings run.told (λ analysis. Wrote IsText analysis run.before run.after)

-- where the words give these settings, of such a program: each status with its row
abbrev pub TextOutcome : Texts → Settings → Run → List ℕ → Status → Type 0
TextOutcome IsText settings run line Done = WrittenRow IsText settings run line
TextOutcome IsText settings run line BadModel = BadModelRow settings run line
TextOutcome IsText settings run line BadWords = ⊥
TextOutcome IsText settings run line ReadFault = ReadFaultRow settings run line
TextOutcome IsText settings run line WriteFault = WriteFaultRow IsText settings run line
TextOutcome IsText settings run line (NodeLimit number) = ⊥
TextOutcome IsText settings run line OutOfMemory = OutOfMemoryRow IsText settings run line

-- Where the words give no settings: the statuses, each with its text on err. `refused` is that on refused words.
pub data IsRefusal (refused : List ℕ) : Status → List ℕ → Type 0 where
  bad_words : IsRefusal refused BadWords refused
  out_of_memory : IsRefusal refused OutOfMemory out_of_memory_line

-- what a sink tells grew by a prefix of the text, and by all of it where its count of faults did not rise
pub record GrewBy (text : List ℕ) (faults : ℕ × ℕ) (before after : Option (List ℕ)) : Type 0 where
  pub prefix : AppendsPrefix before after text
  pub whole : (Rose faults.0 faults.1 → ⊥) → Appends before after text

-- the statuses at which nothing was written or made
abbrev pub writes_nothing : Status → Bool
writes_nothing BadModel = true
writes_nothing BadWords = true
writes_nothing ReadFault = true
writes_nothing Done = false
writes_nothing WriteFault = false
writes_nothing (NodeLimit number) = false
writes_nothing OutOfMemory = false

-- ---- when a run does not fail

-- no diagram is made where the model is only checked; else no more readings have an origin than the limit allows
abbrev pub IsWithinLimit : Settings → Analysis → Type 0
IsWithinLimit settings analysis =
    (settings.validate ≡ true) ⊎ IfSome settings.node_limit (λ limit. AtMost limit analysis (all_targets analysis))

-- the files are told, and have a first fault
abbrev pub HasFault : Settings → Run → Type 0
HasFault settings run =
    IsSomeAnd run.told (λ files. (found : ModelFault) × IsFirstFault settings (names_of settings.input) files found)

-- the files are told, and have no fault, and P holds of their analysis
abbrev pub HasAnalysis : Settings → Run → (Analysis → Type 0) → Type 0
HasAnalysis settings run P =
    IsSomeAnd run.told (λ files. (analysis : Analysis) × IsAnalysis settings (names_of settings.input) files analysis × P analysis)

-- that a run ends as its input says, where no file and no sink fails; want of memory alone may come in between
pub record Completeness (settings : Settings) (run : Run) (status : Status) : Type 0 where
  -- without read faults a first fault is told
  pub refused : (ReadRose run → ⊥) → HasFault settings run → (status ≡ BadModel) ⊎ (status ≡ OutOfMemory)
  -- without faults of devices or of the input, and within the node limit, the report is written
  pub reported : NoFaultRose run → HasAnalysis settings run (IsWithinLimit settings) → (status ≡ Done) ⊎ (status ≡ OutOfMemory)
