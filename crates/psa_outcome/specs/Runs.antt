-- What a run had and what it left. What is said of a file's bytes is said where the folder tells its files, and what
-- is said of bytes written where the sink tells them. This project's own.
use Rattle.std.specs.Prelude.{◌≡◌, ◌↔◌, ℕ, true, List, ◌++◌, Option, Some, All, length}
use Rattle.std.specs.Io.KnownBytes.{Appends}
use Rattle.psa_nodes.specs.declared.node.Node.{Node}
use Rattle.psa_nodes.specs.declared.node.Kind.TheVariants as node
use Rattle.psa_nodes.specs.Readings.{reading, node_at, stands}
use Rattle.psa_nodes.specs.Table.{Table}
use Rattle.psa_model.specs.declared.settings.Settings.{Settings}
use Rattle.psa_model.specs.declared.targets.Target.{Target}
use Rattle.psa_model.specs.PathTargets.{targets_of}
use Rattle.psa_ports.specs.Counts.{Rose}
use Rattle.psa_ports.specs.Sink.{AppendsPrefix}
use Rattle.psa_outcome.specs.Brackets.{IsBracketed}
use Rattle.psa_outcome.specs.Causes.{told_of}
use Rattle.psa_outcome.specs.Inputs.{Told}
use Rattle.psa_outcome.specs.Origins.{AllFrom, is_by_graph}
use Rattle.psa_model.specs.Report.{Analysis, IsReport, IsProductOf}

-- what a run had, and what it left
pub record Run : Type 0 where
  -- the files that are told, what is left of the one that was opened last, and by how many the opens rose
  pub told : Option Told
  pub rest : Option (List ℕ)
  pub opened : ℕ
  -- the counts of faults of the folder and of out, before and after
  pub folder_faults : ℕ × ℕ
  pub out_faults : ℕ × ℕ
  -- the bytes of out, before and after
  pub before : Option (List ℕ)
  pub after : Option (List ℕ)

-- a run by these settings over a folder that tells these files
abbrev pub run_of : Settings → Option Told → Option (List ℕ) → ℕ → ℕ × ℕ → ℕ × ℕ → Option (List ℕ) → Option (List ℕ) → Run
run_of settings told rest opened folder_faults out_faults before after = record {
  told = told_of settings.input told;
  rest = rest;
  opened = opened;
  folder_faults = folder_faults;
  out_faults = out_faults;
  before = before;
  after = after;
}

-- the folder's count of faults rose
abbrev pub ReadRose : Run → Type 0
ReadRose run = Rose run.folder_faults.0 run.folder_faults.1

-- the sink's count of faults rose
abbrev pub WriteRose : Run → Type 0
WriteRose run = Rose run.out_faults.0 run.out_faults.1

-- neither count of faults rose
abbrev pub NoFaultRose : Run → Type 0
NoFaultRose run = (ReadRose run → ⊥) × (WriteRose run → ⊥)

-- ---- what out grew by

-- the targets of the analysed model
abbrev pub all_targets : Analysis → List Target
all_targets analysis = targets_of analysis.expanded.model

-- What a program writes of an analysis: the texts that it may have over some of the first targets, of which the text
-- over all of them is the whole one.
abbrev pub Texts : Type 1
Texts = Analysis → List Target → List ℕ → Type 0

-- out grew by the whole text, whose intervals hold the exact quantities
pub record Wrote (IsText : Texts) (analysis : Analysis) (before after : Option (List ℕ)) : Type 0 where
  pub text : List ℕ
  pub is_report : IsText analysis (all_targets analysis) text
  pub bracketed : IsBracketed analysis
  pub appended : Appends before after text

-- out grew by a prefix of the text over some first targets
pub record WrotePart (IsText : Texts) (analysis : Analysis) (before after : Option (List ℕ)) : Type 0 where
  pub shown : List Target
  pub more : List Target
  pub are_targets : all_targets analysis ≡ shown ++ more
  pub text : List ℕ
  pub is_report : IsText analysis shown text
  pub appended : AppendsPrefix before after text

-- out grew by the text over so many first targets
pub record WroteFirst (IsText : Texts) (analysis : Analysis) (count : ℕ) (before after : Option (List ℕ)) : Type 0 where
  pub shown : List Target
  pub more : List Target
  pub are_targets : all_targets analysis ≡ shown ++ more
  pub number : length shown ≡ count
  pub text : List ℕ
  pub is_report : IsText analysis shown text
  pub appended : Appends before after text

-- the same of the report
abbrev pub Reported : Analysis → Option (List ℕ) → Option (List ℕ) → Type 0
Reported = Wrote IsReport

abbrev pub ReportedPart : Analysis → Option (List ℕ) → Option (List ℕ) → Type 0
ReportedPart = WrotePart IsReport

-- out grew by the head and the sections of so many first targets
abbrev pub ReportedFirst : Analysis → ℕ → Option (List ℕ) → Option (List ℕ) → Type 0
ReportedFirst = WroteFirst IsReport

-- ---- the run's own table

-- some node or terminal reads as exactly the products of the target
abbrev pub HasProducts : Analysis → Table → Target → Type 0
HasProducts analysis table target =
    (id : ℕ) × (stands node.Zbdd 0 table.nodes id ≡ true)
    × ((product : List ℕ) → ((reading table.nodes id).as_family product ≡ true) ↔ IsProductOf analysis target product)

-- Each node has its origin in some target, and the products of each target stand in the table; where they come straight
-- from the graph, as by `--zbdd`, there is no decision diagram.
pub record IsOwnTable (analysis : Analysis) (table : Table) : Type 0 where
  pub from : AllFrom analysis (all_targets analysis) table
  pub products : All (HasProducts analysis table) (all_targets analysis)
  pub families : is_by_graph analysis.settings.algorithm analysis.settings.mode ≡ true
      → (id : ℕ) (n : Node) → node_at table.nodes id ≡ Some n → n.kind ≡ node.Zbdd
