-- What writing the sections of a report leaves on a sink and in the node table. (This project's own.)
use Rattle.std.specs.Prelude.{◌≡◌, ◌≤◌, ◌+◌, ℕ, List, Option, Some, All, Result, Err, OnOk, take}
use Rattle.std.specs.Io.KnownBytes.{Appends}
use Rattle.psa_nodes.specs.declared.node.Node.{Node}
use Rattle.psa_nodes.specs.Nodes.{IsBounded}
use Rattle.psa_nodes.specs.Progress.{Progress, IsFull}
use Rattle.psa_nodes.specs.Table.{Table, IsRefused}
use Rattle.psa_model.specs.declared.targets.Target.{Target}
use Rattle.psa_model.specs.Report.{Analysis, IsReport, IsSection}
use Rattle.psa_outcome.specs.Origins.{AllFrom, Origin}
use Rattle.psa_outcome.specs.RunOutcome.{IsBetweenSections, IsStopped}
use Rattle.psa_outcome.specs.Runs.{HasProducts, IsOwnTable, ReportedFirst, ReportedPart, all_targets}
use Rattle.psa_ports.specs.Counts.{Rose}
use Rattle.psa_ports.specs.Sink.{AppendsPrefix}
use Rattle.psa_nodes.specs.declared.node.NodeError.{NodeError}
use Rattle.psa_nodes.specs.declared.node.NodeError.TheVariants as node
use Rattle.psa_sections.specs.declared.report.ReportError.{ReportError}
use Rattle.psa_sections.specs.declared.report.ReportError.TheVariants as report
use Rattle.psa_sections.specs.declared.report.TargetError.{TargetError}
use Rattle.psa_sections.specs.declared.report.TargetError.TheVariants.{Full, Memory, Write}

-- why a section was not written, by why a node was not made
abbrev pub target_error : NodeError → TargetError
target_error node.Full = Full
target_error node.Memory = Memory

-- how a report ends by why the section of the target at a place was not written
abbrev pub report_error : TargetError → ℕ → ReportError
report_error Write place = report.Write
report_error Full place = report.Full (place + 1)
report_error Memory place = report.Memory

-- What writing a target's section leaves, with its answer. The new nodes have their origin in the target. Where it is
-- written, its products stand in the table; where the sink failed, a prefix of it was appended; else nothing was.
pub record WritesTarget (analysis : Analysis) (target : Target) (tables : Table × Table) (faults : ℕ × ℕ) (before after : Option (List ℕ)) (answer : Result (Unit {0}) TargetError) : Type 0 where
  pub progress : Progress (Origin analysis target) 0 tables.0 tables.1
  pub later : faults.0 ≤ faults.1
  pub products : OnOk answer (HasProducts analysis tables.1 target)
  pub written : OnOk answer ((text : List ℕ) × IsSection analysis target text × Appends before after text)
  pub unwritten : answer ≡ Err Write
      → Rose faults.0 faults.1 × ((text : List ℕ) × IsSection analysis target text × AppendsPrefix before after text)
  pub full : answer ≡ Err Full → IsFull (Origin analysis target) 0 tables.1 × (after ≡ before)
  pub memory : answer ≡ Err Memory → after ≡ before

-- So many first targets have their sections, written behind what out had taken: the nodes have their origin in these
-- targets, and their products stand in the table.
pub record HasSections (analysis : Analysis) (count : ℕ) (tables : Table × Table) (faults : ℕ × ℕ) (start now : Option (List ℕ)) : Type 0 where
  pub reported : (before : Option (List ℕ)) → ReportedFirst analysis 0 before start → ReportedFirst analysis count before now
  pub nodes : AllFrom analysis (take count (all_targets analysis)) tables.1
  pub products : All (HasProducts analysis tables.1) (take count (all_targets analysis))
  pub bounded : IsBounded tables.1.nodes
  pub limit : tables.1.limit ≡ tables.0.limit
  pub later : faults.0 ≤ faults.1

-- out grew by the report, and the table is the run's own
pub record HasReport (analysis : Analysis) (table : Table) (before after : Option (List ℕ)) : Type 0 where
  pub text : List ℕ
  pub is_report : IsReport analysis (all_targets analysis) text
  pub appended : Appends before after text
  pub own_table : IsOwnTable analysis table

-- a triple was refused at the target with this number, from 1
pub record IsFullReport (analysis : Analysis) (number : ℕ) (table : Table) (before after : Option (List ℕ)) : Type 0 where
  pub triple : Node
  pub last : table.refused ≡ Some triple
  pub refusal : IsRefused table.nodes table.limit triple
  pub stopped : IsStopped analysis number table triple before after

-- How the writing of sections ends, where out grew by the head before it.
pub record EndsReport (analysis : Analysis) (tables : Table × Table) (faults : ℕ × ℕ) (before after : Option (List ℕ)) (answer : Result (Unit {0}) ReportError) : Type 0 where
  pub finished : OnOk answer (HasReport analysis tables.1 before after)
  pub unwritten : answer ≡ Err report.Write → Rose faults.0 faults.1 × ReportedPart analysis before after
  pub full : (number : ℕ) → answer ≡ Err (report.Full number) → IsFullReport analysis number tables.1 before after
  pub memory : answer ≡ Err report.Memory → IsBetweenSections analysis before after
  pub limit : tables.1.limit ≡ tables.0.limit
  pub later : faults.0 ≤ faults.1
