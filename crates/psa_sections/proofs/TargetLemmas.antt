-- What writing the section of a target leaves, by what its two steps leave.
use Rattle.std.proofs.Common.{◌≡◌, ℕ, List, Option, refl, sym, ap, subst, arith}
use Rattle.std.specs.Prelude.{Result, Ok, Err}
use Rattle.std.specs.Result.{IsErrAnd}
use Rattle.psa_nodes.specs.declared.node.NodeError.{NodeError}
use Rattle.psa_nodes.specs.declared.node.NodeError.TheVariants as node
use Rattle.psa_nodes.specs.declared.node.NodeId.{NodeId}
use Rattle.psa_nodes.specs.Progress.{IsCall}
use Rattle.psa_nodes.specs.Table.{Table}
use Rattle.psa_model.specs.declared.targets.Target.{Target}
use Rattle.psa_model.specs.Report.{Analysis}
use Rattle.psa_outcome.specs.Origins.{Origin}
use Rattle.psa_outcome.specs.Runs.{HasProducts}
use Rattle.psa_sections.specs.declared.report.TargetError.{TargetError}
use Rattle.psa_sections.specs.declared.report.TargetError.TheVariants.{Write}
use Rattle.psa_sections.specs.Reports.{WritesTarget, target_error}
use Rattle.psa_sections.specs.Writing.{WritesSection}

-- what a refusal was turned into
pub turned : {A E : Type 0} (result : Result A E) (error : E) → IsErrAnd result (λ e. e ≡ error) → result ≡ Err error
turned (Ok x) error none = absurd none
turned (Err e) error same = ap Err same

module _ (analysis : Analysis) (target : Target) (before now : Table) where
  -- the node of the products was not made
  pub unmade : (error : NodeError) (faults : ℕ) (bytes : Option (List ℕ)) (answer : Result (Unit {0}) TargetError) → IsCall (Origin analysis target) 0 {A = NodeId} before now (Err error) → answer ≡ Err (target_error error) → WritesTarget analysis target (before, now) (faults, faults) bytes bytes answer
  unmade error faults bytes answer call is =
      subst (WritesTarget analysis target (before, now) (faults, faults) bytes bytes) (sym is) (of error call)
    where
      of : (error : NodeError) → IsCall (Origin analysis target) 0 {A = NodeId} before now (Err error) → WritesTarget analysis target (before, now) (faults, faults) bytes bytes (Err (target_error error))
      of node.Full call = record {
        progress = call.progress;
        later = omega arith;
        products = tt;
        written = tt;
        unwritten = λ e. absurd (cc);
        full = λ e. (call.full refl, refl);
        memory = λ e. absurd (cc);
      }
      of node.Memory call = record {
        progress = call.progress;
        later = omega arith;
        products = tt;
        written = tt;
        unwritten = λ e. absurd (cc);
        full = λ e. absurd (cc);
        memory = λ e. refl;
      }

  module _ (id : NodeId) (call : IsCall (Origin analysis target) 0 {A = NodeId} before now (Ok id)) (products : HasProducts analysis now target) (faults later : ℕ) (bytes after : Option (List ℕ)) where
    -- the section was written
    pub section-written : {E : Type 0} (result : Result (Unit {0}) E) (answer : Result (Unit {0}) TargetError) → WritesSection {E = E} analysis target bytes after faults later result → result ≡ Ok tt → answer ≡ Ok tt → WritesTarget analysis target (before, now) (faults, later) bytes after answer
    section-written {E} result answer section ok is =
        subst (WritesTarget analysis target (before, now) (faults, later) bytes after) (sym is) (of (subst (λ (r : Result (Unit {0}) E). WritesSection {E = E} analysis target bytes after faults later r) ok section))
      where
        of : WritesSection {E = E} analysis target bytes after faults later (Ok tt) → WritesTarget analysis target (before, now) (faults, later) bytes after (Ok tt)
        of section = record {
          progress = call.progress;
          later = section.written.cause.later;
          products = products;
          written = (section.text, section.is_section, section.written.whole);
          unwritten = λ e. absurd (cc);
          full = λ e. absurd (cc);
          memory = λ e. absurd (cc);
        }

    -- the sink failed
    pub section-unwritten : {E : Type 0} (result : Result (Unit {0}) E) (error : E) (answer : Result (Unit {0}) TargetError) → WritesSection {E = E} analysis target bytes after faults later result → result ≡ Err error → answer ≡ Err Write → WritesTarget analysis target (before, now) (faults, later) bytes after answer
    section-unwritten {E} result error answer section err is =
        subst (WritesTarget analysis target (before, now) (faults, later) bytes after) (sym is) (of (subst (λ (r : Result (Unit {0}) E). WritesSection {E = E} analysis target bytes after faults later r) err section))
      where
        of : WritesSection {E = E} analysis target bytes after faults later (Err error) → WritesTarget analysis target (before, now) (faults, later) bytes after (Err Write)
        of section = record {
          progress = call.progress;
          later = section.written.cause.later;
          products = tt;
          written = tt;
          unwritten = λ e. (section.written.cause.failed, (section.text, section.is_section, section.written.part));
          full = λ e. absurd (cc);
          memory = λ e. absurd (cc);
        }
