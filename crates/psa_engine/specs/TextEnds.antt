-- How a run ends that writes a text over the targets of an analysis, whatever text that is, and what it leaves on a
-- sink. Its nodes have no limit that is told. This project's own.
use Rattle.std.specs.Prelude.{◌≡◌, ℕ, List, Option}
use Rattle.std.specs.Io.KnownBytes.{Appends}
use Rattle.psa_model.specs.Report.{Analysis}
use Rattle.psa_outcome.specs.RunOutcome.{IsBetween}
use Rattle.psa_outcome.specs.Runs.{Texts, WrotePart, all_targets}
use Rattle.psa_ports.specs.Counts.{Rose}
use Rattle.psa_engine.specs.declared.end.End.{End}
use Rattle.psa_engine.specs.declared.end.End.TheVariants as end

-- out grew by the whole text
pub record HasText (IsText : Texts) (analysis : Analysis) (before after : Option (List ℕ)) : Type 0 where
  pub text : List ℕ
  pub is_text : IsText analysis (all_targets analysis) text
  pub appended : Appends before after text

-- how a text ends that was begun
abbrev pub EndsText : Texts → Analysis → ℕ × ℕ → Option (List ℕ) → Option (List ℕ) → End → Type 0
EndsText IsText analysis faults before after end.Done = HasText IsText analysis before after
EndsText IsText analysis faults before after (end.Bad fault file) = ⊥
EndsText IsText analysis faults before after (end.Read number) = ⊥
EndsText IsText analysis faults before after end.Write = Rose faults.0 faults.1 × WrotePart IsText analysis before after
EndsText IsText analysis faults before after (end.Full number) = ⊥
EndsText IsText analysis faults before after end.Memory = IsBetween IsText analysis before after

-- How a run ends whose input was loaded: memory was wanting before the text, or the text was begun.
pub data EndsRun (IsText : Texts) (analysis : Analysis) (faults : ℕ × ℕ) (before after : Option (List ℕ)) : End → Type 0 where
  unbegun : after ≡ before → EndsRun IsText analysis faults before after end.Memory
  begun :
      (how : End) → EndsText IsText analysis faults before after how
      → EndsRun IsText analysis faults before after how
