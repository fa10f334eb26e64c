-- How the writing of the sections of shares ends, and what it leaves on a sink. This project's own.
use Rattle.std.specs.Prelude.{◌≡◌, ◌≤◌, ℕ, List, Option, Result, Ok, Err}
use Rattle.std.specs.Io.KnownBytes.{Appends}
use Rattle.psa_model.specs.declared.targets.Target.{Target}
use Rattle.psa_model.specs.Report.{Analysis}
use Rattle.psa_outcome.specs.Runs.{WroteFirst}
use Rattle.psa_ports.specs.Counts.{Rose}
use Rattle.psa_ports.specs.Sink.{AppendsPrefix}
use Rattle.psa_engine.specs.declared.end.End.{End}
use Rattle.psa_engine.specs.declared.end.End.TheVariants as end
use Rattle.psa_shares.specs.declared.text.TextError.{TextError}
use Rattle.psa_shares.specs.declared.text.TextError.TheVariants.{Write, Memory}
use Rattle.psa_shares.specs.ShareText.{IsSharesText}
use Rattle.psa_shares.specs.Shares.{IsSharesSection}

-- the end of a run by how its text ended
abbrev pub end_by : Result (Unit {0}) TextError → End
end_by (Ok done) = end.Done
end_by (Err Write) = end.Write
end_by (Err Memory) = end.Memory

-- What writing a target's section leaves: the section; where the sink failed, a prefix of it; else nothing.
abbrev pub WritesTarget : Analysis → Target → ℕ × ℕ → Option (List ℕ) → Option (List ℕ) → Result (Unit {0}) TextError → Type 0
WritesTarget analysis target faults before after (Ok done) =
    (text : List ℕ) × IsSharesSection analysis target text × Appends before after text
WritesTarget analysis target faults before after (Err Write) =
    Rose faults.0 faults.1 × ((text : List ℕ) × IsSharesSection analysis target text × AppendsPrefix before after text)
WritesTarget analysis target faults before after (Err Memory) = after ≡ before

-- So many first targets have their sections, written behind what out had taken.
pub record HasShares (analysis : Analysis) (count : ℕ) (faults : ℕ × ℕ) (start now : Option (List ℕ)) : Type 0 where
  pub wrote :
      (before : Option (List ℕ)) → WroteFirst IsSharesText analysis 0 before start
      → WroteFirst IsSharesText analysis count before now
  pub later : faults.0 ≤ faults.1
