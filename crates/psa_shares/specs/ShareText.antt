-- What the words of a run of shares ask for, and the whole text that it writes. This project's own.
use Rattle.std.specs.Prelude.{◌≡◌, ◌||◌, ℕ, Bool, true, List, [], ◌∷◌, ◌++◌, Option, Some, None, codes, is_some, if◌then◌else◌, option_and_then}
use Rattle.psa_model.specs.declared.settings.Settings.{Settings}
use Rattle.psa_model.specs.declared.targets.Target.{Target}
use Rattle.psa_model.specs.Report.{Analysis, head_text}
use Rattle.psa_words.specs.Given.{settings_of}
use Rattle.psa_words.specs.Reading.{Text}
use Rattle.psa_words.specs.Refused.{refused_text}
use Rattle.psa_shares.specs.Shares.{IsSharesSection}

-- the words ask for the min-cut upper bound, for a check alone, or for a limit of nodes
abbrev pub is_refused : Settings → Bool
is_refused settings = settings.mcub || settings.validate || is_some settings.node_limit

-- the rare-event sum is asked for in any case
abbrev pub with_sum : Settings → Settings
with_sum settings = record settings { rare_event = true }

-- the settings of a run of shares by those that the words give, if they are not refused
abbrev pub accepted : Settings → Option Settings
accepted settings = if is_refused settings then None else Some (with_sum settings)

-- the settings of a run of shares by its words
abbrev pub shares_settings_of : List Text → Option Settings
shares_settings_of words = option_and_then accepted (settings_of words)

-- the text on standard error where the words of `scram_shares` are refused
abbrev pub refused_shares_text : List ℕ
refused_shares_text = refused_text (codes "scram_shares")

-- the sections of targets, one after another
pub data AreShares (analysis : Analysis) : List Target → List ℕ → Type 0 where
  no_shares : AreShares analysis [] []
  and_shares :
      (targets : List Target) (text : List ℕ) (target : Target) (section : List ℕ)
      → AreShares analysis targets text → IsSharesSection analysis target section
      → AreShares analysis (targets ++ target ∷ []) (text ++ section)

-- the head of a report, and the sections of some targets
pub record IsSharesText (analysis : Analysis) (targets : List Target) (text : List ℕ) : Type 0 where
  pub sections : List ℕ
  pub are_shares : AreShares analysis targets sections
  pub spelled : text ≡ head_text analysis.settings ++ sections
