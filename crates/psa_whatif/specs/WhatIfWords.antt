-- What the words of a run of edits ask for. This project's own.
use Rattle.std.specs.Prelude.{◌||◌, ℕ, Bool, List, ◌∷◌, Option, Some, None, codes, is_some, if◌then◌else◌, option_and_then}
use Rattle.psa_model.specs.declared.settings.Input.{Input}
use Rattle.psa_model.specs.declared.settings.Input.TheVariants.{Files}
use Rattle.psa_model.specs.declared.settings.Settings.{Settings}
use Rattle.psa_words.specs.Given.{settings_of}
use Rattle.psa_words.specs.Reading.{Text}
use Rattle.psa_words.specs.Refused.{refused_text}

-- the file of edits, and the settings of a run over the files of the model
pub record Asked : Type 0 where
  pub edits : List ℕ
  pub settings : Settings

-- the words ask for a check alone, or for a limit of nodes
abbrev pub is_refused : Settings → Bool
is_refused settings = settings.validate || is_some settings.node_limit

-- the first file is that of the edits, and at least one is of the model; the sample is refused
abbrev pub asked_with : Settings → Input → Option Asked
asked_with settings (Files (edits ∷ first ∷ more)) =
    Some (record { edits = edits; settings = record settings { input = Files (first ∷ more) } })
asked_with settings _ = None

-- what is asked for by the settings that the words give, if they are not refused
abbrev pub asked_by : Settings → Option Asked
asked_by settings = if is_refused settings then None else asked_with settings settings.input

-- what the words of a run of edits ask for
abbrev pub asked_of : List Text → Option Asked
asked_of words = option_and_then asked_by (settings_of words)

-- the text on standard error where the words of `scram_whatif` are refused
abbrev pub refused_edits_text : List ℕ
refused_edits_text = refused_text (codes "scram_whatif")
