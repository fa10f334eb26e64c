-- The settings of a run of shares are within their limits, and ask for more than a check.
use Rattle.std.proofs.Common.{◌≡◌, ◌≤◌, ◌||◌, Bool, true, false, List, Option, Some, None, refl, sym, subst}
use Rattle.std.specs.Prelude.{if◌then◌else◌, is_some, option_and_then}
use Rattle.std.proofs.lemmas.Bool.{false≢true}
use Rattle.psa_model.specs.declared.product.TheConstants.{MAX_ORDER}
use Rattle.psa_model.specs.declared.settings.Settings.{Settings}
use Rattle.psa_outcome.specs.Loading.{IsInput}
use Rattle.psa_words.specs.Given.{settings_of}
use Rattle.psa_words.specs.Reading.{Text}
use Rattle.psa_engine.proofs.SettingsLimits.{settings-within}
use Rattle.psa_shares.specs.ShareText.{accepted, is_refused, shares_settings_of, with_sum}

-- where none of three is so, the second is not
second-not : (one two three : Bool) → (one || two || three) ≡ false → two ≡ false
second-not one false three h = refl
second-not true true three h = absurd (false≢true (sym h))
second-not false true three h = absurd (false≢true (sym h))

abbrev IsWithin : Settings → Type 0
IsWithin settings = IsInput settings.input × (settings.limit_order ≤ MAX_ORDER) × (settings.validate ≡ false)

-- the settings that words give to a run of shares
pub shares-within : (words : List Text) (settings : Settings) → shares_settings_of words ≡ Some settings → IsWithin settings
shares-within words settings h = of (settings_of words) refl h
  where
    on : (given : Settings) (refused : Bool) → is_refused given ≡ refused → (if refused then None else Some (with_sum given)) ≡ Some settings → settings_of words ≡ Some given → IsWithin settings
    on given true is h gives = absurd (cc)
    on given false is h gives =
        let same : with_sum given ≡ settings = cc in
        let within = settings-within words given gives in
        subst IsWithin same (within.0, within.1, second-not given.mcub given.validate (is_some given.node_limit) is)

    of : (found : Option Settings) → settings_of words ≡ found → option_and_then accepted found ≡ Some settings → IsWithin settings
    of None gives h = absurd (cc)
    of (Some given) gives h = on given (is_refused given) refl h gives
