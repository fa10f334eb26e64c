-- The settings that words give are within their limits.
use Rattle.std.proofs.Common.{◌≡◌, ◌≤◌, ℕ, Bool, true, false, List, [], ◌∷◌, Option, Some, None, length, if◌then◌else◌, refl, sym, ap, subst, ◌∙◌, arith, ◌&&◌}
use Rattle.std.specs.Prelude.{nat_le, option_and_then, option_map}
use Rattle.std.specs.List.{list_all}
use Rattle.std.specs.Char.{is_ascii_digit}
use Rattle.std.specs.Str.Parse.{digits_value}
use Rattle.std.proofs.lemmas.Bool.{and_parts}
use Rattle.std.proofs.lemmas.Bool.Decides.{nat_tests}
use Rattle.psa_number.specs.Scaled.{Scaled}
use Rattle.psa_model.specs.declared.product.TheConstants.{MAX_ORDER}
use Rattle.psa_model.specs.declared.settings.Input.{Input}
use Rattle.psa_model.specs.declared.settings.Input.TheVariants.{Files, Sample}
use Rattle.psa_model.specs.declared.settings.Settings.{Settings}
use Rattle.psa_outcome.specs.Causes.{opened_files}
use Rattle.psa_outcome.specs.Loading.{IsInput}
use Rattle.psa_words.specs.declared.limits.TheConstants.{DEFAULT_LIMIT_ORDER, DEFAULT_MISSION_TIME, MAX_LIMIT_ORDER, MAX_NODE_LIMIT}
use Rattle.psa_model.specs.declared.limits.TheConstants.{MAX_FILES, MAX_SAMPLE, MIN_SAMPLE}
use Rattle.psa_words.specs.Given.{Given, decimal_that, default_mission, given_of, has_conflict, input_of, is_fraction, is_not_below_zero, is_whole_number, optional_value, settings_from, settings_of, settings_with, value_or, values_of, whole_between}
use Rattle.psa_words.specs.Reading.{Text}

-- a value that comes by two steps comes by the first
and-then : {A B : Type 0} (o : Option A) (f : A → Option B) (y : B) → option_and_then f o ≡ Some y → (x : A) × (o ≡ Some x) × (f x ≡ Some y)
and-then None f y h = absurd (cc)
and-then (Some x) f y h = (x, refl, h)

if-some : {A : Type 0} (b : Bool) (x y : A) → (if b then Some x else None) ≡ Some y → (b ≡ true) × (x ≡ y)
if-some true x y h = (refl, cc)
if-some false x y h = absurd (cc)

-- a whole number is within its limits
whole-within : (least most : ℕ) (text : Text) (n : ℕ) → whole_between least most text ≡ Some n → (least ≤ n) × (n ≤ most)
whole-within least most text n h =
    let p = if-some (is_whole_number text && nat_le least (digits_value 10 text) && nat_le (digits_value 10 text) most) (digits_value 10 text) n h in
    let a = and_parts (is_whole_number text && nat_le least (digits_value 10 text)) (nat_le (digits_value 10 text) most) p.0 in
    let b = and_parts (is_whole_number text) (nat_le least (digits_value 10 text)) a.0 in
    (grind (arith, nat_tests, b.1, p.1), grind (arith, nat_tests, a.1, p.1))

-- the order limit is 1 to 32
limit-within : (text : Option Text) (limit : ℕ) → value_or DEFAULT_LIMIT_ORDER (whole_between 1 MAX_LIMIT_ORDER) text ≡ Some limit → limit ≤ MAX_ORDER
limit-within None limit h = let e : DEFAULT_LIMIT_ORDER ≡ limit = cc in omega (arith, e)
limit-within (Some text) limit h = let w = (whole-within 1 MAX_LIMIT_ORDER text limit h).1 in omega (arith, w)

-- the input is 1 to 16 files, or a sample of 2 to 1,000
input-within : (sample : Option Text) (names : List Text) (input : Input) → input_of sample names ≡ Some input → IsInput input
input-within None names input h =
    let p = if-some (nat_le 1 (length names) && nat_le (length names) MAX_FILES) (Files names) input h in
    let b = and_parts (nat_le 1 (length names)) (nat_le (length names) MAX_FILES) p.0 in
    let w : IsInput (Files names) = (grind (arith, nat_tests, b.0), grind (arith, nat_tests, b.1)) in
    subst IsInput p.1 w
input-within (Some text) [] input h = of (whole_between MIN_SAMPLE MAX_SAMPLE text) refl h
  where
    of : (found : Option ℕ) → whole_between MIN_SAMPLE MAX_SAMPLE text ≡ found → option_map Sample found ≡ Some input → IsInput input
    of None is h = absurd (cc)
    of (Some n) is h =
        let e : Sample n ≡ input = cc in
        let w = whole-within MIN_SAMPLE MAX_SAMPLE text n is in
        let its : IsInput (Sample n) = (omega (arith, w.0), omega (arith, w.1)) in
        subst IsInput e its
input-within (Some text) (name ∷ names) input h = absurd (cc)

abbrev IsWithin : Settings → Type 0
IsWithin settings = IsInput settings.input × (settings.limit_order ≤ MAX_ORDER)

values-within : (given : Given) (settings : Settings) → values_of given ≡ Some settings → IsWithin settings
values-within given settings h =
    let limit = and-then (value_or DEFAULT_LIMIT_ORDER (whole_between 1 MAX_LIMIT_ORDER) given.limit_order_text) _ settings h in
    let cut = and-then (optional_value (decimal_that is_fraction) given.cut_off_text) _ settings limit.2 in
    let mission = and-then (value_or default_mission (decimal_that is_not_below_zero) given.mission_time_text) _ settings cut.2 in
    let nodes = and-then (optional_value (whole_between 1 MAX_NODE_LIMIT) given.node_limit_text) _ settings mission.2 in
    let input = and-then (input_of given.sample_text given.file_names) _ settings nodes.2 in
    let same : settings_with given limit.0 cut.0 mission.0 nodes.0 input.0 ≡ settings = some-same input.2 in
    subst IsWithin same (input-within given.sample_text given.file_names input.0 input.1, limit-within given.limit_order_text limit.0 limit.1)
  where
    some-same : {A : Type 0} {x y : A} → Some x ≡ Some y → x ≡ y
    some-same p = cc

conflict-within : (conflict : Bool) (given : Given) (settings : Settings) → (if conflict then None else values_of given) ≡ Some settings → IsWithin settings
conflict-within true given settings h = absurd (cc)
conflict-within false given settings h = values-within given settings h

-- the settings that words give are within their limits
pub settings-within : (words : List Text) (settings : Settings) → settings_of words ≡ Some settings → IsInput settings.input × (settings.limit_order ≤ MAX_ORDER)
unfolding settings_from
settings-within words settings h =
    let p = and-then (given_of words) settings_from settings h in
    conflict-within (has_conflict p.0) p.0 settings p.2

-- at most 16 files are opened
pub opened-few : (input : Input) → IsInput input → length (opened_files input) ≤ 16
opened-few (Files names) is = is.1
opened-few (Sample n) is = omega arith
