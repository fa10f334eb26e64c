-- What the words of a command line give, by option, and the settings that they ask for. This project's own.
use Rattle.std.specs.Prelude.{ℕ, ◌==◌, ◌&&◌, ◌||◌, Bool, false, not, List, [], ◌∷◌, Option, Some, None, length, nat_le, if◌then◌else◌, option_map, option_and_then, pos}
use Rattle.std.specs.List.{find, list_all, list_any}
use Rattle.std.specs.Option.{option_map_or}
use Rattle.std.specs.Result.{result_ok}
use Rattle.std.specs.Str.{bytes_eq}
use Rattle.std.specs.Char.{is_ascii_digit}
use Rattle.std.specs.Str.Parse.{digits_value}
use Rattle.psa_number.specs.Scaled.{Scaled}
use Rattle.psa_number.specs.DecimalText.{decimal_of, is_within}
use Rattle.psa_model.specs.declared.settings.Algorithm.TheVariants.{Bdd, Zbdd}
use Rattle.psa_model.specs.declared.settings.Mode.TheVariants.{CutSets, Primes}
use Rattle.psa_model.specs.declared.settings.Input.{Input}
use Rattle.psa_model.specs.declared.settings.Input.TheVariants.{Files, Sample}
use Rattle.psa_model.specs.declared.settings.Settings.{Settings}
use Rattle.psa_words.specs.declared.limits.TheConstants.{DEFAULT_LIMIT_ORDER, DEFAULT_MISSION_TIME, MAX_DIGITS, MAX_LIMIT_ORDER, MAX_NODE_LIMIT}
use Rattle.psa_model.specs.declared.limits.TheConstants.{MAX_FILES, MAX_SAMPLE, MIN_SAMPLE}
use Rattle.psa_words.specs.Reading.{Text, Item, flag, valued, file, items_from, between}
use Rattle.psa_words.specs.Options.{Setting, name_of, options, bdd, zbdd, prime_implicants, rare_event, mcub, ccf, validate, limit_order, cut_off, mission_time, node_limit, sample}

-- ---- the items, by option

-- the option that an item gives, where it gives one
abbrev pub item_setting : Item Setting → Option Setting
item_setting (flag setting) = Some setting
item_setting (valued setting text) = Some setting
item_setting (file text) = None

-- two options are the same
abbrev pub is_same : Setting → Setting → Bool
is_same a b = bytes_eq (name_of a) (name_of b)

-- an item gives this option
abbrev pub is_use_of : Setting → Item Setting → Bool
is_use_of setting item = option_map_or (is_same setting) (item_setting item) false

-- an option is given
abbrev pub has_option : Setting → List (Item Setting) → Bool
has_option setting items = list_any (is_use_of setting) items

-- an option is given twice
abbrev pub has_repeat : List (Item Setting) → Bool
has_repeat [] = false
has_repeat (item ∷ items) =
    option_map_or (λ setting. has_option setting items) (item_setting item) false || has_repeat items

-- the value that an item gives
abbrev pub item_value : Item Setting → Option Text
item_value (valued setting text) = Some text
item_value _ = None

-- the value that is given to an option
abbrev pub value_in : Setting → List (Item Setting) → Option Text
value_in setting items = option_and_then item_value (find (is_use_of setting) items)

-- the files, in order
abbrev pub files_in : List (Item Setting) → List Text
files_in [] = []
files_in (file text ∷ items) = text ∷ files_in items
files_in (_ ∷ items) = files_in items

-- which flags were given, the values of the options as texts, and the files in order
pub record Given : Type 0 where
  pub has_bdd : Bool
  pub has_zbdd : Bool
  pub has_prime_implicants : Bool
  pub has_rare_event : Bool
  pub has_mcub : Bool
  pub has_ccf : Bool
  pub has_validate : Bool
  pub limit_order_text : Option Text
  pub cut_off_text : Option Text
  pub mission_time_text : Option Text
  pub node_limit_text : Option Text
  pub sample_text : Option Text
  pub file_names : List Text

-- what a list of items gives
abbrev pub given_by : List (Item Setting) → Given
given_by items = record {
  has_bdd = has_option bdd items;
  has_zbdd = has_option zbdd items;
  has_prime_implicants = has_option prime_implicants items;
  has_rare_event = has_option rare_event items;
  has_mcub = has_option mcub items;
  has_ccf = has_option ccf items;
  has_validate = has_option validate items;
  limit_order_text = value_in limit_order items;
  cut_off_text = value_in cut_off items;
  mission_time_text = value_in mission_time items;
  node_limit_text = value_in node_limit items;
  sample_text = value_in sample items;
  file_names = files_in items;
}

-- what the words give, or None: they are not read from the left, or an option is given twice
unfoldable pub given_of : List Text → Option Given
given_of words =
    option_and_then (λ items. if has_repeat items then None else Some (given_by items))
    (items_from options between words)

-- ---- values

-- a whole number is ASCII digits, at least one
abbrev pub is_whole_number : Text → Bool
is_whole_number text =
    nat_le 1 (length text) && nat_le (length text) MAX_DIGITS && list_all is_ascii_digit text

-- the whole number that a text spells, where it is within two bounds
abbrev pub whole_between : ℕ → ℕ → Text → Option ℕ
whole_between least most text =
    if is_whole_number text && nat_le least (digits_value 10 text) && nat_le (digits_value 10 text) most
    then Some (digits_value 10 text) else None

-- a decimal of at least 0; -0 is one
abbrev pub is_not_below_zero : Scaled → Bool
is_not_below_zero decimal = not decimal.negative || decimal.digits == 0

-- the decimal that a text spells, where it passes a test
abbrev pub decimal_that : (Scaled → Bool) → Text → Option Scaled
decimal_that test text =
    option_and_then (λ decimal. if test decimal then Some decimal else None)
    (result_ok (decimal_of text))

-- a decimal of 0 to 1
abbrev pub is_fraction : Scaled → Bool
is_fraction decimal = is_not_below_zero decimal && is_within 1 decimal.digits decimal.exponent

-- the value that an option's text gives, or the default where it is not given; None: a text that gives none
abbrev pub value_or : {X : Type 0} → X → (Text → Option X) → Option Text → Option X
value_or default value None = Some default
value_or default value (Some text) = value text

-- the value that an option's text gives, None where it is not given; nothing at all for a text that gives none
abbrev pub optional_value : {X : Type 0} → (Text → Option X) → Option Text → Option (Option X)
optional_value value None = Some None
optional_value value (Some text) = option_map Some (value text)

-- ---- settings

-- the input: 1 to 16 files, or a sample and no file
abbrev pub input_of : Option Text → List Text → Option Input
input_of None names =
    if nat_le 1 (length names) && nat_le (length names) MAX_FILES then Some (Files names) else None
input_of (Some text) [] = option_map Sample (whole_between MIN_SAMPLE MAX_SAMPLE text)
input_of (Some text) (name ∷ names) = None

-- two options that exclude each other are given
abbrev pub has_conflict : Given → Bool
has_conflict given =
    (given.has_bdd && given.has_zbdd)
    || (given.has_prime_implicants && given.has_zbdd)
    || (given.has_rare_event && given.has_mcub)

-- the mission time where it is not given
abbrev pub default_mission : Scaled
default_mission = record { negative = false; digits = DEFAULT_MISSION_TIME; exponent = pos 0 }

-- the settings of what is given, with the values of the options
abbrev pub settings_with : Given → ℕ → Option Scaled → Scaled → Option ℕ → Input → Settings
settings_with given limit cut mission nodes input = record {
  algorithm = if given.has_zbdd then Zbdd else Bdd;
  mode = if given.has_prime_implicants then Primes else CutSets;
  limit_order = limit;
  cut_off = cut;
  mission = mission;
  rare_event = given.has_rare_event;
  mcub = given.has_mcub;
  ccf = given.has_ccf;
  validate = given.has_validate;
  node_limit = nodes;
  input = input;
}

infixl 10 ◌>>=◌
-- a function of a value, where there is one, and it gives one
abbrev pub ◌>>=◌ : {A B : Type 0} → Option A → (A → Option B) → Option B
x >>= f = option_and_then f x

-- the settings of what is given, where each value is one that its option takes
abbrev pub values_of : Given → Option Settings
values_of given =
    value_or DEFAULT_LIMIT_ORDER (whole_between 1 MAX_LIMIT_ORDER) given.limit_order_text >>= (λ limit.
    optional_value (decimal_that is_fraction) given.cut_off_text >>= (λ cut.
    value_or default_mission (decimal_that is_not_below_zero) given.mission_time_text >>= (λ mission.
    optional_value (whole_between 1 MAX_NODE_LIMIT) given.node_limit_text >>= (λ nodes.
    input_of given.sample_text given.file_names >>= (λ input.
    Some (settings_with given limit cut mission nodes input))))))

-- the settings of what is given, where no two options exclude each other
unfoldable pub settings_from : Given → Option Settings
settings_from given = if has_conflict given then None else values_of given

-- the settings that the words of a command line ask for; None where the words are refused
abbrev pub settings_of : List Text → Option Settings
settings_of words = option_and_then settings_from (given_of words)
