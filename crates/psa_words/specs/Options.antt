-- The options of the program. The names are SCRAM's, except --node-limit and --sample, which are this project's own.
use Rattle.std.specs.Prelude.{ℕ, ◌==◌, Bool, true, false, List, [], ◌∷◌, Option, Some, None, if◌then◌else◌, codes, drop}
use Rattle.std.specs.List.{find}
use Rattle.std.specs.Str.{bytes_eq}
use Rattle.psa_words.specs.Reading.{Table, Text}

-- the options of the program
pub data Setting : Type 0 where
  bdd : Setting
  zbdd : Setting
  prime_implicants : Setting
  rare_event : Setting
  mcub : Setting
  ccf : Setting
  validate : Setting
  limit_order : Setting
  cut_off : Setting
  mission_time : Setting
  node_limit : Setting
  sample : Setting

-- all options
abbrev pub every_setting : List Setting
every_setting =
    bdd ∷ zbdd ∷ prime_implicants ∷ rare_event ∷ mcub ∷ ccf ∷ validate
    ∷ limit_order ∷ cut_off ∷ mission_time ∷ node_limit ∷ sample ∷ []

-- how each option is written
abbrev pub spelling_of : Setting → Text
spelling_of bdd = codes "--bdd"
spelling_of zbdd = codes "--zbdd"
spelling_of prime_implicants = codes "--prime-implicants"
spelling_of rare_event = codes "--rare-event"
spelling_of mcub = codes "--mcub"
spelling_of ccf = codes "--ccf"
spelling_of validate = codes "--validate"
spelling_of limit_order = codes "--limit-order"
spelling_of cut_off = codes "--cut-off"
spelling_of mission_time = codes "--mission-time"
spelling_of node_limit = codes "--node-limit"
spelling_of sample = codes "--sample"

-- the name behind the two hyphens
abbrev pub name_of : Setting → Text
name_of setting = drop 2 (spelling_of setting)

-- whether an option takes a value
abbrev pub takes_value : Setting → Bool
takes_value bdd = false
takes_value zbdd = false
takes_value prime_implicants = false
takes_value rare_event = false
takes_value mcub = false
takes_value ccf = false
takes_value validate = false
takes_value limit_order = true
takes_value cut_off = true
takes_value mission_time = true
takes_value node_limit = true
takes_value sample = true

-- `l` in ASCII
abbrev pub letter_l : ℕ
letter_l = 108

-- `-l` is --limit-order
abbrev pub setting_of_short : ℕ → Option Setting
setting_of_short byte = if byte == letter_l then Some limit_order else None

-- the option of a long name
abbrev pub setting_of_long : Text → Option Setting
setting_of_long name = find (λ setting. bytes_eq (name_of setting) name) every_setting

-- the table of options by which the words are read
unfoldable pub options : Table Setting
options = record { long_name = setting_of_long; short_name = setting_of_short; takes_value = takes_value }
