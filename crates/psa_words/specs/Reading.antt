-- The reading of the words of a command line from the left, over a table of options. This project's own; the look
-- of options is that of the GNU command line conventions.
use Rattle.std.specs.Prelude.{ℕ, ◌==◌, Bool, List, [], ◌∷◌, Option, Some, None, if◌then◌else◌, option_map}
use Rattle.std.specs.List.{list_any, before_first, after_first}

-- a text, as the list of its bytes
abbrev pub Text : Type 0
Text = List ℕ

-- ---- what a word looks like

-- what a word looks like
pub data Look : Type 0 where
  -- `--`
  dashes : Look
  -- `--name` or `--name=value`
  long : Text → Option Text → Look
  -- `-` and one more byte, with what stands behind it
  short : ℕ → Text → Look
  -- any other word, as `-` and the empty word
  plain : Look

-- `-` and `=` in ASCII
abbrev pub hyphen : ℕ
hyphen = 45

-- `=` in ASCII
abbrev pub equals_sign : ℕ
equals_sign = 61

-- a byte is `-`
abbrev pub is_hyphen : ℕ → Bool
is_hyphen byte = byte == hyphen

-- a byte is `=`
abbrev pub is_equals_sign : ℕ → Bool
is_equals_sign byte = byte == equals_sign

-- what stands behind the first `=`, where there is one
abbrev pub value_after_equals : Text → Option Text
value_after_equals text =
    if list_any is_equals_sign text then Some (after_first is_equals_sign text) else None

-- the look of a word behind two hyphens
abbrev pub long_look : Text → Look
long_look [] = dashes
long_look (byte ∷ bytes) =
    long (before_first is_equals_sign (byte ∷ bytes)) (value_after_equals (byte ∷ bytes))

-- the look of a word
abbrev pub look_of : Text → Look
look_of [] = plain
look_of (first ∷ []) = plain
look_of (first ∷ (second ∷ rest)) =
    if is_hyphen first then (if is_hyphen second then long_look rest else short second rest) else plain

-- ---- options, and what words are read as

-- which option a long and a short name mean, and whether an option takes a value
pub record Table (O : Type 0) : Type 0 where
  pub long_name : Text → Option O
  pub short_name : ℕ → Option O
  pub takes_value : O → Bool

-- what a word, or an option with its value, gives
pub data Item (O : Type 0) : Type 0 where
  flag : O → Item O
  valued : O → Text → Item O
  file : Text → Item O

-- where the reading stands: between two items, before the value of an option, or after `--`
pub data Place (O : Type 0) : Type 0 where
  between : Place O
  before_value : O → Place O
  after_dashes : Place O

-- the items, or None: an unknown option, a flag with a value, or a missing value
abbrev pub Reading : Type 0 → Type 0
Reading O = Option (List (Item O))

-- an item before what the other words give
abbrev pub with_item_before : {O : Type 0} → Item O → Reading O → Reading O
with_item_before item rest = option_map (λ items. item ∷ items) rest

-- the value that stands in the word of a short option: directly behind it, or behind `=`
abbrev pub value_behind : Text → Option Text
value_behind [] = None
value_behind (byte ∷ bytes) = if is_equals_sign byte then Some bytes else Some (byte ∷ bytes)

-- an option, with the value in its own word; `next` is the reading of the words behind it from a place
abbrev pub items_from_option : {O : Type 0}
    → Table O → O → Option Text → (Place O → Reading O) → Reading O
items_from_option table option (Some text) next =
    if table.takes_value option then with_item_before (valued option text) (next between) else None
items_from_option table option None next =
    if table.takes_value option then next (before_value option)
    else with_item_before (flag option) (next between)

-- what an option gives, where the table has it
abbrev pub items_if_known : {O : Type 0}
    → Table O → Option O → Option Text → (Place O → Reading O) → Reading O
items_if_known table None text next = None
items_if_known table (Some option) text next = items_from_option table option text next

-- what a word of this look gives, then the other words
abbrev pub items_from_look : {O : Type 0}
    → Table O → Look → Text → (Place O → Reading O) → Reading O
items_from_look table dashes word next = next after_dashes
items_from_look table (long name text) word next =
    items_if_known table (table.long_name name) text next
items_from_look table (short byte rest) word next =
    items_if_known table (table.short_name byte) (value_behind rest) next
items_from_look table plain word next = with_item_before (file word) (next between)

-- a word that begins with `-` and is longer is no value
abbrev pub items_from_value : {O : Type 0} → O → Look → Text → (Place O → Reading O) → Reading O
items_from_value option plain word next = with_item_before (valued option word) (next between)
items_from_value option _ word next = None

-- what a word gives at its place, then the other words
abbrev pub items_from_word : {O : Type 0}
    → Table O → Place O → Text → (Place O → Reading O) → Reading O
items_from_word table between word next = items_from_look table (look_of word) word next
items_from_word table (before_value option) word next = items_from_value option (look_of word) word next
items_from_word table after_dashes word next = with_item_before (file word) (next after_dashes)

-- what the end of the words gives: nothing, or no reading where a value is wanting
abbrev pub items_at_end : {O : Type 0} → Place O → Reading O
items_at_end (before_value option) = None
items_at_end _ = Some []

-- what the words give, read from the left; None: they cannot be read
unfoldable pub items_from : {O : Type 0} → Table O → Place O → List Text → Reading O
items_from table place [] = items_at_end place
items_from table place (word ∷ words) =
    items_from_word table place word (λ after. items_from table after words)
