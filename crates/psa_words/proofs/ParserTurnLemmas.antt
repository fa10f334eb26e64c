-- What the parser makes of one word: where its walk stands after it, and whether it refuses it.
use Rattle.std.proofs.Common.{◌≡◌, ◌∙◌, refl, sym, ap, ℕ, Bool, true, false, List, [], ◌∷◌, Option, Some, None, length, fold, ap₂, ◌≤◌, inl, inr}
use Rattle.std.specs.Prelude.{option_map, ◌&&◌, ◌||◌, slice_get, drop, encode_utf8}
use Rattle.std.proofs.lemmas.Bool.{and_right, cases_lt}
use Rattle.std.specs.Str.{bytes_eq, chars}
use Rattle.clap.specs.Lexer.{long_of, short_of}
use Rattle.clap.specs.Walk.{is_pending, next, option_met, bundle_met, after_flag, after_step, trailing, word_met, Held, Row, Rule, Waiting, idle, option, positional, Walk, arg_by_id, arg_by_index, arg_by_long, arg_by_short, is_multiple, most_values, settled, settled_rows, subcommand_met, takes_several, takes_values, used, value, walked, Step}
use Rattle.clap.specs.Simple.{Shape}
use Rattle.clap.specs.declared.error.kind.ErrorKind.{ErrorKind}
use Rattle.clap.specs.Faults.{flags_fault, option_fault, step_fault, repeat_fault, settle_fault, turn_fault, use_fault, walk_fault, word_fault}
use Rattle.clap.specs.Kinds.{Kinds, or_else}
use Rattle.clap.specs.declared.error.kind.ErrorKind.TheVariants as kind
use Rattle.psa_words.proofs.FirstCharacterLemmas.{IsFirst}
use Rattle.psa_words.specs.Reading.{value_behind, Text, Table, Item, flag, valued, file}
use Rattle.psa_words.proofs.WordLookLemmas.{two_hyphens, value_behind_is}

-- ---- lists of kinds

-- A list of kinds, or else none, is the list.
pub or_nothing : (k : Kinds) → or_else k [] ≡ k
or_nothing [] = refl
or_nothing (x ∷ xs) = refl

-- A choice of the first list of kinds that is not empty may be bracketed either way.
pub or_else_assoc : (a b c : Kinds) → or_else (or_else a b) c ≡ or_else a (or_else b c)
or_else_assoc [] b c = refl
or_else_assoc (x ∷ xs) b c = refl

-- ---- where the walk stands

-- the argument whose values are being collected, by its name, and its values so far
abbrev pub Pending : Type 0
Pending = Option (Text × List Text)

-- what the walk holds: its rows, and what is pending
abbrev pub holding : List Row → Pending → Held
holding rows pending = record { rows = rows; pending = pending; skip = 0 }

-- the walk between two words, over the rows and with what is pending; `over` where `--` came before
abbrev pub at : List Row → Pending → Waiting → Bool → Walk
at rows pending waiting over =
    record { held = holding rows pending; waiting = waiting; position = 1; is_trailing = over; stopped = None }

-- what is wrong with what is pending, and with all words from here on
abbrev pub settling : Shape → List Row → Pending → Kinds
settling s rows pending = settle_fault s.rules s.args_override_self (holding rows pending)

unfoldable pub faults : Shape → Walk → List Text → Kinds
faults s w words = or_else (walk_fault s [] w words) (settle_fault s.rules s.args_override_self (fold (walked s.rules []) w words).held)

-- the rows where the words end, with what is pending settled
unfoldable pub end_rows : Shape → Walk → List Text → List Row
end_rows s w words = (settled s.rules (fold (walked s.rules []) w words).held).rows

-- ---- what the items of a reading come to

-- refused: there is a fault; taken: there is none, and these are the rows
abbrev pub Agrees : Option (List Row) → Kinds → List Row → Type 0
Agrees None kinds rows = kinds ≡ [] → ⊥
Agrees (Some taken) kinds rows = (kinds ≡ []) × (rows ≡ taken)

-- the rows of what follows, unless the item is refused
abbrev pub taken_next : Kinds → Option (List Row) → Option (List Row)
taken_next [] rest = rest
taken_next (k ∷ ks) rest = None

-- the kinds that an item is refused with: an option that was given before
abbrev pub item_fault : {O : Type 0} → (O → Rule) → Item O → List Row → Kinds
item_fault rule (flag o) rows = repeat_fault false (rule o).id rows
item_fault rule (valued o text) rows = repeat_fault false (rule o).id rows
item_fault rule (file text) rows = []

-- the rows after one item more
abbrev pub item_rows : {O : Type 0} → (O → Rule) → Rule → Item O → List Row → List Row
item_rows rule f (flag o) rows = used (rule o) [] rows
item_rows rule f (valued o text) rows = used (rule o) (text ∷ []) rows
item_rows rule f (file text) rows = used f (text ∷ []) rows

-- the rows after all items, or None where one of them is refused
unfoldable pub taken : {O : Type 0} → (O → Rule) → Rule → List Row → List (Item O) → Option (List Row)
taken rule f rows [] = Some rows
taken rule f rows (item ∷ items) = taken_next (item_fault rule item rows) (taken rule f (item_rows rule f item rows) items)

-- the rows of a reading, or None where the words have none or one of its items is refused
abbrev pub judged : {O : Type 0} → (O → Rule) → Rule → List Row → Option (List (Item O)) → Option (List Row)
judged rule f rows None = None
judged rule f rows (Some items) = taken rule f rows items

-- Where the rest of a reading agrees with the parser, so does the reading with an item before it.
pub agrees_next : (k : Kinds) (m : Option (List Row)) (kinds : Kinds) (rows : List Row) → Agrees m kinds rows → Agrees (taken_next k m) (or_else k kinds) rows
agrees_next [] m kinds rows h = h
agrees_next (x ∷ xs) m kinds rows h = λ e. absurd (cc)

taken_none : (k : Kinds) → taken_next k None ≡ None
taken_none [] = refl
taken_none (x ∷ xs) = refl

-- The rows of a reading that begins with an item are those of the rest, after the item.
pub judged_item : {O : Type 0} (rule : O → Rule) (f : Rule) (rows : List Row) (item : Item O) (r : Option (List (Item O)))
    → judged rule f rows (option_map (λ items. item ∷ items) r) ≡ taken_next (item_fault rule item rows) (judged rule f (item_rows rule f item rows) r)
unfolding taken
judged_item rule f rows item None = sym (taken_none (item_fault rule item rows))
judged_item rule f rows item (Some items) = refl

-- ---- one turn

-- the arguments of a command are those of a table of options, and one that takes any number of files
pub record Fits {O : Type 0} (t : Table O) (s : Shape) (rule : O → Rule) (f : Rule) : Type 0 where
  pub long_is : (name : Text) → arg_by_long s.rules name ≡ option_map rule (t.long_name name)
  pub short_is : (c : ℕ) → arg_by_short s.rules c ≡ option_map rule (t.short_name c)
  pub short_ascii : (c : ℕ) → 128 ≤ c → t.short_name c ≡ None
  pub short_takes : (c : ℕ) (o : O) → t.short_name c ≡ Some o → t.takes_value o ≡ true
  pub takes : (o : O) → takes_values (rule o) ≡ t.takes_value o
  pub by_id : (o : O) → arg_by_id s.rules (rule o).id ≡ Some (rule o)
  pub flag_use : (o : O) → t.takes_value o ≡ false → (rows : List Row) → use_fault s.args_override_self (rule o) [] rows ≡ repeat_fault false (rule o).id rows
  pub value_use : (o : O) → t.takes_value o ≡ true → (text : Text) (rows : List Row) → use_fault s.args_override_self (rule o) (text ∷ []) rows ≡ repeat_fault false (rule o).id rows
  pub no_value : (o : O) → t.takes_value o ≡ true → (rows : List Row) → use_fault s.args_override_self (rule o) [] rows ≡ kind.InvalidValue ∷ []
  pub one : (o : O) → t.takes_value o ≡ true → most_values (rule o) ≡ 1
  pub same_id : (o : O) → bytes_eq (rule o).id (rule o).id ≡ true
  pub file_by_id : arg_by_id s.rules f.id ≡ Some f
  pub file_at : arg_by_index s.rules 1 ≡ Some f
  pub file_several : takes_several f ≡ false
  pub file_multiple : is_multiple f ≡ true
  pub file_trailing : f.trailing_var_arg ≡ false
  pub file_use : (text : Text) (rows : List Row) → use_fault s.args_override_self f (text ∷ []) rows ≡ []

-- What is wrong with a list of words is what is wrong with the first one, or else with the rest.
pub fault_step : (s : Shape) (w : Walk) (word : Text) (words : List Text)
    → faults s w (word ∷ words) ≡ or_else (turn_fault s [] w word) (faults s (walked s.rules [] w word) words)
unfolding faults walk_fault
fault_step s w word words =
    or_else_assoc (turn_fault s [] w word) (walk_fault s [] (walked s.rules [] w word) words) (settle_fault s.rules s.args_override_self (fold (walked s.rules []) w (word ∷ words)).held)

-- The rows at the end are those of the rest of the words, after the first one.
pub end_step : (s : Shape) (w : Walk) (word : Text) (words : List Text) → end_rows s w (word ∷ words) ≡ end_rows s (walked s.rules [] w word) words
unfolding end_rows
end_step s w word words = refl

-- a turn: the walk stands at `after` when the word is read, and the word's faults are `kinds`
pub record Turn (s : Shape) (w : Walk) (word : Text) (after : Walk) (kinds : Kinds) : Type 0 where
  pub walks : walked s.rules [] w word ≡ after
  pub fault : turn_fault s [] w word ≡ kinds

-- What agrees for the rest of the words agrees with the first word before them.
pub goes : (s : Shape) (w after : Walk) (word : Text) (words : List Text) (k : Kinds) (m : Option (List Row))
    → Turn s w word after k
    → Agrees m (or_else k (faults s after words)) (end_rows s after words)
    → Agrees m (faults s w (word ∷ words)) (end_rows s w (word ∷ words))
goes s w after word words k m turn a = rw (fault_step s w word words, end_step s w word words, turn.fault, turn.walks) a

-- Where a word has a fault, the words are not without fault.
pub stops : (s : Shape) (w : Walk) (word : Text) (words : List Text) (x : ErrorKind) (xs : Kinds)
    → turn_fault s [] w word ≡ x ∷ xs → faults s w (word ∷ words) ≡ [] → ⊥
stops s w word words x xs h e =
    let f : or_else (x ∷ xs) (faults s (walked s.rules [] w word) words) ≡ [] = rw (fault_step s w word words, h) at e in absurd (cc)

-- No word is a subcommand, as the command has none.
pub no_sub : (waiting : Waiting) (word : Text) → subcommand_met [] waiting word ≡ None
no_sub idle word = refl
no_sub (option id) word = refl
no_sub positional word = refl

-- A turn, from what the word is met as and what is wrong with it.
pub turn_from : (s : Shape) (rows : List Row) (pending : Pending) (waiting : Waiting) (over : Bool) (word : Text) (h : Held) (step : Step) (k : Kinds)
    → word_met s.rules [] over waiting 1 word (holding rows pending) ≡ (h, step) → word_fault s [] over waiting word (holding rows pending) ≡ k
    → Turn s (at rows pending waiting over) word (after_step s.rules word (at rows pending waiting over) h step) (or_else k (step_fault s 1 h step))
unfolding walked
turn_from s rows pending waiting over word h step k met fault = record {
  walks = ap (λ (p : Held × Step). after_step s.rules word (at rows pending waiting over) p.0 p.1) met;
  fault = ap₂ (λ (f : Kinds) (p : Held × Step). or_else f (step_fault s 1 p.0 p.1)) fault met;
}

same_kinds : (s : Shape) (w : Walk) (word : Text) (after : Walk) (k l : Kinds) → k ≡ l → Turn s w word after k → Turn s w word after l
same_kinds s w word after k l e turn = record { walks = turn.walks; fault = turn.fault ∙ e }

-- `--`
pub turn_dashes : (s : Shape) (rows : List Row) (pending : Pending) (waiting : Waiting) (word : Text) → bytes_eq word two_hyphens ≡ true
    → Turn s (at rows pending waiting false) word (at rows pending waiting true) []
turn_dashes s rows pending waiting word e =
    turn_from s rows pending waiting false word (holding rows pending) (trailing 1) [] (rw (no_sub waiting word, e) refl) (rw (no_sub waiting word, e) refl)

-- A test, or false, is the test.
pub or_false : (b : Bool) → (b || false) ≡ b
or_false true = refl
or_false false = refl

-- a word that is no flag, between two items
pub turn_file : {O : Type 0} (t : Table O) (s : Shape) (rule : O → Rule) (f : Rule) → Fits t s rule f
    → (rows : List Row) (pending : Pending) (waiting : Waiting) (over : Bool) (word : Text)
    → word_met s.rules [] over waiting 1 word (holding rows pending) ≡ (holding rows pending, value)
    → word_fault s [] over waiting word (holding rows pending) ≡ []
    → Turn s (at rows pending waiting over) word (at (settled_rows s.rules pending rows) (Some (f.id, word ∷ [])) positional over) (settling s rows pending)
turn_file t s rule f fits rows pending waiting over word met fault =
    let turn = turn_from s rows pending waiting over word (holding rows pending) value [] met fault in
    let several : (is_pending f pending && takes_several f) ≡ false = and_right (is_pending f pending) (takes_several f) fits.file_several in
    let still : (over || f.trailing_var_arg) ≡ over = rw fits.file_trailing (or_false over) in
    record {
      walks = turn.walks ∙ rw (fits.file_at, several, fits.file_multiple, still) refl;
      fault = turn.fault ∙ rw (fits.file_at, several) refl;
    }

-- ---- options

-- the word is the option a, with the value v in the word
pub record Means (s : Shape) (rows : List Row) (pending : Pending) (waiting : Waiting) (word : Text) (a : Rule) (v : Option Text) : Type 0 where
  pub met : word_met s.rules [] false waiting 1 word (holding rows pending)
      ≡ after_flag s.rules waiting word (option_met s.rules a v (holding rows pending)).0 (option_met s.rules a v (holding rows pending)).1
  pub fault : word_fault s [] false waiting word (holding rows pending) ≡ option_fault s.rules s.args_override_self a v (holding rows pending)

-- The turn of an option that has its value in the same word.
pub turn_valued : {O : Type 0} (t : Table O) (s : Shape) (rule : O → Rule) (f : Rule) → Fits t s rule f
    → (rows : List Row) (pending : Pending) (waiting : Waiting) (word : Text) (o : O) (text : Text) → t.takes_value o ≡ true
    → Means s rows pending waiting word (rule o) (Some text)
    → Turn s (at rows pending waiting false) word (at (used (rule o) (text ∷ []) (settled_rows s.rules pending rows)) None idle false)
    (or_else (settling s rows pending) (repeat_fault false (rule o).id (settled_rows s.rules pending rows)))
turn_valued t s rule f fits rows pending waiting word o text takes means =
    same_kinds s (at rows pending waiting false) word (at (used (rule o) (text ∷ []) (settled_rows s.rules pending rows)) None idle false) _ _
    (or_nothing _ ∙ ap (or_else (settling s rows pending)) (fits.value_use o takes text (settled_rows s.rules pending rows)))
    (turn_from s rows pending waiting false word (holding (used (rule o) (text ∷ []) (settled_rows s.rules pending rows)) None) (next idle) _ means.met means.fault)

-- The turn of an option that waits for its value in the next word.
pub turn_waits : {O : Type 0} (t : Table O) (s : Shape) (rule : O → Rule) (f : Rule) → Fits t s rule f
    → (rows : List Row) (pending : Pending) (waiting : Waiting) (word : Text) (o : O)
    → Means s rows pending waiting word (rule o) None
    → Turn s (at rows pending waiting false) word (at (settled_rows s.rules pending rows) (Some ((rule o).id, [])) (option (rule o).id) false) (settling s rows pending)
turn_waits t s rule f fits rows pending waiting word o means =
    same_kinds s (at rows pending waiting false) word (at (settled_rows s.rules pending rows) (Some ((rule o).id, [])) (option (rule o).id) false) _ _
    (or_nothing _)
    (turn_from s rows pending waiting false word (holding (settled_rows s.rules pending rows) (Some ((rule o).id, []))) (next (option (rule o).id)) _ means.met means.fault)

-- A word with two hyphens and the name of an option that takes a value is this option.
pub long_means : {O : Type 0} (t : Table O) (s : Shape) (rule : O → Rule) (f : Rule) → Fits t s rule f
    → (rows : List Row) (pending : Pending) (waiting : Waiting) (word name : Text) (v : Option Text) (o : O) → t.takes_value o ≡ true
    → bytes_eq word two_hyphens ≡ false → long_of word ≡ Some (name, v) → t.long_name name ≡ Some o
    → Means s rows pending waiting word (rule o) v
long_means t s rule f fits rows pending waiting word name v o takes is_word is_long known =
    let found : arg_by_long s.rules name ≡ Some (rule o) = fits.long_is name ∙ ap (option_map rule) known in
    let takes_values_is : takes_values (rule o) ≡ true = fits.takes o ∙ takes in
    record {
      met = rw (no_sub waiting word, is_word, is_long, found, takes_values_is) refl;
      fault = rw (no_sub waiting word, is_word, is_long, found, takes_values_is) refl;
    }

-- The turn of a flag.
pub turn_flag : {O : Type 0} (t : Table O) (s : Shape) (rule : O → Rule) (f : Rule) → Fits t s rule f
    → (rows : List Row) (pending : Pending) (waiting : Waiting) (word name : Text) (o : O) → t.takes_value o ≡ false
    → bytes_eq word two_hyphens ≡ false → long_of word ≡ Some (name, None) → t.long_name name ≡ Some o
    → Turn s (at rows pending waiting false) word (at (used (rule o) [] (settled_rows s.rules pending rows)) None idle false)
    (or_else (settling s rows pending) (repeat_fault false (rule o).id (settled_rows s.rules pending rows)))
turn_flag t s rule f fits rows pending waiting word name o takes is_word is_long known =
    let found : arg_by_long s.rules name ≡ Some (rule o) = fits.long_is name ∙ ap (option_map rule) known in
    let takes_values_is : takes_values (rule o) ≡ false = fits.takes o ∙ takes in
    same_kinds s (at rows pending waiting false) word (at (used (rule o) [] (settled_rows s.rules pending rows)) None idle false) _ _
    (or_nothing _ ∙ ap (or_else (settling s rows pending)) (fits.flag_use o takes (settled_rows s.rules pending rows)))
    (turn_from s rows pending waiting false word (holding (used (rule o) [] (settled_rows s.rules pending rows)) None) (next idle)
    (or_else (settling s rows pending) (use_fault s.args_override_self (rule o) [] (settled_rows s.rules pending rows)))
    (rw (no_sub waiting word, is_word, is_long, found, takes_values_is) refl) (rw (no_sub waiting word, is_word, is_long, found, takes_values_is) refl))

-- the word is refused
pub word_stops : (s : Shape) (rows : List Row) (pending : Pending) (waiting : Waiting) (word : Text) (words : List Text) (x : ErrorKind) (xs : Kinds)
    → word_fault s [] false waiting word (holding rows pending) ≡ x ∷ xs → faults s (at rows pending waiting false) (word ∷ words) ≡ [] → ⊥
word_stops s rows pending waiting word words x xs e =
    stops s (at rows pending waiting false) word words x xs (rw e refl)

-- A word with two hyphens and a name that no option has is refused.
pub long_unknown : {O : Type 0} (t : Table O) (s : Shape) (rule : O → Rule) (f : Rule) → Fits t s rule f
    → (rows : List Row) (pending : Pending) (waiting : Waiting) (word name : Text) (v : Option Text)
    → bytes_eq word two_hyphens ≡ false → long_of word ≡ Some (name, v) → t.long_name name ≡ None
    → word_fault s [] false waiting word (holding rows pending) ≡ kind.UnknownArgument ∷ []
long_unknown t s rule f fits rows pending waiting word name v is_word is_long known =
    let found : arg_by_long s.rules name ≡ None = fits.long_is name ∙ ap (option_map rule) known in
    rw (no_sub waiting word, is_word, is_long, found) refl

-- A flag with a value in its word is refused.
pub flag_with_value : {O : Type 0} (t : Table O) (s : Shape) (rule : O → Rule) (f : Rule) → Fits t s rule f
    → (rows : List Row) (pending : Pending) (waiting : Waiting) (word name text : Text) (o : O) → t.takes_value o ≡ false
    → bytes_eq word two_hyphens ≡ false → long_of word ≡ Some (name, Some text) → t.long_name name ≡ Some o
    → word_fault s [] false waiting word (holding rows pending) ≡ kind.TooManyValues ∷ []
flag_with_value t s rule f fits rows pending waiting word name text o takes is_word is_long known =
    let found : arg_by_long s.rules name ≡ Some (rule o) = fits.long_is name ∙ ap (option_map rule) known in
    let takes_values_is : takes_values (rule o) ≡ false = fits.takes o ∙ takes in
    rw (no_sub waiting word, is_word, is_long, found, takes_values_is) refl

short_option : {O : Type 0} (t : Table O) (s : Shape) (rule : O → Rule) (f : Rule) → Fits t s rule f
    → (rows : List Row) (pending : Pending) (waiting : Waiting) (word : Text) (b : ℕ) (rest : Text) (a : Rule) (x : ℕ)
    → bytes_eq word two_hyphens ≡ false → long_of word ≡ None → short_of word ≡ Some (b ∷ rest)
    → slice_get (chars (b ∷ rest)) 0 ≡ Some x → drop (length (encode_utf8 x)) (b ∷ rest) ≡ rest
    → arg_by_short s.rules x ≡ Some a → takes_values a ≡ true
    → Means s rows pending waiting word a (value_behind rest)
unfolding bundle_met flags_fault
short_option t s rule f fits rows pending waiting word b rest a x is_word is_long is_short is_first dropped found takes = record {
  met = rw (no_sub waiting word, is_word, is_long, is_short, is_first, found, takes, dropped, value_behind_is rest) refl;
  fault = rw (no_sub waiting word, is_word, is_long, is_short, is_first, found, takes, dropped, value_behind_is rest) refl;
}

-- A word with one hyphen and the letter of an option is this option, with what stands behind the letter.
pub short_means : {O : Type 0} (t : Table O) (s : Shape) (rule : O → Rule) (f : Rule) → Fits t s rule f
    → (rows : List Row) (pending : Pending) (waiting : Waiting) (word : Text) (b : ℕ) (rest : Text) (o : O)
    → bytes_eq word two_hyphens ≡ false → long_of word ≡ None → short_of word ≡ Some (b ∷ rest) → (x : ℕ) → IsFirst b rest x → t.short_name b ≡ Some o
    → Means s rows pending waiting word (rule o) (value_behind rest)
short_means t s rule f fits rows pending waiting word b rest o is_word is_long is_short x first known = elim (cases_lt x 128) [
  | inl low ↦
      let known_x : t.short_name x ≡ Some o = ap t.short_name (sym (first.same low).0) ∙ known in
      short_option t s rule f fits rows pending waiting word b rest (rule o) x is_word is_long is_short first.is_first (first.same low).1
      (fits.short_is x ∙ ap (option_map rule) known_x) (fits.takes o ∙ fits.short_takes b o known)
  | inr above ↦ let unknown : t.short_name b ≡ None = fits.short_ascii b (first.high above) in absurd (cc)
]

short_refused : {O : Type 0} (t : Table O) (s : Shape) (rule : O → Rule) (f : Rule) → Fits t s rule f
    → (rows : List Row) (pending : Pending) (waiting : Waiting) (word : Text) (b : ℕ) (rest : Text) (x : ℕ)
    → bytes_eq word two_hyphens ≡ false → long_of word ≡ None → short_of word ≡ Some (b ∷ rest)
    → slice_get (chars (b ∷ rest)) 0 ≡ Some x → arg_by_short s.rules x ≡ None
    → word_fault s [] false waiting word (holding rows pending) ≡ kind.UnknownArgument ∷ []
unfolding flags_fault
short_refused t s rule f fits rows pending waiting word b rest x is_word is_long is_short is_first found =
    rw (no_sub waiting word, is_word, is_long, is_short, is_first, found) refl

-- A word with one hyphen and a letter that no option has is refused.
pub short_unknown : {O : Type 0} (t : Table O) (s : Shape) (rule : O → Rule) (f : Rule) → Fits t s rule f
    → (rows : List Row) (pending : Pending) (waiting : Waiting) (word : Text) (b : ℕ) (rest : Text)
    → bytes_eq word two_hyphens ≡ false → long_of word ≡ None → short_of word ≡ Some (b ∷ rest) → (x : ℕ) → IsFirst b rest x → t.short_name b ≡ None
    → word_fault s [] false waiting word (holding rows pending) ≡ kind.UnknownArgument ∷ []
short_unknown t s rule f fits rows pending waiting word b rest is_word is_long is_short x first known =
    let none_known : t.short_name x ≡ None = elim (cases_lt x 128) [
      | inl low ↦ ap t.short_name (sym (first.same low).0) ∙ known
      | inr above ↦ fits.short_ascii x above
    ] in
    short_refused t s rule f fits rows pending waiting word b rest x is_word is_long is_short first.is_first (fits.short_is x ∙ ap (option_map rule) none_known)
