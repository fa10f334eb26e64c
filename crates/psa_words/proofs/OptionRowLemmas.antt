-- What the parser's rows hold, by the items that were read.
use Rattle.std.proofs.Common.{◌≡◌, ◌∙◌, refl, sym, ap, ap₂, Bool, true, false, List, [], ◌∷◌, ◌++◌, Option, Some, None, cond, fold, is_some, inl, inr, codes, append-nil, append_assoc, length, arith}
use Rattle.std.specs.Prelude.{option_map, ◌&&◌, ◌||◌, not, unwrap_or}
use Rattle.std.specs.List.{find, list_any}
use Rattle.std.specs.Option.{option_map_or}
use Rattle.std.specs.Str.{bytes_eq}
use Rattle.std.specs.Cmp.Lexicographic.{bytes_decides}
use Rattle.std.proofs.lemmas.Bool.{cases_Bool, false_from_ne_true, ne_eqb, or_parts, true≢false}
use Rattle.clap.specs.Walk.{Row, Rule, all_of, default_rows, has_row, is_empty, reading_by, used, with_default, with_values, without}
use Rattle.clap.specs.Kinds.{Kinds}
use Rattle.clap.specs.Faults.{repeat_fault}
use Rattle.clap.specs.declared.builder.value_parser.Reading.{Reading}
use Rattle.clap.specs.declared.parser.matches.ValueSource.{ValueSource}
use Rattle.clap.specs.declared.parser.matches.ValueSource.TheVariants.{DefaultValue, CommandLine}
use Rattle.clap.specs.declared.error.kind.ErrorKind.TheVariants as kind
use Rattle.psa_words.specs.Reading.{Text, Item, flag, valued, file}
use Rattle.psa_words.specs.Options.{Setting, name_of, bdd}
use Rattle.psa_words.specs.Given.{is_same, is_use_of, item_setting, files_in, has_option, has_repeat}
use Rattle.psa_words.proofs.ParserTurnLemmas.{item_fault, item_rows, taken, taken_next}
use Rattle.psa_words.proofs.CommandTableLemmas.{built_option, built_file}

-- ---- texts

tells : (a b : Text) → bytes_eq a b ≡ true → a ≡ b
tells a b e = (bytes_decides a b).0 e

-- A text has the same bytes as itself.
pub same : (a : Text) → bytes_eq a a ≡ true
same a = (bytes_decides a a).1 refl

turned : (a b : Text) → bytes_eq a b ≡ false → bytes_eq b a ≡ false
turned a b e = false_from_ne_true (bytes_eq b a) (λ h.
    let is : bytes_eq a b ≡ true = (bytes_decides a b).1 (sym (tells b a h)) in let bad : true ≡ false = sym is ∙ e in true≢false bad)

same_turned : (a b : Text) → bytes_eq a b ≡ bytes_eq b a
same_turned a b = elim (cases_Bool (bytes_eq a b)) [
  | inl e ↦ let f : bytes_eq b a ≡ true = (bytes_decides b a).1 (sym (tells a b e)) in e ∙ sym f
  | inr e ↦ e ∙ sym (turned a b e)
]

-- ---- rows

-- the first row of an argument, by its name
abbrev pub row_at : Text → List Row → Option Row
row_at id rows = find (λ r. bytes_eq r.id id) rows

-- the first value that is there
abbrev pub or_first : {X : Type 0} → Option X → Option X → Option X
or_first None y = y
or_first (Some x) y = Some x

or_none : {X : Type 0} (x : Option X) → or_first x None ≡ x
or_none None = refl
or_none (Some x) = refl

abbrev new_row : Text → Reading → ValueSource → List Text → Row
new_row id how s values = record { id = id; values = values; count = None; source = Some s; reading = how }

has_is : (id : Text) (rows : List Row) → has_row id rows ≡ is_some (row_at id rows)
has_is id [] = refl
has_is id (r ∷ rs) = elim (cases_Bool (bytes_eq r.id id)) [
  | inl e ↦ rw e refl
  | inr e ↦ rw e (has_is id rs)
]

none_is : {X : Type 0} (x : Option X) → is_some x ≡ false → x ≡ None
none_is None e = refl
none_is (Some x) e = absurd (cc)

absent : (id : Text) (rows : List Row) → has_row id rows ≡ false → row_at id rows ≡ None
absent id rows e = none_is (row_at id rows) (sym (has_is id rows) ∙ e)

with_new : (id : Text) (how : Reading) (s : ValueSource) (values : List Text) (rows : List Row) → has_row id rows ≡ false
    → row_at id (with_values id how s values rows) ≡ Some (new_row id how s values)
with_new id how s values [] e = rw (same id) refl
with_new id how s values (r ∷ rs) e =
    let parts = or_parts (bytes_eq r.id id) (has_row id rs) e in rw (parts.0, parts.0) (with_new id how s values rs parts.1)

with_other : (id other : Text) (how : Reading) (s : ValueSource) (values : List Text) (rows : List Row) → bytes_eq id other ≡ false
    → row_at other (with_values id how s values rows) ≡ row_at other rows
with_other id other how s values [] e = rw e refl
with_other id other how s values (r ∷ rs) e = elim (cases_Bool (bytes_eq r.id id)) [
  | inl f ↦ let g : bytes_eq r.id other ≡ false = ap (λ (t : Text). bytes_eq t other) (tells r.id id f) ∙ e in rw (f, g) refl
  | inr f ↦ elim (cases_Bool (bytes_eq r.id other)) [
    | inl g ↦ rw (f, g) refl
    | inr g ↦ rw (f, g) (with_other id other how s values rs e)
  ]
]

with_same : (id : Text) (how : Reading) (s : ValueSource) (values : List Text) (rows : List Row)
    → all_of id (with_values id how s values rows) ≡ Some (unwrap_or (all_of id rows) [] ++ values)
with_same id how s values [] = rw (same id) refl
with_same id how s values (r ∷ rs) = elim (cases_Bool (bytes_eq r.id id)) [
  | inl e ↦ rw (e, e) refl
  | inr e ↦ rw (e, e) (with_same id how s values rs)
]

without_absent : (id : Text) (rows : List Row) → has_row id rows ≡ false → without id rows ≡ rows
without_absent id [] e = refl
without_absent id (r ∷ rs) e =
    let parts = or_parts (bytes_eq r.id id) (has_row id rs) e in rw (parts.0) (ap (λ (rest : List Row). r ∷ rest) (without_absent id rs parts.1))

-- ---- one item

-- the row that an item adds where its argument has none
abbrev pub item_row : Item Setting → Row
item_row (flag s) = new_row (name_of s) (reading_by (built_option s)) CommandLine (built_option s).missing
item_row (valued s text) = new_row (name_of s) (reading_by (built_option s)) CommandLine (text ∷ [])
item_row (file text) = new_row (codes "file") (reading_by built_file) CommandLine []

abbrev option_values : Setting → List Text → List Text
option_values s [] = (built_option s).missing
option_values s (v ∷ vs) = v ∷ vs

option_use : (s : Setting) (values : List Text) (rows : List Row)
    → used (built_option s) values rows ≡ with_values (name_of s) (reading_by (built_option s)) CommandLine (option_values s values) (without (name_of s) rows)
unfolding built_option
option_use bdd [] rows = refl
option_use bdd (v ∷ vs) rows = refl
option_use _ [] rows = refl
option_use _ (v ∷ vs) rows = refl

file_use : (text : Text) (rows : List Row) → used built_file (text ∷ []) rows ≡ with_values (codes "file") (reading_by built_file) CommandLine (text ∷ []) rows
unfolding built_file
file_use text rows = refl

id_is : (s : Setting) → (built_option s).id ≡ name_of s
unfolding built_option
id_is bdd = refl
id_is _ = refl

not_file : (s : Setting) → bytes_eq (codes "file") (name_of s) ≡ false
not_file bdd = refl
not_file _ = refl

free_from : (id : Text) (rows : List Row) → repeat_fault false id rows ≡ [] → has_row id rows ≡ false
free_from id rows e = elim (cases_Bool (has_row id rows)) [
  | inl h ↦ let bad : kind.ArgumentConflict ∷ [] ≡ [] = rw h at e in absurd (cc)
  | inr h ↦ h
]

-- the row of an option after a use of an option
option_step : (s t : Setting) (values : List Text) (rows : List Row) → has_row (name_of t) rows ≡ false
    → row_at (name_of s) (used (built_option t) values rows)
    ≡ or_first (row_at (name_of s) rows) (cond (is_same s t) (Some (new_row (name_of t) (reading_by (built_option t)) CommandLine (option_values t values))) None)
option_step s t values rows free = elim (cases_Bool (is_same s t)) [
  | inl e ↦
      let gone : row_at (name_of s) rows ≡ None = ap (λ (id : Text). row_at id rows) (tells (name_of s) (name_of t) e) ∙ absent (name_of t) rows free in
      let there = with_new (name_of t) (reading_by (built_option t)) CommandLine (option_values t values) rows free in
      let named : row_at (name_of s) (with_values (name_of t) (reading_by (built_option t)) CommandLine (option_values t values) rows)
      ≡ Some (new_row (name_of t) (reading_by (built_option t)) CommandLine (option_values t values)) =
      ap (λ (id : Text). row_at id (with_values (name_of t) (reading_by (built_option t)) CommandLine (option_values t values) rows)) (tells (name_of s) (name_of t) e) ∙ there in
      rw (option_use t values rows, without_absent (name_of t) rows free, gone, e) named
  | inr e ↦
      let stays = with_other (name_of t) (name_of s) (reading_by (built_option t)) CommandLine (option_values t values) rows (turned (name_of s) (name_of t) e) in
      rw (option_use t values rows, without_absent (name_of t) rows free, e) (stays ∙ sym (or_none (row_at (name_of s) rows)))
]

free_option : (t : Setting) (rows : List Row) → repeat_fault false (built_option t).id rows ≡ [] → has_row (name_of t) rows ≡ false
free_option t rows e = free_from (name_of t) rows (ap (λ (id : Text). repeat_fault false id rows) (sym (id_is t)) ∙ e)

row_step : (s : Setting) (item : Item Setting) (rows : List Row) → item_fault built_option item rows ≡ []
    → row_at (name_of s) (item_rows built_option built_file item rows) ≡ or_first (row_at (name_of s) rows) (cond (is_use_of s item) (Some (item_row item)) None)
row_step s (flag t) rows e = option_step s t [] rows (free_option t rows e)
row_step s (valued t text) rows e = option_step s t (text ∷ []) rows (free_option t rows e)
row_step s (file text) rows e =
    rw (file_use text rows) (with_other (codes "file") (name_of s) (reading_by built_file) CommandLine (text ∷ []) rows (not_file s) ∙ sym (or_none (row_at (name_of s) rows)))

-- ---- the items

taken_goes : (k : Kinds) (m : Option (List Row)) (rows : List Row) → taken_next k m ≡ Some rows → (k ≡ []) × (m ≡ Some rows)
taken_goes [] m rows e = (refl, e)
taken_goes (x ∷ xs) m rows e = absurd (cc)

join : (a : Option Row) (b : Bool) (item : Item Setting) (r : Option (Item Setting))
    → or_first (or_first a (cond b (Some (item_row item)) None)) (option_map item_row r) ≡ or_first a (option_map item_row (cond b (Some item) r))
join None true item r = refl
join None false item r = refl
join (Some x) true item r = refl
join (Some x) false item r = refl

-- After all items, an option has the row that it had before, or else that of its first item.
pub taken_row : (s : Setting) (items : List (Item Setting)) (rows end : List Row) → taken built_option built_file rows items ≡ Some end
    → row_at (name_of s) end ≡ or_first (row_at (name_of s) rows) (option_map item_row (find (is_use_of s) items))
unfolding taken
taken_row s [] rows end e = let same_rows : rows ≡ end = cc in rw (← same_rows) (sym (or_none (row_at (name_of s) rows)))
taken_row s (item ∷ items) rows end e =
    let parts = taken_goes (item_fault built_option item rows) (taken built_option built_file (item_rows built_option built_file item rows) items) end e in
    taken_row s items (item_rows built_option built_file item rows) end parts.1
    ∙ ap (λ (x : Option Row). or_first x (option_map item_row (find (is_use_of s) items))) (row_step s item rows parts.0)
    ∙ join (row_at (name_of s) rows) (is_use_of s item) item (find (is_use_of s) items)

-- the files

-- the file names in the rows
abbrev pub files_at : List Row → List Text
files_at rows = unwrap_or (all_of (codes "file") rows) []

all_is : (id : Text) (rows : List Row) → all_of id rows ≡ option_map (λ (r : Row). r.values) (row_at id rows)
all_is id rows = refl

abbrev item_files : Item Setting → List Text
item_files (file text) = text ∷ []
item_files _ = []

files_stay : (t : Setting) (values : List Text) (rows : List Row) → has_row (name_of t) rows ≡ false
    → files_at (used (built_option t) values rows) ≡ files_at rows ++ []
files_stay t values rows free =
    let stays = with_other (name_of t) (codes "file") (reading_by (built_option t)) CommandLine (option_values t values) rows (turned (codes "file") (name_of t) (not_file t)) in
    rw (option_use t values rows, without_absent (name_of t) rows free)
    (ap (λ (x : Option Row). unwrap_or (option_map (λ (r : Row). r.values) x) []) stays ∙ sym (append-nil (files_at rows)))

files_cons : (item : Item Setting) (items : List (Item Setting)) → item_files item ++ files_in items ≡ files_in (item ∷ items)
files_cons (file text) items = refl
files_cons (flag t) items = refl
files_cons (valued t text) items = refl

files_step : (item : Item Setting) (rows : List Row) → item_fault built_option item rows ≡ []
    → files_at (item_rows built_option built_file item rows) ≡ files_at rows ++ item_files item
files_step (file text) rows e =
    rw (file_use text rows) (ap (λ (x : Option (List Text)). unwrap_or x []) (with_same (codes "file") (reading_by built_file) CommandLine (text ∷ []) rows))
files_step (flag t) rows e = files_stay t [] rows (free_option t rows e)
files_step (valued t text) rows e = files_stay t (text ∷ []) rows (free_option t rows e)

-- After all items, the file names are those from before and those of the items, in order.
pub taken_files : (items : List (Item Setting)) (rows end : List Row) → taken built_option built_file rows items ≡ Some end
    → files_at end ≡ files_at rows ++ files_in items
unfolding taken
taken_files [] rows end e = let same_rows : rows ≡ end = cc in rw (← same_rows) (sym (append-nil (files_at rows)))
taken_files (item ∷ items) rows end e =
    let parts = taken_goes (item_fault built_option item rows) (taken built_option built_file (item_rows built_option built_file item rows) items) end e in
    taken_files items (item_rows built_option built_file item rows) end parts.1
    ∙ ap (λ (x : List Text). x ++ files_in items) (files_step item rows parts.0)
    ∙ append_assoc (files_at rows) (item_files item) (files_in items)
    ∙ ap (λ (x : List Text). files_at rows ++ x) (files_cons item items)

-- ---- an option given twice

abbrev item_taken : Item Setting → List Row → Bool
item_taken item rows = option_map_or (λ s. has_row (name_of s) rows) (item_setting item) false

abbrev any_taken : List Row → List (Item Setting) → Bool
any_taken rows items = list_any (λ item. item_taken item rows) items

abbrev repeats : Item Setting → List (Item Setting) → Bool
repeats item items = option_map_or (λ s. has_option s items) (item_setting item) false

quiet_item : (item : Item Setting) (rows : List Row) → item_taken item rows ≡ false → item_fault built_option item rows ≡ []
quiet_item (flag t) rows e = rw (id_is t, e) refl
quiet_item (valued t text) rows e = rw (id_is t, e) refl
quiet_item (file text) rows e = refl

loud_item : (item : Item Setting) (rows : List Row) → item_taken item rows ≡ true → item_fault built_option item rows ≡ kind.ArgumentConflict ∷ []
loud_item (flag t) rows e = rw (id_is t, e) refl
loud_item (valued t text) rows e = rw (id_is t, e) refl
loud_item (file text) rows e = absurd (cc)

some_or : (a : Option Row) (b : Bool) (x : Row) → is_some (or_first a (cond b (Some x) None)) ≡ (is_some a || b)
some_or None true x = refl
some_or None false x = refl
some_or (Some y) true x = refl
some_or (Some y) false x = refl

-- the other item is a use of the same option
abbrev uses_again : Item Setting → Item Setting → Bool
uses_again item other = option_map_or (λ s. is_use_of s other) (item_setting item) false

use_turned : (u : Setting) (item : Item Setting) → is_use_of u item ≡ option_map_or (λ s. is_same s u) (item_setting item) false
use_turned u (flag t) = same_turned (name_of u) (name_of t)
use_turned u (valued t text) = same_turned (name_of u) (name_of t)
use_turned u (file text) = refl

setting_taken : (u : Setting) (item : Item Setting) (rows : List Row) → item_fault built_option item rows ≡ []
    → has_row (name_of u) (item_rows built_option built_file item rows) ≡ (has_row (name_of u) rows || option_map_or (λ s. is_same s u) (item_setting item) false)
setting_taken u item rows e =
    has_is (name_of u) (item_rows built_option built_file item rows)
    ∙ ap (λ (x : Option Row). is_some x) (row_step u item rows e)
    ∙ some_or (row_at (name_of u) rows) (is_use_of u item) (item_row item)
    ∙ ap₂ (λ (x y : Bool). x || y) (sym (has_is (name_of u) rows)) (use_turned u item)

taken_after : (other item : Item Setting) (rows : List Row) → item_fault built_option item rows ≡ []
    → item_taken other (item_rows built_option built_file item rows) ≡ (item_taken other rows || uses_again item other)
taken_after (flag u) item rows e = setting_taken u item rows e
taken_after (valued u text) item rows e = setting_taken u item rows e
taken_after (file text) (flag t) rows e = refl
taken_after (file text) (valued t more) rows e = refl
taken_after (file text) (file more) rows e = refl

repeats_cons : (item other : Item Setting) (items : List (Item Setting)) → repeats item (other ∷ items) ≡ (uses_again item other || repeats item items)
repeats_cons (flag t) other items = refl
repeats_cons (valued t text) other items = refl
repeats_cons (file text) other items = refl

mixed : (a b c d : Bool) → ((a || b) || (c || d)) ≡ ((a || c) || (b || d))
mixed true b c d = refl
mixed false true true d = refl
mixed false true false d = refl
mixed false false true d = refl
mixed false false false d = refl

any_after : (items : List (Item Setting)) (item : Item Setting) (rows : List Row) → item_fault built_option item rows ≡ []
    → any_taken (item_rows built_option built_file item rows) items ≡ (any_taken rows items || repeats item items)
any_after [] (flag t) rows e = refl
any_after [] (valued t text) rows e = refl
any_after [] (file text) rows e = refl
any_after (other ∷ items) item rows e =
    ap₂ (λ (x y : Bool). x || y) (taken_after other item rows e) (any_after items item rows e)
    ∙ mixed (item_taken other rows) (uses_again item other) (any_taken rows items) (repeats item items)
    ∙ ap (λ (x : Bool). (item_taken other rows || any_taken rows items) || x) (sym (repeats_cons item other items))

or_joined : (a b c : Bool) → ((a || b) || c) ≡ (a || (b || c))
or_joined true b c = refl
or_joined false b c = refl

-- The items are taken exactly where no option among them is in the rows already or is given twice.
pub once : (items : List (Item Setting)) (rows : List Row) → is_some (taken built_option built_file rows items) ≡ not (any_taken rows items || has_repeat items)
unfolding taken
once [] rows = refl
once (item ∷ items) rows = elim (cases_Bool (item_taken item rows)) [
  | inl e ↦ rw (loud_item item rows e, e) refl
  | inr e ↦
      let quiet = quiet_item item rows e in
      let rest = once items (item_rows built_option built_file item rows)
      ∙ ap (λ (x : Bool). not (x || has_repeat items)) (any_after items item rows quiet)
      ∙ ap not (or_joined (any_taken rows items) (repeats item items) (has_repeat items)) in
      rw (quiet, e) rest
]

none_taken : (items : List (Item Setting)) → any_taken [] items ≡ false
none_taken [] = refl
none_taken (flag t ∷ items) = none_taken items
none_taken (valued t text ∷ items) = none_taken items
none_taken (file text ∷ items) = none_taken items

-- From no rows, the items are taken exactly where no option is given twice.
pub once_from_none : (items : List (Item Setting)) → is_some (taken built_option built_file [] items) ≡ not (has_repeat items)
once_from_none items = once items [] ∙ ap (λ (x : Bool). not (x || has_repeat items)) (none_taken items)

-- ---- defaults

-- the row that the first default of an argument gives
abbrev pub default_row : Text → List Rule → Option Row
default_row id [] = None
default_row id (a ∷ rest) =
    cond (bytes_eq a.id id && not (is_empty a.defaults)) (Some (new_row a.id (reading_by a) DefaultValue a.defaults)) (default_row id rest)

first_only : (a x y : Option Row) → is_some a ≡ true → or_first a x ≡ or_first a y
first_only None x y e = absurd (cc)
first_only (Some r) x y e = refl

not_empty : (v : Text) (vs : List Text) → is_empty (v ∷ vs) ≡ false
not_empty v vs = ne_eqb (length (v ∷ vs)) 0 (λ h. omega arith)

default_step : (id own : Text) (how : Reading) (values : List Text) (rows : List Row) (rest : Option Row)
    → or_first (row_at id (cond (has_row own rows) rows (default_rows own how values rows))) rest
    ≡ or_first (row_at id rows) (cond (bytes_eq own id && not (is_empty values)) (Some (new_row own how DefaultValue values)) rest)
default_step id own how [] rows rest = elim (cases_Bool (has_row own rows)) [
  | inl h ↦ elim (cases_Bool (bytes_eq own id)) [ inl e ↦ rw (h, e) refl | inr e ↦ rw (h, e) refl ]
  | inr h ↦ elim (cases_Bool (bytes_eq own id)) [ inl e ↦ rw (h, e) refl | inr e ↦ rw (h, e) refl ]
]
default_step id own how (v ∷ vs) rows rest = let some : is_empty (v ∷ vs) ≡ false = not_empty v vs in elim (cases_Bool (has_row own rows)) [
  | inl h ↦ elim (cases_Bool (bytes_eq own id)) [
    | inl e ↦
        let there : is_some (row_at id rows) ≡ true = sym (has_is id rows) ∙ ap (λ (t : Text). has_row t rows) (sym (tells own id e)) ∙ h in
        rw (h, e, some) (first_only (row_at id rows) rest (Some (new_row own how DefaultValue (v ∷ vs))) there)
    | inr e ↦ rw (h, e) refl
  ]
  | inr h ↦ elim (cases_Bool (bytes_eq own id)) [
    | inl e ↦
        let gone : row_at id rows ≡ None = ap (λ (t : Text). row_at t rows) (sym (tells own id e)) ∙ absent own rows h in
        let there : row_at id (with_values own how DefaultValue (v ∷ vs) rows) ≡ Some (new_row own how DefaultValue (v ∷ vs)) =
        ap (λ (t : Text). row_at t (with_values own how DefaultValue (v ∷ vs) rows)) (sym (tells own id e)) ∙ with_new own how DefaultValue (v ∷ vs) rows h in
        rw (h, e, some, there, gone) refl
    | inr e ↦ rw (h, e, with_other own id how DefaultValue (v ∷ vs) rows e) refl
  ]
]

-- With the defaults added, an argument has the row that it had, or else that of its default.
pub defaults_give : (id : Text) (rules : List Rule) (rows : List Row) → row_at id (fold with_default rows rules) ≡ or_first (row_at id rows) (default_row id rules)
defaults_give id [] rows = sym (or_none (row_at id rows))
defaults_give id (a ∷ rest) rows = defaults_give id rest (with_default rows a) ∙ default_step id a.id (reading_by a) a.defaults rows (default_row id rest)
