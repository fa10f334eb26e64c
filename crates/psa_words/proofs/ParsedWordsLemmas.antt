-- What the parser finds is what the words give.
use Rattle.std.proofs.Common.{◌≡◌, ◌∙◌, refl, sym, ap, Bool, true, false, List, [], ◌∷◌, Option, Some, None, fold, is_some, inl, inr, codes}
use Rattle.std.specs.Prelude.{option_map, option_and_then, not, unwrap_or, slice_get}
use Rattle.std.specs.List.{find, list_any}
use Rattle.std.specs.Str.{bytes_eq}
use Rattle.std.specs.Cmp.Lexicographic.{bytes_decides}
use Rattle.std.proofs.lemmas.Bool.{cases_Bool}
use Rattle.clap.specs.Walk.{Row, first_of, with_default, rows_of, row_of, idle}
use Rattle.clap.specs.Words.{first_value, matched_of, fault_of, matches_of}
use Rattle.clap.specs.Kinds.{Kinds}
use Rattle.clap.specs.Facts.{Entry}
use Rattle.clap.proofs.WalkLemmas.{find_row, first_value-rows, raw_values-rows}
use Rattle.clap.specs.declared.parser.matches.Found.{Found}
use Rattle.psa_words.specs.Reading.{Text, Item, flag, valued, file, items_from, between}
use Rattle.psa_words.specs.Options.{Setting, name_of, takes_value, options, setting_of_long, bdd, zbdd, prime_implicants, rare_event, mcub, ccf, validate, limit_order, cut_off, mission_time, node_limit, sample}
use Rattle.psa_words.specs.Given.{given_by, given_of, is_same, is_use_of, item_value, value_in, files_in, has_option, has_repeat}
use Rattle.psa_words.specs.Found.{given_in, is_command_line, is_given, names_in}
use Rattle.psa_words.specs.Scram.{scram}
use Rattle.psa_words.proofs.ParserTurnLemmas.{Agrees, at, end_rows, judged, taken}
use Rattle.psa_words.proofs.ClapWalkLemmas.{AllTexts}
use Rattle.psa_words.proofs.CommandTableLemmas.{built_option, built_file, scram_agrees, scram_rows, top}
use Rattle.psa_words.proofs.OptionRowLemmas.{default_row, defaults_give, files_at, item_row, once_from_none, or_first, row_at, taken_files, taken_row}

-- ---- the getters, by the rows

source_rows : (f : Found) (id : Text) → option_and_then (λ a. a.source) (matched_of f id) ≡ option_and_then (λ (r : Row). r.source) (row_at id (rows_of f))
source_rows f id = go (find (λ (x : Entry). bytes_eq x.0.now id) f.entries.items) ∙ ap (option_and_then (λ (r : Row). r.source)) (sym (find_row f.entries.items id))
  where
    go : (o : Option Entry) → option_and_then (λ a. a.source) (option_map (λ e. e.1) o) ≡ option_and_then (λ (r : Row). r.source) (option_map row_of o)
    go None = refl
    go (Some e) = refl

-- ---- the rows at the end, by the items

-- the end of the walk, with the defaults
abbrev all_rows : List Row → List Row
all_rows end = fold with_default end top.rules

end_row : (s : Setting) (items : List (Item Setting)) (end : List Row) → taken built_option built_file [] items ≡ Some end
    → row_at (name_of s) (all_rows end) ≡ or_first (option_map item_row (find (is_use_of s) items)) (default_row (name_of s) top.rules)
end_row s items end e = defaults_give (name_of s) top.rules end ∙ ap (λ (x : Option Row). or_first x (default_row (name_of s) top.rules)) (taken_row s items [] end e)

no_default : (s : Setting) → takes_value s ≡ true → default_row (name_of s) top.rules ≡ None
unfolding top scram
no_default bdd h = absurd (cc)
no_default zbdd h = absurd (cc)
no_default prime_implicants h = absurd (cc)
no_default rare_event h = absurd (cc)
no_default mcub h = absurd (cc)
no_default ccf h = absurd (cc)
no_default validate h = absurd (cc)
no_default limit_order h = refl
no_default cut_off h = refl
no_default mission_time h = refl
no_default node_limit h = refl
no_default sample h = refl

no_file_default : default_row (codes "file") top.rules ≡ None
unfolding top scram
no_file_default = refl

default_is_no_use : (s : Setting) → is_command_line (option_and_then (λ (r : Row). r.source) (default_row (name_of s) top.rules)) ≡ false
unfolding top scram
default_is_no_use bdd = refl
default_is_no_use _ = refl

found_is : (p : Item Setting → Bool) (items : List (Item Setting)) → is_some (find p items) ≡ list_any p items
found_is p [] = refl
found_is p (item ∷ items) = elim (cases_Bool (p item)) [
  | inl e ↦ rw e refl
  | inr e ↦ rw e (found_is p items)
]

use_source : (o : Option (Item Setting)) (d : Option Row) → is_command_line (option_and_then (λ (r : Row). r.source) d) ≡ false
    → is_command_line (option_and_then (λ (r : Row). r.source) (or_first (option_map item_row o) d)) ≡ is_some o
use_source None d h = h
use_source (Some (flag s)) d h = refl
use_source (Some (valued s text)) d h = refl
use_source (Some (file text)) d h = refl

given_end : (s : Setting) (items : List (Item Setting)) (end : List Row) → taken built_option built_file [] items ≡ Some end
    → is_command_line (option_and_then (λ (r : Row). r.source) (row_at (name_of s) (all_rows end))) ≡ has_option s items
given_end s items end e =
    ap (λ (x : Option Row). is_command_line (option_and_then (λ (r : Row). r.source) x)) (end_row s items end e)
    ∙ use_source (find (is_use_of s) items) (default_row (name_of s) top.rules) (default_is_no_use s)
    ∙ found_is (is_use_of s) items

-- ---- values

by_name : (s : Setting) → setting_of_long (name_of s) ≡ Some s
by_name bdd = refl
by_name _ = refl

same_setting : (s t : Setting) → is_same s t ≡ true → s ≡ t
same_setting s t e =
    let names : name_of s ≡ name_of t = (bytes_decides (name_of s) (name_of t)).0 e in
    let both : Some s ≡ Some t = sym (by_name s) ∙ ap setting_of_long names ∙ by_name t in cc

no_missing : (s : Setting) → takes_value s ≡ true → (built_option s).missing ≡ []
unfolding built_option
no_missing bdd h = absurd (cc)
no_missing zbdd h = absurd (cc)
no_missing prime_implicants h = absurd (cc)
no_missing rare_event h = absurd (cc)
no_missing mcub h = absurd (cc)
no_missing ccf h = absurd (cc)
no_missing validate h = absurd (cc)
no_missing limit_order h = refl
no_missing cut_off h = refl
no_missing mission_time h = refl
no_missing node_limit h = refl
no_missing sample h = refl

found_use : (s : Setting) (items : List (Item Setting)) (item : Item Setting) → find (is_use_of s) items ≡ Some item → is_use_of s item ≡ true
found_use s [] item e = absurd (cc)
found_use s (x ∷ items) item e = elim (cases_Bool (is_use_of s x)) [
  | inl h ↦ let there : Some x ≡ Some item = rw h at e in let same_item : x ≡ item = cc in ap (is_use_of s) (sym same_item) ∙ h
  | inr h ↦ let rest : find (is_use_of s) items ≡ Some item = rw h at e in found_use s items item rest
]

item_text : (s : Setting) (item : Item Setting) → takes_value s ≡ true → is_use_of s item ≡ true → slice_get (item_row item).values 0 ≡ item_value item
item_text s (flag t) h e =
    let none : (built_option t).missing ≡ [] = no_missing t (ap takes_value (sym (same_setting s t e)) ∙ h) in rw none refl
item_text s (valued t text) h e = refl
item_text s (file text) h e = refl

option_text : (s : Setting) (o : Option (Item Setting)) → takes_value s ≡ true → ((item : Item Setting) → o ≡ Some item → is_use_of s item ≡ true)
    → option_and_then (λ (r : Row). slice_get r.values 0) (or_first (option_map item_row o) None) ≡ option_and_then item_value o
option_text s None h uses = refl
option_text s (Some item) h uses = item_text s item h (uses item refl)

value_end : (s : Setting) (items : List (Item Setting)) (end : List Row) → takes_value s ≡ true → taken built_option built_file [] items ≡ Some end
    → first_of (name_of s) (all_rows end) ≡ value_in s items
value_end s items end h e =
    ap (λ (x : Option Row). option_and_then (λ (r : Row). slice_get r.values 0) x)
    (end_row s items end e ∙ ap (λ (x : Option Row). or_first (option_map item_row (find (is_use_of s) items)) x) (no_default s h))
    ∙ option_text s (find (is_use_of s) items) h (λ item f. found_use s items item f)

or_none : (x : Option Row) → or_first x None ≡ x
or_none None = refl
or_none (Some x) = refl

files_end : (items : List (Item Setting)) (end : List Row) → taken built_option built_file [] items ≡ Some end → files_at (all_rows end) ≡ files_in items
files_end items end e =
    ap (λ (x : Option Row). unwrap_or (option_map (λ (r : Row). r.values) x) [])
    (defaults_give (codes "file") top.rules end ∙ ap (λ (x : Option Row). or_first (row_at (codes "file") end) x) no_file_default ∙ or_none (row_at (codes "file") end))
    ∙ taken_files items [] end e

-- ---- what is found

given_is : (found : Found) (items : List (Item Setting)) (end : List Row) → taken built_option built_file [] items ≡ Some end → rows_of found ≡ all_rows end
    → given_by items ≡ given_in found
unfolding given_in
given_is found items end e rows =
    let has : (s : Setting) → has_option s items ≡ is_given found (name_of s) = λ s.
    sym (given_end s items end e) ∙ ap (λ (x : List Row). is_command_line (option_and_then (λ (r : Row). r.source) (row_at (name_of s) x))) (sym rows)
    ∙ ap is_command_line (sym (source_rows found (name_of s))) in
    let text : (s : Setting) → takes_value s ≡ true → value_in s items ≡ first_value found (name_of s) = λ s h.
    sym (value_end s items end h e) ∙ ap (first_of (name_of s)) (sym rows) ∙ sym (first_value-rows found (name_of s)) in
    let names : files_in items ≡ names_in found =
    sym (files_end items end e) ∙ ap files_at (sym rows) ∙ ap (λ (x : Option (List Text)). unwrap_or x []) (sym (raw_values-rows found (codes "file"))) in
    rw (
      has bdd,
      has zbdd,
      has prime_implicants,
      has rare_event,
      has mcub,
      has ccf,
      has validate,
      text limit_order refl,
      text cut_off refl,
      text mission_time refl,
      text node_limit refl,
      text sample refl,
      names,
    ) refl

found_items : (found : Found) (items : List (Item Setting)) (r : Option (List Row)) (kinds : Kinds) (end : List Row)
    → taken built_option built_file [] items ≡ r → Agrees r kinds end → rows_of found ≡ all_rows end → kinds ≡ []
    → (if_none : has_repeat items ≡ false) × (given_by items ≡ given_in found)
found_items found items None kinds end e agrees rows quiet = absurd (agrees quiet)
found_items found items (Some taken_rows) kinds end e agrees rows quiet =
    let once : true ≡ not (has_repeat items) = rw e at (once_from_none items) in
    (not_twice (has_repeat items) once, given_is found items taken_rows e (rows ∙ ap all_rows agrees.1))
  where
    not_twice : (b : Bool) → true ≡ not b → b ≡ false
    not_twice true h = h
    not_twice false h = refl

refused_items : (items : List (Item Setting)) (r : Option (List Row)) (kinds : Kinds) (end : List Row)
    → taken built_option built_file [] items ≡ r → Agrees r kinds end → (kinds ≡ [] → ⊥) → has_repeat items ≡ true
refused_items items None kinds end e agrees loud = let once : false ≡ not (has_repeat items) = rw e at (once_from_none items) in twice (has_repeat items) once
  where
    twice : (b : Bool) → false ≡ not b → b ≡ true
    twice true h = refl
    twice false h = h
refused_items items (Some rows) kinds end e agrees loud = absurd (loud agrees.0)

find_given : (words : List Text) (found : Found) (reading : Option (List (Item Setting))) → items_from options between words ≡ reading
    → Agrees (judged built_option built_file [] reading) (fault_of scram words) (end_rows top (at [] None idle false) words)
    → rows_of found ≡ matches_of scram words → fault_of scram words ≡ [] → given_of words ≡ Some (given_in found)
unfolding given_of
find_given words found None is agrees rows quiet = absurd (agrees quiet)
find_given words found (Some items) is agrees rows quiet =
    let parts = found_items found items (taken built_option built_file [] items) (fault_of scram words) (end_rows top (at [] None idle false) words) refl agrees (rows ∙ scram_rows words) quiet in
    rw (is, parts.0, parts.1) refl

-- the parser takes the words: they give what it finds
pub taken_words : (words : List Text) (found : Found) → AllTexts words → rows_of found ≡ matches_of scram words → fault_of scram words ≡ [] → given_of words ≡ Some (given_in found)
taken_words words found all rows quiet = find_given words found (items_from options between words) refl (scram_agrees words all) rows quiet

no_given : (words : List Text) (reading : Option (List (Item Setting))) → items_from options between words ≡ reading
    → Agrees (judged built_option built_file [] reading) (fault_of scram words) (end_rows top (at [] None idle false) words)
    → (fault_of scram words ≡ [] → ⊥) → given_of words ≡ None
unfolding given_of
no_given words None is agrees loud = rw is refl
no_given words (Some items) is agrees loud =
    let twice = refused_items items (taken built_option built_file [] items) (fault_of scram words) (end_rows top (at [] None idle false) words) refl agrees loud in
    rw (is, twice) refl

-- the parser refuses the words: they give nothing
pub refused_words : (words : List Text) → AllTexts words → (fault_of scram words ≡ [] → ⊥) → given_of words ≡ None
refused_words words all loud = no_given words (items_from options between words) refl (scram_agrees words all) loud
