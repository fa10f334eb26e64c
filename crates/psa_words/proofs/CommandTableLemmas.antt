-- The command of this program fits its table of options.
use Rattle.std.proofs.Common.{◌≡◌, ◌∙◌, refl, sym, ℕ, ◌≤◌, Bool, true, false, List, [], ◌∷◌, ◌++◌, Option, Some, None, cond, arith, inl, inr, is_some, fold}
use Rattle.std.specs.Prelude.{option_map, map, ◌==◌, ◌&&◌, ◌||◌, not}
use Rattle.std.specs.List.{find}
use Rattle.std.specs.Str.{bytes_eq}
use Rattle.std.proofs.lemmas.Bool.{cases_Bool, eqb-false, eqb-true, ne_eqb}
use Rattle.clap.specs.Walk.{Held, finished, has_row, nothing_held, settled, walk, idle, with_default, Row, Rule, arg_by_id, arg_by_index, arg_by_long, arg_by_short, takes_values, most_values, takes_several, is_multiple, is_empty, has_long}
use Rattle.clap.specs.Simple.{matches_of, Shape, built, filled, with_index}
use Rattle.clap.specs.Faults.{check_fault, defaults_fault, given_default_fault, level_fault, settle_fault, repeat_fault, use_fault, fault_of}
use Rattle.clap.specs.Kinds.{Kinds}
use Rattle.clap.proofs.FaultLemmas.{leaf_fault}
use Rattle.clap.specs.declared.error.kind.ErrorKind.TheVariants as kind
use Rattle.psa_words.specs.Reading.{Text, items_from, between}
use Rattle.psa_words.specs.Options.{Setting, bdd, zbdd, prime_implicants, rare_event, mcub, ccf, validate, limit_order, cut_off, mission_time, node_limit, sample, every_setting, name_of, options}
use Rattle.psa_words.specs.Scram.{scram, option_rule, file_rule}
use Rattle.psa_words.proofs.ParserTurnLemmas.{Agrees, Fits, at, end_rows, faults, judged, or_false, or_nothing}
use Rattle.psa_words.proofs.ClapWalkLemmas.{AllTexts, words_agree}

-- the built command
unfoldable pub built_option : Setting → Rule
built_option setting = filled (option_rule setting)

-- the argument for files, as the command is built
unfoldable pub built_file : Rule
built_file = with_index 1 (filled file_rule)

-- the program's command, as it is built
unfoldable pub top : Shape
top = (built scram).top

top_rules : top.rules ≡ map built_option every_setting ++ built_file ∷ []
unfolding top scram built_option built_file
top_rules = refl

top_again : top.args_override_self ≡ false
unfolding top scram
top_again = refl

-- names

long_of_option : (setting : Setting) (name : Text) → (not (is_some (built_option setting).index) && has_long (built_option setting) name) ≡ bytes_eq (name_of setting) name
unfolding built_option
long_of_option bdd name = or_false (bytes_eq (name_of bdd) name)
long_of_option zbdd name = or_false (bytes_eq (name_of zbdd) name)
long_of_option prime_implicants name = or_false (bytes_eq (name_of prime_implicants) name)
long_of_option rare_event name = or_false (bytes_eq (name_of rare_event) name)
long_of_option mcub name = or_false (bytes_eq (name_of mcub) name)
long_of_option ccf name = or_false (bytes_eq (name_of ccf) name)
long_of_option validate name = or_false (bytes_eq (name_of validate) name)
long_of_option limit_order name = or_false (bytes_eq (name_of limit_order) name)
long_of_option cut_off name = or_false (bytes_eq (name_of cut_off) name)
long_of_option mission_time name = or_false (bytes_eq (name_of mission_time) name)
long_of_option node_limit name = or_false (bytes_eq (name_of node_limit) name)
long_of_option sample name = or_false (bytes_eq (name_of sample) name)

choice : {A B : Type 0} (b : Bool) (g : A → B) (x : A) (r : Option A) → cond b (Some (g x)) (option_map g r) ≡ option_map g (cond b (Some x) r)
choice true g x r = refl
choice false g x r = refl

by_long : (settings : List Setting) (name : Text)
    → arg_by_long (map built_option settings ++ built_file ∷ []) name ≡ option_map built_option (find (λ setting. bytes_eq (name_of setting) name) settings)
unfolding built_file
by_long [] name = refl
by_long (x ∷ xs) name = rw (long_of_option x name, by_long xs name) (choice (bytes_eq (name_of x) name) built_option x (find (λ setting. bytes_eq (name_of setting) name) xs))

long_is : (name : Text) → arg_by_long top.rules name ≡ option_map built_option (options.long_name name)
unfolding options
long_is name = rw top_rules (by_long every_setting name)

short_is : (c : ℕ) → arg_by_short top.rules c ≡ option_map built_option (options.short_name c)
unfolding options built_option built_file
short_is c = elim (cases_Bool (c == 108)) [
  | inl e ↦ let same : c ≡ 108 = eqb-true c 108 e in rw (top_rules, same) refl
  | inr e ↦ let other : (108 == c) ≡ false = ne_eqb 108 c (λ h. eqb-false c 108 e (sym h)) in rw (top_rules, e, other) refl
]

short_ascii : (c : ℕ) → 128 ≤ c → options.short_name c ≡ None
unfolding options
short_ascii c above = let other : (c == 108) ≡ false = ne_eqb c 108 (λ h. omega arith) in rw other refl

short_takes : (c : ℕ) (setting : Setting) → options.short_name c ≡ Some setting → options.takes_value setting ≡ true
unfolding options
short_takes c setting known = elim (cases_Bool (c == 108)) [
  | inl e ↦ let limit : Some limit_order ≡ Some setting = rw e at known in let same : limit_order ≡ setting = cc in rw (← same) refl
  | inr e ↦ let none_known : None ≡ Some setting = rw e at known in absurd (cc)
]

takes : (setting : Setting) → takes_values (built_option setting) ≡ options.takes_value setting
unfolding options built_option
takes bdd = refl
takes _ = refl

by_id : (setting : Setting) → arg_by_id top.rules (built_option setting).id ≡ Some (built_option setting)
unfolding built_option built_file top scram
by_id bdd = refl
by_id _ = refl

same_id : (setting : Setting) → bytes_eq (built_option setting).id (built_option setting).id ≡ true
unfolding built_option
same_id bdd = refl
same_id _ = refl

flag_use : (setting : Setting) → options.takes_value setting ≡ false → (rows : List Row)
    → use_fault top.args_override_self (built_option setting) [] rows ≡ repeat_fault false (built_option setting).id rows
unfolding options built_option top scram
flag_use bdd h rows = or_nothing (repeat_fault false (name_of bdd) rows)
flag_use zbdd h rows = or_nothing (repeat_fault false (name_of zbdd) rows)
flag_use prime_implicants h rows = or_nothing (repeat_fault false (name_of prime_implicants) rows)
flag_use rare_event h rows = or_nothing (repeat_fault false (name_of rare_event) rows)
flag_use mcub h rows = or_nothing (repeat_fault false (name_of mcub) rows)
flag_use ccf h rows = or_nothing (repeat_fault false (name_of ccf) rows)
flag_use validate h rows = or_nothing (repeat_fault false (name_of validate) rows)
flag_use limit_order h rows = absurd (cc)
flag_use cut_off h rows = absurd (cc)
flag_use mission_time h rows = absurd (cc)
flag_use node_limit h rows = absurd (cc)
flag_use sample h rows = absurd (cc)

value_use : (setting : Setting) → options.takes_value setting ≡ true → (text : Text) (rows : List Row)
    → use_fault top.args_override_self (built_option setting) (text ∷ []) rows ≡ repeat_fault false (built_option setting).id rows
unfolding options built_option top scram
value_use bdd h text rows = absurd (cc)
value_use zbdd h text rows = absurd (cc)
value_use prime_implicants h text rows = absurd (cc)
value_use rare_event h text rows = absurd (cc)
value_use mcub h text rows = absurd (cc)
value_use ccf h text rows = absurd (cc)
value_use validate h text rows = absurd (cc)
value_use limit_order h text rows = or_nothing (repeat_fault false (name_of limit_order) rows)
value_use cut_off h text rows = or_nothing (repeat_fault false (name_of cut_off) rows)
value_use mission_time h text rows = or_nothing (repeat_fault false (name_of mission_time) rows)
value_use node_limit h text rows = or_nothing (repeat_fault false (name_of node_limit) rows)
value_use sample h text rows = or_nothing (repeat_fault false (name_of sample) rows)

no_value : (setting : Setting) → options.takes_value setting ≡ true → (rows : List Row)
    → use_fault top.args_override_self (built_option setting) [] rows ≡ kind.InvalidValue ∷ []
unfolding options built_option top scram
no_value bdd h rows = absurd (cc)
no_value zbdd h rows = absurd (cc)
no_value prime_implicants h rows = absurd (cc)
no_value rare_event h rows = absurd (cc)
no_value mcub h rows = absurd (cc)
no_value ccf h rows = absurd (cc)
no_value validate h rows = absurd (cc)
no_value limit_order h rows = refl
no_value cut_off h rows = refl
no_value mission_time h rows = refl
no_value node_limit h rows = refl
no_value sample h rows = refl

one : (setting : Setting) → options.takes_value setting ≡ true → most_values (built_option setting) ≡ 1
unfolding options built_option
one bdd h = absurd (cc)
one zbdd h = absurd (cc)
one prime_implicants h = absurd (cc)
one rare_event h = absurd (cc)
one mcub h = absurd (cc)
one ccf h = absurd (cc)
one validate h = absurd (cc)
one limit_order h = refl
one cut_off h = refl
one mission_time h = refl
one node_limit h = refl
one sample h = refl

file_by_id : arg_by_id top.rules built_file.id ≡ Some built_file
unfolding built_option built_file top scram
file_by_id = refl

file_at : arg_by_index top.rules 1 ≡ Some built_file
unfolding built_option built_file top scram
file_at = refl

file_use : (text : Text) (rows : List Row) → use_fault top.args_override_self built_file (text ∷ []) rows ≡ []
unfolding built_file top scram
file_use text rows = refl

file_several : takes_several built_file ≡ false
unfolding built_file
file_several = refl

file_multiple : is_multiple built_file ≡ true
unfolding built_file
file_multiple = refl

file_trailing : built_file.trailing_var_arg ≡ false
unfolding built_file
file_trailing = refl

-- The arguments of this program's command are those of its table of options, and one for files.
pub fits : Fits options top built_option built_file
fits = record {
  long_is = long_is;
  short_is = short_is;
  short_ascii = short_ascii;
  short_takes = short_takes;
  takes = takes;
  by_id = by_id;
  flag_use = flag_use;
  value_use = value_use;
  no_value = no_value;
  one = one;
  same_id = same_id;
  file_by_id = file_by_id;
  file_at = file_at;
  file_several = file_several;
  file_multiple = file_multiple;
  file_trailing = file_trailing;
  file_use = file_use;
}

-- the parser's whole answer is that of its walk

same_both : (b : Bool) → cond b (let none : Kinds = [] in none) [] ≡ []
same_both true = refl
same_both false = refl

-- no default value of an argument is refused
abbrev HaveQuietDefaults : List Rule → Type 0
HaveQuietDefaults [] = Unit {0}
HaveQuietDefaults (a ∷ rest) = (given_default_fault a a.defaults ≡ []) × HaveQuietDefaults rest

quiet_defaults : (rules : List Rule) (rows : List Row) → HaveQuietDefaults rules → defaults_fault rows rules ≡ []
unfolding defaults_fault
quiet_defaults [] rows quiet = refl
quiet_defaults (a ∷ rest) rows quiet =
    rw (quiet.0, same_both (has_row a.id rows || is_empty a.defaults), quiet_defaults rest (with_default rows a) quiet.1) refl

level_is : (s : Shape) (words : List Text) → HaveQuietDefaults s.rules → ((rows : List Row) → check_fault s rows false ≡ [])
    → level_fault s [] nothing_held words false [] ≡ faults s (at [] None idle false) words
unfolding faults
level_is s words quiet checked =
    let end : Held = (walk s.rules [] nothing_held words).held in
    rw (quiet_defaults s.rules (settled s.rules end).rows quiet, checked (finished s.rules end), or_nothing (settle_fault s.rules s.args_override_self end)) refl

quiet_top : HaveQuietDefaults top.rules
unfolding top scram
quiet_top = (refl, (refl, (refl, (refl, (refl, (refl, (refl, (refl, (refl, (refl, (refl, (refl, (refl, tt)))))))))))))

checked_top : (rows : List Row) → check_fault top rows false ≡ []
unfolding top scram
checked_top rows = refl

fault_is_level : (words : List Text) → fault_of scram words ≡ level_fault top [] nothing_held words false []
unfolding top scram
fault_is_level words = leaf_fault (built scram) nothing_held words refl

scram_faults : (words : List Text) → fault_of scram words ≡ faults top (at [] None idle false) words
scram_faults words = fault_is_level words ∙ level_is top words quiet_top checked_top

-- The parser's matches are the rows at the end of its walk over the words, with the defaults added.
pub scram_rows : (words : List Text) → matches_of scram words ≡ fold with_default (end_rows top (at [] None idle false) words) top.rules
unfolding scram top end_rows
scram_rows words = refl

-- The parser refuses exactly the words that the definition refuses, and else its rows are those of the items.
pub scram_agrees : (words : List Text) → AllTexts words
    → Agrees (judged built_option built_file [] (items_from options between words)) (fault_of scram words) (end_rows top (at [] None idle false) words)
scram_agrees words all = rw (scram_faults words) (words_agree options top built_option built_file fits words all)
