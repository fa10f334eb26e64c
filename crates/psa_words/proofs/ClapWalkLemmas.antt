-- The reading of the words from the left is the parser's walk over them.
use Rattle.std.proofs.Common.{◌≡◌, ◌∙◌, refl, sym, subst, ℕ, Bool, true, false, List, [], ◌∷◌, Option, Some, None, inl, inr}
use Rattle.std.proofs.lemmas.Bool.{cases_Bool}
use Rattle.std.specs.Prelude.{option_map}
use Rattle.std.specs.Str.{bytes_eq, IsUtf8}
use Rattle.clap.specs.Lexer.{long_of, short_of}
use Rattle.clap.specs.Walk.{Held, Row, Rule, Waiting, idle, option as waits, positional, Walk, next as goes_on, plain_word, settled_rows, used, value}
use Rattle.clap.specs.Simple.{Shape}
use Rattle.clap.specs.Faults.{option_fault, walk_fault}
use Rattle.clap.specs.Kinds.{Kinds, or_else}
use Rattle.clap.specs.declared.error.kind.ErrorKind.{ErrorKind}
use Rattle.clap.specs.declared.error.kind.ErrorKind.TheVariants as kind
use Rattle.psa_words.specs.Reading.{items_from_option, items_if_known, items_from_value, items_from_look, Text, Table, Item, flag, valued, file, Look, dashes, long, short, plain, look_of, items_from, between, before_value, after_dashes, value_behind}
use Rattle.psa_words.proofs.WordLookLemmas.{IsLook, looks, two_hyphens}
use Rattle.psa_words.proofs.FirstCharacterLemmas.{IsFirst, first_char, after_hyphen}
use Rattle.psa_words.proofs.ParserTurnLemmas.{Agrees, Fits, Means, Pending, Turn, agrees_next, at, no_sub, turn_from, or_else_assoc, end_rows, faults, goes, holding, item_fault, item_rows, judged, judged_item, settling, stops, taken, taken_next, turn_dashes, turn_file, turn_flag, turn_valued, turn_waits, word_stops, long_means, long_unknown, flag_with_value, short_means, short_unknown}

-- what the items of a reading come to after what is pending
abbrev pub after_pending : {O : Type 0} → (O → Rule) → Rule → Shape → List Row → Pending → Option (List (Item O)) → Option (List Row)
after_pending rule f s rows pending r = taken_next (settling s rows pending) (judged rule f (settled_rows s.rules pending rows) r)

ends : (k : Kinds) (rows : List Row) → Agrees (taken_next k (Some rows)) k rows
ends [] rows = (refl, refl)
ends (x ∷ xs) rows = λ e. absurd (cc)

refused_agrees : (k kinds : Kinds) (rows : List Row) → (kinds ≡ [] → ⊥) → Agrees (taken_next k None) kinds rows
refused_agrees [] kinds rows h = h
refused_agrees (x ∷ xs) kinds rows h = h

same_agrees : (m n : Option (List Row)) (kinds : Kinds) (rows : List Row) → m ≡ n → Agrees m kinds rows → Agrees n kinds rows
same_agrees m n kinds rows e a = subst (λ (x : Option (List Row)). Agrees x kinds rows) e a

-- at the end of the words
end_agrees : (s : Shape) (rows : List Row) (pending : Pending) (waiting : Waiting) (over : Bool)
    → Agrees (taken_next (settling s rows pending) (Some (settled_rows s.rules pending rows))) (faults s (at rows pending waiting over) []) (end_rows s (at rows pending waiting over) [])
unfolding faults end_rows walk_fault
end_agrees s rows pending waiting over = ends (settling s rows pending) (settled_rows s.rules pending rows)

-- an item that a word gives at once
item_agrees : {O : Type 0} (rule : O → Rule) (f : Rule) (s : Shape) (rows : List Row) (pending : Pending) (item : Item O) (r : Option (List (Item O))) (kinds : Kinds) (end : List Row)
    → Agrees (judged rule f (item_rows rule f item (settled_rows s.rules pending rows)) r) kinds end
    → Agrees (after_pending rule f s rows pending (option_map (λ items. item ∷ items) r))
    (or_else (or_else (settling s rows pending) (item_fault rule item (settled_rows s.rules pending rows))) kinds) end
item_agrees rule f s rows pending item r kinds end a =
    let now : List Row = settled_rows s.rules pending rows in
    let both = agrees_next (settling s rows pending) (taken_next (item_fault rule item now) (judged rule f (item_rows rule f item now) r)) (or_else (item_fault rule item now) kinds) end
    (agrees_next (item_fault rule item now) (judged rule f (item_rows rule f item now) r) kinds end a) in
    rw (judged_item rule f (settled_rows s.rules pending rows) item r, or_else_assoc (settling s rows pending) (item_fault rule item (settled_rows s.rules pending rows)) kinds) both

-- an item that is pending
file_pending : {O : Type 0} (t : Table O) (s : Shape) (rule : O → Rule) (f : Rule) → Fits t s rule f
    → (rows : List Row) (word : Text) (r : Option (List (Item O)))
    → after_pending rule f s rows (Some (f.id, word ∷ [])) r ≡ judged rule f rows (option_map (λ items. file word ∷ items) r)
file_pending t s rule f fits rows word r =
    rw (fits.file_by_id, fits.file_use word rows) (sym (judged_item rule f rows (file word) r))

valued_pending : {O : Type 0} (t : Table O) (s : Shape) (rule : O → Rule) (f : Rule) → Fits t s rule f
    → (rows : List Row) (o : O) (word : Text) (r : Option (List (Item O))) → t.takes_value o ≡ true
    → after_pending rule f s rows (Some ((rule o).id, word ∷ [])) r ≡ judged rule f rows (option_map (λ items. valued o word ∷ items) r)
valued_pending t s rule f fits rows o word r takes =
    rw (fits.by_id o, fits.value_use o takes word rows) (sym (judged_item rule f rows (valued o word) r))

-- after `--`
after : {O : Type 0} (t : Table O) (s : Shape) (rule : O → Rule) (f : Rule) → Fits t s rule f
    → (words : List Text) (rows : List Row) (pending : Pending) (waiting : Waiting)
    → Agrees (after_pending rule f s rows pending (items_from t after_dashes words)) (faults s (at rows pending waiting true) words) (end_rows s (at rows pending waiting true) words)
unfolding items_from taken
after t s rule f fits [] rows pending waiting = end_agrees s rows pending waiting true
after t s rule f fits (word ∷ words) rows pending waiting =
    let now : List Row = settled_rows s.rules pending rows in
    let rest = items_from t after_dashes words in
    let next : Walk = at now (Some (f.id, word ∷ [])) positional true in
    goes s (at rows pending waiting true) next word words (settling s rows pending) (after_pending rule f s rows pending (option_map (λ items. file word ∷ items) rest))
    (turn_file t s rule f fits rows pending waiting true word refl refl)
    (agrees_next (settling s rows pending) (judged rule f now (option_map (λ items. file word ∷ items) rest)) (faults s next words) (end_rows s next words)
    (same_agrees _ _ (faults s next words) (end_rows s next words) (file_pending t s rule f fits now word rest)
    (after t s rule f fits words now (Some (f.id, word ∷ [])) positional)))

end_lost : (s : Shape) (rows : List Row) (pending : Pending) (waiting : Waiting) (x : ErrorKind) (xs : Kinds) → settling s rows pending ≡ x ∷ xs
    → faults s (at rows pending waiting true) [] ≡ [] → ⊥
unfolding faults walk_fault
end_lost s rows pending waiting x xs h e = let none : settling s rows pending ≡ [] = e in absurd (cc)

-- what is wrong with a pending use is found after `--` too
lost : {O : Type 0} (t : Table O) (s : Shape) (rule : O → Rule) (f : Rule) → Fits t s rule f
    → (words : List Text) (rows : List Row) (pending : Pending) (waiting : Waiting) (x : ErrorKind) (xs : Kinds) → settling s rows pending ≡ x ∷ xs
    → faults s (at rows pending waiting true) words ≡ [] → ⊥
lost t s rule f fits [] rows pending waiting x xs h e = end_lost s rows pending waiting x xs h e
lost t s rule f fits (word ∷ words) rows pending waiting x xs h e =
    stops s (at rows pending waiting true) word words x xs ((turn_file t s rule f fits rows pending waiting true word refl refl).fault ∙ h) e

-- ---- the two places

abbrev Between : {O : Type 0} → Table O → Shape → (O → Rule) → Rule → List Text → Type 0
Between t s rule f words = (rows : List Row) (pending : Pending) (waiting : Waiting) → ((word : Text) (h : Held) → plain_word s.rules waiting word h ≡ (h, value))
    → Agrees (after_pending rule f s rows pending (items_from t between words)) (faults s (at rows pending waiting false) words) (end_rows s (at rows pending waiting false) words)

abbrev Awaits : {O : Type 0} → Table O → Shape → (O → Rule) → Rule → List Text → Type 0
Awaits {O} t s rule f words = (o : O) → t.takes_value o ≡ true → (rows : List Row)
    → Agrees (judged rule f rows (items_from t (before_value o) words)) (faults s (at rows (Some ((rule o).id, [])) (waits (rule o).id) false) words)
    (end_rows s (at rows (Some ((rule o).id, [])) (waits (rule o).id) false) words)

-- an option, with the value in its word
option_agrees : {O : Type 0} (t : Table O) (s : Shape) (rule : O → Rule) (f : Rule) → Fits t s rule f
    → (words : List Text) → Between t s rule f words → Awaits t s rule f words
    → (rows : List Row) (pending : Pending) (waiting : Waiting) (word : Text) (o : O) (v : Option Text) → t.takes_value o ≡ true
    → Means s rows pending waiting word (rule o) v
    → Agrees (after_pending rule f s rows pending (items_from_option t o v (λ p. items_from t p words))) (faults s (at rows pending waiting false) (word ∷ words)) (end_rows s (at rows pending waiting false) (word ∷ words))
option_agrees t s rule f fits words go wait rows pending waiting word o (Some text) takes means =
    let now : List Row = settled_rows s.rules pending rows in
    let next : Walk = at (used (rule o) (text ∷ []) now) None idle false in
    let m : Option (List Row) = after_pending rule f s rows pending (option_map (λ items. valued o text ∷ items) (items_from t between words)) in
    let a : Agrees m (faults s (at rows pending waiting false) (word ∷ words)) (end_rows s (at rows pending waiting false) (word ∷ words)) =
    goes s (at rows pending waiting false) next word words _ m (turn_valued t s rule f fits rows pending waiting word o text takes means)
    (item_agrees rule f s rows pending (valued o text) (items_from t between words) (faults s next words) (end_rows s next words)
    (go (used (rule o) (text ∷ []) now) None idle (λ w h. refl))) in
    rw takes a
option_agrees t s rule f fits words go wait rows pending waiting word o None takes means =
    let now : List Row = settled_rows s.rules pending rows in
    let next : Walk = at now (Some ((rule o).id, [])) (waits (rule o).id) false in
    let m : Option (List Row) = after_pending rule f s rows pending (items_from t (before_value o) words) in
    let a : Agrees m (faults s (at rows pending waiting false) (word ∷ words)) (end_rows s (at rows pending waiting false) (word ∷ words)) =
    goes s (at rows pending waiting false) next word words _ m (turn_waits t s rule f fits rows pending waiting word o means)
    (agrees_next (settling s rows pending) (judged rule f now (items_from t (before_value o) words)) (faults s next words) (end_rows s next words) (wait o takes now)) in
    rw takes a

flag_agrees : {O : Type 0} (t : Table O) (s : Shape) (rule : O → Rule) (f : Rule) → Fits t s rule f
    → (words : List Text) → Between t s rule f words
    → (rows : List Row) (pending : Pending) (waiting : Waiting) (word name : Text) (o : O) (v : Option Text) → t.takes_value o ≡ false
    → bytes_eq word two_hyphens ≡ false → long_of word ≡ Some (name, v) → t.long_name name ≡ Some o
    → Agrees (after_pending rule f s rows pending (items_from_option t o v (λ p. items_from t p words))) (faults s (at rows pending waiting false) (word ∷ words)) (end_rows s (at rows pending waiting false) (word ∷ words))
flag_agrees t s rule f fits words go rows pending waiting word name o (Some text) takes is_word is_long known =
    let a = refused_agrees (settling s rows pending) (faults s (at rows pending waiting false) (word ∷ words)) (end_rows s (at rows pending waiting false) (word ∷ words))
    (word_stops s rows pending waiting word words kind.TooManyValues [] (flag_with_value t s rule f fits rows pending waiting word name text o takes is_word is_long known)) in
    rw takes a
flag_agrees t s rule f fits words go rows pending waiting word name o None takes is_word is_long known =
    let now : List Row = settled_rows s.rules pending rows in
    let next : Walk = at (used (rule o) [] now) None idle false in
    let m : Option (List Row) = after_pending rule f s rows pending (option_map (λ items. flag o ∷ items) (items_from t between words)) in
    let a : Agrees m (faults s (at rows pending waiting false) (word ∷ words)) (end_rows s (at rows pending waiting false) (word ∷ words)) =
    goes s (at rows pending waiting false) next word words _ m (turn_flag t s rule f fits rows pending waiting word name o takes is_word is_long known)
    (item_agrees rule f s rows pending (flag o) (items_from t between words) (faults s next words) (end_rows s next words)
    (go (used (rule o) [] now) None idle (λ w h. refl))) in
    rw takes a

-- `--name`, by what the name means
long_agrees : {O : Type 0} (t : Table O) (s : Shape) (rule : O → Rule) (f : Rule) → Fits t s rule f
    → (words : List Text) → Between t s rule f words → Awaits t s rule f words
    → (rows : List Row) (pending : Pending) (waiting : Waiting) (word name : Text) (v : Option Text)
    → bytes_eq word two_hyphens ≡ false → long_of word ≡ Some (name, v) → (known : Option O) → t.long_name name ≡ known
    → Agrees (after_pending rule f s rows pending (items_if_known t known v (λ p. items_from t p words))) (faults s (at rows pending waiting false) (word ∷ words)) (end_rows s (at rows pending waiting false) (word ∷ words))
long_agrees t s rule f fits words go wait rows pending waiting word name v is_word is_long None known =
    refused_agrees (settling s rows pending) (faults s (at rows pending waiting false) (word ∷ words)) (end_rows s (at rows pending waiting false) (word ∷ words))
    (word_stops s rows pending waiting word words kind.UnknownArgument [] (long_unknown t s rule f fits rows pending waiting word name v is_word is_long known))
long_agrees t s rule f fits words go wait rows pending waiting word name v is_word is_long (Some o) known = elim (cases_Bool (t.takes_value o)) [
  | inl takes ↦ option_agrees t s rule f fits words go wait rows pending waiting word o v takes
      (long_means t s rule f fits rows pending waiting word name v o takes is_word is_long known)
  | inr takes ↦ flag_agrees t s rule f fits words go rows pending waiting word name o v takes is_word is_long known
]

short_agrees : {O : Type 0} (t : Table O) (s : Shape) (rule : O → Rule) (f : Rule) → Fits t s rule f
    → (words : List Text) → Between t s rule f words → Awaits t s rule f words
    → (rows : List Row) (pending : Pending) (waiting : Waiting) (word : Text) (b : ℕ) (rest : Text)
    → bytes_eq word two_hyphens ≡ false → long_of word ≡ None → short_of word ≡ Some (b ∷ rest) → (x : ℕ) → IsFirst b rest x
    → (known : Option O) → t.short_name b ≡ known
    → Agrees (after_pending rule f s rows pending (items_if_known t known (value_behind rest) (λ p. items_from t p words))) (faults s (at rows pending waiting false) (word ∷ words)) (end_rows s (at rows pending waiting false) (word ∷ words))
short_agrees t s rule f fits words go wait rows pending waiting word b rest is_word is_long is_short x first None known =
    refused_agrees (settling s rows pending) (faults s (at rows pending waiting false) (word ∷ words)) (end_rows s (at rows pending waiting false) (word ∷ words))
    (word_stops s rows pending waiting word words kind.UnknownArgument [] (short_unknown t s rule f fits rows pending waiting word b rest is_word is_long is_short x first known))
short_agrees t s rule f fits words go wait rows pending waiting word b rest is_word is_long is_short x first (Some o) known =
    option_agrees t s rule f fits words go wait rows pending waiting word o (value_behind rest) (fits.short_takes b o known)
    (short_means t s rule f fits rows pending waiting word b rest o is_word is_long is_short x first known)

-- the first character behind the hyphen
word_first : (word : Text) (b : ℕ) (rest : Text) → IsUtf8 word → word ≡ 45 ∷ (b ∷ rest) → (x : ℕ) × IsFirst b rest x
word_first word b rest u e = first_char b rest (after_hyphen b rest (subst (λ (w : Text). IsUtf8 w) e u))

-- one more word between two items
between_word : {O : Type 0} (t : Table O) (s : Shape) (rule : O → Rule) (f : Rule) → Fits t s rule f
    → (words : List Text) → Between t s rule f words → Awaits t s rule f words
    → (rows : List Row) (pending : Pending) (waiting : Waiting) → ((word : Text) (h : Held) → plain_word s.rules waiting word h ≡ (h, value))
    → (word : Text) → IsUtf8 word → (look : Look) → IsLook word look
    → Agrees (after_pending rule f s rows pending (items_from_look t look word (λ p. items_from t p words))) (faults s (at rows pending waiting false) (word ∷ words)) (end_rows s (at rows pending waiting false) (word ∷ words))
between_word t s rule f fits words go wait rows pending waiting quiet word u dashes is =
    goes s (at rows pending waiting false) (at rows pending waiting true) word words [] (after_pending rule f s rows pending (items_from t after_dashes words))
    (turn_dashes s rows pending waiting word is) (after t s rule f fits words rows pending waiting)
between_word t s rule f fits words go wait rows pending waiting quiet word u (long name v) is =
    long_agrees t s rule f fits words go wait rows pending waiting word name v is.0 is.1 (t.long_name name) refl
between_word t s rule f fits words go wait rows pending waiting quiet word u (short b rest) is =
    let first = word_first word b rest u is.3 in
    short_agrees t s rule f fits words go wait rows pending waiting word b rest is.0 is.1 is.2 first.0 first.1 (t.short_name b) refl
between_word t s rule f fits words go wait rows pending waiting quiet word u plain is =
    let now : List Row = settled_rows s.rules pending rows in
    let rest = items_from t between words in
    let next : Walk = at now (Some (f.id, word ∷ [])) positional false in
    goes s (at rows pending waiting false) next word words (settling s rows pending) (after_pending rule f s rows pending (option_map (λ items. file word ∷ items) rest))
    (turn_file t s rule f fits rows pending waiting false word
    (rw (no_sub waiting word, is.0, is.1, is.2) (quiet word (holding rows pending))) (rw (no_sub waiting word, is.0, is.1, is.2) refl))
    (agrees_next (settling s rows pending) (judged rule f now (option_map (λ items. file word ∷ items) rest)) (faults s next words) (end_rows s next words)
    (same_agrees _ _ (faults s next words) (end_rows s next words) (file_pending t s rule f fits now word rest)
    (go now (Some (f.id, word ∷ [])) positional (λ w h. refl))))

-- a word where a value is missing
option_lost : (s : Shape) (rows : List Row) (pending : Pending) (a : Rule) (v : Option Text) (x : ErrorKind) (xs : Kinds) → settling s rows pending ≡ x ∷ xs
    → option_fault s.rules s.args_override_self a v (holding rows pending) ≡ x ∷ xs
option_lost s rows pending a None x xs h = h
option_lost s rows pending a (Some text) x xs h = rw h refl

long_lost : {O : Type 0} (t : Table O) (s : Shape) (rule : O → Rule) (f : Rule) → Fits t s rule f
    → (words : List Text) (rows : List Row) (pending : Pending) (waiting : Waiting) (word name : Text) (v : Option Text) (x : ErrorKind) (xs : Kinds) → settling s rows pending ≡ x ∷ xs
    → bytes_eq word two_hyphens ≡ false → long_of word ≡ Some (name, v) → (known : Option O) → t.long_name name ≡ known
    → faults s (at rows pending waiting false) (word ∷ words) ≡ [] → ⊥
long_lost t s rule f fits words rows pending waiting word name v x xs h is_word is_long None known =
    word_stops s rows pending waiting word words kind.UnknownArgument [] (long_unknown t s rule f fits rows pending waiting word name v is_word is_long known)
long_lost t s rule f fits words rows pending waiting word name v x xs h is_word is_long (Some o) known = elim (cases_Bool (t.takes_value o)) [
  | inl takes ↦ word_stops s rows pending waiting word words x xs
      ((long_means t s rule f fits rows pending waiting word name v o takes is_word is_long known).fault ∙ option_lost s rows pending (rule o) v x xs h)
  | inr takes ↦ flag_lost v takes is_long
]
  where
    flag_lost : (v : Option Text) → t.takes_value o ≡ false → long_of word ≡ Some (name, v) → faults s (at rows pending waiting false) (word ∷ words) ≡ [] → ⊥
    flag_lost None takes is_long =
        stops s (at rows pending waiting false) word words x xs ((turn_flag t s rule f fits rows pending waiting word name o takes is_word is_long known).fault ∙ rw h refl)
    flag_lost (Some text) takes is_long =
        word_stops s rows pending waiting word words kind.TooManyValues [] (flag_with_value t s rule f fits rows pending waiting word name text o takes is_word is_long known)

short_lost : {O : Type 0} (t : Table O) (s : Shape) (rule : O → Rule) (f : Rule) → Fits t s rule f
    → (words : List Text) (rows : List Row) (pending : Pending) (waiting : Waiting) (word : Text) (b : ℕ) (rest : Text) (x : ErrorKind) (xs : Kinds) → settling s rows pending ≡ x ∷ xs
    → bytes_eq word two_hyphens ≡ false → long_of word ≡ None → short_of word ≡ Some (b ∷ rest) → (c : ℕ) → IsFirst b rest c
    → (known : Option O) → t.short_name b ≡ known
    → faults s (at rows pending waiting false) (word ∷ words) ≡ [] → ⊥
short_lost t s rule f fits words rows pending waiting word b rest x xs h is_word is_long is_short c first None known =
    word_stops s rows pending waiting word words kind.UnknownArgument [] (short_unknown t s rule f fits rows pending waiting word b rest is_word is_long is_short c first known)
short_lost t s rule f fits words rows pending waiting word b rest x xs h is_word is_long is_short c first (Some o) known =
    word_stops s rows pending waiting word words x xs
    ((short_means t s rule f fits rows pending waiting word b rest o is_word is_long is_short c first known).fault ∙ option_lost s rows pending (rule o) (value_behind rest) x xs h)

-- the value of an option
turn_value : {O : Type 0} (t : Table O) (s : Shape) (rule : O → Rule) (f : Rule) → Fits t s rule f
    → (rows : List Row) (o : O) (word : Text) → t.takes_value o ≡ true → IsLook word plain
    → Turn s (at rows (Some ((rule o).id, [])) (waits (rule o).id) false) word (at rows (Some ((rule o).id, word ∷ [])) idle false) []
turn_value t s rule f fits rows o word takes is =
    turn_from s rows (Some ((rule o).id, [])) (waits (rule o).id) false word (holding rows (Some ((rule o).id, word ∷ []))) (goes_on idle) []
    (rw (is.0, is.1, is.2, fits.by_id o, fits.same_id o, fits.one o takes) refl) (rw (is.0, is.1, is.2) refl)

-- one more word where a value is awaited
value_word : {O : Type 0} (t : Table O) (s : Shape) (rule : O → Rule) (f : Rule) → Fits t s rule f
    → (words : List Text) → Between t s rule f words
    → (o : O) → t.takes_value o ≡ true → (rows : List Row) → (word : Text) → IsUtf8 word → (look : Look) → IsLook word look
    → Agrees (judged rule f rows (items_from_value o look word (λ p. items_from t p words))) (faults s (at rows (Some ((rule o).id, [])) (waits (rule o).id) false) (word ∷ words))
    (end_rows s (at rows (Some ((rule o).id, [])) (waits (rule o).id) false) (word ∷ words))
value_word t s rule f fits words go o takes rows word u plain is =
    let next : Walk = at rows (Some ((rule o).id, word ∷ [])) idle false in
    goes s (at rows (Some ((rule o).id, [])) (waits (rule o).id) false) next word words [] (judged rule f rows (option_map (λ items. valued o word ∷ items) (items_from t between words)))
    (turn_value t s rule f fits rows o word takes is)
    (same_agrees _ _ (faults s next words) (end_rows s next words) (valued_pending t s rule f fits rows o word (items_from t between words) takes)
    (go rows (Some ((rule o).id, word ∷ [])) idle (λ w h. refl)))
value_word t s rule f fits words go o takes rows word u dashes is =
    let settled : settling s rows (Some ((rule o).id, [])) ≡ kind.InvalidValue ∷ [] = rw (fits.by_id o) (fits.no_value o takes rows) in
    goes s (at rows (Some ((rule o).id, [])) (waits (rule o).id) false) (at rows (Some ((rule o).id, [])) (waits (rule o).id) true) word words [] None
    (turn_dashes s rows (Some ((rule o).id, [])) (waits (rule o).id) word is)
    (lost t s rule f fits words rows (Some ((rule o).id, [])) (waits (rule o).id) kind.InvalidValue [] settled)
value_word t s rule f fits words go o takes rows word u (long name v) is =
    let settled : settling s rows (Some ((rule o).id, [])) ≡ kind.InvalidValue ∷ [] = rw (fits.by_id o) (fits.no_value o takes rows) in
    long_lost t s rule f fits words rows (Some ((rule o).id, [])) (waits (rule o).id) word name v kind.InvalidValue [] settled is.0 is.1 (t.long_name name) refl
value_word t s rule f fits words go o takes rows word u (short b rest) is =
    let settled : settling s rows (Some ((rule o).id, [])) ≡ kind.InvalidValue ∷ [] = rw (fits.by_id o) (fits.no_value o takes rows) in
    let first = word_first word b rest u is.3 in
    short_lost t s rule f fits words rows (Some ((rule o).id, [])) (waits (rule o).id) word b rest kind.InvalidValue [] settled is.0 is.1 is.2 first.0 first.1 (t.short_name b) refl

value_end : {O : Type 0} (t : Table O) (s : Shape) (rule : O → Rule) (f : Rule) → Fits t s rule f → Awaits t s rule f []
unfolding items_from faults walk_fault
value_end t s rule f fits o takes rows e =
    let settled : settling s rows (Some ((rule o).id, [])) ≡ kind.InvalidValue ∷ [] = rw (fits.by_id o) (fits.no_value o takes rows) in
    let none : settling s rows (Some ((rule o).id, [])) ≡ [] = e in absurd (cc)

-- each word is UTF-8
abbrev pub AllTexts : List Text → Type 0
AllTexts [] = Unit {0}
AllTexts (word ∷ words) = IsUtf8 word × AllTexts words

both : {O : Type 0} (t : Table O) (s : Shape) (rule : O → Rule) (f : Rule) → Fits t s rule f
    → (words : List Text) → AllTexts words → Between t s rule f words × Awaits t s rule f words
unfolding items_from taken
both t s rule f fits [] all = (λ rows pending waiting quiet. end_agrees s rows pending waiting false, value_end t s rule f fits)
both t s rule f fits (word ∷ words) all =
    let rest = both t s rule f fits words all.1 in (
      λ rows pending waiting quiet. between_word t s rule f fits words rest.0 rest.1 rows pending waiting quiet word all.0 (look_of word) (looks word),
      λ o takes rows. value_word t s rule f fits words rest.0 o takes rows word all.0 (look_of word) (looks word),
    )

-- the reading refuses exactly where the parser finds a fault; else the parser's rows are those of the items
pub words_agree : {O : Type 0} (t : Table O) (s : Shape) (rule : O → Rule) (f : Rule) → Fits t s rule f
    → (words : List Text) → AllTexts words
    → Agrees (judged rule f [] (items_from t between words)) (faults s (at [] None idle false) words) (end_rows s (at [] None idle false) words)
words_agree t s rule f fits words all = (both t s rule f fits words all).0 [] None idle (λ w h. refl)
