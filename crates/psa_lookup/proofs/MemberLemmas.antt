-- What members of groups stand for, as it is kept and as it is meant.
use Rattle.std.proofs.Common.{◌≡◌, ◌<◌, ◌+◌, ◌-◌, ◌&&◌, ◌||◌, ◌==◌, ℕ, Bool, true, false, cond, List, [], ◌∷◌, ◌++◌, map, flat_map, length, drop, get_or, slice_get, Option, Some, None, is_some, not, if◌then◌else◌, refl, sym, ap, ◌∙◌, arith, append_assoc, eqb-true, eq-eqb}
use Rattle.std.proofs.lemmas.Bool.{and_parts}
use Rattle.std.proofs.lemmas.List.{drop_more}
use Rattle.std.proofs.lemmas.Option.{same_Some, none-some}
use Rattle.std.specs.List.{list_all, list_any, position_from}
use Rattle.std.specs.Str.{bytes_eq}
use Rattle.std.specs.Option.{option_map, option_or}
use Rattle.psa_model.specs.PathNames.{Text, is_path}
use Rattle.psa_model.specs.declared.draft.DraftReference.{DraftReference}
use Rattle.psa_names.specs.Found.{defined_by_groups, meaning_of_sense}
use Rattle.psa_names.specs.GroupRules.{same_meaning, meanings_of_members, has_repeat, can_be_member}
use Rattle.psa_names.specs.Meanings.{Meaning, definition, of_group, definition_named, is_defined_by_group, meaning_of_event, members_of}
use Rattle.psa_names.specs.NameSpaces.{events}
use Rattle.psa_names.specs.Outlines.{Entry, Entries}
use Rattle.psa_names.specs.declared.found.Sense.{Sense}
use Rattle.psa_names.specs.declared.found.Sense.TheVariants.{Definition, OfGroup}
use Rattle.psa_spaces.proofs.ListLemmas.{first-at}
use Rattle.psa_lookup.specs.contracts.members.MemberKeyPartialEq.TheImpl as the_impl
use Rattle.psa_lookup.specs.declared.members.MemberKey.{MemberKey}
use Rattle.psa_lookup.specs.Members.{sense_of, sense_of_key, same_sense, senses_of_members, can_belong, may_join}
use Rattle.psa_lookup.proofs.BoolLemmas.{both, eq-turned, text-turned, text-same, same-text, any-append, any-map, any-same, map-one}
use Rattle.psa_lookup.proofs.SenseLemmas.{grouped-any}

-- ---- events that groups define

-- an event that groups define has a number
abbrev pub IsKnown : Entries → Option Meaning → Type 0
IsKnown entries None = Unit {0}
IsKnown entries (Some (definition place)) = Unit {0}
IsKnown entries (Some (of_group name)) =
    (number : ℕ) × (position_from (λ one. bytes_eq one name) 0 (defined_by_groups entries) ≡ Some number)

-- a number that is there
some-number : (o : Option ℕ) → is_some o ≡ true → (number : ℕ) × (o ≡ Some number)
some-number None h = absurd (cc)
some-number (Some number) h = (number, refl)

-- a name that means an event of a group only where a group defines it
known-if : (entries : Entries) (name : Text) (b : Bool) → (b ≡ true → is_defined_by_group entries name ≡ true) → IsKnown entries (if b then Some (of_group name) else None)
known-if entries name false is = tt
known-if entries name true is = some-number (position_from (λ one. bytes_eq one name) 0 (defined_by_groups entries)) (sym (grouped-any entries name) ∙ is refl)

-- so too behind the search among definitions
known-or : (entries : Entries) (name : Text) (o : Option ℕ) (b : Bool) → (b ≡ true → is_defined_by_group entries name ≡ true) → IsKnown entries (option_or (option_map definition o) (if b then Some (of_group name) else None))
known-or entries name (Some place) b is = tt
known-or entries name None b is = known-if entries name b is

-- what a name means is known
pub event-known : (entries : Entries) (container : List Text) (name : Text) → IsKnown entries (meaning_of_event entries container name)
event-known entries container name =
    known-or entries name (definition_named entries events container name) (not (is_path name) && is_defined_by_group entries name)
    (λ h. (and_parts (not (is_path name)) (is_defined_by_group entries name) h).1)

-- it is kept under its number
group-sense : (entries : Entries) (name : Text) (s : Sense) (its : IsKnown entries (Some (of_group name))) → sense_of entries (Some (of_group name)) ≡ Some s → OfGroup its.0 ≡ s
group-sense entries name s its is = same_Some (OfGroup its.0) s (sym (ap (option_map OfGroup) its.1) ∙ is)

-- what is known is kept
pub known-sense : (entries : Entries) (m : Meaning) → IsKnown entries (Some m) → (s : Sense) × (sense_of entries (Some m) ≡ Some s)
known-sense entries (definition place) its = (Definition place, refl)
known-sense entries (of_group name) its = (OfGroup its.0, ap (option_map OfGroup) its.1)

-- the name of an event stands at its number
name-at : (entries : Entries) (name : Text) (number : ℕ) → position_from (λ one. bytes_eq one name) 0 (defined_by_groups entries) ≡ Some number → slice_get (defined_by_groups entries) number ≡ Some name
name-at entries name number is =
    let f = first-at (λ one. bytes_eq one name) 0 (defined_by_groups entries) number is in
    let same : number - 0 ≡ number = omega arith in
    ap (slice_get (defined_by_groups entries)) (sym same) ∙ f.1.1 ∙ ap (λ (t : Text). Some t) (text-same f.1.0 name f.1.2)

-- ---- one member

-- what is kept means what it was kept for
pub sense-means : (entries : Entries) (m : Option Meaning) (s : Sense) → IsKnown entries m → sense_of entries m ≡ Some s → meaning_of_sense entries s ≡ m
sense-means entries None s its is = absurd (none-some s is)
sense-means entries (Some (definition place)) s its is = ap (meaning_of_sense entries) (sym (same_Some (Definition place) s is))
sense-means entries (Some (of_group name)) s its is =
    ap (meaning_of_sense entries) (sym (group-sense entries name s its is))
    ∙ ap (option_map of_group) (name-at entries name its.0 its.1)

-- two events of groups have one number exactly where they have one name
number-same : (entries : Entries) (one other : Text) (n m : ℕ) → position_from (λ its. bytes_eq its one) 0 (defined_by_groups entries) ≡ Some n → position_from (λ its. bytes_eq its other) 0 (defined_by_groups entries) ≡ Some m → (n == m) ≡ bytes_eq one other
number-same entries one other n m e f =
    both (n == m) (bytes_eq one other)
    (λ h. same-text one other (same_Some one other (sym (name-at entries one n e) ∙ ap (slice_get (defined_by_groups entries)) (eqb-true n m h) ∙ name-at entries other m f)))
    (λ h. eq-eqb n m (same_Some n m (sym e ∙ ap (λ (t : Text). position_from (λ its. bytes_eq its t) 0 (defined_by_groups entries)) (text-same one other h) ∙ f)))

-- two members stand for one event exactly where they mean one
pub same-known : (entries : Entries) (one other : Option Meaning) (s t : Sense) → IsKnown entries one → IsKnown entries other → sense_of entries one ≡ Some s → sense_of entries other ≡ Some t → same_sense s t ≡ same_meaning one other
same-known entries None other s t k l e f = absurd (none-some s e)
same-known entries (Some one) None s t k l e f = absurd (none-some t f)
same-known entries (Some (definition p)) (Some (definition q)) s t k l e f =
    ap (λ (a : Sense). same_sense a t) (sym (same_Some (Definition p) s e)) ∙ ap (λ (b : Sense). same_sense (Definition p) b) (sym (same_Some (Definition q) t f))
same-known entries (Some (definition p)) (Some (of_group b)) s t k l e f =
    ap (λ (a : Sense). same_sense a t) (sym (same_Some (Definition p) s e)) ∙ ap (λ (b : Sense). same_sense (Definition p) b) (sym (group-sense entries b t l f))
same-known entries (Some (of_group a)) (Some (definition q)) s t k l e f =
    ap (λ (a : Sense). same_sense a t) (sym (group-sense entries a s k e)) ∙ ap (λ (b : Sense). same_sense (OfGroup k.0) b) (sym (same_Some (Definition q) t f))
same-known entries (Some (of_group a)) (Some (of_group b)) s t k l e f =
    ap (λ (a : Sense). same_sense a t) (sym (group-sense entries a s k e)) ∙ ap (λ (b : Sense). same_sense (OfGroup k.0) b) (sym (group-sense entries b t l f))
    ∙ number-same entries a b k.0 l.0 k.1 l.1

-- a member may belong to a group exactly where what it means may
pub belongs-known : (entries : Entries) (m : Option Meaning) (s : Sense) → IsKnown entries m → sense_of entries m ≡ Some s → can_belong entries s ≡ can_be_member entries m
belongs-known entries None s its is = absurd (none-some s is)
belongs-known entries (Some (definition place)) s its is = ap (can_belong entries) (sym (same_Some (Definition place) s is))
belongs-known entries (Some (of_group name)) s its is = ap (can_belong entries) (sym (group-sense entries name s its is))

-- ---- some members

abbrev pub AreKnown : Entries → List (Option Meaning) → Type 0
AreKnown entries [] = Unit {0}
AreKnown entries (m ∷ ms) = IsKnown entries m × AreKnown entries ms

-- lists of known members joined
pub known-append : (entries : Entries) (ms ns : List (Option Meaning)) → AreKnown entries ms → AreKnown entries ns → AreKnown entries (ms ++ ns)
known-append entries [] ns k l = l
known-append entries (m ∷ ms) ns k l = (k.0, known-append entries ms ns k.1 l)

-- what some members mean is known
events-known : (entries : Entries) (container : List Text) (members : List DraftReference) → AreKnown entries (map (λ member. meaning_of_event entries container member.name) members)
events-known entries container [] = tt
events-known entries container (one ∷ others) = (event-known entries container one.name, events-known entries container others)

-- the members of a group are known
pub members-known : (entries : Entries) (group : Entry) → AreKnown entries (meanings_of_members entries group)
members-known entries group = events-known entries group.container (members_of group.body)

-- so are those of all
pub all-known : (entries : Entries) (groups : Entries) → AreKnown entries (flat_map (meanings_of_members entries) groups)
all-known entries [] = tt
all-known entries (one ∷ others) =
    known-append entries (meanings_of_members entries one) (flat_map (meanings_of_members entries) others) (members-known entries one) (all-known entries others)

-- lists that are equal have equal heads and rests
cons-same : {A : Type 0} (x y : A) (xs ys : List A) → x ∷ xs ≡ y ∷ ys → (x ≡ y) × (xs ≡ ys)
cons-same x y xs ys h = (cc, cc)

-- what is kept of some members means what they were kept for
pub senses-mean : (entries : Entries) (ms : List (Option Meaning)) (senses : List Sense) → AreKnown entries ms → map Some senses ≡ map (sense_of entries) ms → map (meaning_of_sense entries) senses ≡ ms
senses-mean entries [] [] k is = refl
senses-mean entries [] (s ∷ senses) k is = absurd (cc)
senses-mean entries (m ∷ ms) [] k is = absurd (cc)
senses-mean entries (m ∷ ms) (s ∷ senses) k is =
    let p = cons-same (Some s) (sense_of entries m) (map Some senses) (map (sense_of entries) ms) is in
    ap (λ (o : Option Meaning). o ∷ map (meaning_of_sense entries) senses) (sense-means entries m s k.0 (sym p.0))
    ∙ ap (λ (l : List (Option Meaning)). m ∷ l) (senses-mean entries ms senses k.1 p.1)

-- a member is among those kept exactly where what it means is among what they mean
any-standing : (entries : Entries) (m : Option Meaning) (s : Sense) (ms : List (Option Meaning)) (senses : List Sense) → IsKnown entries m → sense_of entries m ≡ Some s → AreKnown entries ms → map Some senses ≡ map (sense_of entries) ms → list_any (same_sense s) senses ≡ list_any (same_meaning m) ms
any-standing entries m s [] [] k at l is = refl
any-standing entries m s [] (t ∷ senses) k at l is = absurd (cc)
any-standing entries m s (n ∷ ms) [] k at l is = absurd (cc)
any-standing entries m s (n ∷ ms) (t ∷ senses) k at l is =
    let p = cons-same (Some t) (sense_of entries n) (map Some senses) (map (sense_of entries) ms) is in
    ap (λ b. b || list_any (same_sense s) senses) (same-known entries m n s t k l.0 at (sym p.0))
    ∙ ap (λ b. same_meaning m n || b) (any-standing entries m s ms senses k at l.1 p.1)

-- whether two mean one event does not hang on their order
meaning-turned : (one other : Option Meaning) → same_meaning one other ≡ same_meaning other one
meaning-turned None None = refl
meaning-turned None (Some (definition q)) = refl
meaning-turned None (Some (of_group b)) = refl
meaning-turned (Some (definition p)) None = refl
meaning-turned (Some (of_group a)) None = refl
meaning-turned (Some (definition p)) (Some (definition q)) = eq-turned p q
meaning-turned (Some (definition p)) (Some (of_group b)) = refl
meaning-turned (Some (of_group a)) (Some (definition q)) = refl
meaning-turned (Some (of_group a)) (Some (of_group b)) = text-turned a b

-- ---- members that join

-- nothing beside a test
or-none : (b : Bool) → (b || false) ≡ b
or-none true = refl
or-none false = refl

-- four tests in another order
or-four : (a b c d : Bool) → ((a || b) || (c || d)) ≡ ((a || c) || (b || d))
or-four true b c d = refl
or-four false true true d = refl
or-four false true false d = refl
or-four false false c d = refl

-- one of two tests passes somewhere
pub any-or : {A : Type 0} (p q : A → Bool) (xs : List A) → list_any (λ x. p x || q x) xs ≡ (list_any p xs || list_any q xs)
any-or p q [] = refl
any-or {A} p q (x ∷ xs) = ap (λ b. (p x || q x) || b) (any-or p q xs) ∙ or-four (p x) (q x) (list_any p xs) (list_any q xs)

-- one of some members stands among those before or among one more
common-one : (earlier : List (Option Meaning)) (m : Option Meaning) (ms : List (Option Meaning)) → list_any (λ one. list_any (same_meaning one) (earlier ++ m ∷ [])) ms ≡ (list_any (λ one. list_any (same_meaning one) earlier) ms || list_any (same_meaning m) ms)
common-one earlier m ms =
    any-same (λ one. list_any (same_meaning one) (earlier ++ m ∷ [])) (λ one. list_any (same_meaning one) earlier || same_meaning m one) ms
    (λ one. any-append (same_meaning one) earlier (m ∷ []) ∙ ap (λ b. list_any (same_meaning one) earlier || b) (or-none (same_meaning one m) ∙ meaning-turned one m))
    ∙ any-or (λ one. list_any (same_meaning one) earlier) (same_meaning m) ms

-- the tests of one member and of those behind it, together
join-tests : (a b c d e g : Bool) → ((a && not b) && (c && (not d && not (e || g)))) ≡ ((a && c) && (not (g || d) && not (b || e)))
join-tests false b c d e g = refl
join-tests true true false d e g = refl
join-tests true true true d e true = refl
join-tests true true true true e false = refl
join-tests true true true false e false = refl
join-tests true false false d e g = refl
join-tests true false true true e true = refl
join-tests true false true true e false = refl
join-tests true false true false true true = refl
join-tests true false true false true false = refl
join-tests true false true false false true = refl
join-tests true false true false false false = refl

-- members join those that stand exactly where each can belong to a group, none repeats another, and none is one before
pub join-known : (entries : Entries) (ms earlier : List (Option Meaning)) (standing : List Sense) → AreKnown entries ms → AreKnown entries earlier → map Some standing ≡ map (sense_of entries) earlier
    → may_join entries standing (map (sense_of entries) ms) ≡ (list_all (can_be_member entries) ms && (not (has_repeat ms) && not (list_any (λ one. list_any (same_meaning one) earlier) ms)))
join-known entries [] earlier standing k l is = refl
join-known entries (None ∷ ms) earlier standing k l is = refl
join-known entries (Some m ∷ ms) earlier standing k l is =
    let its = known-sense entries m k.0 in
    let s = its.0 in
    let more : map Some (standing ++ s ∷ []) ≡ map (sense_of entries) (earlier ++ Some m ∷ []) =
    map-one Some standing s ∙ ap (λ (o : List (Option Sense)). o ++ Some s ∷ []) is ∙ ap (λ (o : Option Sense). map (sense_of entries) earlier ++ o ∷ []) (sym its.1) ∙ sym (map-one (sense_of entries) earlier (Some m)) in
    let rest = join-known entries ms (earlier ++ Some m ∷ []) (standing ++ s ∷ []) k.1 (known-append entries earlier (Some m ∷ []) l (k.0, tt)) more in
    ap (λ (o : Option Sense). may_join entries standing (o ∷ map (sense_of entries) ms)) its.1
    ∙ ap (λ b. (b && not (list_any (same_sense s) standing)) && may_join entries (standing ++ s ∷ []) (map (sense_of entries) ms)) (belongs-known entries (Some m) s k.0 its.1)
    ∙ ap (λ b. (can_be_member entries (Some m) && not b) && may_join entries (standing ++ s ∷ []) (map (sense_of entries) ms)) (any-standing entries (Some m) s earlier standing k.0 its.1 l is)
    ∙ ap (λ b. (can_be_member entries (Some m) && not (list_any (same_meaning (Some m)) earlier)) && b)
    (rest ∙ ap (λ b. list_all (can_be_member entries) ms && (not (has_repeat ms) && not b)) (common-one earlier (Some m) ms))
    ∙ join-tests (can_be_member entries (Some m)) (list_any (same_meaning (Some m)) earlier) (list_all (can_be_member entries) ms) (has_repeat ms) (list_any (λ one. list_any (same_meaning one) earlier) ms) (list_any (same_meaning (Some m)) ms)

-- ---- members that join one after the other

-- what is there is the same
some-equal : {A : Type 0} (x y : A) → Some x ≡ Some y → x ≡ y
some-equal x y h = cc

-- lists that are the same as options are the same
kept-equal : (xs ys : List Sense) → map Some xs ≡ map Some ys → xs ≡ ys
kept-equal [] [] h = refl
kept-equal [] (y ∷ ys) h = absurd (cc)
kept-equal (x ∷ xs) [] h = absurd (cc)
kept-equal (x ∷ xs) (y ∷ ys) h =
    let p = cons-same (Some x) (Some y) (map Some xs) (map Some ys) h in
    ap (λ (s : Sense). s ∷ xs) (some-equal x y p.0) ∙ ap (λ (l : List Sense). y ∷ l) (kept-equal xs ys p.1)

-- a test and one that always passes
and-own : (b : Bool) → (b && true) ≡ b
and-own true = refl
and-own false = refl

-- the members before and one more
pub joined-more : (entries : Entries) (container : List Text) (first old new : List Sense) (before : List DraftReference) (one : DraftReference) → map Some old ≡ map Some first ++ senses_of_members entries container before → map Some new ≡ map Some old ++ senses_of_members entries container (one ∷ []) → map Some new ≡ map Some first ++ senses_of_members entries container (before ++ one ∷ [])
joined-more entries container first old new before one was added =
    added ∙ ap (λ (l : List (Option Sense)). l ++ senses_of_members entries container (one ∷ [])) was
    ∙ append_assoc (map Some first) (senses_of_members entries container before) (senses_of_members entries container (one ∷ []))
    ∙ ap (λ (l : List (Option Sense)). map Some first ++ l) (sym (map-one (λ (member : DraftReference). sense_of entries (meaning_of_event entries container member.name)) before one))

-- one joins, and then those behind it
pub join-step : (entries : Entries) (old new : List Sense) (o : Option Sense) (os : List (Option Sense)) → true ≡ may_join entries old (o ∷ []) → map Some new ≡ map Some old ++ o ∷ [] → may_join entries old (o ∷ os) ≡ may_join entries new os
join-step entries old new None os right added = absurd (cc)
join-step entries old new (Some s) os right added =
    let first : (can_belong entries s && not (list_any (same_sense s) old)) ≡ true = sym (and-own (can_belong entries s && not (list_any (same_sense s) old))) ∙ sym right in
    ap (λ b. b && may_join entries (old ++ s ∷ []) os) first
    ∙ ap (λ (l : List Sense). may_join entries l os) (sym (kept-equal new (old ++ s ∷ []) (added ∙ sym (map-one Some old s))))

-- the rest of a list begins with what stands there
pub rest-at : {A : Type 0} (xs : List A) (i : ℕ) (x : A) → i < length xs → x ≡ get_or xs i x → drop i xs ≡ x ∷ drop (i + 1) xs
rest-at xs i x low is = drop_more xs i x low ∙ ap (λ y. y ∷ drop (i + 1) xs) (sym is)

-- ---- keys

-- what the derived comparison of keys computes
abbrev pub key_eq : MemberKey → MemberKey → Bool
key_eq a b = (the_impl.eq-value).it a b

-- the same, part by part
key-at : (s t : Bool) (n m : ℕ) → key_eq (record { of_group = s; number = n }) (record { of_group = t; number = m }) ≡ same_sense (sense_of_key (record { of_group = s; number = n })) (sense_of_key (record { of_group = t; number = m }))
key-at true true n m = refl
key-at true false n m = refl
key-at false true n m = refl
key-at false false n m = refl

-- one key is that of another exactly where both stand for one event
pub key-senses : (a b : MemberKey) → key_eq a b ≡ same_sense (sense_of_key a) (sense_of_key b)
key-senses a b = key-at a.of_group b.of_group a.number b.number

-- a key is among some exactly where what it stands for is among what they stand for
pub keys-any : (key : MemberKey) (keys : List MemberKey) (s : Sense) → sense_of_key key ≡ s → list_any (key_eq key) keys ≡ list_any (same_sense s) (map sense_of_key keys)
keys-any key keys s is =
    any-same (key_eq key) (λ (k : MemberKey). same_sense s (sense_of_key k)) keys (λ k. key-senses key k ∙ ap (λ (t : Sense). same_sense t (sense_of_key k)) is)
    ∙ sym (any-map (same_sense s) sense_of_key keys)

-- a new key is put behind the others
pub keys-added : (key : MemberKey) (keys new : List MemberKey) (s : Sense) (is_new : Bool) → sense_of_key key ≡ s → new ≡ cond (list_any (key_eq key) keys) keys (keys ++ key ∷ []) → is_new ≡ not (list_any (key_eq key) keys) → is_new ≡ true → map sense_of_key new ≡ map sense_of_key keys ++ s ∷ []
keys-added key keys new s is_new is made was holds =
    by (list_any (key_eq key) keys) made (sym holds ∙ was)
  where
    by : (b : Bool) → new ≡ cond b keys (keys ++ key ∷ []) → true ≡ not b → map sense_of_key new ≡ map sense_of_key keys ++ s ∷ []
    by true e f = absurd (cc)
    by false e f = ap (map sense_of_key) e ∙ map-one sense_of_key keys key ∙ ap (λ (t : Sense). map sense_of_key keys ++ t ∷ []) is
