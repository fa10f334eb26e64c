-- What is known of groups where no name has a fault: no basic event is defined twice.
use Rattle.std.proofs.Common.{◌≡◌, ◌+◌, ℕ, zero, suc, Bool, true, false, List, [], ◌∷◌, ◌++◌, ◌&&◌, Option, Some, None, not, map, length, take, refl, ap, sym, ◌∙◌, subst, inl, inr, arith, cond, if◌then◌else◌}
use Rattle.std.proofs.lemmas.Bool.{or_parts, or_from, or_left, or_right, and_parts, cases_Bool, not-true, false_from_ne_true, false≢true}
use Rattle.std.specs.Prelude.{nat_le, is_some}
use Rattle.std.specs.Str.{bytes_eq}
use Rattle.std.specs.List.{slice_get, enumerate_from, filter, list_any, list_all}
use Rattle.std.specs.Option.{option_map, option_or}
use Rattle.std.proofs.lemmas.Slice.Eq.{bytes_eq-Decides}
use Rattle.psa_model.specs.PathNames.{Text, is_path}
use Rattle.psa_model.specs.declared.draft.Draft.{Draft}
use Rattle.psa_model.specs.declared.draft.DraftReference.{DraftReference}
use Rattle.psa_model.specs.Drafts.{stands_before}
use Rattle.psa_model.specs.declared.limits.TheConstants.{MAX_MEMBERS}
use Rattle.psa_names.specs.Outlines.{Entry, Entries, entries_of}
use Rattle.psa_names.specs.PlacedFaults.{PlacedFault, earlier, earliest}
use Rattle.psa_names.specs.NameSpaces.{events, groups, is_in_family}
use Rattle.psa_names.specs.Meanings.{Meaning, definition, of_group, members_of, definition_named, defined_by_group, is_defined_by_group, meaning_of_event}
use Rattle.psa_names.specs.GroupRules.{same_meaning, meanings_of_members, has_repeat, can_be_member, have_one_in_common, body_has_levels, is_allowed_group}
use Rattle.psa_names.specs.NameFaults.{or_next, duplicates, bad_references, bad_groups, name_fault}
use Rattle.psa_names.specs.Found.{HasNames}

-- ---- no fault

some-earlier : (f : PlacedFault) (o : Option PlacedFault) → earlier f o ≡ None → ⊥
some-earlier f None is = let h : Some f ≡ None = is in cc
some-earlier f (Some g) is = which (stands_before g.position f.position) is
  where
    which : (b : Bool) → (if b then Some g else Some f) ≡ None → ⊥
    which true h = let e : Some g ≡ None = h in cc
    which false h = let e : Some f ≡ None = h in cc

pub none-earliest : (fs : List PlacedFault) → earliest fs ≡ None → fs ≡ []
none-earliest [] is = refl
none-earliest (f ∷ fs) is = absurd (some-earlier f (earliest fs) is)

first-none : (a : Option PlacedFault) (next : Unit {0} → Option PlacedFault) → or_next a next ≡ None → (a ≡ None) × (next tt ≡ None)
first-none None next is = (refl, is)
first-none (Some f) next is = absurd (let h : Some f ≡ None = is in cc)

map-none : {A B : Type 0} (f : A → B) (o : Option A) → option_map f o ≡ None → o ≡ None
map-none f None is = refl
map-none f (Some a) is = absurd (let h : Some (f a) ≡ None = is in cc)

pub has-names : (draft : Draft) → name_fault draft ≡ None → HasNames draft
has-names draft is =
    let first = first-none (earliest (duplicates (entries_of draft))) _ (map-none (λ one. one.fault) _ is) in
    let second = first-none (earliest (bad_references (entries_of draft))) _ first.1 in
    let third = first-none (earliest (bad_groups (entries_of draft))) _ second.1 in
    record { no_duplicate = first.0; no_bad_reference = second.0; no_bad_group = third.0 }

-- ---- groups that are allowed

none-kept : {A : Type 0} (p : A → Bool) (xs : List A) (k : ℕ) (x : A) → filter p xs ≡ [] → slice_get xs k ≡ Some x → p x ≡ false
none-kept p [] k x none is = absurd (let h : None ≡ Some x = is in cc)
none-kept p (y ∷ ys) k x none is = by (p y) refl k none is (λ j gone there. none-kept p ys j x gone there)
  where
    by : (b : Bool) → p y ≡ b → (k : ℕ) → cond b (y ∷ filter p ys) (filter p ys) ≡ [] → slice_get (y ∷ ys) k ≡ Some x → ((j : ℕ) → filter p ys ≡ [] → slice_get ys j ≡ Some x → p x ≡ false) → p x ≡ false
    by true its k gone there rest = absurd (let h : y ∷ filter p ys ≡ [] = gone in cc)
    by false its zero gone there rest = let h : Some y ≡ Some x = there in let e : y ≡ x = cc in subst (λ z. p z ≡ false) e its
    by false its (suc k) gone there rest = rest k gone there

pub map-nil : {A B : Type 0} (f : A → B) (xs : List A) → map f xs ≡ [] → xs ≡ []
map-nil f [] is = refl
map-nil f (x ∷ xs) is = absurd (let h : f x ∷ map f xs ≡ [] = is in cc)

pub get-enumerated : {A : Type 0} (n k j : ℕ) (xs : List A) (x : A) → n + k ≡ j → slice_get xs k ≡ Some x → slice_get (enumerate_from n xs) k ≡ Some (j, x)
get-enumerated n k j [] x is there = absurd (let h : None ≡ Some x = there in cc)
get-enumerated n zero j (y ∷ ys) x is there =
    let same : n ≡ j = omega (arith, is) in
    let h : Some y ≡ Some x = there in
    let e : y ≡ x = cc in
    ap (λ m. Some (m, y)) same ∙ ap (λ z. Some (j, z)) e
get-enumerated n (suc k) j (y ∷ ys) x is there = get-enumerated (n + 1) k j ys x (omega (arith, is)) there

pub record Allowed (entries : Entries) (before : List Entry) (group : Entry) : Type 0 where
  pub few : nat_le (length (meanings_of_members entries group)) MAX_MEMBERS ≡ true
  pub repeats : has_repeat (meanings_of_members entries group) ≡ false
  pub members : list_all (can_be_member entries) (meanings_of_members entries group) ≡ true
  pub apart : list_any (λ other. have_one_in_common (meanings_of_members entries group) (meanings_of_members entries other)) before ≡ false
  pub levels : body_has_levels group.body ≡ true

allowed-parts : (entries : Entries) (before : List Entry) (group : Entry) → is_allowed_group entries before group ≡ true → Allowed entries before group
allowed-parts entries before group is =
    let a = and_parts _ _ is in
    let b = and_parts _ _ a.0 in
    let c = and_parts _ _ b.0 in
    let d = and_parts _ _ c.0 in
    let e = and_parts _ _ d.0 in
    record {
      few = e.1;
      repeats = not-true _ d.1;
      members = c.1;
      apart = not-true _ b.1;
      levels = a.1;
    }

pub allowed-at : (draft : Draft) (place : ℕ) (group : Entry) → name_fault draft ≡ None → slice_get (entries_of draft) place ≡ Some group → is_in_family groups group ≡ true → Allowed (entries_of draft) (take place (entries_of draft)) group
allowed-at draft place group faultless there is =
    let gone = map-nil _ _ (none-earliest (bad_groups (entries_of draft)) (has-names draft faultless).no_bad_group) in
    let fails = none-kept _ _ place (place, group) gone (get-enumerated 0 place place (entries_of draft) group (omega arith) there) in
    allowed-parts (entries_of draft) (take place (entries_of draft)) group (passes (is_in_family groups group) (is_allowed_group (entries_of draft) (take place (entries_of draft)) group) is fails)
  where
    passes : (a b : Bool) → a ≡ true → (a && not b) ≡ false → b ≡ true
    passes true true its h = refl
    passes true false its h = absurd (false≢true (sym h))
    passes false b its h = absurd (false≢true its)

-- ---- members that groups define

abbrev pub is_group_meaning : Option Meaning → Bool
is_group_meaning (Some (of_group name)) = true
is_group_meaning _ = false

abbrev meant : Option ℕ → Bool → Bool → Text → Option Meaning
meant named path defined name = option_or (option_map definition named) (if not path && defined then Some (of_group name) else None)

abbrev absent : Option ℕ → Bool → Bool
absent named path = not path && not (is_some named)

group-meant : (named : Option ℕ) (path defined : Bool) (name : Text) → absent named path ≡ true → defined ≡ true → meant named path defined name ≡ Some (of_group name)
group-meant None false true name is its = refl
group-meant None false false name is its = absurd (false≢true its)
group-meant None true defined name is its = absurd (false≢true is)
group-meant (Some place) false defined name is its = absurd (false≢true is)
group-meant (Some place) true defined name is its = absurd (false≢true is)

not-meant : (named : Option ℕ) (path defined : Bool) (name : Text) → absent named path ≡ false → is_group_meaning (meant named path defined name) ≡ false
not-meant None false defined name is = absurd (false≢true (sym is))
not-meant None true defined name is = refl
not-meant (Some place) path defined name is = refl

pub same-bytes : (a : Text) → bytes_eq a a ≡ true
same-bytes a = (bytes_eq-Decides a a).1 refl

pub equal-bytes : (a b : Text) → bytes_eq a b ≡ true → a ≡ b
equal-bytes a b is = (bytes_eq-Decides a b).0 is

pub other-bytes : (a b : Text) → bytes_eq a b ≡ false → bytes_eq b a ≡ false
other-bytes a b is = false_from_ne_true (bytes_eq b a) (λ same. false≢true (sym is ∙ ap (λ c. bytes_eq a c) (equal-bytes b a same) ∙ same-bytes a))

module _ (entries : Entries) (group : Entry) where
  abbrev is_absent : DraftReference → Bool
  is_absent member = absent (definition_named entries events group.container member.name) (is_path member.name)

  kept-members : (ms : List DraftReference) → ((name : Text) → list_any (bytes_eq name) (map (λ m. m.name) (filter is_absent ms)) ≡ true → is_defined_by_group entries name ≡ true) → filter is_group_meaning (map (λ m. meaning_of_event entries group.container m.name) ms) ≡ map (λ name. Some (of_group name)) (map (λ m. m.name) (filter is_absent ms))
  kept-members [] defined = refl
  kept-members (m ∷ ms) defined =
      elim (cases_Bool (is_absent m)) [
        | inl is ↦ rw (is, group-meant (definition_named entries events group.container m.name) (is_path m.name) (is_defined_by_group entries m.name) m.name is (defined m.name (rw is (or_left (bytes_eq m.name m.name) _ (same-bytes m.name)))))
            (ap (λ xs. Some (of_group m.name) ∷ xs) (kept-members ms (λ name h. defined name (rw is (or_right (bytes_eq name m.name) _ h)))))
        | inr isnt ↦ rw (isnt, not-meant (definition_named entries events group.container m.name) (is_path m.name) (is_defined_by_group entries m.name) m.name isnt)
            (kept-members ms (λ name h. defined name (rw isnt h)))
      ]

any-at : {A : Type 0} (p : A → Bool) (xs : List A) (k : ℕ) (x : A) → slice_get xs k ≡ Some x → p x ≡ true → list_any p xs ≡ true
any-at p [] k x there is = absurd (let h : None ≡ Some x = there in cc)
any-at p (y ∷ ys) zero x there is = let h : Some y ≡ Some x = there in let e : y ≡ x = cc in or_left (p y) (list_any p ys) (subst (λ z. p z ≡ true) (sym e) is)
any-at p (y ∷ ys) (suc k) x there is = or_right (p y) (list_any p ys) (any-at p ys k x there is)

-- the meanings of members that are events of groups are those that the group defines
pub group-meanings : (entries : Entries) (place : ℕ) (group : Entry) → slice_get entries place ≡ Some group → filter is_group_meaning (meanings_of_members entries group) ≡ map (λ name. Some (of_group name)) (defined_by_group entries group)
group-meanings entries place group there =
    kept-members entries group (members_of group.body) (λ name h. any-at (λ one. list_any (bytes_eq name) (defined_by_group entries one)) entries place group there h)

-- ---- they are apart

none-filtered : {A : Type 0} (p q : A → Bool) (xs : List A) → list_any p xs ≡ false → list_any p (filter q xs) ≡ false
none-filtered p q [] none = refl
none-filtered p q (x ∷ xs) none =
    let both = or_parts (p x) (list_any p xs) none in
    elim (cases_Bool (q x)) [
      | inl is ↦ rw is (or_from (p x) _ both.0 (none-filtered p q xs both.1))
      | inr isnt ↦ rw isnt (none-filtered p q xs both.1)
    ]

no-repeat-filtered : (q : Option Meaning → Bool) (xs : List (Option Meaning)) → has_repeat xs ≡ false → has_repeat (filter q xs) ≡ false
no-repeat-filtered q [] none = refl
no-repeat-filtered q (x ∷ xs) none =
    let both = or_parts (list_any (same_meaning x) xs) (has_repeat xs) none in
    elim (cases_Bool (q x)) [
      | inl is ↦ rw is (or_from (list_any (same_meaning x) (filter q xs)) _ (none-filtered (same_meaning x) q xs both.0) (no-repeat-filtered q xs both.1))
      | inr isnt ↦ rw isnt (no-repeat-filtered q xs both.1)
    ]

abbrev pub group_meaning : Text → Option Meaning
group_meaning name = Some (of_group name)

none-behind : (x : Text) (ps : List Text) (name : Text) (qs : List Text) → list_any (same_meaning (group_meaning x)) (map group_meaning (ps ++ name ∷ qs)) ≡ false → bytes_eq x name ≡ false
none-behind x [] name qs none = (or_parts (bytes_eq x name) _ none).0
none-behind x (p ∷ ps) name qs none = none-behind x ps name qs (or_parts (bytes_eq x p) _ none).1

-- of distinct names none before one is that one
none-before : (ps : List Text) (name : Text) (qs : List Text) → has_repeat (map group_meaning (ps ++ name ∷ qs)) ≡ false → list_any (λ one. same_meaning (Some one) (group_meaning name)) (map of_group ps) ≡ false
none-before [] name qs none = refl
none-before (x ∷ ps) name qs none =
    let both = or_parts (list_any (same_meaning (group_meaning x)) (map group_meaning (ps ++ name ∷ qs))) _ none in
    or_from (bytes_eq x name) _ (none-behind x ps name qs both.0) (none-before ps name qs both.1)

pub apart-in-group : (entries : Entries) (place : ℕ) (group : Entry) (before : List Entry) (ps : List Text) (name : Text) (qs : List Text) → slice_get entries place ≡ Some group → Allowed entries before group → defined_by_group entries group ≡ ps ++ name ∷ qs → list_any (λ one. same_meaning (Some one) (group_meaning name)) (map of_group ps) ≡ false
apart-in-group entries place group before ps name qs there allowed split =
    none-before ps name qs
    (sym (ap (λ ms. has_repeat ms) (group-meanings entries place group there ∙ ap (map group_meaning) split)) ∙ no-repeat-filtered is_group_meaning (meanings_of_members entries group) allowed.repeats)

none-filtered-from : (p : Option Meaning → Bool) (names : List Text) (ms : List (Option Meaning)) → filter is_group_meaning ms ≡ map group_meaning names → list_any p ms ≡ false → list_any p (map group_meaning names) ≡ false
none-filtered-from p names ms is none = sym (ap (list_any p) is) ∙ none-filtered p is_group_meaning ms none

-- a name among those of a group, whose members have none in common with others
in-common : (names : List Text) (ps : List Text) (name : Text) (qs : List Text) (others : List (Option Meaning)) → names ≡ ps ++ name ∷ qs → list_any (λ one. list_any (same_meaning one) others) (map group_meaning names) ≡ false → list_any (same_meaning (group_meaning name)) others ≡ false
in-common names ps name qs others split none = at ps (sym (ap (λ ns. list_any (λ one. list_any (same_meaning one) others) (map group_meaning ns)) split) ∙ none)
  where
    at : (ps : List Text) → list_any (λ one. list_any (same_meaning one) others) (map group_meaning (ps ++ name ∷ qs)) ≡ false → list_any (same_meaning (group_meaning name)) others ≡ false
    at [] h = (or_parts (list_any (same_meaning (group_meaning name)) others) _ h).0
    at (p ∷ ps) h = at ps (or_parts (list_any (same_meaning (group_meaning p)) others) _ h).1

turned : (names : List Text) (name : Text) → list_any (same_meaning (group_meaning name)) (map group_meaning names) ≡ false → list_any (λ one. same_meaning (Some one) (group_meaning name)) (map of_group names) ≡ false
turned [] name none = refl
turned (x ∷ xs) name none =
    let both = or_parts (bytes_eq name x) _ none in or_from (bytes_eq x name) _ (other-bytes name x both.0) (turned xs name both.1)

pub apart-from-other : (entries : Entries) (place : ℕ) (group other : Entry) (at : ℕ) (ps : List Text) (name : Text) (qs : List Text) → slice_get entries place ≡ Some group → slice_get entries at ≡ Some other → have_one_in_common (meanings_of_members entries group) (meanings_of_members entries other) ≡ false → defined_by_group entries group ≡ ps ++ name ∷ qs → list_any (λ one. same_meaning (Some one) (group_meaning name)) (map of_group (defined_by_group entries other)) ≡ false
apart-from-other entries place group other at ps name qs there here apart split =
    turned (defined_by_group entries other) name
    (none-filtered-from (same_meaning (group_meaning name)) (defined_by_group entries other) (meanings_of_members entries other) (group-meanings entries at other here)
    (in-common (defined_by_group entries group) ps name qs (meanings_of_members entries other) split
    (none-filtered-from (λ one. list_any (same_meaning one) (meanings_of_members entries other)) (defined_by_group entries group) (meanings_of_members entries group) (group-meanings entries place group there) apart)))
