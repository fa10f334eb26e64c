-- The basic events that a group defines, from what its members stand for.
use Rattle.std.proofs.Common.{◌≡◌, ◌<◌, ◌≤◌, ◌+◌, ℕ, Bool, true, false, List, [], ◌∷◌, ◌++◌, Option, Some, None, map, length, drop, get_or, refl, ap, sym, ◌∙◌, not, ◌&&◌, inl, inr, if◌then◌else◌}
use Rattle.std.proofs.lemmas.Bool.{and_parts, cases_Bool, false≢true}
use Rattle.std.proofs.lemmas.List.{append_assoc, append-nil, map-append, drop_all}
use Rattle.std.proofs.lemmas.Option.{slice_get-get_or}
use Rattle.std.specs.Prelude.{is_some}
use Rattle.std.specs.List.{filter, list_all, slice_get}
use Rattle.std.specs.Option.{option_map, option_or, option_to_list}
use Rattle.psa_model.specs.PathNames.{Text, is_path}
use Rattle.psa_model.specs.declared.ids.Place.{Place}
use Rattle.psa_model.specs.declared.model.BasicEvent.{BasicEvent}
use Rattle.psa_model.specs.declared.draft.DraftReference.{DraftReference}
use Rattle.psa_model.specs.declared.draft.DraftGroup.{DraftGroup}
use Rattle.psa_model.specs.declared.draft.DraftBody.TheVariants as body
use Rattle.psa_names.specs.declared.found.Sense.{Sense}
use Rattle.psa_names.specs.declared.found.Sense.TheVariants.{Definition, OfGroup}
use Rattle.psa_names.specs.NameSpaces.{events}
use Rattle.psa_names.specs.Outlines.{Entry, Entries}
use Rattle.psa_names.specs.Meanings.{Meaning, definition, of_group, members_of, defined_by_group, definition_named, is_defined_by_group, meaning_of_event}
use Rattle.psa_names.specs.GroupRules.{meanings_of_members}
use Rattle.psa_names.specs.Found.{meaning_of_sense, defined_by_groups}
use Rattle.psa_bodies.specs.Counts.{is_of_group}
use Rattle.psa_assembly.specs.Groups.{names_of_groups, event_of_group}
use Rattle.psa_bodies.proofs.CountedMembers.{IsNext}
use Rattle.psa_bodies.proofs.NumberingInOrder.{drop-next}

-- ---- events one after another

no-names : (members : List DraftReference) → names_of_groups members [] ≡ []
no-names [] = refl
no-names (m ∷ members) = refl

names-next : (m : DraftReference) (members : List DraftReference) (senses left : List Sense) (next : Option Sense) → IsNext senses next left → names_of_groups (m ∷ members) senses ≡ names_of_groups (m ∷ []) (option_to_list next) ++ names_of_groups members left
names-next m members senses left None is = ap (names_of_groups (m ∷ members)) is.0 ∙ sym (no-names members) ∙ ap (names_of_groups members) (sym is.1)
names-next m members senses left (Some (OfGroup number)) is = ap (names_of_groups (m ∷ members)) is
names-next m members senses left (Some (Definition place)) is = ap (names_of_groups (m ∷ members)) is

-- the events so far with those still to come
pub record EventsLeft (place : Place) (members : List DraftReference) (senses : List Sense) (basics : List BasicEvent) (i : ℕ) (left : List Sense) (now : List BasicEvent) : Type 0 where
  pub all : now ++ map (event_of_group place) (names_of_groups (drop i members) left) ≡ basics ++ map (event_of_group place) (names_of_groups members senses)

pub events-more : (place : Place) (members : List DraftReference) (senses : List Sense) (basics : List BasicEvent) (i : ℕ) (m : DraftReference) (left rest : List Sense) (next : Option Sense) (now more : List BasicEvent) → i < length members → m ≡ get_or members i m → EventsLeft place members senses basics i left now → IsNext left next rest → more ≡ now ++ map (event_of_group place) (names_of_groups (m ∷ []) (option_to_list next)) → EventsLeft place members senses basics (i + 1) rest more
events-more place members senses basics i m left rest next now more inside is before read pushed = record {
  all =
      let event = event_of_group place in
      let there : slice_get members i ≡ Some m = slice_get-get_or members i m inside ∙ ap Some (sym is) in
      ap (λ bs. bs ++ map event (names_of_groups (drop (i + 1) members) rest)) pushed
      ∙ append_assoc now (map event (names_of_groups (m ∷ []) (option_to_list next))) (map event (names_of_groups (drop (i + 1) members) rest))
      ∙ ap (λ bs. now ++ bs) (sym (map-append event (names_of_groups (m ∷ []) (option_to_list next)) (names_of_groups (drop (i + 1) members) rest))
      ∙ ap (map event) (sym (names-next m (drop (i + 1) members) left rest next read) ∙ ap (λ ms. names_of_groups ms left) (sym (drop-next members i m there))))
      ∙ before.all;
}

pub events-all : (place : Place) (members : List DraftReference) (senses : List Sense) (basics : List BasicEvent) (i : ℕ) (left : List Sense) (now : List BasicEvent) → length members ≤ i → EventsLeft place members senses basics i left now → now ≡ basics ++ map (event_of_group place) (names_of_groups members senses)
events-all place members senses basics i left now past before =
    sym (append-nil now) ∙ ap (λ ms. now ++ map (event_of_group place) (names_of_groups ms left)) (sym (drop_all i members past)) ∙ before.all

-- ---- the events that a group defines

abbrev meant : Option ℕ → Bool → Bool → Text → Option Meaning
meant named path defined name = option_or (option_map definition named) (if not path && defined then Some (of_group name) else None)

abbrev absent : Option ℕ → Bool → Bool
absent named path = not path && not (is_some named)

-- a sense of something is that of a group's event where no definition has the name
absent-is : (entries : Entries) (s : Sense) (named : Option ℕ) (path defined : Bool) (name : Text) → meaning_of_sense entries s ≡ meant named path defined name → is_some (meant named path defined name) ≡ true → is_of_group s ≡ absent named path
absent-is entries (Definition p) (Some q) true defined name same some = refl
absent-is entries (Definition p) (Some q) false defined name same some = refl
absent-is entries (Definition p) None true defined name same some = absurd (false≢true some)
absent-is entries (Definition p) None false true name same some = absurd (let h : Some (definition p) ≡ Some (of_group name) = same in cc)
absent-is entries (Definition p) None false false name same some = absurd (false≢true some)
absent-is entries (OfGroup n) (Some q) path defined name same some = absurd (never (slice_get (defined_by_groups entries) n) same)
  where
    never : (one : Option Text) → option_map of_group one ≡ Some (definition q) → ⊥
    never None h = let e : None ≡ Some (definition q) = h in cc
    never (Some text) h = let e : Some (of_group text) ≡ Some (definition q) = h in cc
absent-is entries (OfGroup n) None true defined name same some = absurd (false≢true some)
absent-is entries (OfGroup n) None false true name same some = refl
absent-is entries (OfGroup n) None false false name same some = absurd (false≢true some)

name-first : (m : DraftReference) (members : List DraftReference) (s : Sense) (senses : List Sense) → names_of_groups (m ∷ members) (s ∷ senses) ≡ (if is_of_group s then m.name ∷ names_of_groups members senses else names_of_groups members senses)
name-first m members (OfGroup n) senses = refl
name-first m members (Definition p) senses = refl

kept-first : (p : DraftReference → Bool) (m : DraftReference) (members : List DraftReference) → (if p m then m.name ∷ map (λ member. member.name) (filter p members) else map (λ member. member.name) (filter p members)) ≡ map (λ member. member.name) (filter p (m ∷ members))
kept-first p m members = elim (cases_Bool (p m)) [ inl is ↦ rw is refl | inr isnt ↦ rw isnt refl ]

abbrev is_absent : Entries → List Text → DraftReference → Bool
is_absent entries container member = not (is_path member.name) && not (is_some (definition_named entries events container member.name))

names-are : (entries : Entries) (container : List Text) (members : List DraftReference) (senses : List Sense) (others : List (Option Meaning)) → map (meaning_of_sense entries) senses ≡ map (λ member. meaning_of_event entries container member.name) members ++ others → list_all is_some (map (λ member. meaning_of_event entries container member.name) members) ≡ true → names_of_groups members senses ≡ map (λ member. member.name) (filter (is_absent entries container) members)
names-are entries container [] senses others are known = refl
names-are entries container (m ∷ members) [] others are known = absurd (let h : [] ≡ meaning_of_event entries container m.name ∷ (map (λ member. meaning_of_event entries container member.name) members ++ others) = are in cc)
names-are entries container (m ∷ members) (s ∷ senses) others are known =
    let both : meaning_of_sense entries s ∷ map (meaning_of_sense entries) senses ≡ meaning_of_event entries container m.name ∷ (map (λ member. meaning_of_event entries container member.name) members ++ others) = are in
    let head : meaning_of_sense entries s ≡ meaning_of_event entries container m.name = cc in
    let tail : map (meaning_of_sense entries) senses ≡ map (λ member. meaning_of_event entries container member.name) members ++ others = cc in
    let parts = and_parts (is_some (meaning_of_event entries container m.name)) (list_all is_some (map (λ member. meaning_of_event entries container member.name) members)) known in
    let rest = names-are entries container members senses others tail parts.1 in
    let here = absent-is entries s (definition_named entries events container m.name) (is_path m.name) (is_defined_by_group entries m.name) m.name head parts.0 in
    name-first m members s senses
    ∙ ap (λ b. if b then m.name ∷ names_of_groups members senses else names_of_groups members senses) here
    ∙ ap (λ ns. if is_absent entries container m then m.name ∷ ns else ns) rest
    ∙ kept-first (is_absent entries container) m members

-- the names of the next members that stand for no definition are those that the group defines
pub names-defined : (entries : Entries) (one : Entry) (group : DraftGroup) (members : List DraftReference) (senses : List Sense) (others : List (Option Meaning)) → one.body ≡ body.Group group → members ≡ group.members → map (meaning_of_sense entries) senses ≡ meanings_of_members entries one ++ others → list_all is_some (meanings_of_members entries one) ≡ true → names_of_groups members senses ≡ defined_by_group entries one
names-defined entries one group members senses others says same are known =
    ap (λ ms. names_of_groups ms senses) (same ∙ sym (ap members_of says))
    ∙ names-are entries one.container (members_of one.body) senses others are known
