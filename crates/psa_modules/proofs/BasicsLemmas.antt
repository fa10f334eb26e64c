-- The expanded events of a model are those of its basic events.
use Rattle.std.proofs.Common.{◌≡◌, ◌==◌, ℕ, zero, suc, ◌+◌, ◌/◌, ◌%◌, ◌<◌, Bool, true, false, List, [], ◌∷◌, Option, Some, None, length, map, ◌&&◌, ◌||◌, not, refl, sym, ap, subst, ◌∙◌, inl, inr, arith}
use Rattle.std.specs.Prelude.{All, unwrap_or}
use Rattle.std.specs.List.{slice_get, cons_option, filter, filter_map, list_any, range_with_len}
use Rattle.std.specs.Option.{option_map}
use Rattle.std.proofs.lemmas.Bool.{false≢true, and_parts, or_cases}
use Rattle.std.proofs.lemmas.Bool.Decides.{eqb_tells}
use Rattle.std.proofs.lemmas.Option.{slice_get_within, get_or_from_slice_get}
use Rattle.psa_logic.specs.Sets.{occurs, Has}
use Rattle.psa_logic.proofs.ListingLemmas.{has-map_from}
use Rattle.psa_logic.proofs.PartLemmas.{occurs-has, has-occurs}
use Rattle.psa_model.specs.declared.expanded.ExpandedEvent.{ExpandedEvent}
use Rattle.psa_model.specs.declared.expanded.ExpandedEvent.TheVariants as event
use Rattle.psa_model.specs.declared.ids.EventId.{EventId}
use Rattle.psa_model.specs.declared.ids.GroupId.{GroupId}
use Rattle.psa_model.specs.declared.model.BasicEvent.{BasicEvent}
use Rattle.psa_model.specs.declared.model.Group.{Group}
use Rattle.psa_model.specs.declared.model.Model.{Model}
use Rattle.psa_model.specs.declared.model.Valued.{Valued}
use Rattle.psa_model.specs.declared.model.Valued.TheVariants as valued
use Rattle.psa_model.specs.Events.{covers, is_event, is_in_subset, members_at, members_of_group}
use Rattle.psa_model.specs.Expansion.{events_of_group, events_of_valued, expanded_of, subsets_of}
use Rattle.psa_model.specs.Models.{basic_in, is_without_value, members_of, IsGroup, IsModel}
use Rattle.psa_modules.specs.Quotients.{IsOfBasics}
use Rattle.psa_modules.proofs.TestLemmas.{occurs-kept}
use Rattle.psa_modules.proofs.UnfoldingLemmas.{has-flat_from}

-- an item of a list stands at a place
has-at : {A : Type 0} (xs : List A) (x : A) → Has xs x → (i : ℕ) × (slice_get xs i ≡ Some x)
has-at [] x has = absurd has
has-at (y ∷ ys) x has = elim has [
  | inl e ↦ (0, ap (λ z. Some z) e)
  | inr m ↦ let rest = has-at ys x m in (suc rest.0, rest.1)
]

-- each item has what all have
all-each : {A : Type 0} (P : A → Type 0) (xs : List A) → All P xs → (x : A) → Has xs x → P x
all-each P xs all x has =
    let at = has-at xs x has in
    subst P (get_or_from_slice_get xs at.0 x x at.1) (all at.0 x (slice_get_within xs at.0 x at.1))

-- an item that stands is one of the list
item-has : {A : Type 0} (xs : List A) (i : ℕ) (x : A) → slice_get xs i ≡ Some x → Has xs x
item-has [] i x h = absurd (cc)
item-has (y ∷ ys) zero x h = inl (cc)
item-has (y ∷ ys) (suc i) x h = inr (item-has ys i x h)

-- an item stays where one may be put before it
behind-option : {B : Type 0} (found : Option B) (ys : List B) (y : B) → Has ys y → Has (cons_option found ys) y
behind-option None ys y has = has
behind-option (Some w) ys y has = inr has

-- what a test makes of an item is among what it makes of the list
has-filter_map : {A B : Type 0} (f : A → Option B) (xs : List A) (x : A) (y : B) → Has xs x → f x ≡ Some y
    → Has (filter_map f xs) y
has-filter_map f [] x y has is = absurd has
has-filter_map f (z ∷ zs) x y has is = elim has [
  | inl e ↦ let here : f z ≡ Some y = ap f e ∙ is in rw here (inl refl)
  | inr m ↦ behind-option (f z) (filter_map f zs) y (has-filter_map f zs x y m is)
]

-- a number of a range is below its end
range-below : (a n x : ℕ) → Has (range_with_len a n) x → x < a + n
range-below a zero x has = absurd has
range-below a (suc n) x has = elim has [
  | inl e ↦ let same : a ≡ x = e in omega arith
  | inr m ↦ let less : x < (a + 1) + n = range-below (a + 1) n x m in omega arith
]

-- a basic event that stands without a value stands
without-stands : (basics : List BasicEvent) (i : ℕ) → is_without_value (slice_get basics i) ≡ true → i < length basics
without-stands basics i h = found (slice_get basics i) refl h
  where
    found : (it : Option BasicEvent) → slice_get basics i ≡ it → is_without_value it ≡ true → i < length basics
    found None is k = absurd (false≢true k)
    found (Some basic) is k = slice_get_within basics i basic is

is-equal : (a b : ℕ) → (a == b) ≡ true → a ≡ b
is-equal a b k = elim (eqb_tells a b) [
  | inl p ↦ p.1
  | inr p ↦ absurd (false≢true (sym p.0 ∙ k))
]

-- an event that a subset holds is a member
in-subset : (basic subset : ℕ) (members : List EventId) → is_in_subset basic subset members ≡ true
    → (id : EventId) × Has members id × (id.0 ≡ basic)
in-subset basic subset [] h = absurd (false≢true h)
in-subset basic subset (id ∷ ids) h =
    elim (or_cases ((subset % 2 == 1) && (id.0 == basic)) (is_in_subset basic (subset / 2) ids) h) [
      | inl p ↦ (id, inl refl, is-equal id.0 basic (and_parts (subset % 2 == 1) (id.0 == basic) p).1)
      | inr p ↦ let rest = in-subset basic (subset / 2) ids p in (rest.0, inr rest.1, rest.2)
    ]

-- an event at a place of the members is a member
at-member : (basic : ℕ) (members : List EventId) (place : ℕ) → is_event basic (slice_get members place) ≡ true
    → (id : EventId) × Has members id × (id.0 ≡ basic)
at-member basic members place h = found (slice_get members place) refl h
  where
    found : (it : Option EventId) → slice_get members place ≡ it → is_event basic it ≡ true
        → (id : EventId) × Has members id × (id.0 ≡ basic)
    found None is k = absurd (false≢true k)
    found (Some id) is k = (id, item-has members place id is, is-equal id.0 basic k)

-- a member of a group of the model stands
member-stands : (model : Model) (group : Group) (basic : ℕ) → IsModel model → Has model.groups group
    → ((id : EventId) × Has group.members id × (id.0 ≡ basic)) → basic < length model.basics
member-stands model group basic is has member =
    let one : IsGroup model group = all-each (IsGroup model) model.groups is.groups group has in
    subst (λ b. b < length model.basics) member.2
    (without-stands model.basics member.0.0
    (all-each (λ id. is_without_value (slice_get model.basics id.0)
    ≡ true) group.members one.members member.0 member.1))

-- what an event of a group covers stands
group-stands : (on : Bool) (model : Model) (id : GroupId) (group : Group) (basic : ℕ) (one : ExpandedEvent)
    → IsModel model → slice_get model.groups id.0 ≡ Some group → Has (events_of_group on id group) one
    → covers model basic one ≡ true → basic < length model.basics
group-stands true model id group basic one is at has h =
    let found = has-map_from (λ subset. event.Shared id subset) (subsets_of group) one has in
    let members : members_at model id.0 ≡ group.members = ap members_of_group at in
    let held : is_in_subset basic found.0 (members_at model id.0) ≡ true =
    ap (covers model basic) found.2 ∙ h in
    member-stands model group basic is (item-has model.groups id.0 group at)
    (in-subset basic found.0 group.members (ap (is_in_subset basic found.0) (sym members) ∙ held))
group-stands false model id group basic one is at has h =
    let found = has-map_from (λ place. event.Member id place) (range_with_len 0 (length group.members)) one has in
    let members : members_at model id.0 ≡ group.members = ap members_of_group at in
    let held : is_event basic (slice_get (members_at model id.0) found.0) ≡ true =
    ap (covers model basic) found.2 ∙ h in
    member-stands model group basic is (item-has model.groups id.0 group at)
    (at-member basic group.members found.0 (ap (λ ids. is_event basic (slice_get ids found.0)) (sym members) ∙ held))

-- what an event of an entry of the order covers stands
valued-stands : (on : Bool) (model : Model) (one : Valued) (basic : ℕ) (it : ExpandedEvent) → IsModel model
    → Has model.order one → Has (events_of_valued model on one) it → covers model basic it ≡ true
    → basic < length model.basics
valued-stands on model (valued.Basic id) basic it is has inside h = elim inside [
  | inl e ↦
      let same : id.0 ≡ basic = is-equal id.0 basic (ap (covers model basic) e ∙ h) in
      let among : Has (filter (λ b. not (list_any (λ m. m == b) (members_of model)))
      (range_with_len 0 (length model.basics))) id.0 =
      subst (λ xs. Has xs id.0) is.order.basics (has-filter_map basic_in model.order (valued.Basic id) id.0 has refl) in
      let kept = occurs-kept (λ b. not (list_any (λ m. m == b) (members_of model)))
      (range_with_len 0 (length model.basics)) id.0
      (has-occurs _ id.0 among) in
      let less : id.0 < 0 + length model.basics = range-below 0 (length model.basics) id.0 (occurs-has _ id.0 kept.1) in
      omega arith
  | inr nope ↦ absurd nope
]
valued-stands on model (valued.Group id) basic it is has inside h = found (slice_get model.groups id.0) refl inside
  where
    found : (group : Option Group) → slice_get model.groups id.0 ≡ group
        → Has (unwrap_or (option_map (events_of_group on id) group) []) it → basic < length model.basics
    found None at k = absurd k
    found (Some group) at k = group-stands on model id group basic it is at k h

-- each expanded event of a model is that of basic events of it
pub of-basics : (on : Bool) (model : Model) → IsModel model → IsOfBasics (expanded_of on model)
of-basics on model is basic one has h =
    let found = has-flat_from (events_of_valued model on) model.order one has in
    valued-stands on model found.0 basic one is found.1 found.2 h
