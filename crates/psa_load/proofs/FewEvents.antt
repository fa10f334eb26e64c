-- A model of limited size has few events, common cause groups expanded or not.
use Rattle.std.proofs.Common.{◌≡◌, ◌==◌, ◌⊎◌, inl, inr, not, ◌+◌, ◌*◌, ◌<◌, ◌≤◌, ◌^◌, ℕ, zero, suc, Bool, true, false, List, [], ◌∷◌, All, map, length, filter, nat_le, sum, unwrap_or, refl, ap, ◌∙◌, leb-true, length-append, arith}
use Rattle.std.proofs.lemmas.Bool.{and_parts, cases_lt}
use Rattle.std.proofs.lemmas.List.{length-map}
use Rattle.std.proofs.lemmas.List.Elements.{All-head, All-tail}
use Rattle.std.proofs.lemmas.List.FromFn.{length-range_with_len}
use Rattle.std.proofs.lemmas.List.Sums.{length-filter, count_by-le-length, sum_by-cons}
use Rattle.std.specs.List.{slice_get, list_all, list_any, flat_map, filter_map, range_with_len}
use Rattle.std.specs.Option.{option_map}
use Rattle.psa_model.specs.declared.expanded.ExpandedEvent.TheVariants.{Member, Shared}
use Rattle.psa_model.specs.declared.ids.EventId.{EventId}
use Rattle.psa_model.specs.declared.ids.GroupId.{GroupId}
use Rattle.psa_model.specs.declared.limits.TheConstants.{MAX_MEMBERS}
use Rattle.psa_model.specs.declared.model.Group.{Group}
use Rattle.psa_model.specs.declared.model.GroupModel.{GroupModel}
use Rattle.psa_model.specs.declared.model.GroupModel.TheVariants.{Beta, Mgl, Alpha}
use Rattle.psa_model.specs.declared.model.Model.{Model}
use Rattle.psa_model.specs.declared.model.Valued.{Valued}
use Rattle.psa_model.specs.declared.model.Valued.TheVariants as valued
use Rattle.psa_model.specs.Expansion.{choices, subset_number, sizes_of, subsets_of, events_of_group, events_of_valued, expanded_of}
use Rattle.psa_model.specs.Models.{IsModel, IsOfSize, basic_in, group_in, members_of, defined_by, is_at}
use Rattle.psa_ccf.proofs.Callers.{small-groups-of-model}

-- ---- subsets

-- the subsets of so many members
abbrev subsets : GroupModel → ℕ → List ℕ
subsets model n = flat_map (λ size. map subset_number (choices size (range_with_len 0 n))) (sizes_of model n)

-- of at most 8 members there are at most 255
few-subsets : (model : GroupModel) → list_all (λ n. nat_le (length (subsets model n)) 255) (range_with_len 0 9) ≡ true
few-subsets Beta = refl
few-subsets Mgl = refl
few-subsets Alpha = refl

-- a number from one on is it, or later
eq-or-later : (from n : ℕ) → from ≤ n → (n ≡ from) ⊎ (from + 1 ≤ n)
eq-or-later from n low = elim (cases_lt from n) [
  | inl later ↦ inr (omega (arith, later))
  | inr same ↦ inl (omega (arith, low, same))
]

-- what holds of each number of a range holds of one in it
in-range : (p : ℕ → Bool) (from len n : ℕ) → list_all p (range_with_len from len) ≡ true → from ≤ n → n < from + len → p n ≡ true
in-range p from zero n all low high = absurd (omega arith)
in-range p from (suc len) n all low high =
    let both = and_parts (p from) (list_all p (range_with_len (from + 1) len)) all in
    elim (eq-or-later from n low) [
      | inl e ↦ ap p e ∙ both.0
      | inr later ↦ in-range p (from + 1) len n both.1 later (omega (arith, high))
    ]

subsets-of-few : (group : Group) → length group.members ≤ MAX_MEMBERS → length (subsets_of group) ≤ 255
subsets-of-few group few =
    leb-true (length (subsets_of group)) 255
    (in-range (λ n. nat_le (length (subsets group.model n)) 255) 0 9 (length group.members) (few-subsets group.model) (omega arith) (omega (arith, few)))

-- ---- events

events-of-group : (on : Bool) (id : GroupId) (group : Group) → length group.members ≤ MAX_MEMBERS → length (events_of_group on id group) ≤ 255
events-of-group true id group few =
    omega (arith, length-map (subsets_of group) (λ subset. Shared id subset), subsets-of-few group few)
events-of-group false id group few =
    omega (arith, length-map (range_with_len 0 (length group.members)) (λ place. Member id place), length-range_with_len 0 (length group.members), few)

-- the events of the group with an id
events-of-id : (on : Bool) (id : GroupId) (groups : List Group) (place : ℕ) → All (λ group. length group.members ≤ MAX_MEMBERS) groups → length (unwrap_or (option_map (events_of_group on id) (slice_get groups place)) []) ≤ 255
events-of-id on id [] place all = omega arith
events-of-id on id (group ∷ groups) zero all =
    events-of-group on id group (All-head (λ g. length g.members ≤ MAX_MEMBERS) group groups all)
events-of-id on id (group ∷ groups) (suc place) all =
    events-of-id on id groups place (All-tail (λ g. length g.members ≤ MAX_MEMBERS) group groups all)

module _ (model : Model) (on : Bool) (small : All (λ group. length group.members ≤ MAX_MEMBERS) model.groups) where
  -- one event for each basic event, and at most 255 for each group
  events-counted : (order : List Valued) → length (flat_map (events_of_valued model on) order) ≤ length (filter_map basic_in order) + 255 * length (filter_map group_in order)
  events-counted [] = omega arith
  events-counted (valued.Basic id ∷ order) = let rest = events-counted order in omega (arith, rest)
  events-counted (valued.Group id ∷ order) =
      let rest = events-counted order in
      let one = events-of-id on id model.groups id.0 small in
      omega (arith, rest, one, length-append (unwrap_or (option_map (events_of_group on id) (slice_get model.groups id.0)) []) (flat_map (events_of_valued model on) order))

-- ---- size

filter-less : {A : Type 0} (p : A → Bool) (xs : List A) → length (filter p xs) ≤ length xs
filter-less p xs = omega (arith, length-filter p xs, count_by-le-length p xs)

-- the members that groups define are members
defined-less : (model : Model) (groups : List Group) → sum (map (defined_by model) groups) ≤ length (flat_map (λ group. map (λ (id : EventId). id.0) group.members) groups)
defined-less model [] = omega arith
defined-less model (group ∷ groups) =
    let rest = defined-less model groups in
    let one = filter-less (λ (id : EventId). is_at group.place (slice_get model.basics id.0)) group.members in
    omega (
      arith,
      rest,
      one,
      sum_by-cons (λ x. x) (defined_by model group) (map (defined_by model) groups),
      length-map group.members (λ (id : EventId). id.0),
      length-append (map (λ (id : EventId). id.0) group.members) (flat_map (λ group. map (λ (id : EventId). id.0) group.members) groups),
    )

-- basic events and groups are no more than the size of the model
few-valued : (model : Model) → IsOfSize model → length model.basics + length model.groups ≤ 16000000
few-valued model size = let defined = defined-less model model.groups in omega (arith, defined, size)

-- the events of a model of limited size
pub few-events : (on : Bool) (model : Model) → IsModel model → IsOfSize model → length (expanded_of on model).events < 2 ^ 32
few-events on model is size =
    let counted = events-counted model on (small-groups-of-model model is) model.order in
    let basics = ap length is.order.basics in
    let groups = ap length is.order.groups in
    let less = filter-less (λ id. not (list_any (λ m. m == id) (members_of model))) (range_with_len 0 (length model.basics)) in
    let few = few-valued model size in
    omega (arith, counted, basics, groups, less, few, length-range_with_len 0 (length model.basics), length-range_with_len 0 (length model.groups))
