-- The whole model from its lists.
use Rattle.std.proofs.Common.{◌≡◌, ◌+◌, ℕ, Bool, List, [], ◌∷◌, ◌++◌, Some, map, get_or, refl, ap, ◌∙◌, inl, inr, eqb, ◌||◌, if◌then◌else◌}
use Rattle.std.proofs.lemmas.Bool.{cases_Bool}
use Rattle.std.proofs.lemmas.Option.{get_or_from_slice_get}
use Rattle.std.specs.List.{flat_map, filter, list_any, enumerate_from, slice_get}
use Rattle.std.specs.Option.{option_map}
use Rattle.psa_model.specs.declared.ids.EventId.{EventId}
use Rattle.psa_model.specs.declared.formula.Formula.{Formula}
use Rattle.psa_model.specs.declared.model.Model.{Model}
use Rattle.psa_model.specs.declared.model.Group.{Group}
use Rattle.psa_model.specs.declared.model.Valued.{Valued}
use Rattle.psa_model.specs.declared.model.Valued.TheVariants as valued
use Rattle.psa_model.specs.declared.draft.DraftBody.{DraftBody}
use Rattle.psa_model.specs.declared.draft.DraftBody.TheVariants as body
use Rattle.psa_model.specs.declared.draft.DefinitionKind.{DefinitionKind}
use Rattle.psa_model.specs.declared.draft.DefinitionKind.TheVariants as kind
use Rattle.psa_names.specs.Outlines.{Entry, Entries}
use Rattle.psa_names.specs.Meanings.{definition}
use Rattle.psa_names.specs.Ids.{kind_number, is_kind, all_of_kind, id_of, basic_id}
use Rattle.psa_names.specs.Collected.{by_contents}
use Rattle.psa_names.specs.ModelOfDraft.{gate_of, group_of, member_ids, is_member, valued_at, model_from}
use Rattle.psa_bodies.specs.declared.numbers.Numbers.{Numbers}
use Rattle.psa_bodies.specs.Numbering.{own_id, numbered, AreNumbers}
use Rattle.psa_assembly.specs.Values.{is_among, has_member, valued_by}
use Rattle.psa_bodies.specs.Made.{house_of, parameter_of, fault_tree_of, functional_of, initiating_of}
use Rattle.psa_bodies.specs.MadeWalks.{rule_of, sequence_of, event_tree_of, named_branch_of}
use Rattle.psa_assembly.specs.Assembling.{only_of, joined_lists, formulas_of}
use Rattle.psa_bodies.proofs.NumberedDefinitions.{get-map, kinds-same}
use Rattle.psa_assembly.proofs.ValuesInOrder.{valued-same}

-- ---- the lists of kinds

kept : {A : Type 0} (its : DefinitionKind) (make : Entry → A) (n : ℕ) (xs : Entries) → flat_map (λ one. only_of its one (make one)) xs ≡ map (λ (one : ℕ × Entry). make one.1) (filter (λ (one : ℕ × Entry). is_kind its one.1) (enumerate_from n xs))
kept its make n [] = refl
kept its make n (x ∷ xs) = elim (cases_Bool (is_kind its x)) [
  | inl is ↦ rw is (ap (λ ys. make x ∷ ys) (kept its make (n + 1) xs))
  | inr isnt ↦ rw isnt (kept its make (n + 1) xs)
]

-- ---- the formulas

collected-lists : (entries all : Entries) (sequence : List ℕ) → map (λ place. slice_get entries place) sequence ≡ map Some all → flat_map (λ place. get_or (map (formulas_of entries) entries) place []) sequence ≡ flat_map (formulas_of entries) all
collected-lists entries [] [] same = refl
collected-lists entries (x ∷ all) [] same = absurd (let e : [] ≡ Some x ∷ map Some all = same in cc)
collected-lists entries [] (p ∷ sequence) same = absurd (let e : slice_get entries p ∷ map (λ place. slice_get entries place) sequence ≡ [] = same in cc)
collected-lists entries (x ∷ all) (p ∷ sequence) same =
    let e : slice_get entries p ∷ map (λ place. slice_get entries place) sequence ≡ Some x ∷ map Some all = same in
    let head : slice_get entries p ≡ Some x = cc in
    let tail : map (λ place. slice_get entries place) sequence ≡ map Some all = cc in
    let own = get_or_from_slice_get (map (formulas_of entries) entries) p (formulas_of entries x) [] (get-map (formulas_of entries) entries p ∙ ap (option_map (formulas_of entries)) head) in
    ap (λ fs. fs ++ flat_map (λ place. get_or (map (formulas_of entries) entries) place []) sequence) own
    ∙ ap (λ fs. formulas_of entries x ++ fs) (collected-lists entries all sequence tail)

pub formulas-made : (entries : Entries) (lists : List (List Formula)) (sequence : List ℕ) (made : List Formula) → lists ≡ map (formulas_of entries) entries → map (λ place. slice_get entries place) sequence ≡ map Some (by_contents entries) → made ≡ flat_map (λ place. get_or lists place []) sequence → made ≡ (model_from entries).formulas
formulas-made entries lists sequence made are same joined =
    joined ∙ ap (λ ls. flat_map (λ place. get_or ls place []) sequence) are ∙ collected-lists entries (by_contents entries) sequence same

-- ---- the order of values

members-of : (entries : Entries) (one : Entry) → (group_of entries one).members ≡ map (λ id. record { 0 = id }) (member_ids entries one)
members-of entries one = by one.body refl
  where
    by : (b : DraftBody) → one.body ≡ b → (group_of entries one).members ≡ map (λ id. record { 0 = id }) (member_ids entries one)
    by (body.Group group) says = rw says refl
    by body.Nothing says = rw says refl
    by (body.Formula f) says = rw says refl
    by (body.Value v) says = rw says refl
    by (body.State s) says = rw says refl
    by (body.Start t) says = rw says refl
    by (body.Steps i l) says = rw says refl
    by (body.Walk w) says = rw says refl

any-map : {A B : Type 0} (p : B → Bool) (f : A → B) (xs : List A) → list_any p (map f xs) ≡ list_any (λ x. p (f x)) xs
any-map p f [] = refl
any-map p f (x ∷ xs) = ap (λ b. p (f x) || b) (any-map p f xs)

any-same : {A : Type 0} (p q : A → Bool) (xs : List A) → ((x : A) → p x ≡ q x) → list_any p xs ≡ list_any q xs
any-same p q [] same = refl
any-same p q (x ∷ xs) same = rw (same x, any-same p q xs same) refl

members-are : (entries : Entries) (groups : List Group) → groups ≡ map (λ (one : ℕ × Entry). group_of entries one.1) (all_of_kind kind.Group entries) → (id : ℕ) → list_any (has_member id) groups ≡ is_member entries id
members-are entries groups are id =
    ap (list_any (has_member id)) are
    ∙ any-map (has_member id) (λ (one : ℕ × Entry). group_of entries one.1) (all_of_kind kind.Group entries)
    ∙ any-same _ _ (all_of_kind kind.Group entries) (λ one.
    ap (is_among id) (members-of entries one.1)
    ∙ any-map (λ (member : EventId). eqb member.0 id) (λ number. record { 0 = number }) (member_ids entries one.1))

valued-own : (entries : Entries) (place : ℕ) (one : Entry) → valued_by (is_member entries) (numbered entries (place, one)) ≡ valued_at entries (place, one)
valued-own entries place one = elim (cases_Bool (eqb (kind_number one.kind) 5)) [
  | inl group ↦
      let is : one.kind ≡ kind.Group = kinds-same one.kind kind.Group group in
      let own : own_id entries (place, one) ≡ id_of kind.Group entries place = ap (λ k. if eqb (kind_number k) 2 then basic_id entries (definition place) else id_of k entries place) is in
      rw group (ap (λ id. valued.Group (record { 0 = id }) ∷ []) own)
  | inr other ↦ elim (cases_Bool (eqb (kind_number one.kind) 2)) [
    | inl basic ↦ rw (other, basic) refl
    | inr neither ↦ rw (other, neither) refl
  ]
]

all-valued : (entries : Entries) (f : ℕ → Bool) → ((id : ℕ) → f id ≡ is_member entries id) → (all : List (ℕ × Entry)) → flat_map (valued_by f) (map (numbered entries) all) ≡ flat_map (valued_at entries) all
all-valued entries f same [] = refl
all-valued entries f same (one ∷ all) =
    ap (λ vs. vs ++ flat_map (valued_by f) (map (numbered entries) all)) (valued-same f (is_member entries) (numbered entries one) same ∙ valued-own entries one.0 one.1)
    ∙ ap (λ vs. valued_at entries one ++ vs) (all-valued entries f same all)

pub order-made : (entries : Entries) (numbers : Numbers) (groups : List Group) (made : List Valued) → AreNumbers entries numbers → groups ≡ (joined_lists entries entries).groups → made ≡ flat_map (valued_by (λ id. list_any (has_member id) groups)) numbers.definitions → made ≡ (model_from entries).order
order-made entries numbers groups made are same valued =
    valued ∙ ap (flat_map (valued_by (λ id. list_any (has_member id) groups))) are.definitions
    ∙ all-valued entries (λ id. list_any (has_member id) groups) (members-are entries groups (same ∙ kept kind.Group (group_of entries) 0 entries)) (enumerate_from 0 entries)

-- ---- the model

-- a model with its formulas and the order of values
abbrev pub finished : Model → List Formula → List Valued → Model
finished model formulas order = record {
  gates = model.gates;
  basics = model.basics;
  houses = model.houses;
  parameters = model.parameters;
  fault_trees = model.fault_trees;
  groups = model.groups;
  rules = model.rules;
  event_trees = model.event_trees;
  functionals = model.functionals;
  sequences = model.sequences;
  branches = model.branches;
  initiatings = model.initiatings;
  formulas = formulas;
  order = order;
}

pub model-made : (entries : Entries) (model : Model) (formulas : List Formula) (order : List Valued) → model ≡ joined_lists entries entries → formulas ≡ (model_from entries).formulas → order ≡ (model_from entries).order → finished model formulas order ≡ model_from entries
model-made entries model formulas order is made valued =
    ap (λ m. finished m formulas order) is
    ∙ ap (λ fs. finished (joined_lists entries entries) fs order) made
    ∙ ap (finished (joined_lists entries entries) (model_from entries).formulas) valued
    ∙ rw (
      kept kind.Gate (λ one. gate_of entries (0, one)) 0 entries,
      kept kind.HouseEvent house_of 0 entries,
      kept kind.Parameter (parameter_of entries) 0 entries,
      kept kind.FaultTree fault_tree_of 0 entries,
      kept kind.Group (group_of entries) 0 entries,
      kept kind.Rule (rule_of entries) 0 entries,
      kept kind.EventTree (event_tree_of entries) 0 entries,
      kept kind.FunctionalEvent (functional_of entries) 0 entries,
      kept kind.Sequence (sequence_of entries) 0 entries,
      kept kind.Branch (named_branch_of entries) 0 entries,
      kept kind.InitiatingEvent (initiating_of entries) 0 entries,
    ) refl
