-- The fault tree or event tree around a definition stands in the model.
use Rattle.std.proofs.Common.{◌≡◌, inl, inr, ◌<◌, ◌==◌, ℕ, true, List, [], ◌∷◌, ◌++◌, Option, map, length, ◌&&◌, refl, ap, ◌∙◌, subst, arith}
use Rattle.std.proofs.lemmas.Bool.{false≢true, and_parts}
use Rattle.std.proofs.lemmas.List.{append_assoc}
use Rattle.std.proofs.lemmas.Option.{slice_get_within}
use Rattle.std.specs.Prelude.{unwrap_or}
use Rattle.std.specs.Str.{bytes_eq}
use Rattle.psa_model.specs.PathNames.{Text}
use Rattle.psa_model.specs.declared.draft.DefinitionKind.{DefinitionKind}
use Rattle.psa_model.specs.declared.draft.DefinitionKind.TheVariants as kind
use Rattle.psa_model.specs.declared.draft.DraftDefinition.{DraftDefinition}
use Rattle.psa_model.specs.Drafts.{same_texts, is_fault_tree, is_event_tree, is_component, names_container, names_event_tree, has_container, have_containers}
use Rattle.psa_names.specs.Outlines.{Entry, entry_of}
use Rattle.psa_names.specs.Ids.{kind_number, is_kind, all_of_kind, tree_id}
use Rattle.psa_names.proofs.ListPlaces.{Has, has-none, has-cases, has-left, append-cases, has-map, has-kept, any-from}
use Rattle.psa_names.proofs.FirstPlaces.{position-of, position-at, has-enumerated}
use Rattle.psa_checks.proofs.BasicEvents.{text-exact, text-own}

-- ---- containers

-- the first of these names is that of a fault tree among the definitions
abbrev IsRooted : List DraftDefinition → List Text → Type 0
IsRooted all [] = ⊥
IsRooted all (tree ∷ parts) = (one : DraftDefinition) × Has all one × (is_fault_tree one.kind ≡ true)
    × (one.name ≡ tree)

-- the first of these names is that of an event tree among the definitions
abbrev IsInEventTree : List DraftDefinition → List Text → Type 0
IsInEventTree all [] = ⊥
IsInEventTree all (tree ∷ parts) = (one : DraftDefinition) × Has all one × (is_event_tree one.kind ≡ true)
    × (one.name ≡ tree)

rooted-more : (all more : List DraftDefinition) (around : List Text) → IsRooted all around
    → IsRooted (all ++ more) around
rooted-more all more [] h = h
rooted-more all more (tree ∷ parts) h = (h.0, has-left all more h.0 h.1, h.2, h.3)

inner-rooted : (before : List DraftDefinition) (around : List Text) (name tree part : Text) (parts : List Text)
    → IsRooted before around → same_texts (around ++ name ∷ []) (tree ∷ part ∷ parts) ≡ true
    → IsRooted before (tree ∷ part ∷ parts)
inner-rooted before [] name tree part parts h same = absurd h
inner-rooted before (t ∷ ts) name tree part parts h same =
    (h.0, h.1, h.2, h.3 ∙ text-exact t tree (and_parts (bytes_eq t tree) _ same).0)

-- the container of each component among these is rooted in them
abbrev AreRooted : List DraftDefinition → Type 0
AreRooted before = (one : DraftDefinition) → Has before one → is_component one.kind ≡ true
    → IsRooted before one.container

named-rooted : (before : List DraftDefinition) → AreRooted before → (around : List Text)
    → names_container before around ≡ true → IsRooted before around
named-rooted before rooted [] h = absurd (false≢true h)
named-rooted before rooted (tree ∷ []) h =
    let r = any-from (λ one. is_fault_tree one.kind && bytes_eq one.name tree) before h in
    let parts = and_parts (is_fault_tree r.0.kind) (bytes_eq r.0.name tree) r.2 in
    (r.0, r.1, parts.0, text-exact r.0.name tree parts.1)
named-rooted before rooted (tree ∷ part ∷ parts) h =
    let r = any-from (λ one. is_component one.kind && same_texts (one.container ++ one.name ∷ [])
    (tree ∷ part ∷ parts)) before h in
    let both = and_parts (is_component r.0.kind) (same_texts (r.0.container ++ r.0.name ∷ []) (tree ∷ part ∷ parts))
    r.2 in
    inner-rooted before r.0.container r.0.name tree part parts (rooted r.0 r.1 both.0) both.1

component-container : (before : List DraftDefinition) (its : DefinitionKind) (around : List Text)
    → is_component its ≡ true → has_container before its around ≡ true → names_container before around ≡ true
component-container before kind.Component around is h = h
component-container before _ around is h = absurd (false≢true is)

rooted-next : (before : List DraftDefinition) (one : DraftDefinition) → AreRooted before
    → has_container before one.kind one.container ≡ true → AreRooted (before ++ one ∷ [])
rooted-next before one rooted h other here component = elim (append-cases before (one ∷ []) other here) [
  | inl earlier ↦ rooted-more before (one ∷ []) other.container (rooted other earlier component)
  | inr last ↦ elim (has-cases one other [] last) [
    | inl same ↦ subst (λ (d : DraftDefinition). IsRooted (before ++ one ∷ []) d.container) same
        (rooted-more before (one ∷ []) one.container
        (named-rooted before rooted one.container
        (component-container before one.kind one.container
        (ap (λ (d : DraftDefinition). is_component d.kind) same ∙ component) h)))
    | inr none ↦ absurd (has-none other none)
  ]
]

-- what is said of the containers of definitions behind some
abbrev IsContained : List DraftDefinition → DraftDefinition → Type 0
IsContained all one = (one.kind ≡ kind.Gate → IsRooted all one.container)
    × (one.kind ≡ kind.FunctionalEvent → IsInEventTree all one.container)
    × (one.kind ≡ kind.Sequence → IsInEventTree all one.container)
    × (one.kind ≡ kind.Branch → IsInEventTree all one.container)

in-event-tree : (before more : List DraftDefinition) (around : List Text) → names_event_tree before around ≡ true
    → IsInEventTree (before ++ more) around
in-event-tree before more [] h = absurd (false≢true h)
in-event-tree before more (tree ∷ []) h =
    let r = any-from (λ one. is_event_tree one.kind && bytes_eq one.name tree) before h in
    let parts = and_parts (is_event_tree r.0.kind) (bytes_eq r.0.name tree) r.2 in
    (r.0, has-left before more r.0 r.1, parts.0, text-exact r.0.name tree parts.1)
in-event-tree before more (tree ∷ part ∷ parts) h = absurd (false≢true h)

contained : (before more : List DraftDefinition) (one : DraftDefinition) → AreRooted before
    → has_container before one.kind one.container ≡ true → IsContained (before ++ more) one
contained before more one rooted h = (
  (λ is. rooted-more before more one.container
      (named-rooted before rooted one.container (subst (λ k. has_container before k one.container ≡ true) is h))),
  (λ is. in-event-tree before more one.container (subst (λ k. has_container before k one.container ≡ true) is h)),
  (λ is. in-event-tree before more one.container (subst (λ k. has_container before k one.container ≡ true) is h)),
  (λ is. in-event-tree before more one.container (subst (λ k. has_container before k one.container ≡ true) is h)),
)

all-contained : (before all : List DraftDefinition) → AreRooted before → have_containers before all ≡ true
    → (one : DraftDefinition) → Has all one → IsContained (before ++ all) one
all-contained before [] rooted h one here = absurd (has-none one here)
all-contained before (d ∷ all) rooted h one here =
    let parts = and_parts (has_container before d.kind d.container) (have_containers (before ++ d ∷ []) all) h in
    elim (has-cases d one all here) [
      | inl same ↦ subst (λ (x : DraftDefinition). IsContained (before ++ d ∷ all) x) same
          (contained before (d ∷ all) d rooted parts.0)
      | inr later ↦ subst (λ (ds : List DraftDefinition). IsContained ds one) (append_assoc before (d ∷ []) all)
          (all-contained (before ++ d ∷ []) all (rooted-next before d rooted parts.0) parts.1 one later)
    ]

none-rooted : AreRooted []
none-rooted one here = absurd (has-none one here)

-- each definition is contained as its kind
pub each-contained : (all : List DraftDefinition) → have_containers [] all ≡ true → (one : DraftDefinition)
    → Has all one → IsContained all one
each-contained all h one here = all-contained [] all none-rooted h one here

-- ---- trees

tree-below : (its : DefinitionKind) (definitions : List DraftDefinition) (name : Text) (names : List Text)
    (one : DraftDefinition) → Has definitions one → is_kind its (entry_of one) ≡ true → one.name ≡ name
    → tree_id its (map entry_of definitions) (name ∷ names) < length (all_of_kind its (map entry_of definitions))
tree-below its definitions name names one here is same =
    let entries = map entry_of definitions in
    let there = has-map entry_of definitions one here in
    let among = has-kept (λ (o : ℕ × Entry). is_kind its o.1) _ (there.0, entry_of one)
    (has-enumerated entries there.0 (entry_of one) there.1) is in
    let right : bytes_eq one.name name ≡ true = ap (λ (n : Text). bytes_eq n name) same ∙ text-own name in
    let r = position-of (λ (o : ℕ × Entry). bytes_eq o.1.name name) (all_of_kind its entries) (there.0, entry_of one)
    among right in
    let at = position-at (λ (o : ℕ × Entry). bytes_eq o.1.name name) (all_of_kind its entries) r.0 r.1 in
    let id : tree_id its entries (name ∷ names) ≡ r.0 = ap (λ (o : Option ℕ). unwrap_or o 0) r.1 in
    let below = slice_get_within (all_of_kind its entries) r.0 at.0 at.1 in
    omega (arith, id, below)

fault-tree-kind : (its : DefinitionKind) → is_fault_tree its ≡ true
    → kind_number its == kind_number kind.FaultTree ≡ true
fault-tree-kind kind.FaultTree h = refl
fault-tree-kind _ h = absurd (false≢true h)

event-tree-kind : (its : DefinitionKind) → is_event_tree its ≡ true
    → kind_number its == kind_number kind.EventTree ≡ true
event-tree-kind kind.EventTree h = refl
event-tree-kind _ h = absurd (false≢true h)

-- the fault tree around a definition is one of the model
pub fault-tree-stands : (definitions : List DraftDefinition) (around : List Text) → IsRooted definitions around
    → tree_id kind.FaultTree (map entry_of definitions) around < length
    (all_of_kind kind.FaultTree (map entry_of definitions))
fault-tree-stands definitions [] h = absurd h
fault-tree-stands definitions (tree ∷ parts) h = tree-below kind.FaultTree definitions tree parts h.0 h.1
    (fault-tree-kind h.0.kind h.2) h.3

-- the event tree around a definition is one of the model
pub event-tree-stands : (definitions : List DraftDefinition) (around : List Text) → IsInEventTree definitions around
    → tree_id kind.EventTree (map entry_of definitions) around < length
    (all_of_kind kind.EventTree (map entry_of definitions))
event-tree-stands definitions [] h = absurd h
event-tree-stands definitions (tree ∷ parts) h = tree-below kind.EventTree definitions tree parts h.0 h.1
    (event-tree-kind h.0.kind h.2) h.3
