-- What stands in a fault tree or an event tree names one that is defined before.
use Rattle.std.proofs.Common.{◌≡◌, inl, inr, ℕ, suc, ◌+◌, Bool, true, false, ◌&&◌, ◌||◌, List, [], ◌∷◌, ◌++◌, map, Some, refl, sym, subst, ◌∙◌, append_assoc, append-nil}
use Rattle.std.specs.Prelude.{find, filter_map}
use Rattle.std.specs.List.{AllByRecursion, flat_map, enumerate_from, list_any, list_all}
use Rattle.std.specs.Str.{bytes_eq}
use Rattle.std.proofs.lemmas.Slice.Eq.{bytes_eq-Decides}
use Rattle.std.proofs.lemmas.Bool.{false≢true, and_parts, and_from, or_cases, or_left, or_right}
use Rattle.std.proofs.lemmas.List.Folds.{list_any-append}
use Rattle.psa_text.specs.declared.tree.Element.{Element, roll-Element}
use Rattle.psa_text.specs.declared.tree.Element.TheOpen.{Element-F}
use Rattle.psa_model.specs.PathNames.{Text}
use Rattle.psa_model.specs.declared.draft.DraftDefinition.{DraftDefinition}
use Rattle.psa_model.specs.declared.draft.DefinitionKind.TheVariants as kind
use Rattle.psa_model.specs.declared.draft.DraftBody.TheVariants as body
use Rattle.psa_model.specs.declared.draft.DraftTest.{DraftTest}
use Rattle.psa_model.specs.declared.draft.DraftInstruction.{DraftInstruction}
use Rattle.psa_model.specs.Drafts.{same_texts, is_fault_tree, is_event_tree, is_component, names_container, names_event_tree, has_container, have_containers}
use Rattle.psa_elements.specs.ElementTable.{Row, opsa_mef, define_fault_tree, define_component, model_data, define_gate, define_basic_event, define_house_event, define_parameter, public_basic_event, public_house_event, public_parameter, define_group, define_initiating_event, define_event_tree, define_functional_event, define_sequence, define_branch, define_rule, if_instruction, rows_inside, has_tag}
use Rattle.psa_elements.specs.DraftReading.{element_reading, Surroundings, StartTag, Reading, reading_of, conditional, own_name, defines, defines_by_role, branch_in, first_in, initial_state_of, test_of, instructions_in, definitions_of, definitions_in, child_reading, children_readings, surroundings_inside, whole_file, file_definitions, draft_of}
use Rattle.psa_reader.proofs.ElementForms.{element-induction, reading-at, start_of, inside_of}
use Rattle.psa_reader.proofs.ElementWeights.{child-reads, size_of}

-- what an element of a row wants around it: nothing; a fault tree and components; one of both; an event tree; or anything
data Need : Type 0 where
  nothing_around in_fault_tree in_fault_tree_or_not in_event_tree anything : Need

abbrev is_empty : List Text → Bool
is_empty [] = true
is_empty (x ∷ xs) = false

abbrev meets : Need → List DraftDefinition → List Text → Bool
meets nothing_around before around = is_empty around
meets in_fault_tree before around = names_container before around
meets in_fault_tree_or_not before around = is_empty around || names_container before around
meets in_event_tree before around = names_event_tree before around
meets anything before around = true

abbrev need_of : Row → Need
need_of opsa_mef = nothing_around
need_of model_data = nothing_around
need_of define_fault_tree = nothing_around
need_of define_event_tree = nothing_around
need_of define_initiating_event = nothing_around
need_of define_rule = nothing_around
need_of public_basic_event = nothing_around
need_of public_house_event = nothing_around
need_of public_parameter = nothing_around
need_of define_gate = in_fault_tree
need_of define_basic_event = in_fault_tree
need_of define_house_event = in_fault_tree
need_of define_parameter = in_fault_tree
need_of define_component = in_fault_tree
need_of define_group = in_fault_tree_or_not
need_of define_functional_event = in_event_tree
need_of define_sequence = in_event_tree
need_of define_branch = in_event_tree
need_of _ = anything

-- ---- names

same-bytes : (x : Text) → bytes_eq x x ≡ true
same-bytes x = (bytes_eq-Decides x x).1 refl

same-texts : (xs : List Text) → same_texts xs xs ≡ true
same-texts [] = refl
same-texts (x ∷ xs) = rw (same-bytes x) (same-texts xs)

any-more : {A : Type 0} (test : A → Bool) (xs ys : List A) → list_any test xs ≡ true → list_any test (xs ++ ys) ≡ true
any-more test xs ys h = list_any-append test xs ys ∙ or_left (list_any test xs) (list_any test ys) h

any-last : {A : Type 0} (test : A → Bool) (xs : List A) (x : A) → test x ≡ true → list_any test (xs ++ x ∷ []) ≡ true
any-last test xs x h =
    list_any-append test xs (x ∷ []) ∙ or_right (list_any test xs) (list_any test (x ∷ [])) (or_left (test x) false h)

container-more : (before more : List DraftDefinition) (around : List Text) → names_container before around ≡ true
    → names_container (before ++ more) around ≡ true
container-more before more [] h = h
container-more before more (tree ∷ []) h =
    any-more (λ one. is_fault_tree one.kind && bytes_eq one.name tree) before more h
container-more before more (tree ∷ part ∷ parts) h =
    any-more (λ one. is_component one.kind && same_texts (one.container ++ one.name ∷ [])
    (tree ∷ part ∷ parts)) before more h

events-more : (before more : List DraftDefinition) (around : List Text) → names_event_tree before around ≡ true
    → names_event_tree (before ++ more) around ≡ true
events-more before more [] h = h
events-more before more (tree ∷ []) h = any-more (λ one. is_event_tree one.kind && bytes_eq one.name tree) before more h
events-more before more (tree ∷ part ∷ parts) h = h

-- what is met stays met where more is defined
meets-more : (need : Need) (before more : List DraftDefinition) (around : List Text) → meets need before around ≡ true
    → meets need (before ++ more) around ≡ true
meets-more nothing_around before more around h = h
meets-more in_fault_tree before more around h = container-more before more around h
meets-more in_fault_tree_or_not before more around h =
    elim (or_cases (is_empty around) (names_container before around) h) [
      | inl none ↦ or_left (is_empty around) (names_container (before ++ more) around) none
      | inr named ↦ or_right (is_empty around) (names_container (before ++ more) around)
          (container-more before more around named)
    ]
meets-more in_event_tree before more around h = events-more before more around h
meets-more anything before more around h = refl

tree-named : (before : List DraftDefinition) (d : DraftDefinition) (name : Text) → is_fault_tree d.kind ≡ true
    → d.name ≡ name → names_container (before ++ d ∷ []) (name ∷ []) ≡ true
tree-named before d name is same =
    any-last (λ one. is_fault_tree one.kind && bytes_eq one.name name) before d (rw (is, same, same-bytes name) refl)

events-named : (before : List DraftDefinition) (d : DraftDefinition) (name : Text) → is_event_tree d.kind ≡ true
    → d.name ≡ name → names_event_tree (before ++ d ∷ []) (name ∷ []) ≡ true
events-named before d name is same =
    any-last (λ one. is_event_tree one.kind && bytes_eq one.name name) before d (rw (is, same, same-bytes name) refl)

part-named : (before : List DraftDefinition) (d : DraftDefinition) (around : List Text) (name : Text)
    → names_container before around ≡ true
    → is_component d.kind ≡ true → d.container ++ d.name ∷ [] ≡ around ++ name ∷ [] → names_container (before ++ d ∷ [])
    (around ++ name ∷ []) ≡ true
part-named before d [] name named is same = absurd (false≢true named)
part-named before d (tree ∷ []) name named is same =
    any-last (λ one. is_component one.kind && same_texts (one.container ++ one.name ∷ []) (tree ∷ name ∷ [])) before d
    (rw (is, same) (same-texts (tree ∷ name ∷ [])))
part-named before d (tree ∷ part ∷ parts) name named is same =
    any-last (λ one. is_component one.kind && same_texts (one.container ++ one.name ∷ [])
    (tree ∷ part ∷ (parts ++ name ∷ []))) before d
    (rw (is, same) (same-texts (tree ∷ part ∷ (parts ++ name ∷ []))))

-- ---- what the rows inside a row want

abbrev all_met : Row → List DraftDefinition → List Text → Bool
all_met parent before around = list_all (λ row. meets (need_of row) before around) (rows_inside parent)

fault-tree-met : (before : List DraftDefinition) (around : List Text) → names_container before around ≡ true
    → all_met define_fault_tree before around ≡ true
fault-tree-met before [] h = absurd (false≢true h)
fault-tree-met before (tree ∷ []) h = rw h refl
fault-tree-met before (tree ∷ part ∷ parts) h = rw h refl

component-met : (before : List DraftDefinition) (around : List Text) → names_container before around ≡ true
    → all_met define_component before around ≡ true
component-met before [] h = absurd (false≢true h)
component-met before (tree ∷ []) h = rw h refl
component-met before (tree ∷ part ∷ parts) h = rw h refl

event-tree-met : (before : List DraftDefinition) (around : List Text) → names_event_tree before around ≡ true
    → all_met define_event_tree before around ≡ true
event-tree-met before [] h = absurd (false≢true h)
event-tree-met before (tree ∷ []) h = rw h refl
event-tree-met before (tree ∷ part ∷ parts) h = absurd (false≢true h)

at-empty : (test : List Text → Bool) → test [] ≡ true → (around : List Text) → is_empty around ≡ true
    → test around ≡ true
at-empty test holds [] h = holds
at-empty test holds (x ∷ xs) h = absurd (false≢true h)

-- ---- one definition

alone-there : (holds : Bool) → holds ≡ true → (holds && true) ≡ true
alone-there holds h = rw h refl

abbrev either : List DraftDefinition → List Text → Bool
either before around = names_container before around || names_event_tree before around

in-tree : (before : List DraftDefinition) (test : List Text → Bool) → test [] ≡ true
    → ((x : Text) (xs : List Text) → test (x ∷ xs) ≡ either before (x ∷ xs))
    → (around : List Text) → names_container before around ≡ true → test around ≡ true
in-tree before test holds same [] h = holds
in-tree before test holds same (x ∷ xs) h =
    same x xs ∙ or_left (names_container before (x ∷ xs)) (names_event_tree before (x ∷ xs)) h

in-tree-or-not : (before : List DraftDefinition) (around : List Text)
    → (is_empty around || names_container before around) ≡ true → has_container before kind.Group around ≡ true
in-tree-or-not before [] h = refl
in-tree-or-not before (x ∷ xs) h = or_left (names_container before (x ∷ xs)) (names_event_tree before (x ∷ xs)) h

conditional-there : (before : List DraftDefinition) (tests : List DraftTest) (steps : List DraftInstruction)
    → have_containers before (definitions_of (conditional tests steps)) ≡ true
conditional-there before [] steps = refl
conditional-there before (one ∷ tests) [] = refl
conditional-there before (one ∷ tests) (first ∷ others) = refl

row-there : (row : Row) (start : StartTag) (inside : List Reading) (before : List DraftDefinition)
    → meets (need_of row) before start.around.container ≡ true
    → ((known : List DraftDefinition) → all_met row known (surroundings_inside row start).container ≡ true
    → have_containers known (definitions_in inside) ≡ true)
    → have_containers before (definitions_of (reading_of row start inside)) ≡ true
row-there opsa_mef start inside before met rest =
    rest before (at-empty (λ around. all_met opsa_mef before around) refl start.around.container met)
row-there model_data start inside before met rest =
    rest before (at-empty (λ around. all_met model_data before around) refl start.around.container met)
row-there define_fault_tree start inside before met rest =
    let d = defines kind.FaultTree start body.Nothing in
    and_from (has_container before kind.FaultTree start.around.container)
    (have_containers (before ++ d ∷ []) (definitions_in inside))
    (at-empty (λ around. has_container before kind.FaultTree around) refl start.around.container met)
    (rest (before ++ d ∷ [])
    (fault-tree-met (before ++ d ∷ []) (own_name start ∷ []) (tree-named before d (own_name start) refl refl)))
row-there define_event_tree start inside before met rest =
    let d = defines kind.EventTree start (body.Walk (first_in initial_state_of (branch_in start inside) inside)) in
    and_from (has_container before kind.EventTree start.around.container)
    (have_containers (before ++ d ∷ []) (definitions_in inside))
    (at-empty (λ around. has_container before kind.EventTree around) refl start.around.container met)
    (rest (before ++ d ∷ [])
    (event-tree-met (before ++ d ∷ []) (own_name start ∷ []) (events-named before d (own_name start) refl refl)))
row-there define_component start inside before met rest =
    let d = defines_by_role kind.Component start body.Nothing in
    and_from (names_container before start.around.container)
    (have_containers (before ++ d ∷ []) (definitions_in inside)) met
    (rest (before ++ d ∷ [])
    (component-met (before ++ d ∷ []) (start.around.container ++ own_name start ∷ [])
    (part-named before d start.around.container (own_name start) met refl refl)))
row-there define_initiating_event start inside before met rest =
    alone-there (has_container before kind.InitiatingEvent start.around.container)
    (at-empty (λ around. has_container before kind.InitiatingEvent around) refl start.around.container met)
row-there define_rule start inside before met rest =
    alone-there (has_container before kind.Rule start.around.container)
    (at-empty (λ around. has_container before kind.Rule around) refl start.around.container met)
row-there public_basic_event start inside before met rest =
    alone-there (has_container before kind.BasicEvent start.around.container)
    (at-empty (λ around. has_container before kind.BasicEvent around) refl start.around.container met)
row-there public_house_event start inside before met rest =
    alone-there (has_container before kind.HouseEvent start.around.container)
    (at-empty (λ around. has_container before kind.HouseEvent around) refl start.around.container met)
row-there public_parameter start inside before met rest =
    alone-there (has_container before kind.Parameter start.around.container)
    (at-empty (λ around. has_container before kind.Parameter around) refl start.around.container met)
row-there define_gate start inside before met rest = alone-there (names_container before start.around.container) met
row-there define_basic_event start inside before met rest =
    alone-there (has_container before kind.BasicEvent start.around.container)
    (in-tree before (λ around. has_container before kind.BasicEvent around) refl
    (λ x xs. refl) start.around.container met)
row-there define_house_event start inside before met rest =
    alone-there (has_container before kind.HouseEvent start.around.container)
    (in-tree before (λ around. has_container before kind.HouseEvent around) refl
    (λ x xs. refl) start.around.container met)
row-there define_parameter start inside before met rest =
    alone-there (has_container before kind.Parameter start.around.container)
    (in-tree before (λ around. has_container before kind.Parameter around) refl
    (λ x xs. refl) start.around.container met)
row-there define_group start inside before met rest =
    alone-there (has_container before kind.Group start.around.container)
    (in-tree-or-not before start.around.container met)
row-there define_functional_event start inside before met rest =
    alone-there (names_event_tree before start.around.container) met
row-there define_sequence start inside before met rest =
    alone-there (names_event_tree before start.around.container) met
row-there define_branch start inside before met rest = alone-there (names_event_tree before start.around.container) met
row-there if_instruction start inside before met rest =
    conditional-there before (filter_map test_of inside) (instructions_in inside)
row-there _ start inside before met rest = refl

-- ---- elements

pub found-passes : {A : Type 0} (test passes : A → Bool) (xs : List A) (x : A) → find test xs ≡ Some x
    → list_all passes xs ≡ true → passes x ≡ true
found-passes test passes [] x found all = absurd (cc)
found-passes test passes (y ∷ ys) x found all =
    by_test (test y) refl (λ f. found-passes test passes ys x f (and_parts (passes y) (list_all passes ys) all).1)
  where
    by_test : (b : Bool) → test y ≡ b → (find test ys ≡ Some x → passes x ≡ true) → passes x ≡ true
    by_test true e rest =
        let same : Some y ≡ Some x = rw e at found in
        let one : y ≡ x = cc in
        subst (λ z. passes z ≡ true) one (and_parts (passes y) (list_all passes ys) all).0
    by_test false e rest = rest (rw e at found)

all-more : {A : Type 0} (test other : A → Bool) → ((x : A) → test x ≡ true → other x ≡ true) → (xs : List A)
    → list_all test xs ≡ true → list_all other xs ≡ true
all-more test other more [] h = refl
all-more test other more (x ∷ xs) h =
    let parts = and_parts (test x) (list_all test xs) h in
    and_from (other x) (list_all other xs) (more x parts.0) (all-more test other more xs parts.1)

there-append : (before xs ys : List DraftDefinition) → have_containers before xs ≡ true
    → have_containers (before ++ xs) ys ≡ true → have_containers before (xs ++ ys) ≡ true
there-append before [] ys a b = rw append-nil at b
there-append before (x ∷ xs) ys a b =
    let parts = and_parts (has_container before x.kind x.container) (have_containers (before ++ x ∷ []) xs) a in
    and_from (has_container before x.kind x.container) (have_containers (before ++ x ∷ []) (xs ++ ys)) parts.0
    (there-append (before ++ x ∷ []) xs ys parts.1
    (subst (λ known. have_containers known ys ≡ true) (sym (append_assoc before (x ∷ []) xs)) b))

abbrev IsThere : Element → Type 0
IsThere e = (row : Row) (around : Surroundings) (number : ℕ) (before : List DraftDefinition) → meets
    (need_of row) before around.container ≡ true
    → have_containers before (definitions_of ((element_reading e).reading row around number)) ≡ true

children-there : (parent : Row) (around : Surroundings) (es : List Element) (number : ℕ) (before : List DraftDefinition)
    → all_met parent before around.container ≡ true → AllByRecursion IsThere es
    → have_containers before (definitions_in (children_readings parent around number (map element_reading es))) ≡ true
children-there parent around [] number before met all = refl
children-there parent around (e ∷ es) number before met all =
    let first : have_containers before (definitions_of (child_reading parent around number (element_reading e)))
    ≡ true =
    child-reads (λ r. have_containers before (definitions_of r) ≡ true) parent around number (element_reading e) refl
    (λ row found. all.0 row around number before
    (found-passes (has_tag (element_reading e).tag) (λ (r : Row). meets (need_of r) before around.container)
    (rows_inside parent) row found met)) in
    let known = before ++ definitions_of (child_reading parent around number (element_reading e)) in
    there-append before (definitions_of (child_reading parent around number (element_reading e)))
    (definitions_in (children_readings parent around (number + size_of e) (map element_reading es))) first
    (children-there parent around es (number + size_of e) known
    (all-more (λ (r : Row). meets (need_of r) before around.container)
    (λ (r : Row). meets (need_of r) known around.container)
    (λ r h. meets-more (need_of r) before
    (definitions_of (child_reading parent around number (element_reading e))) around.container h)
    (rows_inside parent) met) all.1)

there-step : (x : Element-F Element) → AllByRecursion IsThere x.children → IsThere (roll-Element x)
there-step x all row around number before met =
    let start = start_of x around number in
    subst (λ r. have_containers before (definitions_of r) ≡ true) (sym (reading-at x row around number))
    (row-there row start (inside_of x row around number) before met
    (λ known all_are. children-there row (surroundings_inside row start) x.children (suc number) known all_are all))

element-there : (e : Element) → IsThere e
element-there = element-induction IsThere there-step

files-there : (file : ℕ) (roots : List Element) (before : List DraftDefinition)
    → have_containers before (flat_map file_definitions (enumerate_from file roots)) ≡ true
files-there file [] before = refl
files-there file (root ∷ roots) before =
    there-append before (file_definitions (file, root)) (flat_map file_definitions (enumerate_from (file + 1) roots))
    (element-there root opsa_mef (whole_file file) 0 before refl)
    (files-there (file + 1) roots (before ++ file_definitions (file, root)))

-- Each definition of a draft has its container among those before it.
pub draft-contained : (roots : List Element) → have_containers [] (draft_of roots).definitions ≡ true
draft-contained roots = files-there 0 roots []
