-- What definitions say, row by row.
use Rattle.std.proofs.Common.{◌≡◌, ℕ, ◌+◌, Bool, true, false, cond, Option, None, Some, List, [], ◌∷◌, ◌++◌, codes, slice_get, Result, Ok, Err, IfOk, refl, sym, ap, ◌∙◌, ◌&&◌, append_assoc}
use Rattle.std.specs.List.{list_any, filter_map, cons_option}
use Rattle.std.specs.Option.{unwrap_or}
use Rattle.psa_model.specs.declared.draft.DraftBranchEnd.{DraftBranchEnd}
use Rattle.psa_model.specs.declared.draft.DraftBranchEnd.TheVariants.{Sequence}
use Rattle.psa_model.specs.declared.draft.DraftBranch.{DraftBranch}
use Rattle.psa_model.specs.declared.draft.DraftInstruction.{DraftInstruction}
use Rattle.psa_text.specs.declared.tree.Element.{Element}
use Rattle.psa_text.specs.declared.tree.Element.TheViews.{out-Element}
use Rattle.psa_model.specs.declared.draft.DefinitionKind.{DefinitionKind}
use Rattle.psa_model.specs.declared.draft.DefinitionKind.TheVariants as kind
use Rattle.psa_model.specs.declared.draft.DraftBody.{DraftBody}
use Rattle.psa_model.specs.declared.draft.DraftDefinition.{DraftDefinition}
use Rattle.psa_model.specs.declared.draft.DraftBody.TheVariants as body
use Rattle.psa_elements.specs.ElementTable as table
use Rattle.psa_elements.specs.ElementTable.{Row, label, attributes, rows_inside, has_tag, instructions, ends, in_root, in_container, in_event_tree, initial_state}
use Rattle.psa_elements.specs.DraftReading.{Surroundings, StartTag, Reading, reading_of, surroundings_inside, definitions_of, definitions_in, initial_state_of, instruction_of, end_of, some_definitions, an_initial_state, before_others, defines, defines_by_role, is_private, own_name, branch_in, first_in, reference}
use Rattle.psa_draft_parts.specs.declared.rows.PlainRow.{PlainRow}
use Rattle.psa_draft_parts.specs.declared.rows.PlainRow.TheVariants as plain
use Rattle.psa_draft_parts.specs.Rows.{row_of_plain, kind_of, may_be_private, model_data_rows, event_tree_rows}
use Rattle.psa_drafts.specs.Bodies.{rows_in, body_of}
use Rattle.psa_draft_parts.specs.Sayings.{size_of, start_tag, reading_as, reading_found, reading_among, readings_among, inside_among}
use Rattle.psa_draft_parts.proofs.Readings.{reading-as, unlabelled}

-- ---- definitions that no definition stands in

rows-plain : (row : PlainRow) → rows_inside (row_of_plain row) ≡ label ∷ attributes ∷ rows_in row
rows-plain plain.Gate = refl
rows-plain plain.BasicEvent = refl
rows-plain plain.HouseEvent = refl
rows-plain plain.Parameter = refl
rows-plain plain.PublicBasicEvent = refl
rows-plain plain.PublicHouseEvent = refl
rows-plain plain.PublicParameter = refl
rows-plain plain.Group = refl
rows-plain plain.InitiatingEvent = refl
rows-plain plain.FunctionalEvent = refl
rows-plain plain.Sequence = refl
rows-plain plain.Branch = refl
rows-plain plain.Rule = refl

no-label : (row : PlainRow) → list_any (has_tag (codes "label")) (rows_in row) ≡ false
no-label plain.Gate = refl
no-label plain.BasicEvent = refl
no-label plain.HouseEvent = refl
no-label plain.Parameter = refl
no-label plain.PublicBasicEvent = refl
no-label plain.PublicHouseEvent = refl
no-label plain.PublicParameter = refl
no-label plain.Group = refl
no-label plain.InitiatingEvent = refl
no-label plain.FunctionalEvent = refl
no-label plain.Sequence = refl
no-label plain.Branch = refl
no-label plain.Rule = refl

no-attributes : (row : PlainRow) → list_any (has_tag (codes "attributes")) (rows_in row) ≡ false
no-attributes plain.Gate = refl
no-attributes plain.BasicEvent = refl
no-attributes plain.HouseEvent = refl
no-attributes plain.Parameter = refl
no-attributes plain.PublicBasicEvent = refl
no-attributes plain.PublicHouseEvent = refl
no-attributes plain.PublicParameter = refl
no-attributes plain.Group = refl
no-attributes plain.InitiatingEvent = refl
no-attributes plain.FunctionalEvent = refl
no-attributes plain.Sequence = refl
no-attributes plain.Branch = refl
no-attributes plain.Rule = refl

around-plain : (row : PlainRow) (start : StartTag) → surroundings_inside (row_of_plain row) start ≡ start.around
around-plain plain.Gate start = refl
around-plain plain.BasicEvent start = refl
around-plain plain.HouseEvent start = refl
around-plain plain.Parameter start = refl
around-plain plain.PublicBasicEvent start = refl
around-plain plain.PublicHouseEvent start = refl
around-plain plain.PublicParameter start = refl
around-plain plain.Group start = refl
around-plain plain.InitiatingEvent start = refl
around-plain plain.FunctionalEvent start = refl
around-plain plain.Sequence start = refl
around-plain plain.Branch start = refl
around-plain plain.Rule start = refl

plain-reading : (row : PlainRow) (start : StartTag) (inside : List Reading)
    → reading_of (row_of_plain row) start inside
    ≡ some_definitions (record (defines (kind_of row) start (body_of row start inside)) {
      private = may_be_private
          row && is_private start;
    } ∷ [])
plain-reading plain.Gate start inside = refl
plain-reading plain.BasicEvent start inside = refl
plain-reading plain.HouseEvent start inside = refl
plain-reading plain.Parameter start inside = refl
plain-reading plain.PublicBasicEvent start inside = refl
plain-reading plain.PublicHouseEvent start inside = refl
plain-reading plain.PublicParameter start inside = refl
plain-reading plain.Group start inside = refl
plain-reading plain.InitiatingEvent start inside = refl
plain-reading plain.FunctionalEvent start inside = refl
plain-reading plain.Sequence start inside = refl
plain-reading plain.Branch start inside = refl
plain-reading plain.Rule start inside = refl

-- what an element of this row says: plain
pub says-plain : (row : PlainRow) (around : Surroundings) (n : ℕ) (e : Element)
    → reading_as (row_of_plain row) around n e
    ≡ some_definitions (record (defines (kind_of row) (start_tag around n e) (body_of row (start_tag around n e)
    (inside_among (rows_in row) around n e)))
    { private = may_be_private row && is_private (start_tag around n e) } ∷ [])
says-plain row around n e =
    let start : StartTag = start_tag around n e in
    reading-as (row_of_plain row) around n e
    ∙ ap (λ (a : Surroundings). reading_of (row_of_plain row) start (inside_among (rows_inside (row_of_plain row))
    a n e)) (around-plain row start)
    ∙ ap (λ (rows : List Row). reading_of (row_of_plain row) start (inside_among rows around n e)) (rows-plain row)
    ∙ ap (λ (inside : List Reading). reading_of (row_of_plain row) start inside)
    (unlabelled (rows_in row) around (n + 1) (out-Element e).children (no-label row) (no-attributes row))
    ∙ plain-reading row start (inside_among (rows_in row) around n e)

-- ---- definitions around others

-- what an element of this row says: model data
pub says-model_data : (around : Surroundings) (n : ℕ) (e : Element)
    → reading_as table.model_data around n e ≡ some_definitions (definitions_in (inside_among model_data_rows
    around n e))
says-model_data around n e =
    reading-as table.model_data around n e
    ∙ ap (λ (inside : List Reading). some_definitions (definitions_in inside)) (unlabelled model_data_rows around
    (n + 1) (out-Element e).children refl refl)

-- what an element of this row says: root
pub says-root : (around : Surroundings) (n : ℕ) (e : Element)
    → reading_as table.opsa_mef around n e ≡ some_definitions (definitions_in (inside_among in_root around n e))
says-root around n e =
    reading-as table.opsa_mef around n e
    ∙ ap (λ (inside : List Reading). some_definitions (definitions_in inside)) (unlabelled in_root around (n + 1)
    (out-Element e).children refl refl)

-- what an element of this row says: fault tree
pub says-fault_tree : (around : Surroundings) (n : ℕ) (e : Element)
    → reading_as table.define_fault_tree around n e
    ≡ before_others (defines kind.FaultTree (start_tag around n e) body.Nothing)
    (inside_among in_container (record around { container = own_name (start_tag around n e) ∷ [] }) n e)
says-fault_tree around n e =
    reading-as table.define_fault_tree around n e
    ∙ ap (λ (inside : List Reading). before_others (defines kind.FaultTree (start_tag around n e) body.Nothing) inside)
    (unlabelled in_container (record around { container = own_name (start_tag around n e) ∷ [] }) (n + 1)
    (out-Element e).children refl refl)

-- what an element of this row says: component
pub says-component : (around : Surroundings) (n : ℕ) (e : Element)
    → reading_as table.define_component around n e
    ≡ before_others (defines_by_role kind.Component (start_tag around n e) body.Nothing)
    (inside_among in_container (record around {
      container = around.container ++ own_name (start_tag around n e) ∷
          [];
      is_private = is_private (start_tag around n e);
    }) n e)
says-component around n e =
    reading-as table.define_component around n e
    ∙ ap (λ (inside : List Reading). before_others (defines_by_role kind.Component (start_tag around n e)
    body.Nothing) inside)
    (unlabelled in_container (record around {
      container = around.container ++ own_name (start_tag around n e) ∷ [];
      is_private = is_private (start_tag around n e);
    }) (n + 1) (out-Element e).children refl refl)

-- ---- event trees

-- what stands in an event tree says no instruction and no end
pub silent-row : (row : PlainRow) (around : Surroundings) (n : ℕ) (e : Element)
    → (instruction_of (reading_as (row_of_plain row) around n e) ≡ None) × (end_of (reading_as (row_of_plain row)
    around n e) ≡ None) × (initial_state_of (reading_as (row_of_plain row) around n e) ≡ None)
silent-row row around n e = (
  ap instruction_of (says-plain row around n e),
  ap end_of (says-plain row around n e),
  ap initial_state_of
      (says-plain row around n e),
)

-- what an element of this row says: initial
pub says-initial : (around : Surroundings) (n : ℕ) (e : Element)
    → reading_as table.initial_state around n e ≡ an_initial_state (branch_in (start_tag around n e) (inside_among
    (instructions ++ ends) around n e))
says-initial around n e = reading-as table.initial_state around n e

-- in an event tree stand a few definitions, and its initial state
pub data IsInTree : Option Row → Type 0 where
  no_row : IsInTree None
  a_functional_event : IsInTree (Some table.define_functional_event)
  a_sequence : IsInTree (Some table.define_sequence)
  a_branch : IsInTree (Some table.define_branch)
  a_state : IsInTree (Some table.initial_state)

is-in-tree : (a b c d : Bool) → IsInTree (cond a (Some table.define_functional_event) (cond b (Some
    table.define_sequence) (cond c (Some table.define_branch) (cond d (Some table.initial_state) None))))
is-in-tree true b c d = a_functional_event
is-in-tree false true c d = a_sequence
is-in-tree false false true d = a_branch
is-in-tree false false false true = a_state
is-in-tree false false false false = no_row

found-silent : (r : Option Row) → IsInTree r → (around : Surroundings) (n : ℕ) (e : Element)
    → (instruction_of (reading_found r around n e) ≡ None) × (end_of (reading_found r around n e) ≡ None)
found-silent _ no_row around n e = (refl, refl)
found-silent _ a_functional_event around n e = let s = silent-row plain.FunctionalEvent around n e in (s.0, s.1)
found-silent _ a_sequence around n e = let s = silent-row plain.Sequence around n e in (s.0, s.1)
found-silent _ a_branch around n e = let s = silent-row plain.Branch around n e in (s.0, s.1)
found-silent _ a_state around n e = (ap instruction_of (says-initial around n e), ap end_of (says-initial around n e))

one-silent : (around : Surroundings) (n : ℕ) (e : Element)
    → (instruction_of (reading_among event_tree_rows around n e) ≡ None) × (end_of (reading_among event_tree_rows
    around n e) ≡ None)
unfolding reading_among
one-silent around n e =
    found-silent _ (is-in-tree (has_tag (out-Element e).tag table.define_functional_event) (has_tag (out-Element
    e).tag table.define_sequence)
    (has_tag (out-Element e).tag table.define_branch) (has_tag (out-Element e).tag table.initial_state)) around n e

no-instructions : (around : Surroundings) (n : ℕ) (es : List Element) → filter_map instruction_of (readings_among
    event_tree_rows around n es) ≡ []
no-instructions around n [] = refl
no-instructions around n (e ∷ es) =
    ap (λ o. cons_option o (filter_map instruction_of (readings_among event_tree_rows around (n + size_of e) es)))
    (one-silent around n e).0 ∙ no-instructions around (n + size_of e) es

no-ends : (around : Surroundings) (n : ℕ) (es : List Element) → filter_map end_of (readings_among event_tree_rows
    around n es) ≡ []
no-ends around n [] = refl
no-ends around n (e ∷ es) =
    ap (λ o. cons_option o (filter_map end_of (readings_among event_tree_rows around (n + size_of e) es)))
    (one-silent around n e).1 ∙ no-ends around (n + size_of e) es

-- what is around those in a tree
abbrev pub around_in : Surroundings → ℕ → Element → Surroundings
around_in around n e = record around { container = own_name (start_tag around n e) ∷ [] }

-- what an element of this row says: event tree
pub says-event_tree : (around : Surroundings) (n : ℕ) (e : Element)
    → reading_as table.define_event_tree around n e
    ≡ before_others (defines kind.EventTree (start_tag around n e)
    (body.Walk (first_in initial_state_of (branch_in (start_tag around n e) []) (inside_among event_tree_rows
    (around_in around n e) n e))))
    (inside_among event_tree_rows (around_in around n e) n e)
says-event_tree around n e =
    let start : StartTag = start_tag around n e in
    let inside : List Reading = inside_among event_tree_rows (around_in around n e) n e in
    reading-as table.define_event_tree around n e
    ∙ ap (λ (all : List Reading). before_others (defines kind.EventTree start (body.Walk (first_in initial_state_of
    (branch_in start all) all))) all)
    (unlabelled event_tree_rows (around_in around n e) (n + 1) (out-Element e).children refl refl)
    ∙ ap (λ (is : List DraftInstruction). before_others (defines kind.EventTree start (body.Walk (first_in
    initial_state_of
    (record { instructions = is; end = first_in end_of (Sequence (reference start)) inside }) inside))) inside)
    (no-instructions (around_in around n e) (n + 1) (out-Element e).children)
    ∙ ap (λ (es : List DraftBranchEnd). before_others (defines kind.EventTree start (body.Walk (first_in
    initial_state_of
    (record { instructions = []; end = unwrap_or (slice_get es 0) (Sequence (reference start)) }) inside))) inside)
    (no-ends (around_in around n e) (n + 1) (out-Element e).children)

-- what is made of a definition is what its element says
pub plain-said : {X : Type 0} (row : PlainRow) (around : Surroundings) (n : ℕ) (e : Element) (its : DefinitionKind)
    (its_body : DraftBody) (private : Bool) (r : Result DraftDefinition X)
    → its ≡ kind_of row → its_body ≡ body_of row (start_tag around n e) (inside_among (rows_in row) around n e)
    → private ≡ (may_be_private row && is_private (start_tag around n e))
    → IfOk r (λ d. d ≡ record (defines its (start_tag around n e) its_body) { private = private })
    → IfOk r (λ d. some_definitions (d ∷ []) ≡ reading_as (row_of_plain row) around n e)
plain-said row around n e its its_body private (Err x) its_is body_is private_is h = tt
plain-said row around n e its its_body private (Ok d) its_is body_is private_is h =
    let start : StartTag = start_tag around n e in
    let whole : DraftBody = body_of row start (inside_among (rows_in row) around n e) in
    ap (λ (one : DraftDefinition). some_definitions (one ∷ []))
    (h ∙ ap (λ (k : DefinitionKind). record (defines k start its_body) { private = private }) its_is
    ∙ ap (λ (b : DraftBody). record (defines (kind_of row) start b) { private = private }) body_is
    ∙ ap (λ (p : Bool). record (defines (kind_of row) start whole) { private = p }) private_is)
    ∙ sym (says-plain row around n e)

-- ---- a container and the definitions inside it, behind those before

-- a fault tree before the definitions inside it
pub fault_tree-said : (around : Surroundings) (n : ℕ) (e : Element) (all : List DraftDefinition) (own :
    DraftDefinition) (inner : Surroundings) (cs : List Element)
    → own ≡ record (defines kind.FaultTree (start_tag around n e) body.Nothing) { private = false }
    → inner ≡ record around { container = own_name (start_tag around n e) ∷ [] } → cs ≡ (out-Element e).children
    → (all ++ own ∷ []) ++ definitions_in (readings_among in_container inner (n + 1) cs) ≡ all ++ definitions_of
    (reading_as table.define_fault_tree around n e)
fault_tree-said around n e all own inner cs own_is inner_is cs_is =
    append_assoc all (own ∷ []) (definitions_in (readings_among in_container inner (n + 1) cs))
    ∙ ap (λ (d : DraftDefinition). all ++ (d ∷ definitions_in (readings_among in_container inner (n + 1) cs))) own_is
    ∙ ap (λ (a : Surroundings). all ++ (defines kind.FaultTree (start_tag around n e) body.Nothing ∷ definitions_in
    (readings_among in_container a (n + 1) cs))) inner_is
    ∙ ap (λ (es : List Element). all ++ (defines kind.FaultTree (start_tag around n e) body.Nothing ∷
    definitions_in (readings_among in_container (record around {
      container = own_name (start_tag around n
          e) ∷ [];
    }) (n + 1) es))) cs_is
    ∙ ap (λ (r : Reading). all ++ definitions_of r) (sym (says-fault_tree around n e))

-- a component before the definitions inside it
pub component-said : (around : Surroundings) (n : ℕ) (e : Element) (all : List DraftDefinition) (own :
    DraftDefinition) (private : Bool) (inner : Surroundings) (cs : List Element)
    → own ≡ record (defines kind.Component (start_tag around n e) body.Nothing) { private = private } → private ≡
    is_private (start_tag around n e)
    → inner ≡ record around {
      container = around.container ++ own_name (start_tag around n e) ∷ [];
      is_private =
          private;
    } → cs ≡ (out-Element e).children
    → (all ++ own ∷ []) ++ definitions_in (readings_among in_container inner (n + 1) cs) ≡ all ++ definitions_of
    (reading_as table.define_component around n e)
component-said around n e all own private inner cs own_is private_is inner_is cs_is =
    append_assoc all (own ∷ []) (definitions_in (readings_among in_container inner (n + 1) cs))
    ∙ ap (λ (d : DraftDefinition). all ++ (d ∷ definitions_in (readings_among in_container inner (n + 1) cs))) own_is
    ∙ ap (λ (a : Surroundings). all ++ (record (defines kind.Component (start_tag around n e) body.Nothing) {
      private = private;
    } ∷ definitions_in (readings_among in_container a (n + 1) cs))) inner_is
    ∙ ap (λ (p : Bool). all ++ (record (defines kind.Component (start_tag around n e) body.Nothing) { private = p }
    ∷ definitions_in (readings_among in_container
    (record around { container = around.container ++ own_name (start_tag around n e) ∷ []; is_private = p }) (n +
    1) cs))) private_is
    ∙ ap (λ (es : List Element). all ++ (defines_by_role kind.Component (start_tag around n e) body.Nothing ∷
    definitions_in (readings_among in_container
    (record around {
      container = around.container ++ own_name (start_tag around n e) ∷ [];
      is_private = is_private
          (start_tag around n e);
    }) (n + 1) es))) cs_is
    ∙ ap (λ (r : Reading). all ++ definitions_of r) (sym (says-component around n e))

-- an event tree before the definitions inside it
pub tree-said : (around : Surroundings) (n : ℕ) (e : Element) (all inside : List DraftDefinition) (own :
    DraftDefinition) (walk : DraftBranch) (state : Option DraftBranch)
    → own ≡ record (defines kind.EventTree (start_tag around n e) (body.Walk walk)) { private = false }
    → walk ≡ unwrap_or state (branch_in (start_tag around n e) [])
    → state ≡ slice_get (filter_map initial_state_of (inside_among event_tree_rows (around_in around n e) n e)) 0
    → inside ≡ definitions_in (inside_among event_tree_rows (around_in around n e) n e)
    → (all ++ own ∷ []) ++ inside ≡ all ++ definitions_of (reading_as table.define_event_tree around n e)
tree-said around n e all inside own walk state own_is walk_is state_is inside_is =
    let start : StartTag = start_tag around n e in
    let said : List Reading = inside_among event_tree_rows (around_in around n e) n e in
    append_assoc all (own ∷ []) inside
    ∙ ap (λ (d : DraftDefinition). all ++ (d ∷ inside)) own_is
    ∙ ap (λ (w : DraftBranch). all ++ (defines kind.EventTree start (body.Walk w) ∷ inside)) walk_is
    ∙ ap (λ (o : Option DraftBranch). all ++ (defines kind.EventTree start (body.Walk (unwrap_or o (branch_in start
    []))) ∷ inside)) state_is
    ∙ ap (λ (ds : List DraftDefinition). all ++ (defines kind.EventTree start (body.Walk (first_in initial_state_of
    (branch_in start []) said)) ∷ ds)) inside_is
    ∙ ap (λ (r : Reading). all ++ definitions_of r) (sym (says-event_tree around n e))
