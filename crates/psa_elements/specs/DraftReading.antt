-- What elements say that have their shape: the draft of a list of files, by the rows of the element table. (The
-- meaning of the elements is that of the Open-PSA Model Exchange Format 2.0d in the profile.)
-- An element says something by its row, by what stands around it, and by its number: that of the elements of its
-- file that begin before it.
use Rattle.std.specs.Prelude.{ℕ, suc, ◌+◌, Bool, false, List, [], ◌∷◌, ◌++◌, Option, Some, None, pos, map, sum, codes, filter_map, flat_map, slice_get, if◌then◌else◌}
use Rattle.std.specs.List.{list_any, enumerate_from}
use Rattle.std.specs.Option.{option_map, option_map_or, unwrap_or}
use Rattle.std.specs.Result.{result_ok}
use Rattle.std.specs.Str.{bytes_eq}
use Rattle.std.specs.Str.Parse.{digits_value}
use Rattle.psa_number.specs.Scaled.{Scaled}
use Rattle.psa_number.specs.DecimalText.{decimal_of}
use Rattle.psa_text.specs.declared.tree.Element.{Element}
use Rattle.psa_text.specs.declared.tree.Element.TheOpen.{Element-F}
use Rattle.psa_text.specs.declared.tree.Element.TheFolds.{fold-Element}
use Rattle.psa_text.specs.declared.tree.Attribute.{Attribute}
use Rattle.psa_model.specs.declared.ids.Place.{Place}
use Rattle.psa_model.specs.declared.formula.Connective.{Connective}
use Rattle.psa_model.specs.declared.formula.Connective.TheVariants.{Atleast, Cardinality}
use Rattle.psa_model.specs.declared.model.GroupModel.{GroupModel}
use Rattle.psa_model.specs.declared.model.GroupModel.TheVariants.{Beta, Mgl, Alpha}
use Rattle.psa_model.specs.declared.draft.Draft.{Draft}
use Rattle.psa_model.specs.declared.draft.DraftDefinition.{DraftDefinition}
use Rattle.psa_model.specs.declared.draft.DefinitionKind.{DefinitionKind}
use Rattle.psa_model.specs.declared.draft.DefinitionKind.TheVariants as kind
use Rattle.psa_model.specs.declared.draft.DraftBody.{DraftBody}
use Rattle.psa_model.specs.declared.draft.DraftBody.TheVariants as body
use Rattle.psa_model.specs.declared.draft.DraftReference.{DraftReference}
use Rattle.psa_model.specs.declared.draft.EventKind.{EventKind}
use Rattle.psa_model.specs.declared.draft.EventKind.TheVariants as asked
use Rattle.psa_model.specs.declared.draft.DraftFormula.{DraftFormula}
use Rattle.psa_model.specs.declared.draft.DraftFormula.TheVariants as formula
use Rattle.psa_model.specs.declared.draft.DraftFormula.TheOpen.{DraftFormula-F}
use Rattle.psa_model.specs.declared.draft.DraftFormula.TheViews.{out-DraftFormula}
use Rattle.psa_model.specs.declared.draft.DraftExpression.{DraftExpression}
use Rattle.psa_model.specs.declared.draft.DraftExpression.TheVariants as expression
use Rattle.psa_model.specs.declared.draft.DraftGroup.{DraftGroup}
use Rattle.psa_model.specs.declared.draft.DraftFactor.{DraftFactor}
use Rattle.psa_model.specs.declared.draft.DraftInstruction.{DraftInstruction}
use Rattle.psa_model.specs.declared.draft.DraftInstruction.TheVariants as instruction
use Rattle.psa_model.specs.declared.draft.DraftTest.{DraftTest}
use Rattle.psa_model.specs.declared.draft.DraftTest.TheVariants as condition
use Rattle.psa_model.specs.declared.draft.DraftBranch.{DraftBranch}
use Rattle.psa_model.specs.declared.draft.DraftBranchEnd.{DraftBranchEnd}
use Rattle.psa_model.specs.declared.draft.DraftForkPath.{DraftForkPath}
use Rattle.psa_model.specs.declared.draft.DraftBranchEnd.TheVariants as ends
use Rattle.psa_model.specs.PathNames.{Text}
use Rattle.psa_elements.specs.ElementTable.{Row, opsa_mef, define_fault_tree, define_component, model_data, define_gate, define_basic_event, define_house_event, define_parameter, public_basic_event, public_house_event, public_parameter, define_group, members, distribution, factors, factor, define_initiating_event, define_event_tree, define_functional_event, define_sequence, define_branch, define_rule, initial_state, fork, path, to_sequence, to_branch, to_event_tree, collect_formula, set_house_event, block, rule, if_instruction, test_initiating_event, test_functional_event, all_tests, any_test, not_test, gate, basic_event, house_event, event, constant, connective, float, int, parameter, mission_time, operator, row_inside}
use Rattle.psa_elements.specs.ShapeFaults.{value_in, number_in}

-- what stands around an element: its file, the names of the containers around it, and whether the component
-- around it is private
pub record Surroundings : Type 0 where
  pub file : ℕ
  pub container : List Text
  pub is_private : Bool

-- an element by itself: what is around it, its line, its number, its attributes
pub record StartTag : Type 0 where
  pub around : Surroundings
  pub line : ℕ
  pub number : ℕ
  pub attributes : List Attribute

-- what an element says
pub data Reading : Type 0 where
  nothing : Reading
  a_formula : DraftFormula → Reading
  an_expression : DraftExpression → Reading
  a_test : DraftTest → Reading
  an_instruction : DraftInstruction → Reading
  an_end : DraftBranchEnd → Reading
  a_path : DraftForkPath → Reading
  an_initial_state : DraftBranch → Reading
  a_link : DraftReference → Reading
  some_members : List DraftReference → Reading
  a_distribution : DraftExpression → Reading
  some_factors : List DraftFactor → Reading
  some_definitions : List DraftDefinition → Reading

-- ---- what is picked out of what the children say

-- a reading as a formula, where it is one
abbrev pub formula_of : Reading → Option DraftFormula
formula_of (a_formula one) = Some one
formula_of _ = None

-- a reading as an expression, where it is one
abbrev pub expression_of : Reading → Option DraftExpression
expression_of (an_expression one) = Some one
expression_of _ = None

-- a reading as a test, where it is one
abbrev pub test_of : Reading → Option DraftTest
test_of (a_test one) = Some one
test_of _ = None

-- a reading as an instruction, where it is one
abbrev pub instruction_of : Reading → Option DraftInstruction
instruction_of (an_instruction one) = Some one
instruction_of _ = None

-- a reading as the end of a branch, where it is one
abbrev pub end_of : Reading → Option DraftBranchEnd
end_of (an_end one) = Some one
end_of _ = None

-- a reading as a path of a fork, where it is one
abbrev pub path_of : Reading → Option DraftForkPath
path_of (a_path one) = Some one
path_of _ = None

-- a reading as an initial state, where it is one
abbrev pub initial_state_of : Reading → Option DraftBranch
initial_state_of (an_initial_state one) = Some one
initial_state_of _ = None

-- a reading as a link to an event tree, where it is one
abbrev pub link_of : Reading → Option DraftReference
link_of (a_link one) = Some one
link_of _ = None

-- the members that a reading lists
abbrev pub members_of : Reading → List DraftReference
members_of (some_members all) = all
members_of _ = []

-- a reading as a group's distribution, where it is one
abbrev pub distribution_of : Reading → Option DraftExpression
distribution_of (a_distribution one) = Some one
distribution_of _ = None

-- the factors that a reading lists
abbrev pub factors_of : Reading → List DraftFactor
factors_of (some_factors all) = all
factors_of _ = []

-- the definitions that a reading holds
abbrev pub definitions_of : Reading → List DraftDefinition
definitions_of (some_definitions all) = all
definitions_of _ = []

-- the formulas among the readings of an element's children, in order
abbrev pub formulas_in : List Reading → List DraftFormula
formulas_in inside = filter_map formula_of inside

-- the expressions among them
abbrev pub expressions_in : List Reading → List DraftExpression
expressions_in inside = filter_map expression_of inside

-- the instructions among them
abbrev pub instructions_in : List Reading → List DraftInstruction
instructions_in inside = filter_map instruction_of inside

-- all definitions in them
abbrev pub definitions_in : List Reading → List DraftDefinition
definitions_in inside = flat_map definitions_of inside

-- the first thing of a kind that the children say, or a default that no element with its shape needs
abbrev pub first_in : {A : Type 0} → (Reading → Option A) → A → List Reading → A
first_in pick default inside = unwrap_or (slice_get (filter_map pick inside) 0) default

-- the first formula among them; shape sees that there is one
abbrev pub formula_in : List Reading → DraftFormula
formula_in inside = first_in formula_of (formula.Constant false) inside

-- the first expression among them; shape sees that there is one
abbrev pub expression_in : List Reading → DraftExpression
expression_in inside = first_in expression_of expression.MissionTime inside

-- ---- what the element's own attributes say

-- the file and line of a start tag
abbrev pub place_of : StartTag → Place
place_of start = record { file = start.around.file; line = start.line }

-- the value of an attribute, empty where it doesn't stand
abbrev pub text_in : StartTag → Text → Text
text_in start name = unwrap_or (value_in start.attributes name) []

-- the value of the attribute `name`
abbrev pub own_name : StartTag → Text
own_name start = text_in start (codes "name")

-- the name that an attribute gives, as a reference
abbrev pub reference_by : Text → StartTag → DraftReference
reference_by by start = record { name = text_in start by; place = place_of start; tag = start.number }

-- what the attribute `name` refers to
abbrev pub reference : StartTag → DraftReference
reference start = reference_by (codes "name") start

-- an attribute has this value
abbrev pub has_value : StartTag → Text → Text → Bool
has_value start name value = bytes_eq (text_in start name) value

-- the kind of event that an `event` asks for by its type
abbrev pub event_kind : StartTag → EventKind
event_kind start =
    if has_value start (codes "type") (codes "gate") then asked.Gate
    else if has_value start (codes "type") (codes "basic-event") then asked.Basic
    else if has_value start (codes "type") (codes "house-event") then asked.House
    else asked.Any

-- the model of a common cause group, by its attribute `model`
abbrev pub group_model : StartTag → GroupModel
group_model start =
    if has_value start (codes "model") (codes "beta-factor") then Beta
    else if has_value start (codes "model") (codes "MGL") then Mgl
    else Alpha

-- 0 as a decimal, where shape has refused the text
abbrev pub zero_decimal : Scaled
zero_decimal = record { negative = false; digits = 0; exponent = pos 0 }

-- the decimal of the attribute `value`
abbrev pub decimal_in : StartTag → Scaled
decimal_in start = unwrap_or (result_ok (decimal_of (text_in start (codes "value")))) zero_decimal

-- private by its own role, or without one by the component around it
abbrev pub is_private : StartTag → Bool
is_private start = option_map_or (λ role. bytes_eq role (codes "private")) (value_in start.attributes (codes "role")) start.around.is_private

-- `min` and `max` of a connective, 0 where they have no meaning
abbrev pub least_of : Connective → StartTag → ℕ
least_of Atleast start = number_in start.attributes (codes "min")
least_of Cardinality start = number_in start.attributes (codes "min")
least_of _ start = 0

-- the bound `max`, which `cardinality` alone has
abbrev pub most_of : Connective → StartTag → ℕ
most_of Cardinality start = number_in start.attributes (codes "max")
most_of _ start = 0

-- the number of the attribute `level`, where it is given
abbrev pub level_in : StartTag → Option ℕ
level_in start = option_map (digits_value 10) (value_in start.attributes (codes "level"))

-- ---- definitions

-- a definition that is always public
abbrev pub defines : DefinitionKind → StartTag → DraftBody → DraftDefinition
defines kind start body = record {
  kind = kind;
  name = own_name start;
  place = place_of start;
  tag = start.number;
  container = start.around.container;
  private = false;
  body = body;
}

-- a definition that is private where its role or the component around it says so
abbrev pub defines_by_role : DefinitionKind → StartTag → DraftBody → DraftDefinition
defines_by_role kind start body = record (defines kind start body) { private = is_private start }

-- one definition, and a definition before those inside it
abbrev pub alone : DraftDefinition → Reading
alone one = some_definitions (one ∷ [])

-- a definition, before those inside its element
abbrev pub before_others : DraftDefinition → List Reading → Reading
before_others one inside = some_definitions (one ∷ definitions_in inside)

-- a branch: its instructions, then its end
abbrev pub branch_in : StartTag → List Reading → DraftBranch
branch_in start inside = record {
  instructions = instructions_in inside;
  end = first_in end_of (ends.Sequence (reference start)) inside;
}

-- a common cause group, from the readings of its children
abbrev pub group_in : StartTag → List Reading → DraftGroup
group_in start inside = record {
  model = group_model start;
  members = flat_map members_of inside;
  distribution = first_in distribution_of expression.MissionTime inside;
  factors = flat_map factors_of inside;
}

-- the body of what may have an expression
abbrev pub value_body : List Reading → DraftBody
value_body inside = body.Value (slice_get (expressions_in inside) 0)

-- the references of a formula that is one event
abbrev pub references_of : DraftFormula-F DraftFormula → List DraftReference
references_of (DraftFormula-F.Event kind one) = one ∷ []
references_of _ = []

-- a formula is the constant true
abbrev pub is_true_constant : DraftFormula-F DraftFormula → Bool
is_true_constant (DraftFormula-F.Constant state) = state
is_true_constant _ = false

-- the state that a `constant` gives, false without one
abbrev pub state_in : List Reading → Bool
state_in inside = list_any (λ one. is_true_constant (out-DraftFormula one)) (formulas_in inside)

-- the event tree of an initiating event
abbrev pub event_tree_of : StartTag → Option DraftReference
event_tree_of start =
    option_map (λ name. reference_by (codes "event-tree") start) (value_in start.attributes (codes "event-tree"))

-- an `if`: its test, its first instruction, and the others
abbrev pub conditional : List DraftTest → List DraftInstruction → Reading
conditional (test ∷ tests) (first ∷ others) = an_instruction (instruction.If test (first ∷ []) others)
conditional _ _ = nothing

-- ---- what an element of a row says, where its children say these

-- what an element says, by its row of the table, its start tag and the readings of its children
abbrev pub reading_of : Row → StartTag → List Reading → Reading
reading_of opsa_mef start inside = some_definitions (definitions_in inside)
reading_of model_data start inside = some_definitions (definitions_in inside)
reading_of define_fault_tree start inside = before_others (defines kind.FaultTree start body.Nothing) inside
reading_of define_component start inside = before_others (defines_by_role kind.Component start body.Nothing) inside
reading_of define_gate start inside = alone (defines_by_role kind.Gate start (body.Formula (formula_in inside)))
reading_of define_basic_event start inside = alone (defines_by_role kind.BasicEvent start (value_body inside))
reading_of define_house_event start inside = alone (defines_by_role kind.HouseEvent start (body.State (state_in inside)))
reading_of define_parameter start inside = alone (defines_by_role kind.Parameter start (value_body inside))
reading_of public_basic_event start inside = alone (defines kind.BasicEvent start (value_body inside))
reading_of public_house_event start inside = alone (defines kind.HouseEvent start (body.State (state_in inside)))
reading_of public_parameter start inside = alone (defines kind.Parameter start (value_body inside))
reading_of define_group start inside = alone (defines_by_role kind.Group start (body.Group (group_in start inside)))
reading_of members start inside = some_members (flat_map (λ one. references_of (out-DraftFormula one)) (formulas_in inside))
reading_of distribution start inside = a_distribution (expression_in inside)
reading_of factors start inside = some_factors (flat_map factors_of inside)
reading_of factor start inside = some_factors (record { level = level_in start; expression = expression_in inside } ∷ [])
reading_of define_initiating_event start inside = alone (defines kind.InitiatingEvent start (body.Start (event_tree_of start)))
reading_of define_event_tree start inside =
    before_others (defines kind.EventTree start (body.Walk (first_in initial_state_of (branch_in start inside) inside))) inside
reading_of define_functional_event start inside = alone (defines kind.FunctionalEvent start body.Nothing)
reading_of define_sequence start inside =
    alone (defines kind.Sequence start (body.Steps (instructions_in inside) (slice_get (filter_map link_of inside) 0)))
reading_of define_branch start inside = alone (defines kind.Branch start (body.Walk (branch_in start inside)))
reading_of define_rule start inside = alone (defines kind.Rule start (body.Steps (instructions_in inside) None))
reading_of initial_state start inside = an_initial_state (branch_in start inside)
reading_of fork start inside = an_end (ends.Fork (reference_by (codes "functional-event") start) (filter_map path_of inside))
reading_of path start inside = a_path (record {
  state = text_in start (codes "state");
  place = place_of start;
  tag = start.number;
  branch = branch_in start inside;
})
reading_of to_sequence start inside = an_end (ends.Sequence (reference start))
reading_of to_branch start inside = an_end (ends.Branch (reference start))
reading_of to_event_tree start inside = a_link (reference start)
reading_of collect_formula start inside = an_instruction (instruction.Collect (formula_in inside))
reading_of set_house_event start inside = an_instruction (instruction.SetHouse (reference start) (state_in inside))
reading_of block start inside = an_instruction (instruction.Block (instructions_in inside))
reading_of rule start inside = an_instruction (instruction.Rule (reference start))
reading_of if_instruction start inside = conditional (filter_map test_of inside) (instructions_in inside)
reading_of test_initiating_event start inside = a_test (condition.Initiating (reference start))
reading_of test_functional_event start inside = a_test (condition.Functional (reference start) (text_in start (codes "state")))
reading_of all_tests start inside = a_test (condition.All (filter_map test_of inside))
reading_of any_test start inside = a_test (condition.Any (filter_map test_of inside))
reading_of not_test start inside = a_test (condition.Not (filter_map test_of inside))
reading_of gate start inside = a_formula (formula.Event asked.Gate (reference start))
reading_of basic_event start inside = a_formula (formula.Event asked.Basic (reference start))
reading_of house_event start inside = a_formula (formula.Event asked.House (reference start))
reading_of event start inside = a_formula (formula.Event (event_kind start) (reference start))
reading_of constant start inside = a_formula (formula.Constant (has_value start (codes "value") (codes "true")))
reading_of (connective c) start inside = a_formula (formula.Connective c (least_of c start) (most_of c start) (formulas_in inside))
reading_of float start inside = an_expression (expression.Number (decimal_in start))
reading_of int start inside = an_expression (expression.Number (decimal_in start))
reading_of parameter start inside = an_expression (expression.Parameter (reference start))
reading_of mission_time start inside = an_expression expression.MissionTime
reading_of (operator o) start inside = an_expression (expression.Operation o (expressions_in inside))
reading_of _ start inside = nothing

-- ---- elements

-- what is known of an element inside its parent: its tag, how many elements it is with those in it, and what it
-- says as an element of a row, in surroundings, with a number
pub record ElementReading : Type 0 where
  pub tag : Text
  pub size : ℕ
  pub reading : Row → Surroundings → ℕ → Reading

-- what is around the children
abbrev pub surroundings_inside : Row → StartTag → Surroundings
surroundings_inside define_fault_tree start = record start.around { container = own_name start ∷ [] }
surroundings_inside define_event_tree start = record start.around { container = own_name start ∷ [] }
surroundings_inside define_component start =
    record start.around { container = start.around.container ++ own_name start ∷ []; is_private = is_private start }
surroundings_inside _ start = start.around

-- what a child says, in the row that its tag names inside its parent's row
abbrev pub child_reading : Row → Surroundings → ℕ → ElementReading → Reading
child_reading parent around number child = in_row (row_inside parent child.tag)
  where
    in_row : Option Row → Reading
    in_row None = nothing
    in_row (Some row) = child.reading row around number

-- what the children say, one after another, the first with this number
abbrev pub children_readings : Row → Surroundings → ℕ → List ElementReading → List Reading
children_readings parent around number [] = []
children_readings parent around number (child ∷ others) =
    child_reading parent around number child ∷ children_readings parent around (number + child.size) others

-- what an element says where its row is known
abbrev pub reading_in_row : Element-F ElementReading → Row → Surroundings → ℕ → Reading
reading_in_row layer row around number = of_start (record {
  around = around;
  line = layer.line;
  number = number;
  attributes = layer.attributes;
})
  where
    of_start : StartTag → Reading
    of_start start = reading_of row start (children_readings row (surroundings_inside row start) (suc number) layer.children)

-- one element over the readings of its children
abbrev pub reading_layer : Element-F ElementReading → ElementReading
reading_layer layer = record {
  tag = layer.tag;
  size = suc (sum (map (λ child. child.size) layer.children));
  reading = reading_in_row layer;
}

-- what an element says, whatever row it will stand in
abbrev pub element_reading : Element → ElementReading
element_reading = fold-Element ElementReading reading_layer

-- what is around a root
abbrev pub whole_file : ℕ → Surroundings
whole_file file = record { file = file; container = []; is_private = false }

-- the definitions of a file, by its number and its root
abbrev pub file_definitions : ℕ × Element → List DraftDefinition
file_definitions one = definitions_of ((element_reading one.1).reading opsa_mef (whole_file one.0) 0)

-- the draft of files, by their roots
abbrev pub draft_of : List Element → Draft
draft_of roots = record { definitions = flat_map file_definitions (enumerate_from 0 roots) }
