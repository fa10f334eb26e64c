-- The element table: for each element of the profile its tag, its attributes in order, and what it holds.
-- (The names are those of the Open-PSA Model Exchange Format 2.0d; which attributes and children an element may have,
-- their order and number are this project's own.)
use Rattle.std.specs.Prelude.{◌==◌, ℕ, Bool, true, false, List, [], ◌∷◌, ◌++◌, Option, Some, None, length, codes, nat_le, is_ok, ◌&&◌, ◌||◌, not, if◌then◌else◌}
use Rattle.std.specs.List.{list_all, list_any, find, flat_map}
use Rattle.std.specs.Char.{is_ascii, is_ascii_digit, is_ascii_alphanumeric}
use Rattle.std.specs.Str.{bytes_eq}
use Rattle.std.specs.Str.Parse.{without_leading_sign}
use Rattle.psa_number.specs.DecimalText.{decimal_of}
use Rattle.psa_model.specs.PathNames.{Text, name_parts}
use Rattle.psa_model.specs.declared.fault.FaultKind.{FaultKind}
use Rattle.psa_model.specs.declared.fault.FaultKind.TheVariants.{BadAttribute, BadNumber, BadName}
use Rattle.psa_model.specs.declared.formula.TheConstants.{MAX_COUNTED_ARGUMENTS}
use Rattle.psa_model.specs.declared.formula.Connective.{Connective}
use Rattle.psa_model.specs.declared.formula.Connective.TheVariants.{And, Or, Not, Xor, Iff, Nand, Nor, Imply, Atleast, Cardinality}
use Rattle.psa_model.specs.declared.expression.ExpressionOperator.{ExpressionOperator}
use Rattle.psa_model.specs.declared.expression.ExpressionOperator.TheVariants as operation
use Rattle.psa_elements.specs.declared.limits.TheConstants.{MAX_NAME, MAX_DIGITS}

-- ---- the rows

-- the rows of the element table: an element in its place
pub data Row : Type 0 where
  -- the model
  opsa_mef label attributes attribute define_fault_tree define_component model_data : Row
  -- definitions; those of `model-data` are never private
  define_gate define_basic_event define_house_event define_parameter : Row
  public_basic_event public_house_event public_parameter : Row
  define_group members distribution factors factor : Row
  define_initiating_event define_event_tree define_functional_event define_sequence define_branch define_rule : Row
  -- branches of event trees
  initial_state fork path to_sequence to_branch to_event_tree : Row
  -- instructions and tests
  collect_formula set_house_event block rule if_instruction : Row
  test_initiating_event test_functional_event all_tests any_test not_test : Row
  -- formulas and expressions
  gate basic_event house_event event constant : Row
  connective : Connective → Row
  float int parameter mission_time : Row
  operator : ExpressionOperator → Row

-- the tag of each connective of formulas
abbrev pub connective_tag : Connective → Text
connective_tag And = codes "and"
connective_tag Or = codes "or"
connective_tag Not = codes "not"
connective_tag Xor = codes "xor"
connective_tag Iff = codes "iff"
connective_tag Nand = codes "nand"
connective_tag Nor = codes "nor"
connective_tag Imply = codes "imply"
connective_tag Atleast = codes "atleast"
connective_tag Cardinality = codes "cardinality"

-- the tag of each operation of expressions
abbrev pub operator_tag : ExpressionOperator → Text
operator_tag operation.Neg = codes "neg"
operator_tag operation.Add = codes "add"
operator_tag operation.Sub = codes "sub"
operator_tag operation.Mul = codes "mul"
operator_tag operation.Div = codes "div"
operator_tag operation.Exponential = codes "exponential"

-- the tag of each row
abbrev pub tag_of : Row → Text
tag_of opsa_mef = codes "opsa-mef"
tag_of label = codes "label"
tag_of attributes = codes "attributes"
tag_of attribute = codes "attribute"
tag_of define_fault_tree = codes "define-fault-tree"
tag_of define_component = codes "define-component"
tag_of model_data = codes "model-data"
tag_of define_gate = codes "define-gate"
tag_of define_basic_event = codes "define-basic-event"
tag_of define_house_event = codes "define-house-event"
tag_of define_parameter = codes "define-parameter"
tag_of public_basic_event = codes "define-basic-event"
tag_of public_house_event = codes "define-house-event"
tag_of public_parameter = codes "define-parameter"
tag_of define_group = codes "define-CCF-group"
tag_of members = codes "members"
tag_of distribution = codes "distribution"
tag_of factors = codes "factors"
tag_of factor = codes "factor"
tag_of define_initiating_event = codes "define-initiating-event"
tag_of define_event_tree = codes "define-event-tree"
tag_of define_functional_event = codes "define-functional-event"
tag_of define_sequence = codes "define-sequence"
tag_of define_branch = codes "define-branch"
tag_of define_rule = codes "define-rule"
tag_of initial_state = codes "initial-state"
tag_of fork = codes "fork"
tag_of path = codes "path"
tag_of to_sequence = codes "sequence"
tag_of to_branch = codes "branch"
tag_of to_event_tree = codes "event-tree"
tag_of collect_formula = codes "collect-formula"
tag_of set_house_event = codes "set-house-event"
tag_of block = codes "block"
tag_of rule = codes "rule"
tag_of if_instruction = codes "if"
tag_of test_initiating_event = codes "test-initiating-event"
tag_of test_functional_event = codes "test-functional-event"
tag_of all_tests = codes "and"
tag_of any_test = codes "or"
tag_of not_test = codes "not"
tag_of gate = codes "gate"
tag_of basic_event = codes "basic-event"
tag_of house_event = codes "house-event"
tag_of event = codes "event"
tag_of constant = codes "constant"
tag_of (connective c) = connective_tag c
tag_of float = codes "float"
tag_of int = codes "int"
tag_of parameter = codes "parameter"
tag_of mission_time = codes "system-mission-time"
tag_of (operator o) = operator_tag o

-- ---- values of attributes

-- what an attribute may be: any text; a name; a name or a path; one of some words; a number by a test
pub data Allowed : Type 0 where
  any_text : Allowed
  a_name : Allowed
  a_reference : Allowed
  one_of : List Text → Allowed
  a_number : (Text → Bool) → Allowed

-- an ASCII letter, a digit, `_`, `-` or a byte of 128 or more
abbrev pub is_name_byte : ℕ → Bool
is_name_byte b = is_ascii_alphanumeric b || list_any (λ other. b == other) (codes "_-") || not (is_ascii b)

-- a text of at least one byte and at most so many
abbrev pub has_length_to : ℕ → Text → Bool
has_length_to most text = nat_le 1 (length text) && nat_le (length text) most

-- a name: 1 to 128 bytes of names
abbrev pub is_name : Text → Bool
is_name text = has_length_to MAX_NAME text && list_all is_name_byte text

-- a name, or a path: names joined by single dots
abbrev pub is_reference : Text → Bool
is_reference text = list_all is_name (name_parts text)

-- one to four digits
abbrev pub are_digits : Text → Bool
are_digits text = has_length_to MAX_DIGITS text && list_all is_ascii_digit text

-- a text that spells a decimal within the limits
abbrev pub is_decimal : Text → Bool
is_decimal text = is_ok (decimal_of text)

-- a decimal without point and exponent
abbrev pub is_whole : Text → Bool
is_whole text = is_decimal text && list_all is_ascii_digit (without_leading_sign text)

-- what is wrong with a value, or nothing
abbrev pub value_fault : Allowed → Text → Option FaultKind
value_fault any_text value = None
value_fault a_name value = if is_name value then None else Some BadName
value_fault a_reference value = if is_reference value then None else Some BadName
value_fault (one_of values) value = if list_any (bytes_eq value) values then None else Some BadAttribute
value_fault (a_number test) value = if test value then None else Some BadNumber

-- a row's rule for one attribute: its name, whether it must stand, and its values
pub record AttributeRule : Type 0 where
  pub name : Text
  pub is_required : Bool
  pub allowed : Allowed

-- an attribute that must stand
abbrev pub required : Text → Allowed → AttributeRule
required name allowed = record { name = name; is_required = true; allowed = allowed }

-- an attribute that may be left out
abbrev pub optional : Text → Allowed → AttributeRule
optional name allowed = record { name = name; is_required = false; allowed = allowed }

-- ---- contents

-- some children: from `least` to `most` elements of these rows
pub record Part : Type 0 where
  pub rows : List Row
  pub least : ℕ
  pub most : Option ℕ

-- exactly so many children of these rows
abbrev pub exactly : ℕ → List Row → Part
exactly n rows = record { rows = rows; least = n; most = Some n }

-- at most so many children of these rows
abbrev pub at_most : ℕ → List Row → Part
at_most n rows = record { rows = rows; least = 0; most = Some n }

-- at least so many children of these rows
abbrev pub at_least : ℕ → List Row → Part
at_least n rows = record { rows = rows; least = n; most = None }

-- a number of children of these rows between two bounds
abbrev pub from_to : ℕ → ℕ → List Row → Part
from_to least most rows = record { rows = rows; least = least; most = Some most }

-- the children of a row: parts in any order, or in this one
pub data Content : Type 0 where
  in_any_order : List Part → Content
  in_this_order : List Part → Content

-- the parts of a content, in whatever order
abbrev pub parts_of : Content → List Part
parts_of (in_any_order parts) = parts
parts_of (in_this_order parts) = parts

-- no children
abbrev pub empty : Content
empty = in_any_order []

-- children of one part alone
abbrev pub only : Part → Content
only part = in_any_order (part ∷ [])

-- A rule of the table: the attributes in order, None where all are passed over; whether `label` and
-- `attributes` may stand anywhere among the children; and the other children.
pub record Rule : Type 0 where
  pub attribute_rules : Option (List AttributeRule)
  pub is_labelled : Bool
  pub content : Content

-- the rule of a row without `label` and `attributes`
abbrev pub unlabelled : List AttributeRule → Content → Rule
unlabelled rules content = record { attribute_rules = Some rules; is_labelled = false; content = content }

-- the rule of a row that `label` and `attributes` may stand in
abbrev pub labelled : List AttributeRule → Content → Rule
labelled rules content = record { attribute_rules = Some rules; is_labelled = true; content = content }

-- ---- groups of rows

-- the rows of formulas
abbrev pub formulas : List Row
formulas =
    gate ∷ basic_event ∷ house_event ∷ event ∷ constant
    ∷ connective And ∷ connective Or ∷ connective Not ∷ connective Xor ∷ connective Iff
    ∷ connective Nand ∷ connective Nor ∷ connective Imply ∷ connective Atleast ∷ connective Cardinality ∷ []

-- the rows of expressions
abbrev pub expressions : List Row
expressions =
    float ∷ int ∷ parameter ∷ mission_time ∷ operator operation.Neg ∷ operator operation.Add ∷ operator operation.Sub
    ∷ operator operation.Mul ∷ operator operation.Div ∷ operator operation.Exponential ∷ []

-- the rows of instructions
abbrev pub instructions : List Row
instructions = collect_formula ∷ set_house_event ∷ block ∷ rule ∷ if_instruction ∷ []

-- the rows of tests
abbrev pub tests : List Row
tests = test_initiating_event ∷ test_functional_event ∷ all_tests ∷ any_test ∷ not_test ∷ []

-- the rows that end a branch
abbrev pub ends : List Row
ends = fork ∷ to_sequence ∷ to_branch ∷ []

-- the rows inside the root, apart from labels
abbrev pub in_root : List Row
in_root =
    define_fault_tree ∷ model_data ∷ define_group ∷ define_event_tree ∷ define_initiating_event ∷ define_rule ∷ []

-- the rows inside an event tree, apart from labels and the initial state
abbrev pub in_event_tree : List Row
in_event_tree = define_functional_event ∷ define_sequence ∷ define_branch ∷ []

-- the rows inside a fault tree or a component, apart from labels
abbrev pub in_container : List Row
in_container =
    define_gate ∷ define_basic_event ∷ define_house_event ∷ define_parameter ∷ define_group ∷ define_component ∷ []

-- ---- attributes that many rows have

-- the attribute `name` of a definition
abbrev pub name_rule : AttributeRule
name_rule = required (codes "name") a_name

-- the attribute `name` of a reference, which may be a path
abbrev pub reference_rule : AttributeRule
reference_rule = required (codes "name") a_reference

-- the attribute `role`
abbrev pub role_rule : AttributeRule
role_rule = optional (codes "role") (one_of (codes "public" ∷ codes "private" ∷ []))

-- the attribute `role` in `model-data`, where nothing is private
abbrev pub public_role_rule : AttributeRule
public_role_rule = optional (codes "role") (one_of (codes "public" ∷ []))

-- the attribute `unit`, which has no meaning
abbrev pub unit_rule : AttributeRule
unit_rule = optional (codes "unit") any_text

-- the attribute `value`, with what it allows
abbrev pub value_rule : Allowed → AttributeRule
value_rule allowed = required (codes "value") allowed

-- the bounds of a number of arguments
abbrev pub bound_rule : Text → AttributeRule
bound_rule name = required name (a_number are_digits)

-- the attribute `model` of a common cause group
abbrev pub model_rule : AttributeRule
model_rule = required (codes "model") (one_of (codes "beta-factor" ∷ codes "MGL" ∷ codes "alpha-factor" ∷ []))

-- the attribute `type` of `event`
abbrev pub event_type_rule : AttributeRule
event_type_rule = optional (codes "type") (one_of (codes "gate" ∷ codes "basic-event" ∷ codes "house-event" ∷ []))

-- ---- contents that many rows have

-- instructions, then one end
abbrev pub branch_content : Content
branch_content = in_this_order (at_least 0 instructions ∷ exactly 1 ends ∷ [])

-- the rule of each connective: how many formulas it takes
abbrev pub connective_rule : Connective → Rule
connective_rule And = unlabelled [] (only (at_least 1 formulas))
connective_rule Or = unlabelled [] (only (at_least 1 formulas))
connective_rule Nand = unlabelled [] (only (at_least 1 formulas))
connective_rule Nor = unlabelled [] (only (at_least 1 formulas))
connective_rule Not = unlabelled [] (only (exactly 1 formulas))
connective_rule Xor = unlabelled [] (only (exactly 2 formulas))
connective_rule Iff = unlabelled [] (only (exactly 2 formulas))
connective_rule Imply = unlabelled [] (only (exactly 2 formulas))
connective_rule Atleast = unlabelled (bound_rule (codes "min") ∷ []) (only (from_to 1 MAX_COUNTED_ARGUMENTS formulas))
connective_rule Cardinality =
    unlabelled (bound_rule (codes "min") ∷ bound_rule (codes "max") ∷ []) (only (from_to 1 MAX_COUNTED_ARGUMENTS formulas))

-- the rule of each operation: how many expressions it takes
abbrev pub operator_rule : ExpressionOperator → Rule
operator_rule operation.Neg = unlabelled [] (only (exactly 1 expressions))
operator_rule operation.Add = unlabelled [] (only (at_least 1 expressions))
operator_rule operation.Mul = unlabelled [] (only (at_least 1 expressions))
operator_rule operation.Sub = unlabelled [] (only (at_least 2 expressions))
operator_rule operation.Div = unlabelled [] (only (at_least 2 expressions))
operator_rule operation.Exponential = unlabelled [] (only (exactly 2 expressions))

-- ---- the table

-- the element table: the rule of each row
abbrev pub rule_of : Row → Rule
rule_of opsa_mef = record { attribute_rules = None; is_labelled = true; content = only (at_least 0 in_root) }
rule_of label = unlabelled [] empty
rule_of attributes = unlabelled [] (only (at_least 0 (attribute ∷ [])))
rule_of attribute =
    unlabelled (required (codes "name") any_text ∷ value_rule any_text ∷ optional (codes "type") any_text ∷ []) empty
rule_of define_fault_tree = labelled (name_rule ∷ []) (only (at_least 0 in_container))
rule_of define_component = labelled (name_rule ∷ role_rule ∷ []) (only (at_least 0 in_container))
rule_of model_data =
    labelled [] (only (at_least 0 (public_basic_event ∷ public_house_event ∷ public_parameter ∷ [])))
rule_of define_gate = labelled (name_rule ∷ role_rule ∷ []) (only (exactly 1 formulas))
rule_of define_basic_event = labelled (name_rule ∷ role_rule ∷ []) (only (at_most 1 expressions))
rule_of define_house_event = labelled (name_rule ∷ role_rule ∷ []) (only (at_most 1 (constant ∷ [])))
rule_of define_parameter = labelled (name_rule ∷ role_rule ∷ unit_rule ∷ []) (only (exactly 1 expressions))
rule_of public_basic_event = labelled (name_rule ∷ public_role_rule ∷ []) (only (at_most 1 expressions))
rule_of public_house_event = labelled (name_rule ∷ public_role_rule ∷ []) (only (at_most 1 (constant ∷ [])))
rule_of public_parameter = labelled (name_rule ∷ public_role_rule ∷ unit_rule ∷ []) (only (exactly 1 expressions))
rule_of define_group =
    labelled (name_rule ∷ model_rule ∷ [])
    (in_any_order (exactly 1 (members ∷ []) ∷ exactly 1 (distribution ∷ []) ∷ at_least 0 (factor ∷ factors ∷ []) ∷ []))
rule_of members = unlabelled [] (only (at_least 1 (basic_event ∷ [])))
rule_of distribution = unlabelled [] (only (exactly 1 expressions))
rule_of factors = unlabelled [] (only (at_least 0 (factor ∷ [])))
rule_of factor = unlabelled (optional (codes "level") (a_number are_digits) ∷ []) (only (exactly 1 expressions))
rule_of define_initiating_event = labelled (name_rule ∷ optional (codes "event-tree") a_name ∷ []) empty
rule_of define_event_tree =
    labelled (name_rule ∷ [])
    (in_any_order (at_least 0 in_event_tree ∷ exactly 1 (initial_state ∷ []) ∷ []))
rule_of define_functional_event = labelled (name_rule ∷ []) empty
rule_of define_sequence =
    labelled (name_rule ∷ []) (in_this_order (at_least 0 instructions ∷ at_most 1 (to_event_tree ∷ []) ∷ []))
rule_of define_branch = labelled (name_rule ∷ []) branch_content
rule_of define_rule = labelled (name_rule ∷ []) (only (at_least 1 instructions))
rule_of initial_state = unlabelled [] branch_content
rule_of fork = unlabelled (required (codes "functional-event") a_name ∷ []) (only (at_least 1 (path ∷ [])))
rule_of path = unlabelled (required (codes "state") a_name ∷ []) branch_content
rule_of to_sequence = unlabelled (name_rule ∷ []) empty
rule_of to_branch = unlabelled (name_rule ∷ []) empty
rule_of to_event_tree = unlabelled (name_rule ∷ []) empty
rule_of collect_formula = unlabelled [] (only (exactly 1 formulas))
rule_of set_house_event = unlabelled (reference_rule ∷ []) (only (exactly 1 (constant ∷ [])))
rule_of block = unlabelled [] (only (at_least 0 instructions))
rule_of rule = unlabelled (name_rule ∷ []) empty
rule_of if_instruction = unlabelled [] (in_this_order (exactly 1 tests ∷ from_to 1 2 instructions ∷ []))
rule_of test_initiating_event = unlabelled (name_rule ∷ []) empty
rule_of test_functional_event = unlabelled (name_rule ∷ required (codes "state") a_name ∷ []) empty
rule_of all_tests = unlabelled [] (only (at_least 1 tests))
rule_of any_test = unlabelled [] (only (at_least 1 tests))
rule_of not_test = unlabelled [] (only (exactly 1 tests))
rule_of gate = unlabelled (reference_rule ∷ []) empty
rule_of basic_event = unlabelled (reference_rule ∷ []) empty
rule_of house_event = unlabelled (reference_rule ∷ []) empty
rule_of event = unlabelled (reference_rule ∷ event_type_rule ∷ []) empty
rule_of constant = unlabelled (value_rule (one_of (codes "true" ∷ codes "false" ∷ [])) ∷ []) empty
rule_of (connective c) = connective_rule c
rule_of float = unlabelled (value_rule (a_number is_decimal) ∷ []) empty
rule_of int = unlabelled (value_rule (a_number is_whole) ∷ []) empty
rule_of parameter = unlabelled (reference_rule ∷ unit_rule ∷ []) empty
rule_of mission_time = unlabelled (unit_rule ∷ []) empty
rule_of (operator o) = operator_rule o

-- ---- rows inside a row

-- the rows that carry no meaning
abbrev pub label_rows : List Row
label_rows = label ∷ attributes ∷ []

-- the rows that the children of an element may have
abbrev pub rows_inside : Row → List Row
rows_inside row =
    (if (rule_of row).is_labelled then label_rows else [])
    ++ flat_map (λ part. part.rows) (parts_of (rule_of row).content)

-- a row has this tag
abbrev pub has_tag : Text → Row → Bool
has_tag tag row = bytes_eq (tag_of row) tag

-- the row that a tag has inside a row
abbrev pub row_inside : Row → Text → Option Row
row_inside row tag = find (has_tag tag) (rows_inside row)
