-- The faults of shape of an element, all of them, in the order of the checks: its tag, its attributes as they
-- stand, those that are missing, their values, its children one after another, their number and order. The
-- fault of a list of files is the first. (This project's own.)
use Rattle.std.specs.Prelude.{ℕ, Bool, true, false, List, [], ◌∷◌, ◌++◌, Option, Some, None, map, length, codes, nat_le, count_by, filter, filter_map, find, flat_map, slice_get, ◌&&◌, not, if◌then◌else◌}
use Rattle.std.specs.List.{list_all, list_any, enumerate_from}
use Rattle.std.specs.Option.{option_map, option_and_then, unwrap_or}
use Rattle.std.specs.Str.{bytes_eq}
use Rattle.std.specs.Str.Parse.{digits_value}
use Rattle.psa_text.specs.declared.tree.Element.{Element}
use Rattle.psa_text.specs.declared.tree.Element.TheOpen.{Element-F}
use Rattle.psa_text.specs.declared.tree.Element.TheFolds.{fold-Element}
use Rattle.psa_text.specs.declared.tree.Attribute.{Attribute}
use Rattle.psa_model.specs.PathNames.{Text}
use Rattle.psa_model.specs.declared.fault.FaultKind.{FaultKind}
use Rattle.psa_model.specs.declared.fault.FaultKind.TheVariants.{UnknownElement, BadAttribute, BadName, BadShape}
use Rattle.psa_model.specs.declared.fault.ModelFault.{ModelFault}
use Rattle.psa_model.specs.declared.formula.Connective.TheVariants.{Atleast, Cardinality}
use Rattle.psa_elements.specs.ElementTable.{Row, opsa_mef, connective, rule_of, Content, in_any_order, in_this_order, parts_of, Part, AttributeRule, value_fault, label_rows, has_tag, row_inside}

-- ---- attributes

-- an attribute has this name
abbrev pub has_name : Text → Attribute → Bool
has_name name attribute = bytes_eq attribute.name name

-- the value of the attribute of a name, where it stands
abbrev pub value_in : List Attribute → Text → Option Text
value_in given name = option_map (λ attribute. attribute.value) (find (has_name name) given)

-- the names that no rule has, or that stand before
abbrev pub unknown_or_repeated : List AttributeRule → List Attribute → List Attribute → List Text
unknown_or_repeated rules before [] = []
unknown_or_repeated rules before (one ∷ more) =
    (if is_known && not is_repeated then [] else one.name ∷ []) ++ unknown_or_repeated rules (one ∷ before) more
  where
    is_known : Bool
    is_known = list_any (λ rule. bytes_eq rule.name one.name) rules

    is_repeated : Bool
    is_repeated = list_any (has_name one.name) before

-- the required names that don't stand
abbrev pub missing : List AttributeRule → List Attribute → List Text
missing rules given =
    map (λ rule. rule.name) (filter (λ rule. rule.is_required && not (list_any (has_name rule.name) given)) rules)

-- a bad name prints the tag of its element, every other wrong value the attribute
abbrev pub printed : FaultKind → Text → Text → Text
printed BadName tag name = tag
printed _ tag name = name

-- the value that is wrong by a rule: the kind of fault, and the name that it prints
abbrev pub wrong_value : Text → List Attribute → AttributeRule → Option (FaultKind × Text)
wrong_value tag given rule =
    option_map (λ kind. (kind, printed kind tag rule.name))
    (option_and_then (value_fault rule.allowed) (value_in given rule.name))

-- the faults of an element's attributes, in the order of the checks
abbrev pub attribute_faults : Text → List AttributeRule → List Attribute → List (FaultKind × Text)
attribute_faults tag rules given =
    map (λ name. (BadAttribute, name)) (unknown_or_repeated rules [] given ++ missing rules given)
    ++ filter_map (wrong_value tag given) rules

-- ---- the number and order of children

-- a child's tag is one of a part
abbrev pub is_in_part : Part → Text → Bool
is_in_part part tag = list_any (has_tag tag) part.rows

-- a number is within an upper bound, where there is one
abbrev pub is_at_most : ℕ → Option ℕ → Bool
is_at_most count None = true
is_at_most count (Some most) = nat_le count most

-- the number of children of a part is within its bounds
abbrev pub has_number : List Text → Part → Bool
has_number tags part =
    nat_le part.least (count_by (is_in_part part) tags) && is_at_most (count_by (is_in_part part) tags) part.most

-- what is left when the elements of the part at the front are dropped
abbrev pub behind_part : Part → List Text → List Text
behind_part part [] = []
behind_part part (tag ∷ tags) = if is_in_part part tag then behind_part part tags else tag ∷ tags

-- first those of the first part, then those of the next, and nothing else
abbrev pub stand_in_order : List Part → List Text → Bool
stand_in_order [] [] = true
stand_in_order [] (tag ∷ tags) = false
stand_in_order (part ∷ parts) tags = stand_in_order parts (behind_part part tags)

-- the children stand in the order that the content asks for
abbrev pub has_order : Content → List Text → Bool
has_order (in_any_order parts) tags = true
has_order (in_this_order parts) tags = stand_in_order parts tags

-- the number that an attribute spells
abbrev pub number_in : List Attribute → Text → ℕ
number_in given name = digits_value 10 (unwrap_or (value_in given name) [])

-- the bounds of `min` and `max` on the number of arguments
abbrev pub has_bounds : Row → List Attribute → ℕ → Bool
has_bounds (connective Atleast) given count = nat_le (number_in given (codes "min")) count
has_bounds (connective Cardinality) given count =
    nat_le (number_in given (codes "min")) (number_in given (codes "max"))
    && nat_le (number_in given (codes "max")) count
has_bounds _ given count = true

-- `label` and `attributes` count neither in number nor in order
abbrev pub is_label : Text → Bool
is_label tag = list_any (has_tag tag) label_rows

-- number and order of the children, and the bounds of `min` and `max`, are those of the row
abbrev pub is_well_shaped : Row → List Attribute → List Text → Bool
is_well_shaped row given tags =
    list_all (has_number tags) (parts_of (rule_of row).content)
    && has_order (rule_of row).content tags
    && has_bounds row given (length tags)

-- ---- elements

-- what is known of an element inside its parent: its tag, its line, and its faults as an element of a row
pub record ElementFaults : Type 0 where
  pub tag : Text
  pub line : ℕ
  pub faults : Row → List ModelFault

-- a fault in a file and line
abbrev pub fault_at : ℕ → ℕ → FaultKind × Text → ModelFault
fault_at file line fault = record { kind = fault.0; file = file; line = line; name = fault.1 }

-- the faults of a child: it is unknown where it has no row inside its parent's
abbrev pub child_faults : ℕ → Row → ElementFaults → List ModelFault
child_faults file parent child = in_row (row_inside parent child.tag)
  where
    in_row : Option Row → List ModelFault
    in_row None = fault_at file child.line (UnknownElement, child.tag) ∷ []
    in_row (Some row) = child.faults row

-- the faults of the element by itself: where its row has no rules, all attributes are passed over
abbrev pub own_faults : Row → Text → List Attribute → List (FaultKind × Text)
own_faults row tag given = by_rules (rule_of row).attribute_rules
  where
    by_rules : Option (List AttributeRule) → List (FaultKind × Text)
    by_rules None = []
    by_rules (Some rules) = attribute_faults tag rules given

-- the fault of an element's children, where they are not as the row asks
abbrev pub shape_fault_of : Row → Text → List Attribute → List Text → List (FaultKind × Text)
shape_fault_of row tag given tags = if is_well_shaped row given tags then [] else (BadShape, tag) ∷ []

-- the faults of an element in its row: its own, those of its children, that of their number and order
abbrev pub faults_in_row : ℕ → Element-F ElementFaults → Row → List ModelFault
faults_in_row file layer row =
    map (fault_at file layer.line) (own_faults row layer.tag layer.attributes)
    ++ flat_map (child_faults file row) layer.children
    ++ map (fault_at file layer.line) (shape_fault_of row layer.tag layer.attributes counted)
  where
    counted : List Text
    counted = filter (λ tag. not (is_label tag)) (map (λ child. child.tag) layer.children)

-- one element over the faults of its children
abbrev pub faults_layer : ℕ → Element-F ElementFaults → ElementFaults
faults_layer file layer = record { tag = layer.tag; line = layer.line; faults = faults_in_row file layer }

-- the faults in an element, by the row that it will stand in, in the order of the checks
abbrev pub element_faults : ℕ → Element → ElementFaults
element_faults file = fold-Element ElementFaults (faults_layer file)

-- a root is an `opsa-mef`
abbrev pub root_faults : ℕ → ElementFaults → List ModelFault
root_faults file root =
    if has_tag root.tag opsa_mef then root.faults opsa_mef
    else fault_at file root.line (UnknownElement, root.tag) ∷ []

-- the faults of shape of files, by their roots
abbrev pub shape_faults : List Element → List ModelFault
shape_faults roots = flat_map (λ one. root_faults one.0 (element_faults one.0 one.1)) (enumerate_from 0 roots)

-- the first fault of shape
abbrev pub shape_fault : List Element → Option ModelFault
shape_fault roots = slice_get (shape_faults roots) 0
