-- The faults of elements by their rules, and what a check answers of them.
use Rattle.std.specs.Prelude.{⊤, ◌≡◌, ℕ, Bool, true, List, [], ◌∷◌, Some, Result, Ok, Err, IfSome, map, length, codes, filter, find, ◌&&◌, ◌||◌, not}
use Rattle.std.specs.List.{list_all, slice_get}
use Rattle.std.specs.Option.{option_map_or}
use Rattle.psa_text.specs.declared.tree.Element.{Element}
use Rattle.psa_text.specs.declared.tree.Element.TheViews.{out-Element}
use Rattle.psa_text.specs.declared.tree.Attribute.{Attribute}
use Rattle.psa_model.specs.PathNames.{Text}
use Rattle.psa_model.specs.declared.fault.FaultKind.{FaultKind}
use Rattle.psa_model.specs.declared.fault.FaultKind.TheVariants.{UnknownElement}
use Rattle.psa_model.specs.declared.fault.ModelFault.{ModelFault}
use Rattle.psa_model.specs.declared.formula.Connective.TheVariants.{Atleast, Cardinality}
use Rattle.psa_elements.specs.declared.error.ReadError.{ReadError}
use Rattle.psa_elements.specs.declared.error.ReadError.TheVariants.{Fault, Memory}
use Rattle.psa_elements.specs.ElementTable.{Row, connective, Part, Rule, parts_of, has_tag, are_digits}
use Rattle.psa_elements.specs.ShapeFaults.{ElementFaults, attribute_faults, fault_at, has_bounds, has_number, has_order, is_in_part, is_label, value_in}
use Rattle.psa_shape.specs.declared.attributes.ElementFault.{ElementFault}
use Rattle.psa_shape.specs.TableRules.{rows_by}

-- ---- answers

-- the fault that is answered; want of memory tells nothing
abbrev pub Tells : ReadError → (ModelFault → Type 0) → Type 0
Tells (Fault fault) P = P fault
Tells Memory P = Unit {0}

-- there is no fault, or the first is answered, or memory was wanted
abbrev pub Finds : List ModelFault → Result ⊤ ReadError → Type 0
Finds faults (Ok done) = faults ≡ []
Finds faults (Err (Fault fault)) = slice_get faults 0 ≡ Some fault
Finds faults (Err Memory) = Unit {0}

abbrev pub seen_fault : ElementFault → FaultKind × Text
seen_fault fault = (fault.kind, fault.name.now)

-- ---- faults by rules

abbrev pub own_faults_by : Rule → Text → List Attribute → List (FaultKind × Text)
own_faults_by rule tag given = option_map_or (λ rules. attribute_faults tag rules given) rule.attribute_rules []

-- the faults of a child inside an element with this rule
abbrev pub child_faults_by : ℕ → Rule → ElementFaults → List ModelFault
child_faults_by file rule child =
    option_map_or child.faults (find (has_tag child.tag) (rows_by rule))
    (fault_at file child.line (UnknownElement, child.tag) ∷ [])

abbrev pub well_shaped_by : Rule → Row → List Attribute → List Text → Bool
well_shaped_by rule row given tags =
    list_all (has_number tags) (parts_of rule.content)
    && has_order rule.content tags
    && has_bounds row given (length tags)

-- the tags of elements
abbrev pub tags_of : List Element → List Text
tags_of elements = map (λ element. (out-Element element).tag) elements

-- the tags of the elements that count
abbrev pub counted : List Element → List Text
counted elements = filter (λ tag. not (is_label tag)) (tags_of elements)

-- whether an element counts and is one of a part
abbrev pub counts_in : Part → Element → Bool
counts_in part element = not (is_label (out-Element element).tag) && is_in_part part (out-Element element).tag

-- whether an element at the front is dropped with those of a part
abbrev pub passes : Part → Element → Bool
passes part element = is_label (out-Element element).tag || is_in_part part (out-Element element).tag

-- ---- the bounds of connectives

-- the attribute, where it stands, is a number
abbrev pub SpellsNumber : List Attribute → Text → Type 0
SpellsNumber given name = IfSome (value_in given name) (λ value. are_digits value ≡ true)

-- the bounds that the row has are numbers
abbrev pub HasNumbers : Row → List Attribute → Type 0
HasNumbers (connective Atleast) given = SpellsNumber given (codes "min")
HasNumbers (connective Cardinality) given = SpellsNumber given (codes "min") × SpellsNumber given (codes "max")
HasNumbers _ given = Unit {0}
