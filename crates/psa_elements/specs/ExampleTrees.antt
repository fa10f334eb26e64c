-- Worked models, as trees.
use Rattle.std.specs.Prelude.{ℕ, ◌+◌, List, [], ◌∷◌, map, codes}
use Rattle.psa_text.specs.declared.tree.Element.{Element}
use Rattle.psa_text.specs.declared.tree.Element.TheViews.{roll-Element}
use Rattle.psa_text.specs.declared.tree.Attribute.{Attribute}
use Rattle.psa_model.specs.PathNames.{Text}

-- an attribute with its value
abbrev pub attr : Text → Text → Attribute
attr name value = record { name = name; value = value }

-- an element with its line, its attributes and its children
abbrev pub el : Text → ℕ → List Attribute → List Element → Element
el tag line attributes children =
    roll-Element (record { tag = tag; line = line; attributes = attributes; children = children })

abbrev pub named : Text → List Attribute
named name = attr (codes "name") name ∷ []

-- an element that has a name alone
abbrev pub ref : Text → ℕ → Text → Element
ref tag line name = el tag line (named name) []

abbrev pub root_of : List Element → Element
root_of children = el (codes "opsa-mef") 1 [] children

abbrev pub fault_tree : Text → List Element → Element
fault_tree name children = el (codes "define-fault-tree") 2 (named name) children

-- a fault tree F with one gate, top, of this formula, all in line 1
abbrev pub gate_of : Element → Element
gate_of formula =
    root_of (el (codes "define-fault-tree") 1 (named (codes "F"))
    (el (codes "define-gate") 1 (named (codes "top")) (formula ∷ []) ∷ []) ∷ [])

-- <opsa-mef><if/></opsa-mef>
abbrev pub stray_if : Element
stray_if = root_of (el (codes "if") 1 [] [] ∷ [])

-- an `atleast` of min over a and b
abbrev pub atleast_of : Text → Element
atleast_of min =
    gate_of (el (codes "atleast") 1 (attr (codes "min") min ∷ [])
    (ref (codes "basic-event") 1 (codes "a") ∷ ref (codes "basic-event") 1 (codes "b") ∷ []))

-- a fault tree in which the gate G1 refers to a gate G2 that stands elsewhere
abbrev pub one_gate : Element
one_gate =
    root_of (fault_tree (codes "F")
    (el (codes "define-gate") 3 (named (codes "G1"))
    (el (codes "or") 3 [] (ref (codes "gate") 3 (codes "G2") ∷ ref (codes "basic-event") 3 (codes "a") ∷ []) ∷ [])
    ∷ ref (codes "define-basic-event") 4 (codes "a") ∷ []) ∷ [])

-- a basic event in model data with these attributes
abbrev pub event_in_data : List Attribute → Element
event_in_data attributes =
    root_of (el (codes "model-data") 2 [] (el (codes "define-basic-event") 3 attributes [] ∷ []) ∷ [])

abbrev pub private_event : Element
private_event = event_in_data (attr (codes "name") (codes "a") ∷ attr (codes "role") (codes "private") ∷ [])

abbrev pub repeated_name : Element
repeated_name = event_in_data (attr (codes "name") (codes "a") ∷ attr (codes "name") (codes "b") ∷ [])

abbrev pub dotted_name : Element
dotted_name = event_in_data (named (codes "F.a"))

-- a group without a name, of a model that is none
abbrev pub unnamed_group : Element
unnamed_group = root_of (el (codes "define-CCF-group") 2 (attr (codes "model") (codes "gamma") ∷ []) [] ∷ [])

-- an `atleast` of three over one event, whose name has a blank
abbrev pub bad_child : Element
bad_child =
    gate_of (el (codes "atleast") 1 (attr (codes "min") (codes "3") ∷ [])
    (ref (codes "basic-event") 1 (codes "a b") ∷ []))

-- a gate whose formula refers to an event by this name
abbrev pub refers_to : Text → Element
refers_to name = gate_of (ref (codes "event") 1 name)

-- a rule with an `if` of so many instructions behind its test
abbrev pub conditional_of : List Element → Element
conditional_of instructions =
    root_of (el (codes "define-rule") 2 (named (codes "R"))
    (el (codes "if") 3 [] (ref (codes "test-initiating-event") 4 (codes "I") ∷ instructions) ∷ []) ∷ [])

abbrev pub a_block : Element
a_block = el (codes "block") 5 [] []

abbrev pub float : ℕ → Text → Element
float line value = el (codes "float") line (attr (codes "value") value ∷ []) []

abbrev pub gate_of_events : ℕ → Text → Text → List Text → Element
gate_of_events line name operator events =
    el (codes "define-gate") line (named name)
    (el operator line [] (map (λ one. ref (codes "basic-event") line one) events) ∷ [])

-- a gate over three basic events that only a group defines
abbrev pub group_tree : Element
group_tree =
    root_of (fault_tree (codes "F")
    (gate_of_events 3 (codes "top") (codes "and") (codes "A" ∷ codes "B" ∷ codes "C" ∷ [])
    ∷ el (codes "define-CCF-group") 4 (attr (codes "name") (codes "G") ∷ attr (codes "model") (codes "MGL") ∷ [])
    (el (codes "members") 5 [] (map (λ one. ref (codes "basic-event") 5 one) (codes "A" ∷ codes "B" ∷ codes "C" ∷ []))
    ∷ el (codes "distribution") 6 [] (float 6 (codes "0.1") ∷ [])
    ∷ el (codes "factors") 7 []
    (el (codes "factor") 7 (attr (codes "level") (codes "2") ∷ []) (float 7 (codes "0.2") ∷ [])
    ∷ el (codes "factor") 7 (attr (codes "level") (codes "3") ∷ []) (float 7 (codes "0.5") ∷ []) ∷ []) ∷ []) ∷ []) ∷ [])

-- a private component with a gate over x and s, and an event of this name
abbrev pub component : ℕ → Text → Text → Element
component line name event =
    el (codes "define-component") line (attr (codes "name") name ∷ attr (codes "role") (codes "private") ∷ [])
    (gate_of_events (line + 1) (codes "g") (codes "and") (codes "x" ∷ codes "s" ∷ [])
    ∷ ref (codes "define-basic-event") (line + 2) event ∷ [])

-- two private components, by this path of the first one's gate and this name of the second one's event
abbrev pub component_tree : Text → Text → Element
component_tree first second =
    root_of (fault_tree (codes "F")
    (el (codes "define-gate") 3 (named (codes "top"))
    (el (codes "or") 3 [] (ref (codes "gate") 3 first ∷ ref (codes "gate") 3 (codes "F.Q.g") ∷ []) ∷ [])
    ∷ component 4 (codes "P") (codes "x") ∷ component 8 (codes "Q") second
    ∷ ref (codes "define-basic-event") 12 (codes "s") ∷ []) ∷ [])

abbrev pub initiating : ℕ → Text → Element
initiating line name =
    el (codes "define-initiating-event") line (attr (codes "name") name ∷ attr (codes "event-tree") (codes "E") ∷ []) []

abbrev pub path_to_sequence : Text → Element
path_to_sequence state =
    el (codes "path") 7 (attr (codes "state") state ∷ []) (ref (codes "sequence") 7 (codes "S") ∷ [])

abbrev pub collect : Text → Element
collect name = el (codes "collect-formula") 9 [] (ref (codes "basic-event") 9 name ∷ [])

-- two initiating events that share an event tree, with a rule that tests the functional event of this name
abbrev pub condition_tree : Text → Element
condition_tree tested =
    root_of (initiating 2 (codes "I") ∷ initiating 3 (codes "J")
    ∷ el (codes "define-event-tree") 4 (named (codes "E"))
    (ref (codes "define-functional-event") 5 (codes "FA")
    ∷ el (codes "define-sequence") 6 (named (codes "S")) (ref (codes "rule") 6 (codes "R") ∷ [])
    ∷ el (codes "initial-state") 7 []
    (el (codes "fork") 7 (attr (codes "functional-event") (codes "FA") ∷ [])
    (path_to_sequence (codes "up") ∷ path_to_sequence (codes "down") ∷ []) ∷ []) ∷ [])
    ∷ el (codes "define-rule") 9 (named (codes "R"))
    (el (codes "if") 9 []
    (el (codes "and") 9 []
    (ref (codes "test-initiating-event") 9 (codes "I")
    ∷ el (codes "test-functional-event") 9 (attr (codes "name") tested ∷ attr (codes "state") (codes "down") ∷ []) [] ∷ [])
    ∷ collect (codes "a") ∷ collect (codes "b") ∷ []) ∷ [])
    ∷ el (codes "model-data") 10 []
    (ref (codes "define-basic-event") 10 (codes "a") ∷ ref (codes "define-basic-event") 10 (codes "b") ∷ []) ∷ [])
