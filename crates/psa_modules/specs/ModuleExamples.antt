-- Worked models of modules. This project's own.
use Rattle.std.specs.Prelude.{ℕ, Bool, false, List, [], ◌∷◌, None, codes}
use Rattle.psa_model.specs.declared.expanded.Expanded.{Expanded}
use Rattle.psa_model.specs.declared.formula.Connective.{Connective}
use Rattle.psa_model.specs.declared.formula.Connective.TheVariants.{And, Or, Not, Xor}
use Rattle.psa_model.specs.declared.formula.Formula.{Formula}
use Rattle.psa_model.specs.declared.formula.Formula.TheVariants as variant
use Rattle.psa_model.specs.declared.ids.Place.{Place}
use Rattle.psa_model.specs.declared.model.BasicEvent.{BasicEvent}
use Rattle.psa_model.specs.declared.model.Gate.{Gate}
use Rattle.psa_model.specs.declared.model.Group.{Group}
use Rattle.psa_model.specs.declared.model.Model.{Model}
use Rattle.psa_model.specs.declared.model.Valued.{Valued}
use Rattle.psa_model.specs.declared.model.Valued.TheVariants as valued
use Rattle.psa_model.specs.Expansion.{expanded_of}
use Rattle.psa_model.specs.GroupExample.{three_members}

abbrev pub at_line : ℕ → Place
at_line line = record { file = 0; line = line }

-- a reference to a gate, and to a basic event, by its place
abbrev pub gate_at : ℕ → Formula
gate_at gate = variant.Gate (record { 0 = gate })

abbrev pub basic_at : ℕ → Formula
basic_at event = variant.Basic (record { 0 = event })

abbrev pub connect : Connective → List Formula → Formula
connect operator arguments = variant.Connective operator 0 0 arguments

-- gates by their names and formulas, from a line on
abbrev pub gate_named : ℕ → List ℕ → Formula → Gate
gate_named line name formula = record { name = name; place = at_line line; tree = record { 0 = 0 }; formula = formula }

abbrev pub basic_named : ℕ → List ℕ → BasicEvent
basic_named line name = record { name = name; place = at_line line; expression = None }

-- a fault tree of gates and basic events, with what gives events their values
abbrev pub tree_of : List ℕ → List Gate → List BasicEvent → List Group → List Valued → Model
tree_of name gates basics groups order = record {
  gates = gates;
  basics = basics;
  houses = [];
  parameters = [];
  fault_trees = record { name = name; place = at_line 2 } ∷ [];
  groups = groups;
  rules = [];
  event_trees = [];
  functionals = [];
  sequences = [];
  branches = [];
  initiatings = [];
  formulas = [];
  order = order;
}

abbrev pub by_itself : ℕ → Valued
by_itself event = valued.Basic (record { 0 = event })

-- ---- two trains, each of a pump and a valve

abbrev pub trains : Expanded
trains = expanded_of false (tree_of (codes "TwoTrains")
    (gate_named 3 (codes "TopEvent") (connect And (gate_at 1 ∷ gate_at 2 ∷ []))
    ∷ gate_named 4 (codes "TrainOne") (connect Or (basic_at 0 ∷ basic_at 1 ∷ []))
    ∷ gate_named 5 (codes "TrainTwo") (connect Or (basic_at 2 ∷ basic_at 3 ∷ [])) ∷ [])
    (basic_named 6 (codes "PumpOne") ∷ basic_named 7 (codes "ValveOne")
    ∷ basic_named 8 (codes "PumpTwo") ∷ basic_named 9 (codes "ValveTwo") ∷ [])
    []
    (by_itself 0 ∷ by_itself 1 ∷ by_itself 2 ∷ by_itself 3 ∷ []))

-- ---- a top event over the gate g, and perhaps a gate h, over four events a to d

abbrev pub over_four : Formula → Formula → Formula → Expanded
over_four top g h = expanded_of false (tree_of (codes "F")
    (gate_named 3 (codes "top") top ∷ gate_named 4 (codes "g") g ∷ gate_named 5 (codes "h") h ∷ [])
    (basic_named 6 (codes "a") ∷ basic_named 7 (codes "b") ∷ basic_named 8 (codes "c") ∷ basic_named 9 (codes "d") ∷ [])
    []
    (by_itself 0 ∷ by_itself 1 ∷ by_itself 2 ∷ by_itself 3 ∷ []))

-- two of the four events
abbrev pub two_of : Connective → ℕ → ℕ → Formula
two_of operator one other = connect operator (basic_at one ∷ basic_at other ∷ [])

-- the gate g under a connective, beside another formula
abbrev pub g_and : Connective → Formula → Formula
g_and operator other = connect operator (gate_at 1 ∷ other ∷ [])

-- ---- a gate over the first two members of a group of three, beside the third, with the group expanded or not

abbrev pub over_group : Bool → Expanded
over_group on = expanded_of on (tree_of (codes "F")
    (gate_named 3 (codes "top") (g_and Or (basic_at 2)) ∷ gate_named 4 (codes "g") (two_of And 0 1) ∷ [])
    (basic_named 5 (codes "A") ∷ basic_named 5 (codes "B") ∷ basic_named 5 (codes "C") ∷ [])
    (three_members ∷ [])
    (valued.Group (record { 0 = 0 }) ∷ []))
