-- The places in the unfolding of a formula, where every gate is entered every time. This project's own.
use Rattle.std.specs.Prelude.{◌==◌, ℕ, zero, suc, Bool, true, false, List, [], ◌∷◌, map}
use Rattle.std.specs.List.{slice_get, list_any, flat_map}
use Rattle.psa_model.specs.declared.formula.Formula.{Formula}
use Rattle.psa_model.specs.declared.formula.Formula.TheOpen.{Formula-F}
use Rattle.psa_model.specs.declared.formula.Formula.TheViews.{out-Formula}
use Rattle.psa_model.specs.declared.formula.Formula.TheVariants as variant
use Rattle.psa_model.specs.declared.model.TheConstants.{MAX_DEPTH}
use Rattle.psa_model.specs.declared.model.Model.{Model}
use Rattle.psa_model.specs.declared.expanded.Expanded.{Expanded}
use Rattle.psa_model.specs.Events.{events_of}
use Rattle.psa_model.specs.Truth.{at_gate}

-- A place in an unfolding: the formula that stands there, and those around it from the outside in.
pub record Occurrence : Type 0 where
  pub around : List Formula
  pub one : Formula

-- what stands directly inside a formula: the formula of a gate, the arguments of a connective
abbrev pub parts_of : Model → Formula-F Formula → List Formula
parts_of model (Formula-F.Gate id) = at_gate [] (λ f. f ∷ []) (slice_get model.gates id.0)
parts_of model (Formula-F.Basic id) = []
parts_of model (Formula-F.House id) = []
parts_of model (Formula-F.Constant b) = []
parts_of model (Formula-F.Connective operator min max arguments) = arguments

-- the place with one more formula around it
abbrev pub put_inside : Formula → Occurrence → Occurrence
put_inside f place = record place { around = f ∷ place.around }

-- The occurrences in a formula from left to right, within so many levels: its own, and those in what stands directly
-- inside it.
unfoldable pub occurrences : ℕ → Model → Formula → List Occurrence
occurrences zero model f = []
occurrences (suc levels) model f =
    record { around = []; one = f }
    ∷ map (put_inside f) (flat_map (λ g. occurrences levels model g) (parts_of model (out-Formula f)))

-- the occurrences in a gate
abbrev pub occurrences_in : Model → ℕ → List Occurrence
occurrences_in model gate = occurrences (suc MAX_DEPTH) model (variant.Gate (record { 0 = gate }))

-- the gates that a formula is a reference to: this one, or none
abbrev pub gates_at_layer : Formula-F Formula → List ℕ
gates_at_layer (Formula-F.Gate id) = id.0 ∷ []
gates_at_layer (Formula-F.Basic id) = []
gates_at_layer (Formula-F.House id) = []
gates_at_layer (Formula-F.Constant b) = []
gates_at_layer (Formula-F.Connective operator min max arguments) = []

-- the gate whose reference stands there, if one does
abbrev pub gates_at : Formula → List ℕ
gates_at f = gates_at_layer (out-Formula f)

-- a reference to the gate
abbrev pub is_gate : ℕ → Formula → Bool
is_gate gate f = list_any (λ g. g == gate) (gates_at f)

-- the expanded events that stand at a formula: those of a basic event, for a member of an expanded group its subsets'
abbrev pub events_at_layer : Expanded → Formula-F Formula → List ℕ
events_at_layer expanded (Formula-F.Gate id) = []
events_at_layer expanded (Formula-F.Basic id) = events_of expanded id.0
events_at_layer expanded (Formula-F.House id) = []
events_at_layer expanded (Formula-F.Constant b) = []
events_at_layer expanded (Formula-F.Connective operator min max arguments) = []

-- the expanded events that a formula is by itself
abbrev pub events_at : Expanded → Formula → List ℕ
events_at expanded f = events_at_layer expanded (out-Formula f)

-- the place is inside an occurrence of the gate
abbrev pub is_inside : ℕ → Occurrence → Bool
is_inside gate place = list_any (is_gate gate) place.around
