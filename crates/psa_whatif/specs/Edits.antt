-- Edits of a model, and what the edited model comes to. This project's own.
use Rattle.std.specs.Prelude.{◌≡◌, ◌==◌, ◌<◌, ℕ, zero, suc, Bool, true, false, List, [], ◌∷◌, Option, Some, None, Ok, length}
use Rattle.std.specs.List.{flat_map, list_any, slice_get, slice_set}
use Rattle.psa_number.specs.Scaled.{Scaled}
use Rattle.psa_model.specs.declared.expression.Expression.TheVariants as expression
use Rattle.psa_model.specs.declared.formula.Formula.{Formula}
use Rattle.psa_model.specs.declared.formula.Formula.TheOpen.{Formula-F}
use Rattle.psa_model.specs.declared.formula.Formula.TheVariants as variant
use Rattle.psa_model.specs.declared.formula.Formula.TheViews.{out-Formula}
use Rattle.psa_model.specs.declared.model.BasicEvent.{BasicEvent}
use Rattle.psa_model.specs.declared.model.House.{House}
use Rattle.psa_model.specs.declared.model.Model.{Model}
use Rattle.psa_model.specs.declared.model.TheConstants.{MAX_DEPTH}
use Rattle.psa_model.specs.declared.targets.Target.{Target}
use Rattle.psa_model.specs.declared.targets.Target.TheVariants.{TopEvent, Sequence}
use Rattle.psa_model.specs.Models.{members_of}
use Rattle.psa_model.specs.Quantities.{has_quantities}
use Rattle.psa_model.specs.Report.{Analysis}
use Rattle.psa_model.specs.Targets.{collected}
use Rattle.psa_model.specs.Truth.{at_gate, house_states}
use Rattle.psa_outcome.specs.Analyses.{analysis_of_model}
use Rattle.psa_words.specs.Given.{is_fraction}

-- the state that a house event gets, or the number that becomes a basic event's expression; both by their places
pub data Edit : Type 0 where
  house : ℕ → Bool → Edit
  value : ℕ → Scaled → Edit

-- ---- the edited model

-- the list with what is made of the item that was found at a place, and as it is where none was
abbrev pub with_found : {A : Type 0} → (A → A) → List A → ℕ → Option A → List A
with_found f items place None = items
with_found f items place (Some item) = slice_set items place (f item)

-- the list with the item at a place changed
abbrev pub with_item : {A : Type 0} → (A → A) → List A → ℕ → List A
with_item f items place = with_found f items place (slice_get items place)

-- a house event with another state
abbrev pub with_state : Bool → House → House
with_state state found = record found { state = state }

-- a basic event whose expression is a number
abbrev pub with_number : Scaled → BasicEvent → BasicEvent
with_number number basic = record basic { expression = Some (expression.Number number) }

-- the model with one edit
abbrev pub with_edit : Edit → Model → Model
with_edit (house id state) model = record model { houses = with_item (with_state state) model.houses id }
with_edit (value id number) model = record model { basics = with_item (with_number number) model.basics id }

-- the model after some edits, of which the latest stands first
abbrev pub edited : List Edit → Model → Model
edited [] model = model
edited (edit ∷ earlier) model = with_edit edit (edited earlier model)

-- the basic event with an id is a member of a group
abbrev pub is_member : Model → ℕ → Bool
is_member model id = list_any (λ member. member == id) (members_of model)

-- An edit that an accepted model takes: the house event stands; or the basic event does, outside all groups, the number
-- is within 0 and 1, and quantities are computed.
abbrev pub IsTaken : Analysis → Edit → Type 0
IsTaken accepted (house id state) = id < length accepted.expanded.model.houses
IsTaken accepted (value id number) =
    (has_quantities accepted.settings ≡ true)
    × (id < length accepted.expanded.model.basics)
    × (is_member accepted.expanded.model id ≡ false)
    × (is_fraction number ≡ true)

-- what the edited model comes to, from scratch, by the settings of the accepted one
abbrev pub IsEdited : Analysis → List Edit → Analysis → Type 0
IsEdited accepted edits analysis =
    analysis_of_model accepted.settings (edited edits accepted.expanded.model) ≡ Ok analysis

-- ---- in which targets a house event is met

-- the house events of one element: a gate is its formula, a connective its arguments
abbrev pub houses_layer : Model → (Formula → List ℕ) → Formula-F Formula → List ℕ
houses_layer model below (Formula-F.Gate id) = at_gate [] below (slice_get model.gates id.0)
houses_layer model below (Formula-F.Basic id) = []
houses_layer model below (Formula-F.House id) = id.0 ∷ []
houses_layer model below (Formula-F.Constant b) = []
houses_layer model below (Formula-F.Connective operator min max arguments) = flat_map below arguments

-- the house events that the unfolding of a formula meets, every gate entered every time
unfoldable pub houses_in : ℕ → Model → Formula → List ℕ
houses_in zero model f = []
houses_in (suc levels) model f = houses_layer model (λ g. houses_in levels model g) (out-Formula f)

-- Those that the unfolding of a target meets; for a sequence in the formulas that its paths collect. A house event that
-- a path sets before is met all the same.
abbrev pub target_houses : Model → Target → List ℕ
target_houses model (TopEvent gate) = houses_in (suc MAX_DEPTH) model (variant.Gate gate)
target_houses model (Sequence initiating sequence paths) =
    flat_map
    (λ path. flat_map (λ one. houses_in (suc MAX_DEPTH) model one.formula) (collected model (house_states model) path))
    paths

-- a house event is met in a target
abbrev pub meets_house : Model → Target → ℕ → Bool
meets_house model target id = list_any (λ met. met == id) (target_houses model target)
