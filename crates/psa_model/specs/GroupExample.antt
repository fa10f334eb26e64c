-- A model of one common cause group of three members by multiple Greek letters, with the distribution 0.1 and the
-- factors 0.2 and 0.5. This project's own.
use Rattle.std.specs.Prelude.{ℕ, List, [], ◌∷◌, None, codes, pos, negsuc, false}
use Rattle.psa_number.specs.Ends.{Ends}
use Rattle.psa_model.specs.declared.expanded.ExpandedEvent.{ExpandedEvent}
use Rattle.psa_model.specs.declared.expanded.ExpandedEvent.TheVariants.{Shared}
use Rattle.psa_model.specs.declared.expression.Expression.{Expression}
use Rattle.psa_model.specs.declared.expression.Expression.TheVariants as expression
use Rattle.psa_model.specs.declared.ids.Place.{Place}
use Rattle.psa_model.specs.declared.model.BasicEvent.{BasicEvent}
use Rattle.psa_model.specs.declared.model.Group.{Group}
use Rattle.psa_model.specs.declared.model.GroupModel.TheVariants.{Mgl}
use Rattle.psa_model.specs.declared.model.Valued.TheVariants as valued
use Rattle.psa_model.specs.declared.model.Model.{Model}

abbrev pub tenths : ℕ → Expression
tenths n = expression.Number (record { negative = false; digits = n; exponent = negsuc 0 })

abbrev pub group_place : Place
group_place = record { file = 0; line = 4 }

abbrev pub member : List ℕ → BasicEvent
member name = record { name = name; place = group_place; expression = None }

abbrev pub three_members : Group
three_members = record {
  name = codes "G";
  place = group_place;
  model = Mgl;
  members = record { 0 = 0 } ∷ record { 0 = 1 } ∷ record { 0 = 2 } ∷ [];
  distribution = tenths 1;
  factors = record { level = 2; expression = tenths 2 } ∷ record { level = 3; expression = tenths 5 } ∷ [];
}

abbrev pub group_model : Model
group_model = record {
  gates = [];
  basics = member (codes "A") ∷ member (codes "B") ∷ member (codes "C") ∷ [];
  houses = [];
  parameters = [];
  fault_trees = [];
  groups = three_members ∷ [];
  rules = [];
  event_trees = [];
  functionals = [];
  sequences = [];
  branches = [];
  initiatings = [];
  formulas = [];
  order = valued.Group (record { 0 = 0 }) ∷ [];
}

-- the event of a subset of the group
abbrev pub shared : ℕ → ExpandedEvent
shared subset = Shared (record { 0 = 0 }) subset

-- the interval that is one number of units
abbrev pub exactly : ℕ → Ends
exactly units = record { lo = pos units; hi = pos units }
