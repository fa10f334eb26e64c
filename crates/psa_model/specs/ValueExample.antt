-- Models of one basic event with an expression. This project's own.
use Rattle.std.specs.Prelude.{ℕ, ℤ, List, [], ◌∷◌, Option, Result, codes, false, true}
use Rattle.psa_number.specs.Ends.{Ends}
use Rattle.psa_number.specs.Scaled.{Scaled}
use Rattle.psa_model.specs.declared.expression.Expression.{Expression}
use Rattle.psa_model.specs.declared.expression.Expression.TheVariants as expression
use Rattle.psa_model.specs.declared.expression.ExpressionOperator.TheVariants.{Mul, Div, Exponential}
use Rattle.psa_model.specs.declared.fault.FaultKind.{FaultKind}
use Rattle.psa_model.specs.declared.fault.ModelFault.{ModelFault}
use Rattle.psa_model.specs.declared.model.Model.{Model}
use Rattle.psa_model.specs.declared.model.Valued.TheVariants as valued
use Rattle.psa_model.specs.Expansion.{expanded_of, whole_number}
use Rattle.psa_model.specs.Values.{values_of}

-- the model of a basic event `a` at line 3, of which the expression is given
abbrev pub one_event_model : Option Expression → Model
one_event_model value = record {
  gates = [];
  basics = record { name = codes "a"; place = record { file = 0; line = 3 }; expression = value } ∷ [];
  houses = [];
  parameters = [];
  fault_trees = [];
  groups = [];
  rules = [];
  event_trees = [];
  functionals = [];
  sequences = [];
  branches = [];
  initiatings = [];
  formulas = [];
  order = valued.Basic (record { 0 = 0 }) ∷ [];
}

-- the interval of its only event at a mission time, or the fault
abbrev pub value_at : Scaled → Option Expression → Result (List Ends) ModelFault
value_at mission value = values_of mission (expanded_of true (one_event_model value))

-- digits * 10 ^ exponent
abbrev pub scaled : ℕ → ℤ → Scaled
scaled digits exponent = record { negative = false; digits = digits; exponent = exponent }

abbrev pub thrice_a_third : Expression
thrice_a_third =
    expression.Operation Mul (expression.Operation Div (whole_number 1 ∷ whole_number 3 ∷ []) ∷ whole_number 3 ∷ [])

-- the exponential distribution at a rate and the mission time
abbrev pub failing_at : Scaled → Expression
failing_at rate = expression.Operation Exponential (expression.Number rate ∷ expression.MissionTime ∷ [])

abbrev pub one_by_zero : Expression
one_by_zero = expression.Operation Div (whole_number 1 ∷ whole_number 0 ∷ [])

-- a fault of this kind at the event
abbrev pub fault_of_a : FaultKind → ModelFault
fault_of_a kind = record { kind = kind; file = 0; line = 3; name = codes "a" }
