-- A worked model under edits: the gate g1 is `and` of the basic event a and the house event H, the gate g2 is the basic
-- event b; a has the probability 0.1, b has 0.2. This project's own.
use Rattle.std.specs.Prelude.{ℕ, negsuc, Bool, List, false, true, [], ◌∷◌, None, Some, codes}
use Rattle.psa_number.specs.Scaled.{Scaled}
use Rattle.psa_model.specs.declared.expression.Expression.TheVariants as expression
use Rattle.psa_model.specs.declared.formula.Connective.TheVariants.{And}
use Rattle.psa_model.specs.declared.formula.Formula.{Formula}
use Rattle.psa_model.specs.declared.formula.Formula.TheVariants as formula
use Rattle.psa_model.specs.declared.model.BasicEvent.{BasicEvent}
use Rattle.psa_model.specs.declared.model.Gate.{Gate}
use Rattle.psa_model.specs.declared.model.Model.{Model}
use Rattle.psa_model.specs.declared.model.Valued.TheVariants as valued
use Rattle.psa_model.specs.declared.settings.Algorithm.TheVariants.{Bdd}
use Rattle.psa_model.specs.declared.settings.Input.{Input}
use Rattle.psa_model.specs.declared.settings.Input.TheVariants.{Files}
use Rattle.psa_model.specs.declared.settings.Mode.TheVariants.{CutSets}
use Rattle.psa_model.specs.declared.settings.Settings.{Settings}
use Rattle.psa_model.specs.declared.targets.Target.{Target}
use Rattle.psa_model.specs.declared.targets.Target.TheVariants.{TopEvent}
use Rattle.psa_model.specs.Expansion.{expanded_of}
use Rattle.psa_model.specs.Report.{Analysis}
use Rattle.psa_outcome.specs.AnalysisExample.{first_line, no_value_model}
use Rattle.psa_words.specs.Given.{default_mission}
use Rattle.psa_whatif.specs.Edits.{Edit, house, value}

-- so many tenths, as a decimal
abbrev pub tenths : ℕ → Scaled
tenths n = record { negative = false; digits = n; exponent = negsuc 0 }

-- a gate of the first fault tree
abbrev pub gate_named : List ℕ → Formula → Gate
gate_named name body = record { name = name; place = first_line; tree = record { 0 = 0 }; formula = body }

-- a basic event with so many tenths as its probability
abbrev pub event_named : List ℕ → ℕ → BasicEvent
event_named name n = record { name = name; place = first_line; expression = Some (expression.Number (tenths n)) }

-- the model in this state of H, with so many tenths as the probability of a
abbrev pub model_at : Bool → ℕ → Model
model_at state n = record no_value_model {
  gates =
      gate_named (codes "g1")
      (formula.Connective And 0 0 (formula.Basic (record { 0 = 0 }) ∷ formula.House (record { 0 = 0 }) ∷ []))
      ∷ gate_named (codes "g2") (formula.Basic (record { 0 = 1 }))
      ∷ [];
  basics = event_named (codes "a") n ∷ event_named (codes "b") 2 ∷ [];
  houses = record { name = codes "H"; place = first_line; state = state } ∷ [];
  order = valued.Basic (record { 0 = 0 }) ∷ valued.Basic (record { 0 = 1 }) ∷ [];
}

-- the two top events
abbrev pub first_top : Target
first_top = TopEvent (record { 0 = 0 })

abbrev pub second_top : Target
second_top = TopEvent (record { 0 = 1 })

-- settings of the defaults over some input, with the rare-event sum or without quantities
abbrev pub settings_on : Bool → Input → Settings
settings_on sum input = record {
  algorithm = Bdd;
  mode = CutSets;
  limit_order = 20;
  cut_off = None;
  mission = default_mission;
  rare_event = sum;
  mcub = false;
  ccf = false;
  validate = false;
  node_limit = None;
  input = input;
}

-- what a report on a model is about, in the eyes of a line: with quantities or without
abbrev pub accepted_on : Bool → Model → Analysis
accepted_on sum model =
    record {
      settings = settings_on sum (Files (codes "hx.xml" ∷ []));
      expanded = expanded_of false model;
      values = None;
    }

-- the worked model, accepted with quantities
abbrev pub accepted_model : Analysis
accepted_model = accepted_on true (model_at false 1)

-- the five lines: a state, a probability, and three times that the latest edit is taken back
abbrev pub five_lines : List ℕ
five_lines = codes "house H true\nvalue a 0.3\nundo\nundo\nundo\n"

-- the two edits
abbrev pub first_edit : Edit
first_edit = house 0 true

abbrev pub second_edit : Edit
second_edit = value 0 (tenths 3)

-- the lists of edits that a report stands for: none, one, two, one, none
abbrev pub five_states : List (List Edit)
five_states =
    []
    ∷ (first_edit ∷ [])
    ∷ (second_edit ∷ first_edit ∷ [])
    ∷ (first_edit ∷ [])
    ∷ []
    ∷ []
