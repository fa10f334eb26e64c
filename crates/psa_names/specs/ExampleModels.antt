-- The model of a worked draft whose group defines its members.
use Rattle.std.specs.Prelude.{[], ◌∷◌, codes}
use Rattle.psa_model.specs.GroupExample.{group_model}
use Rattle.psa_model.specs.declared.formula.Connective.TheVariants.{And}
use Rattle.psa_model.specs.declared.formula.Formula.TheVariants as formula
use Rattle.psa_model.specs.declared.model.Gate.{Gate}
use Rattle.psa_model.specs.declared.model.Model.{Model}

-- a gate over the three basic events of the group
abbrev pub gate_over_members : Gate
gate_over_members = record {
  name = codes "top";
  place = record { file = 0; line = 3 };
  tree = record { 0 = 0 };
  formula = formula.Connective And 0 0
      (formula.Basic (record { 0 = 0 }) ∷ formula.Basic (record { 0 = 1 }) ∷ formula.Basic (record { 0 = 2 }) ∷ []);
}

abbrev pub gate_and_group_model : Model
gate_and_group_model = record group_model {
  gates = gate_over_members ∷ [];
  fault_trees = record { name = codes "F"; place = record { file = 0; line = 2 } } ∷ [];
}
