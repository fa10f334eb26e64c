-- A worked model: one gate over the three members of a common cause group. This project's own.
use Rattle.std.specs.Prelude.{ℕ, List, [], ◌∷◌, codes, map}
use Rattle.psa_model.specs.declared.formula.Connective.TheVariants.{And}
use Rattle.psa_model.specs.declared.formula.Formula.TheVariants as formula
use Rattle.psa_model.specs.declared.ids.EventNumber.{EventNumber}
use Rattle.psa_model.specs.declared.model.Model.{Model}
use Rattle.psa_model.specs.GroupExample.{group_model, group_place}

-- the group of three members, and a fault tree F whose gate top is `and` of the members A, B and C
abbrev pub group_gate_model : Model
group_gate_model = record group_model {
  fault_trees = record { name = codes "F"; place = group_place } ∷ [];
  gates =
      record {
        name = codes "top";
        place = group_place;
        tree = record { 0 = 0 };
        formula =
            formula.Connective And 0 0
            (formula.Basic (record { 0 = 0 }) ∷ formula.Basic (record { 0 = 1 }) ∷ formula.Basic (record { 0 = 2 }) ∷ []);
      }
      ∷ [];
}

-- the events of these numbers
abbrev pub numbered : List ℕ → List EventNumber
numbered numbers = map (λ n. record { 0 = n }) numbers
