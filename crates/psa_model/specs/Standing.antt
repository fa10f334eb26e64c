-- Whether what a target, ranks and a product name stands: each place in its list. This project's own.
use Rattle.std.specs.Prelude.{ℕ, Bool, List, length, nat_lt, ◌&&◌}
use Rattle.std.specs.List.{list_all}
use Rattle.psa_logic.specs.Products.{rank_of}
use Rattle.psa_model.specs.declared.expanded.Expanded.{Expanded}
use Rattle.psa_model.specs.declared.ids.EventNumber.{EventNumber}
use Rattle.psa_model.specs.declared.model.Model.{Model}
use Rattle.psa_model.specs.declared.targets.PathStep.{PathStep}
use Rattle.psa_model.specs.declared.targets.PathStep.TheVariants.{Collect, Set}
use Rattle.psa_model.specs.declared.targets.Target.{Target}
use Rattle.psa_model.specs.declared.targets.Target.TheVariants.{TopEvent, Sequence}

-- the formula that a step collects, or the house event that it sets
abbrev pub step_stands : Model → PathStep → Bool
step_stands model (Collect id) = nat_lt id.0 (length model.formulas)
step_stands model (Set house state) = nat_lt house.0 (length model.houses)

-- a target need not be one of a report: any gate will do
abbrev pub target_stands : Model → Target → Bool
target_stands model (TopEvent gate) = nat_lt gate.0 (length model.gates)
target_stands model (Sequence initiating sequence paths) =
    nat_lt initiating.0 (length model.initiatings) && nat_lt sequence.0 (length model.sequences)
    && list_all (λ path. list_all (step_stands model) path) paths

-- each rank is that of an expanded event
abbrev pub ranks_stand : Expanded → List EventNumber → Bool
ranks_stand expanded ranks = list_all (λ number. nat_lt number.0 (length expanded.events)) ranks

-- each literal's rank is that of a ranked event
abbrev pub literals_stand : List EventNumber → List ℕ → Bool
literals_stand ranks product = list_all (λ literal. nat_lt (rank_of literal) (length ranks)) product
