-- The node of a target's products. (This project's own; the products are those of a report.)
use Rattle.std.specs.Prelude.{◌≡◌, ◌↔◌, ℕ, true, List, Option}
use Rattle.psa_number.specs.Ends.{Ends}
use Rattle.psa_nodes.specs.declared.node.Kind.TheVariants.{Zbdd}
use Rattle.psa_nodes.specs.Readings.{reading, stands}
use Rattle.psa_nodes.specs.Table.{Table}
use Rattle.psa_model.specs.declared.expanded.Expanded.{Expanded}
use Rattle.psa_model.specs.declared.settings.Settings.{Settings}
use Rattle.psa_model.specs.declared.targets.Target.{Target}
use Rattle.psa_model.specs.Report.{Analysis, IsProductOf}

-- the analysis by these settings of a model with its events, and their intervals where there are any
abbrev pub analysis_by : Settings → Expanded → Option (List Ends) → Analysis
analysis_by settings expanded values = record { settings = settings; expanded = expanded; values = values }

-- The id is a node or terminal of a family, whose members are exactly the products of the target: what
-- `HasProducts` asks for.
abbrev pub IsNodeOfProducts : Analysis → Target → Table → ℕ → Type 0
IsNodeOfProducts analysis target table id =
    (stands Zbdd 0 table.nodes id ≡ true)
    × ((product : List ℕ) → ((reading table.nodes id).as_family product ≡ true) ↔ IsProductOf analysis target product)
