-- A worked model: a top event that always occurs. This project's own.
use Rattle.std.specs.Prelude.{[], ◌∷◌, None, codes}
use Rattle.psa_model.specs.declared.formula.Connective.TheVariants.{Or, Not}
use Rattle.psa_model.specs.declared.formula.Formula.TheVariants as formula
use Rattle.psa_model.specs.declared.model.Model.{Model}
use Rattle.psa_model.specs.declared.settings.Settings.{Settings}
use Rattle.psa_model.specs.Expansion.{expanded_of}
use Rattle.psa_model.specs.Report.{Analysis}
use Rattle.psa_outcome.specs.AnalysisExample.{first_line, no_value_model}

-- a fault tree F whose gate top is `or` of the basic event a and its `not`
abbrev pub unity_model : Model
unity_model = record no_value_model {
  gates =
      record {
        name = codes "top";
        place = first_line;
        tree = record { 0 = 0 };
        formula =
            formula.Connective Or 0 0
            (formula.Basic (record { 0 = 0 }) ∷ formula.Connective Not 0 0 (formula.Basic (record { 0 = 0 }) ∷ []) ∷ []);
      }
      ∷ [];
}

-- what a report on it is about where no quantities are computed
abbrev pub unity_analysis : Settings → Analysis
unity_analysis settings = record { settings = settings; expanded = expanded_of settings.ccf unity_model; values = None }
