-- The head of a report in two parts. This project's own.
use Rattle.std.specs.Prelude.{List, ℕ, [], ◌++◌, codes, decimal, if◌then◌else◌}
use Rattle.psa_model.specs.declared.settings.Settings.{Settings}
use Rattle.psa_model.specs.Quantities.{has_quantities}
use Rattle.psa_model.specs.Report.{algorithm_word, products_word, quantity_head}

-- the lines that always stand
abbrev pub first_lines : Settings → List ℕ
first_lines settings =
    codes "scram report\n"
    ++ codes "algorithm " ++ algorithm_word settings.algorithm ++ codes "\n"
    ++ codes "products " ++ products_word settings.mode ++ codes "\n"
    ++ codes "limit-order " ++ decimal settings.limit_order ++ codes "\n"

-- those that stand where quantities are computed
abbrev pub quantity_lines : Settings → List ℕ
quantity_lines settings = if has_quantities settings then quantity_head settings else []
