-- What is written of the section of a target. This project's own.
use Rattle.std.specs.Prelude.{◌≡◌, ℕ, ℤ, Bool, true, List, [], ◌++◌, Option, Some, None, Result, min, flat_map, int_le, length, map}
use Rattle.std.specs.Option.{option_map, unwrap_or}
use Rattle.psa_number.specs.Ends.{Ends}
use Rattle.psa_number.specs.Operations.{complement_ends}
use Rattle.psa_model.specs.declared.expanded.Expanded.{Expanded}
use Rattle.psa_model.specs.declared.ids.EventNumber.{EventNumber}
use Rattle.psa_model.specs.declared.product.TheConstants.{MAX_COUNT}
use Rattle.psa_model.specs.declared.settings.Settings.{Settings}
use Rattle.psa_model.specs.declared.targets.Target.{Target}
use Rattle.psa_model.specs.Quantities.{bound_of, rare_event_of}
use Rattle.psa_model.specs.Report.{Analysis, IsSection, product_text, target_line, totals_text}
use Rattle.psa_products.specs.Sums.{Sums, rest_of}
use Rattle.psa_report.specs.Pieces.{Writes}

-- a section of the target was appended, or a prefix of it where the count of faults rose
pub record WritesSection {E : Type 0} (analysis : Analysis) (target : Target) (before after : Option (List ℕ)) (faults faults_after : ℕ) (result : Result (Unit {0}) E) : Type 0 where
  pub text : List ℕ
  pub is_section : IsSection analysis target text
  pub written : Writes before after faults faults_after text result

-- the bound of a product by its ranks, where there are intervals of events
abbrev pub bound_by : Option (List Ends) → List EventNumber → List ℕ → Option Ends
bound_by values ranks product = option_map (λ intervals. bound_of intervals ranks product) values

-- a product is kept where no least upper end is asked for, or it has no bound, or its bound's upper end is no less
abbrev pub reaches : Option ℤ → Option Ends → Bool
reaches None bound = true
reaches (Some least) None = true
reaches (Some least) (Some bound) = int_le least bound.hi

-- the lines of products
abbrev pub line_by : Expanded → Option (List Ends) → List EventNumber → List ℕ → List ℕ
line_by expanded values ranks product = product_text expanded ranks (bound_by values ranks product) product

-- the bounds of products, none where there are no intervals
abbrev pub bounds_by : Option (List Ends) → List EventNumber → List (List ℕ) → List Ends
bounds_by values ranks products = unwrap_or (option_map (λ intervals. map (bound_of intervals ranks) products) values) []

-- the totals of products: all are counted, and those with bounds are summed
abbrev pub totals_by : Option (List Ends) → List EventNumber → List (List ℕ) → Sums
totals_by values ranks products = record {
  count = min (length products) MAX_COUNT;
  rare_event = rare_event_of (bounds_by values ranks products);
  rest = rest_of (bounds_by values ranks products);
}

-- totals that are those of products where the settings ask for them: what the min-cut upper bound leaves of 1 stands only
-- where that bound is asked for
pub record AreAsked (settings : Settings) (sums totals : Sums) : Type 0 where
  pub count : sums.count ≡ totals.count
  pub rare_event : sums.rare_event ≡ totals.rare_event
  pub rest : settings.mcub ≡ true → sums.rest ≡ totals.rest

-- the text of a section over these products
abbrev pub text_by : Settings → Expanded → Option (List Ends) → Target → List EventNumber → List (List ℕ) → List ℕ
text_by settings expanded values target ranks products =
    let totals = totals_by values ranks products in
    target_line expanded.model target
    ++ (flat_map (line_by expanded values ranks) products
    ++ totals_text settings totals.count totals.rare_event (complement_ends totals.rest))
