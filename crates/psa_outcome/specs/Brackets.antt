-- That the intervals of a report hold the exact quantities, with Taylor sums in place of the exponential function.
-- (Rare-event sum and min-cut upper bound are those of the field; the intervals are this project's own.)
use Rattle.std.specs.Prelude.{◌≤◌, ℕ, List, IfSome, map}
use Rattle.psa_number.specs.Ends.{Ends}
use Rattle.psa_number.specs.Exponential.{last_term}
use Rattle.psa_number.specs.Fraction.{Fraction, Holds}
use Rattle.psa_model.specs.declared.ids.EventNumber.{EventNumber}
use Rattle.psa_model.specs.declared.targets.Target.{Target}
use Rattle.psa_model.specs.ExactQuantities.{exact_bound, exact_min_cut, exact_rare_event}
use Rattle.psa_model.specs.Quantities.{bound_of, min_cut_of, rare_event_of}
use Rattle.psa_model.specs.Ranks.{ranks_of}
use Rattle.psa_model.specs.Report.{Analysis}
use Rattle.psa_model.specs.Values.{quantities_of}

-- the bound of each product, and both totals of each list of products, hold the exact values
pub record AreBracketed (values : List Ends) (quantities : List Fraction) (ranks : List EventNumber) : Type 0 where
  pub bound : (product : List ℕ) → Holds (bound_of values ranks product) (exact_bound quantities ranks product)
  pub rare_event :
      (products : List (List ℕ))
      → Holds (rare_event_of (map (bound_of values ranks) products)) (exact_rare_event (map (exact_bound quantities ranks) products))
  pub min_cut :
      (products : List (List ℕ))
      → Holds (min_cut_of (map (bound_of values ranks) products)) (exact_min_cut (map (exact_bound quantities ranks) products))

-- each interval that is printed holds its exact value, for every number of Taylor terms from the last one on
abbrev pub IsBracketed : Analysis → Type 0
IsBracketed analysis =
    IfSome analysis.values (λ values. (target : Target) (terms : ℕ) → last_term ≤ terms
    → AreBracketed values (quantities_of terms analysis.settings.mission analysis.expanded) (ranks_of analysis.expanded target))
