-- The totals over a list of bounds, as they are gathered.
use Rattle.std.specs.Prelude.{ℕ, ◌+◌, ◌≤◌, List, length, min}
use Rattle.std.specs.List.{fold}
use Rattle.psa_number.specs.Ends.{Ends}
use Rattle.psa_number.specs.Operations.{IsInUnit, unit_product_ends, unit_sum_ends, complement_ends}
use Rattle.psa_model.specs.declared.product.TheConstants.{MAX_COUNT}
use Rattle.psa_model.specs.Quantities.{one_ends, rare_event_of}

-- their count, their rare-event sum, and what the min-cut upper bound leaves of 1
pub record Sums : Type 0 where
  pub count : ℕ
  pub rare_event : Ends
  pub rest : Ends

pub record AreSums (sums : Sums) : Type 0 where
  pub count : sums.count ≤ MAX_COUNT
  pub rare_event : IsInUnit sums.rare_event
  pub rest : IsInUnit sums.rest

-- what is left of 1: its complement is the min-cut upper bound
abbrev pub rest_of : List Ends → Ends
rest_of bounds = fold (λ rest bound. unit_product_ends rest (complement_ends bound)) one_ends bounds

-- the totals of bounds; the count is held
abbrev pub sums_of : List Ends → Sums
sums_of bounds = record { count = min (length bounds) MAX_COUNT; rare_event = rare_event_of bounds; rest = rest_of bounds }

-- the totals with one bound more
abbrev pub taken : Sums → Ends → Sums
taken sums bound = record {
  count = min (sums.count + 1) MAX_COUNT;
  rare_event = unit_sum_ends sums.rare_event bound;
  rest = unit_product_ends sums.rest (complement_ends bound);
}
