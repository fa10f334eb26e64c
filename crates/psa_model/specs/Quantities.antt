-- The bound of a product, whether the cutoff keeps it, and the totals of a list. Rare-event sum and min-cut upper
-- bound are those of the field; that the sum is held at 1, and the rounding, are this project's own.
use Rattle.std.specs.Prelude.{ℕ, ℤ, pos, Bool, true, List, Option, Some, None, is_some, int_le, ◌||◌, option_and_then, unwrap_or, if◌then◌else◌}
use Rattle.std.specs.List.{slice_get, fold}
use Rattle.std.specs.Option.{option_map_or}
use Rattle.psa_number.specs.Scaled.{Scaled}
use Rattle.psa_number.specs.Units.{units}
use Rattle.psa_number.specs.Ends.{Ends}
use Rattle.psa_number.specs.Operations.{unit_product_ends, unit_sum_ends, complement_ends, decimal_ends}
use Rattle.psa_logic.specs.Products.{rank_of, is_positive}
use Rattle.psa_model.specs.declared.ids.EventNumber.{EventNumber}
use Rattle.psa_model.specs.declared.settings.Settings.{Settings}

-- quantities are computed where a cutoff or a total is asked for
abbrev pub has_quantities : Settings → Bool
has_quantities settings = is_some settings.cut_off || settings.rare_event || settings.mcub

-- the interval of 0 alone
abbrev pub zero_ends : Ends
zero_ends = record { lo = pos 0; hi = pos 0 }

-- the interval of 1 alone
abbrev pub one_ends : Ends
one_ends = record { lo = pos units; hi = pos units }

-- what is known of the event with a rank, by event number
abbrev pub at_rank : {A : Type 0} → A → List A → List EventNumber → ℕ → A
at_rank default values ranks rank =
    unwrap_or (option_and_then (λ number. slice_get values number.0) (slice_get ranks rank)) default

-- the interval of a literal: that of its event, or its complement
abbrev pub literal_ends : List Ends → List EventNumber → ℕ → Ends
literal_ends values ranks literal =
    if is_positive literal then at_rank zero_ends values ranks (rank_of literal)
    else complement_ends (at_rank zero_ends values ranks (rank_of literal))

-- the bound of a product: the product of its literals' intervals, in order
abbrev pub bound_of : List Ends → List EventNumber → List ℕ → Ends
bound_of values ranks product =
    fold (λ bound literal. unit_product_ends bound (literal_ends values ranks literal)) one_ends product

-- the cutoff's ceiling in units, 0 where there is none
abbrev pub cut_off_units : Option Scaled → ℤ
cut_off_units cut_off = option_map_or (λ decimal. (decimal_ends decimal).hi) cut_off (pos 0)

-- a product is kept where no cutoff stands, or its upper end is at least the cutoff's ceiling in units
abbrev pub is_kept : Option Scaled → Ends → Bool
is_kept None bound = true
is_kept (Some cut_off) bound = int_le (decimal_ends cut_off).hi bound.hi

-- the rare-event sum of bounds
abbrev pub rare_event_of : List Ends → Ends
rare_event_of bounds = fold unit_sum_ends zero_ends bounds

-- the min-cut upper bound of bounds
abbrev pub min_cut_of : List Ends → Ends
min_cut_of bounds = complement_ends (fold (λ rest bound. unit_product_ends rest (complement_ends bound)) one_ends bounds)
