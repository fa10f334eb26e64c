-- The exact quantities of products and of totals, which the intervals of a report hold.
-- (Rare-event sum and min-cut upper bound are those of the field; that the sum is held at 1 is this project's own.)
use Rattle.std.specs.Prelude.{ℕ, List, pos, if◌then◌else◌}
use Rattle.std.specs.List.{fold}
use Rattle.psa_logic.specs.Products.{rank_of, is_positive}
use Rattle.psa_number.specs.Fraction.{Fraction, plus, times, one_minus, at_most_one}
use Rattle.psa_model.specs.declared.ids.EventNumber.{EventNumber}
use Rattle.psa_model.specs.Quantities.{at_rank}
use Rattle.psa_model.specs.Values.{zero_fraction}

-- 1 as a fraction
abbrev pub one_fraction : Fraction
one_fraction = record { num = pos 1; den = 1 }

-- that of a literal: of its event, or what is left of 1
abbrev pub literal_value : List Fraction → List EventNumber → ℕ → Fraction
literal_value quantities ranks literal =
    if is_positive literal then at_rank zero_fraction quantities ranks (rank_of literal)
    else one_minus (at_rank zero_fraction quantities ranks (rank_of literal))

-- that of a product: the product of those of its literals
abbrev pub exact_bound : List Fraction → List EventNumber → List ℕ → Fraction
exact_bound quantities ranks product =
    fold (λ value literal. times value (literal_value quantities ranks literal)) one_fraction product

-- the exact totals of the exact values of products: their sum, held at 1, and what is left of 1 when what is left of 1
-- for each is multiplied
abbrev pub exact_rare_event : List Fraction → Fraction
exact_rare_event values = at_most_one (fold plus zero_fraction values)

-- the min-cut upper bound of exact values: 1 less the product of what each leaves of 1
abbrev pub exact_min_cut : List Fraction → Fraction
exact_min_cut values = one_minus (fold (λ rest value. times rest (one_minus value)) one_fraction values)
