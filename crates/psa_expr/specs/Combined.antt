-- Operations on two values. This project's own.
use Rattle.std.specs.Prelude.{ℕ, pos, false}
use Rattle.psa_number.specs.Ends.{Ends}
use Rattle.psa_number.specs.Operations.{limited, sum_ends, difference_ends, product_ends, quotient_of, decimal_ends}
use Rattle.psa_model.specs.Values.{Computed}
use Rattle.psa_expr.specs.declared.operations.Folded.{Folded}
use Rattle.psa_expr.specs.declared.operations.Folded.TheVariants.{Sum, Difference, Product, Quotient}

-- one step of an operation that is folded over its arguments
abbrev pub combined : Folded → Ends → Ends → Computed
combined Sum a b = limited (sum_ends a b)
combined Difference a b = limited (difference_ends a b)
combined Product a b = limited (product_ends a b)
combined Quotient a b = quotient_of a b

-- a whole number
abbrev pub whole_ends : ℕ → Ends
whole_ends n = decimal_ends (record { negative = false; digits = n; exponent = pos 0 })
