-- Parts of quantities with small numbers. This project's own.
use Rattle.std.specs.Prelude.{Bool, true, nat_le}
use Rattle.psa_number.specs.declared.limits.TheConstants.{MAX_DECIMAL}
use Rattle.psa_expr.specs.declared.terms.Term.{Term}
use Rattle.psa_expr.specs.declared.terms.Term.TheVariants.{Whole, Weighted}

-- the number of the part is one that a decimal holds
abbrev pub is_small : Term → Bool
is_small (Whole n) = nat_le n MAX_DECIMAL
is_small (Weighted level) = nat_le level MAX_DECIMAL
is_small _ = true
