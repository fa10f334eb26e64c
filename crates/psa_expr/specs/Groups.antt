-- The parts of quantities of groups. This project's own.
use Rattle.std.specs.Prelude.{◌==◌, ◌-◌, ℕ, suc, List, [], ◌∷◌, ◌++◌, map, if◌then◌else◌}
use Rattle.std.specs.List.{range_with_len}
use Rattle.psa_model.specs.declared.expression.Expression.{Expression}
use Rattle.psa_model.specs.declared.expression.Expression.TheVariants as expression
use Rattle.psa_model.specs.declared.expression.ExpressionOperator.TheVariants.{Add}
use Rattle.psa_model.specs.declared.model.Group.{Group}
use Rattle.psa_model.specs.Expansion.{choose, factor_at, product_of, whole_number}
use Rattle.psa_expr.specs.declared.terms.Term.{Term}
use Rattle.psa_expr.specs.declared.terms.Term.TheVariants.{Distribution, Factor, Remainder}

-- those of the product in the quantity by multiple Greek letters
abbrev pub mgl_terms : ℕ → ℕ → List Term
mgl_terms count size =
    map (λ level. Factor level) (range_with_len 2 (size - 1))
    ++ (if size == count then [] else Remainder (suc size) ∷ []) ++ Distribution ∷ []

-- the divisor in the quantity by the alpha factor
abbrev pub alpha_divisor_of : Group → ℕ → ℕ → Expression
alpha_divisor_of group n size =
    product_of (whole_number (choose (n - 1) (size - 1))
    ∷ expression.Operation Add (map (λ level. product_of (whole_number level ∷ factor_at group level ∷ [])) (range_with_len 1 n)) ∷ [])
