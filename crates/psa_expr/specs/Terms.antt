-- The parts of the quantity of a group's subsets, and what an evaluation at enough levels gives. This project's own.
use Rattle.std.specs.Prelude.{◌≡◌, ◌≤◌, ◌+◌, ℕ, Bool, List, [], ◌∷◌, ◌&&◌, Option}
use Rattle.std.specs.List.{list_all}
use Rattle.psa_number.specs.Ends.{Ends}
use Rattle.psa_number.specs.Scaled.{Scaled}
use Rattle.psa_model.specs.declared.expression.Expression.{Expression}
use Rattle.psa_model.specs.declared.limits.TheConstants.{MAX_NESTING}
use Rattle.psa_model.specs.declared.model.TheConstants.{MAX_DEPTH}
use Rattle.psa_model.specs.declared.model.Group.{Group}
use Rattle.psa_model.specs.declared.model.Model.{Model}
use Rattle.psa_model.specs.Expansion.{factor_at, one_less, product_of, whole_number}
use Rattle.psa_model.specs.Values.{value_within}
use Rattle.psa_expr.specs.declared.terms.Term.{Term}
use Rattle.psa_expr.specs.declared.terms.Term.TheVariants.{Whole, Distribution, Factor, Remainder, Weighted}
use Rattle.psa_expr.specs.Answers.{AllRight}

-- the expression that a part stands for
abbrev pub term_expression : Group → Term → Expression
term_expression group (Whole n) = whole_number n
term_expression group Distribution = group.distribution
term_expression group (Factor level) = factor_at group level
term_expression group (Remainder level) = one_less (factor_at group level)
term_expression group (Weighted level) = product_of (whole_number level ∷ factor_at group level ∷ [])

-- levels enough for an expression of an event or a group
abbrev pub own_levels : ℕ
own_levels = MAX_NESTING + MAX_DEPTH

-- the expressions of a group are within these levels
abbrev pub has_values : Model → Group → Bool
has_values model group =
    value_within own_levels model group.distribution
    && list_all (λ factor. value_within own_levels model factor.expression) group.factors

-- an answer at so many levels and more, with what is known of parameters after it
pub record Settled {A : Type 0} (mission : Scaled) (model : Model) (levels : ℕ) (value : ℕ → A) (known : List (Option Ends)) (result : A) : Type 0 where
  pub right : AllRight mission model known
  pub is : (n : ℕ) → levels ≤ n → result ≡ value n
