-- What values are at each form of an expression.
use Rattle.std.proofs.Common.{◌≡◌, ℕ, suc, List, refl, sym, ap, ◌∙◌}
use Rattle.psa_number.specs.Scaled.{Scaled}
use Rattle.psa_model.specs.declared.expression.Expression.{Expression}
use Rattle.psa_model.specs.declared.expression.Expression.TheOpen.{Expression-F}
use Rattle.psa_model.specs.declared.expression.Expression.TheViews.{out-Expression, out-roll-Expression, rolls-Operation, rolls-Number}
use Rattle.psa_model.specs.declared.expression.Expression.TheVariants as expression
use Rattle.psa_model.specs.declared.expression.ExpressionOperator.{ExpressionOperator}
use Rattle.psa_model.specs.declared.model.Model.{Model}
use Rattle.psa_model.specs.Values.{interval_value, interval_layer, exact_value, exact_layer}

-- the layer of a number
pub out-number : (d : Scaled) → out-Expression (expression.Number d) ≡ Expression-F.Number d
out-number d = ap out-Expression (sym (rolls-Number d)) ∙ out-roll-Expression (Expression-F.Number d)

-- the layer of an operation
pub out-operation : (operator : ExpressionOperator) (arguments : List Expression) → out-Expression (expression.Operation operator arguments) ≡ Expression-F.Operation operator arguments
out-operation operator arguments =
    ap out-Expression (sym (rolls-Operation operator arguments)) ∙ out-roll-Expression (Expression-F.Operation operator arguments)

-- an interval at one more level is a layer over those below
pub interval-suc : (n : ℕ) (mission : Scaled) (model : Model) (e : Expression) → interval_value (suc n) mission model e ≡ interval_layer mission model (λ g. interval_value n mission model g) (out-Expression e)
unfolding interval_value
interval-suc n mission model e = refl

-- an exact value at one more level is a layer over those below
pub exact-suc : (n terms : ℕ) (mission : Scaled) (model : Model) (e : Expression) → exact_value (suc n) terms mission model e ≡ exact_layer terms mission model (λ g. exact_value n terms mission model g) (out-Expression e)
unfolding exact_value
exact-suc n terms mission model e = refl
