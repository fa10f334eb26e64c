-- What callers have who know what is promised of a model.
use Rattle.std.proofs.Common.{◌≡◌, ◌≤◌, Bool, true, List, [], ◌∷◌, Option, Some, None, All, IfSome, length, ◌&&◌, refl}
use Rattle.std.proofs.lemmas.List.Elements.{All-head, All-tail, All-weaker}
use Rattle.std.specs.List.{list_all}
use Rattle.psa_model.specs.declared.expression.Expression.{Expression}
use Rattle.psa_model.specs.declared.limits.TheConstants.{MAX_MEMBERS}
use Rattle.psa_model.specs.declared.model.Factor.{Factor}
use Rattle.psa_model.specs.declared.model.Model.{Model}
use Rattle.psa_model.specs.Models.{IsGroup, IsModel, IsValue}
use Rattle.psa_model.specs.Values.{value_within}
use Rattle.psa_expr.specs.Events.{HaveValues}
use Rattle.psa_expr.specs.Terms.{has_values, own_levels}

own : (model : Model) (found : Option Expression) → IfSome found (IsValue model) → IfSome found (λ e. value_within own_levels model e ≡ true)
own model None is = is
own model (Some e) is = is.0

and-both : (a b : Bool) → a ≡ true → b ≡ true → (a && b) ≡ true
and-both a b p q = rw (p, q) refl

factors-of : (model : Model) (factors : List Factor) → All (λ factor. IsValue model factor.expression) factors → list_all (λ factor. value_within own_levels model factor.expression) factors ≡ true
factors-of model [] all = refl
factors-of model (factor ∷ factors) all =
    and-both _ _ (All-head (λ f. IsValue model f.expression) factor factors all).0
    (factors-of model factors (All-tail (λ f. IsValue model f.expression) factor factors all))

-- the expressions of a model are within their levels
pub values-of-model : (model : Model) → IsModel model → HaveValues model
values-of-model model is = record {
  basics = All-weaker (λ basic. IfSome basic.expression (IsValue model)) (λ basic. IfSome basic.expression (λ e. value_within own_levels model e ≡ true)) (λ basic has. own model basic.expression has) model.basics is.basics;
  groups = All-weaker (IsGroup model) (λ group. (length group.members ≤ MAX_MEMBERS) × (has_values model group ≡ true)) (λ group has. (has.number.1, and-both _ _ has.distribution.0 (factors-of model group.factors has.factors))) model.groups is.groups;
}
