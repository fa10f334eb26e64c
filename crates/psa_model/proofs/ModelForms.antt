-- The example models have what is promised of a model.
use Rattle.std.proofs.Common.{◌≡◌, ℕ, suc, true, [], Some, refl, sym, ap, ◌∙◌, arith}
use Rattle.std.proofs.lemmas.List.Elements.{All-from_recursion, All-nil}
use Rattle.std.specs.Prelude.{IfSome}
use Rattle.std.specs.List.{slice_get}
use Rattle.psa_number.specs.Scaled.{Scaled}
use Rattle.psa_model.specs.declared.expression.Expression.TheOpen.{Expression-F}
use Rattle.psa_model.specs.declared.expression.Expression.TheFolds.{fold-Expression, fold-roll-Expression}
use Rattle.psa_model.specs.declared.expression.Expression.TheVariants as expression
use Rattle.psa_model.specs.declared.ids.EventId.{EventId}
use Rattle.psa_model.specs.declared.model.BasicEvent.{BasicEvent}
use Rattle.psa_model.specs.declared.model.Factor.{Factor}
use Rattle.psa_model.specs.declared.model.Model.{Model}
use Rattle.psa_model.specs.Truth.{IsResolved}
use Rattle.psa_model.specs.Values.{value_within}
use Rattle.psa_model.specs.Models.{IsModel, IsOfSize, IsGroup, IsValue, expression_nesting_step, is_without_value}
use Rattle.psa_model.specs.GroupExample.{group_model, three_members}
use Rattle.psa_model.proofs.ExpressionForms.{out-number}

nested-number : (d : Scaled) → fold-Expression ℕ expression_nesting_step (expression.Number d) ≡ 1
nested-number d = ap (fold-Expression ℕ expression_nesting_step) (sym (expression.rolls-Number d)) ∙ fold-roll-Expression ℕ expression_nesting_step (Expression-F.Number d)

within-number : (n : ℕ) (model : Model) (d : Scaled) → value_within (suc n) model (expression.Number d) ≡ true
unfolding value_within
within-number n model d = simp (out-number) refl

number-is-value : (model : Model) (d : Scaled) → IsValue model (expression.Number d)
number-is-value model d = (within-number 563 model d, (let nested = nested-number d in omega (arith, nested)))

none-there : {A : Type 0} (place : ℕ) (a : A) → slice_get {X = A} [] place ≡ Some a → ⊥
none-there place a h = cc

group-resolved : IsResolved group_model
group-resolved = record {
  gates = λ place gate found. absurd (none-there place gate found);
  trees = λ place gate found. absurd (none-there place gate found);
  formulas = λ place formula found. absurd (none-there place formula found);
}

group-is-group : IsGroup group_model three_members
group-is-group = record {
  number = (omega arith, omega arith);
  members = All-from_recursion (λ (id : EventId). is_without_value (slice_get group_model.basics id.0) ≡ true) three_members.members (refl, (refl, (refl, tt)));
  distribution = number-is-value group_model _;
  factors = All-from_recursion (λ (factor : Factor). IsValue group_model factor.expression) three_members.factors (number-is-value group_model _, (number-is-value group_model _, tt));
  levels = refl;
}

-- the example with a group has what is promised of a model
pub group-is-model : IsModel group_model
group-is-model = record {
  resolved = group-resolved;
  nested = record {
    gates = All-nil _;
    formulas = All-nil _;
    parameters = All-nil _;
    rules = All-nil _;
    sequences = All-nil _;
    event_trees = All-nil _;
    branches = All-nil _;
  };
  parameters = All-nil _;
  basics = All-from_recursion (λ (basic : BasicEvent). IfSome basic.expression (IsValue group_model)) group_model.basics (tt, (tt, (tt, tt)));
  groups = All-from_recursion (IsGroup group_model) group_model.groups (group-is-group, tt);
  apart = refl;
  order = record { basics = refl; groups = refl };
  rules = All-nil _;
  event_trees = All-nil _;
  functionals = All-nil _;
  sequences = All-nil _;
  branches = All-nil _;
  initiatings = All-nil _;
}

-- three members that their group defines, and the group
pub group-is-of-size : IsOfSize group_model
group-is-of-size = omega arith
