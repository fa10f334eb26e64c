-- What intervals and levels are at each form of an expression.
use Rattle.std.proofs.Common.{◌≡◌, ◌<◌, ◌≤◌, ◌+◌, ◌-◌, ℕ, zero, suc, true, false, List, Ok, length, map, refl, sym, ap, ◌∙◌, sub-one, arith}
use Rattle.std.proofs.lemmas.Bool.{and_parts}
use Rattle.std.specs.List.{slice_get, list_all}
use Rattle.psa_number.specs.Operations.{decimal_ends}
use Rattle.psa_number.specs.Scaled.{Scaled}
use Rattle.psa_model.specs.declared.expression.Expression.{Expression}
use Rattle.psa_model.specs.declared.expression.Expression.TheOpen.{Expression-F}
use Rattle.psa_model.specs.declared.expression.Expression.TheViews.{out-Expression, out-roll-Expression, rolls-Parameter}
use Rattle.psa_model.specs.declared.expression.Expression.TheVariants as expression
use Rattle.psa_model.specs.declared.expression.ExpressionOperator.{ExpressionOperator}
use Rattle.psa_model.specs.declared.ids.ParameterId.{ParameterId}
use Rattle.psa_model.specs.declared.model.Model.{Model}
use Rattle.psa_model.specs.Values.{at_parameter, has_operands, no_value, all_computed, on_values, interval_value, value_within}
use Rattle.psa_model.proofs.ExpressionForms.{out-number, out-operation, interval-suc}
use Rattle.psa_model.proofs.ValueLevels.{within-more}

out-mission : out-Expression expression.MissionTime ≡ Expression-F.MissionTime
out-mission = ap out-Expression (sym expression.rolls-MissionTime) ∙ out-roll-Expression Expression-F.MissionTime

out-parameter : (id : ParameterId) → out-Expression (expression.Parameter id) ≡ Expression-F.Parameter id
out-parameter id = ap out-Expression (sym (rolls-Parameter id)) ∙ out-roll-Expression (Expression-F.Parameter id)

pub some-level : (n : ℕ) (model : Model) (e : Expression) → value_within n model e ≡ true → 0 < n
unfolding value_within
some-level zero model e h = absurd (cc)
some-level (suc n) model e h = omega arith

pub value-number : (n : ℕ) (mission : Scaled) (model : Model) (d : Scaled) → 0 < n → interval_value n mission model (expression.Number d) ≡ Ok (decimal_ends d)
value-number zero mission model d l = absurd (omega arith)
value-number (suc n) mission model d l = simp (interval-suc, out-number) refl

pub value-mission : (n : ℕ) (mission : Scaled) (model : Model) → 0 < n → interval_value n mission model expression.MissionTime ≡ Ok (decimal_ends mission)
value-mission zero mission model l = absurd (omega arith)
value-mission (suc n) mission model l = simp (interval-suc, out-mission) refl

pub value-parameter : (n : ℕ) (mission : Scaled) (model : Model) (id : ParameterId) → 0 < n → interval_value n mission model (expression.Parameter id) ≡ at_parameter no_value (λ g. interval_value (n - 1) mission model g) (slice_get model.parameters id.0)
value-parameter zero mission model id l = absurd (omega arith)
value-parameter (suc n) mission model id l = rw (interval-suc n mission model (expression.Parameter id), out-parameter id, sub-one) refl

pub value-operation : (n : ℕ) (mission : Scaled) (model : Model) (operator : ExpressionOperator) (arguments : List Expression) → 0 < n → interval_value n mission model (expression.Operation operator arguments) ≡ on_values operator (all_computed (map (λ g. interval_value (n - 1) mission model g) arguments))
value-operation zero mission model operator arguments l = absurd (omega arith)
value-operation (suc n) mission model operator arguments l =
    rw (interval-suc n mission model (expression.Operation operator arguments), out-operation operator arguments, sub-one) refl

pub within-parameter : (n : ℕ) (model : Model) (id : ParameterId) → value_within n model (expression.Parameter id) ≡ true → at_parameter false (λ g. value_within (n - 1) model g) (slice_get model.parameters id.0) ≡ true
unfolding value_within
within-parameter zero model id h = absurd (cc)
within-parameter (suc n) model id h = rw sub-one (rw (out-parameter id) at h)

pub within-operation : (n : ℕ) (model : Model) (operator : ExpressionOperator) (arguments : List Expression) → value_within n model (expression.Operation operator arguments) ≡ true → list_all (λ g. value_within (n - 1) model g) arguments ≡ true
unfolding value_within
within-operation zero model operator arguments h = absurd (cc)
within-operation (suc n) model operator arguments h =
    rw sub-one ((and_parts (has_operands operator (length arguments)) (list_all (λ g. value_within n model g) arguments) (rw (out-operation operator arguments) at h)).1)

-- what is within some levels is within more
pub within-later : (n : ℕ) (k : ℕ) (model : Model) (e : Expression) → value_within n model e ≡ true → value_within (n + k) model e ≡ true
within-later n zero model e h = let same : n + 0 ≡ n = omega arith in rw same h
within-later n (suc k) model e h = let same : n + suc k ≡ suc (n + k) = omega arith in rw same (within-more (n + k) model e (within-later n k model e h))

pub within-above : (n m : ℕ) (model : Model) (e : Expression) → n ≤ m → value_within n model e ≡ true → value_within m model e ≡ true
within-above n m model e l h = let same : n + (m - n) ≡ m = omega arith in rw (sym same) (within-later n (m - n) model e h)
