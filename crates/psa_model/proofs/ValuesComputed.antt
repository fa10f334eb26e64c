-- The values of small expressions.
use Rattle.std.proofs.Common.{◌≡◌, ℕ, suc, [], ◌∷◌, Some, None, refl, sym, ap, ◌∙◌}
use Rattle.std.specs.Prelude.{Ok, Err, pos, negsuc}
use Rattle.psa_number.specs.Exponential.{lower_term, lower_sum, upper_term, upper_sum, first_from}
use Rattle.psa_number.specs.Scaled.{Scaled}
use Rattle.psa_number.specs.declared.fault.NumberFault.TheVariants as number
use Rattle.psa_model.specs.declared.expression.Expression.TheOpen.{Expression-F}
use Rattle.psa_model.specs.declared.expression.Expression.TheViews.{out-Expression, out-roll-Expression}
use Rattle.psa_model.specs.declared.expression.Expression.TheVariants as expression
use Rattle.psa_model.specs.declared.model.Model.{Model}
use Rattle.psa_model.specs.Values.{interval_value, exact_value}
use Rattle.psa_model.specs.declared.fault.FaultKind.TheVariants as fault
use Rattle.psa_model.specs.Expansion.{whole_number}
use Rattle.psa_model.specs.ValueExample.{scaled, thrice_a_third, failing_at, one_by_zero, one_event_model, value_at, fault_of_a}
use Rattle.psa_model.proofs.ExpressionForms.{interval-suc, exact-suc, out-number, out-operation}

out-mission : out-Expression expression.MissionTime ≡ Expression-F.MissionTime
out-mission = ap out-Expression (sym expression.rolls-MissionTime) ∙ out-roll-Expression Expression-F.MissionTime

-- the intervals and exact values of the example expressions, at levels enough
pub third-interval : (n : ℕ) (mission : Scaled) (model : Model) → interval_value (suc (suc (suc n))) mission model thrice_a_third ≡ Ok (record { lo = pos 999_999_999_999; hi = pos 1_000_000_000_002 })
third-interval n mission model = simp (interval-suc, out-number, out-operation) refl

pub third-exact : (n terms : ℕ) (mission : Scaled) (model : Model) → exact_value (suc (suc (suc n))) terms mission model thrice_a_third ≡ record { num = pos 3; den = 3 }
third-exact n terms mission model = simp (exact-suc, out-number, out-operation) refl

pub small-interval : (n : ℕ) (mission : Scaled) (model : Model) → interval_value (suc n) mission model (expression.Number (scaled 1 (negsuc 19))) ≡ Ok (record { lo = pos 0; hi = pos 1 })
small-interval n mission model = simp (interval-suc, out-number) refl

pub zero-divisor : (n : ℕ) (mission : Scaled) (model : Model) → interval_value (suc (suc n)) mission model one_by_zero ≡ Err number.ZeroDivisor
zero-divisor n mission model = simp (interval-suc, out-number, out-operation) refl

pub exponential-interval : (n : ℕ) (model : Model) → interval_value (suc (suc n)) (scaled 8760 (pos 0)) model (failing_at (scaled 1 (negsuc 5))) ≡ Ok (record { lo = pos 8_721_742_990; hi = pos 8_721_742_995 })
unfolding lower_term lower_sum upper_term upper_sum first_from
exponential-interval n model = simp (interval-suc, out-number, out-mission, out-operation) refl

pub two-interval : (n : ℕ) (mission : Scaled) (model : Model) → interval_value (suc n) mission model (whole_number 2) ≡ Ok (record { lo = pos 2_000_000_000_000; hi = pos 2_000_000_000_000 })
two-interval n mission model = simp (interval-suc, out-number) refl

-- the values of the example expressions, held to 1
pub third-value : (mission : Scaled) → value_at mission (Some thrice_a_third) ≡ Ok (record { lo = pos 999_999_999_999; hi = pos 1_000_000_000_000 } ∷ [])
third-value mission = rw (third-interval 997 mission (one_event_model (Some thrice_a_third))) refl

pub small-value : (mission : Scaled) → value_at mission (Some (expression.Number (scaled 1 (negsuc 19)))) ≡ Ok (record { lo = pos 0; hi = pos 1 } ∷ [])
small-value mission = rw (small-interval 999 mission (one_event_model (Some (expression.Number (scaled 1 (negsuc 19)))))) refl

pub exponential-value : value_at (scaled 8760 (pos 0)) (Some (failing_at (scaled 1 (negsuc 5)))) ≡ Ok (record { lo = pos 8_721_742_990; hi = pos 8_721_742_995 } ∷ [])
exponential-value = rw (exponential-interval 998 (one_event_model (Some (failing_at (scaled 1 (negsuc 5)))))) refl

-- the faults of the example values: none given, a division by zero, above 1
pub missing-fault : (mission : Scaled) → value_at mission None ≡ Err (fault_of_a fault.NoValue)
missing-fault mission = refl

pub divisor-fault : (mission : Scaled) → value_at mission (Some one_by_zero) ≡ Err (fault_of_a fault.ZeroDivisor)
divisor-fault mission = rw (zero-divisor 998 mission (one_event_model (Some one_by_zero))) refl

pub above-fault : (mission : Scaled) → value_at mission (Some (whole_number 2)) ≡ Err (fault_of_a fault.NotProbability)
above-fault mission = rw (two-interval 999 mission (one_event_model (Some (whole_number 2)))) refl
