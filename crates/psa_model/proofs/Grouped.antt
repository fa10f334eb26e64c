-- The quantities of the group of three members.
use Rattle.std.proofs.Common.{◌≡◌, ℕ, suc, true, [], ◌∷◌, refl}
use Rattle.std.specs.Prelude.{Ok, pos, map}
use Rattle.psa_number.specs.Scaled.{Scaled}
use Rattle.psa_model.specs.declared.model.GroupModel.TheVariants.{Mgl}
use Rattle.psa_model.specs.Expansion.{expanded_of, quantity_of, choose}
use Rattle.psa_model.specs.Values.{interval_value, values_of}
use Rattle.psa_model.specs.GroupExample.{group_model, three_members, shared, exactly}
use Rattle.psa_model.proofs.ExpressionForms.{interval-suc, out-number, out-operation}

-- the subsets of the group, by order and then by members, as bits
pub events : (expanded_of true group_model).events ≡ map shared (1 ∷ 2 ∷ 4 ∷ 3 ∷ 5 ∷ 6 ∷ 7 ∷ [])
events = refl

-- all three fail: 0.1 * 0.2 * 0.5 = 0.01; two: 0.1 * 0.2 * 0.5 / 2 = 0.005; one alone: 0.1 * 0.8 = 0.08
all_three : (n : ℕ) (mission : Scaled) → interval_value (suc (suc (suc (suc n)))) mission group_model (quantity_of Mgl three_members 3 3) ≡ Ok (record { lo = pos 10_000_000_000; hi = pos 10_000_000_000 })
unfolding choose
all_three n mission = simp (interval-suc, out-number, out-operation) refl

two_of_them : (n : ℕ) (mission : Scaled) → interval_value (suc (suc (suc (suc n)))) mission group_model (quantity_of Mgl three_members 3 2) ≡ Ok (record { lo = pos 5_000_000_000; hi = pos 5_000_000_000 })
unfolding choose
two_of_them n mission = simp (interval-suc, out-number, out-operation) refl

one_alone : (n : ℕ) (mission : Scaled) → interval_value (suc (suc (suc (suc n)))) mission group_model (quantity_of Mgl three_members 3 1) ≡ Ok (record { lo = pos 80_000_000_000; hi = pos 80_000_000_000 })
unfolding choose
one_alone n mission = simp (interval-suc, out-number, out-operation) refl

-- the quantities of the subsets, in units of 10^-12
pub values : (mission : Scaled) → values_of mission (expanded_of true group_model) ≡ Ok (map exactly (80_000_000_000 ∷ 80_000_000_000 ∷ 80_000_000_000 ∷ 5_000_000_000 ∷ 5_000_000_000 ∷ 5_000_000_000 ∷ 10_000_000_000 ∷ []))
values mission = rw (one_alone 996 mission, two_of_them 996 mission, all_three 996 mission) refl
