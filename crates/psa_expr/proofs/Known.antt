-- What is known of parameters after a record.
use Rattle.std.proofs.Common.{◌≡◌, ◌<◌, ◌⊎◌, inl, inr, ℕ, suc, zero, List, [], ◌∷◌, ◌++◌, Option, Some, None, length, refl, ap, arith}
use Rattle.std.specs.List.{slice_set}
use Rattle.psa_number.specs.Ends.{Ends}
use Rattle.psa_expr.specs.Answers.{recorded}

pub written : (known : List (Option Ends)) (id : ℕ) (v : Ends) (place : ℕ) (a : Ends) → recorded (slice_set known id (Some v)) place ≡ Some a → (recorded known place ≡ Some a) ⊎ ((place ≡ id) × (a ≡ v))
written [] id v place a h = inl h
written (e ∷ es) zero v zero a h = inr (refl, cc)
written (e ∷ es) zero v (suc place) a h = inl h
written (e ∷ es) (suc id) v zero a h = inl h
written (e ∷ es) (suc id) v (suc place) a h =
    elim (written es id v place a h) [
      | inl old ↦ inl old
      | inr new ↦ inr (ap suc new.0, new.1)
    ]

pub told : (known : List (Option Ends)) (id : ℕ) (v : Ends) → id < length known → recorded (slice_set known id (Some v)) id ≡ Some v
told [] id v l = absurd (omega arith)
told (e ∷ es) zero v l = refl
told (e ∷ es) (suc id) v l = told es id v (omega arith)

pub none-pushed : (known : List (Option Ends)) (place : ℕ) → recorded known place ≡ None → recorded (known ++ (None ∷ [])) place ≡ None
none-pushed [] zero h = refl
none-pushed [] (suc place) h = refl
none-pushed (e ∷ es) zero h = h
none-pushed (e ∷ es) (suc place) h = none-pushed es place h
