-- What occurrences, truth and visited events are, a level at a time.
use Rattle.std.proofs.Common.{◌≡◌, ℕ, suc, Bool, List, [], ◌∷◌, map, refl}
use Rattle.std.specs.List.{flat_map}
use Rattle.psa_model.specs.declared.formula.Formula.{Formula}
use Rattle.psa_model.specs.declared.formula.Formula.TheViews.{out-Formula}
use Rattle.psa_model.specs.declared.expanded.Expanded.{Expanded}
use Rattle.psa_model.specs.declared.model.Model.{Model}
use Rattle.psa_model.specs.Ranks.{visits, visits_layer}
use Rattle.psa_model.specs.Truth.{truth, truth_layer}
use Rattle.psa_modules.specs.Occurrences.{Occurrence, occurrences, parts_of, put_inside}

-- the occurrences in a formula: its own, and those in its parts
pub occurrences-suc : (n : ℕ) (model : Model) (f : Formula) → occurrences (suc n) model f
    ≡ record { around = []; one = f }
    ∷ map (put_inside f) (flat_map (λ g. occurrences n model g) (parts_of model (out-Formula f)))
unfolding occurrences
occurrences-suc n model f = refl

-- the events met, a level at a time
pub visits-suc : (n : ℕ) (expanded : Expanded) (f : Formula)
    → visits (suc n) expanded f ≡ visits_layer expanded (λ g. visits n expanded g) (out-Formula f)
unfolding visits
visits-suc n expanded f = refl

-- truth, a level at a time
pub truth-suc : (n : ℕ) (expanded : Expanded) (houses : List Bool) (s : ℕ → Bool) (f : Formula)
    → truth (suc n) expanded houses s f
    ≡ truth_layer expanded houses s (λ g. truth n expanded houses s g) (out-Formula f)
unfolding truth
truth-suc n expanded houses s f = refl
