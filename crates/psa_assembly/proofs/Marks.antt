-- Marks by number.
use Rattle.std.proofs.Common.{◌≡◌, ◌<◌, ◌+◌, ℕ, zero, suc, Bool, true, false, List, [], ◌∷◌, ◌++◌, Some, None, length, take, get_or, refl, sym, ap, ◌∙◌, eqb, ◌||◌, inl, inr}
use Rattle.std.proofs.Math.Bool.{or_assoc}
use Rattle.std.proofs.Math.ListN.{set}
use Rattle.std.proofs.lemmas.Bool.{cases_Bool, eqb-true, eq-eqb, false≢true}
use Rattle.std.proofs.lemmas.Grind.{get_or-set_at}
use Rattle.std.proofs.lemmas.List.{get_or-set_other}
use Rattle.std.proofs.lemmas.List.Folds.{list_any_more}
use Rattle.std.specs.List.{slice_get, list_any}

-- where there is no mark
pub get-none : (xs : List Bool) (i : ℕ) → None ≡ slice_get xs i → false ≡ get_or xs i false
get-none [] i is = refl
get-none (x ∷ xs) zero is = absurd (let h : None ≡ Some x = is in cc)
get-none (x ∷ xs) (suc i) is = get-none xs i is

-- one more that says nothing
pub get-pushed : (xs : List Bool) (k : ℕ) → get_or (xs ++ false ∷ []) k false ≡ get_or xs k false
get-pushed [] zero = refl
get-pushed [] (suc k) = refl
get-pushed (x ∷ xs) zero = refl
get-pushed (x ∷ xs) (suc k) = get-pushed xs k

or-true : (b : Bool) → true ≡ (b || true)
or-true true = refl
or-true false = refl

pub or-false : (b : Bool) → b ≡ (b || false)
or-false true = refl
or-false false = refl

-- one more mark
pub get-marked : (xs : List Bool) (at k : ℕ) → at < length xs → get_or (set xs at true) k false ≡ (get_or xs k false || eqb at k)
get-marked xs at k inside = elim (cases_Bool (eqb at k)) [
  | inl is ↦ get_or-set_at xs at k true false (sym (eqb-true at k is)) inside ∙ or-true (get_or xs k false) ∙ ap (λ b. get_or xs k false || b) (sym is)
  | inr isnt ↦ get_or-set_other xs at k true false (λ e. false≢true (sym isnt ∙ eq-eqb at k (sym e))) ∙ or-false (get_or xs k false) ∙ ap (λ b. get_or xs k false || b) (sym isnt)
]

-- one more of a list is looked at, behind what was known before
pub any-behind : {X : Type 0} (p : X → Bool) (xs : List X) (i : ℕ) (d : X) (old now new : Bool) → i < length xs → now ≡ (old || list_any p (take i xs)) → new ≡ (now || p (get_or xs i d)) → new ≡ (old || list_any p (take (i + 1) xs))
any-behind p xs i d old now new inside before more =
    more ∙ ap (λ b. b || p (get_or xs i d)) before ∙ or_assoc old (list_any p (take i xs)) (p (get_or xs i d)) ∙ ap (λ b. old || b) (sym (list_any_more p xs i d inside))

-- one more of a list is looked at
pub any-next : {X : Type 0} (p : X → Bool) (xs : List X) (i : ℕ) (x : X) (now new : Bool) → i < length xs → x ≡ get_or xs i x → now ≡ list_any p (take i xs) → new ≡ (now || p x) → new ≡ list_any p (take (i + 1) xs)
any-next p xs i x now new inside is before more =
    more ∙ ap (λ b. b || p x) before ∙ ap (λ y. list_any p (take i xs) || p y) is ∙ sym (list_any_more p xs i x inside)
