-- The levels of a group, one after the other.
use Rattle.std.proofs.Common.{◌≡◌, ◌≤◌, ◌<◌, ◌+◌, ◌-◌, ◌==◌, ◌&&◌, ℕ, suc, Bool, true, false, List, [], ◌∷◌, length, refl, sym, ap, ◌∙◌, arith, eq-eqb, eqb-true}
use Rattle.std.proofs.lemmas.List.FromFn.{length-range_with_len}
use Rattle.std.specs.List.{range_with_len, list_all}
use Rattle.std.specs.Prelude.{count_by}
use Rattle.psa_model.specs.Models.{levels_of}
use Rattle.psa_model.specs.declared.draft.DraftFactor.{DraftFactor}
use Rattle.psa_model.specs.declared.model.GroupModel.{GroupModel}
use Rattle.psa_names.specs.GroupRules.{has_level, has_levels}

-- the levels from one on begin with it
pub range-step : (level last : ℕ) → level < last → range_with_len level (last - level) ≡ level ∷ range_with_len (level + 1) (last - (level + 1))
range-step level last low = ap (range_with_len level) (let e : last - level ≡ suc (last - (level + 1)) = omega arith in e)

-- behind the last there is none
pub range-end : (level last : ℕ) → last ≤ level → range_with_len level (last - level) ≡ []
range-end level last past = ap (range_with_len level) (let e : last - level ≡ 0 = omega arith in e)

-- each level has one factor
abbrev pub has_one : GroupModel → ℕ → List DraftFactor → ℕ → Bool
has_one model members factors level = count_by (has_level model members level) factors == 1

-- a level that has one factor is passed
pub level-passed : (model : GroupModel) (members : ℕ) (factors : List DraftFactor) (level last : ℕ) → level < last → has_one model members factors level ≡ true
    → list_all (has_one model members factors) (range_with_len (level + 1) (last - (level + 1))) ≡ list_all (has_one model members factors) (range_with_len level (last - level))
level-passed model members factors level last low one =
    sym (ap (list_all (has_one model members factors)) (range-step level last low) ∙ ap (λ b. b && list_all (has_one model members factors) (range_with_len (level + 1) (last - (level + 1)))) one)

-- one that has not fails all
pub level-failed : (model : GroupModel) (members : ℕ) (factors : List DraftFactor) (level last : ℕ) → level < last → has_one model members factors level ≡ false
    → list_all (has_one model members factors) (range_with_len level (last - level)) ≡ false
level-failed model members factors level last low none =
    ap (list_all (has_one model members factors)) (range-step level last low) ∙ ap (λ b. b && list_all (has_one model members factors) (range_with_len (level + 1) (last - (level + 1)))) none

-- a test and one that always fails
no-more : (b : Bool) → (b && false) ≡ false
no-more true = refl
no-more false = refl

-- the levels are all those from the first on
pub levels-by : (model : GroupModel) (members first : ℕ) (factors : List DraftFactor) → levels_of model members ≡ range_with_len first (members + 1 - first)
    → has_levels model members factors ≡ (length factors == (members + 1 - first) && list_all (has_one model members factors) (range_with_len first (members + 1 - first)))
levels-by model members first factors is =
    ap (λ (l : List ℕ). length factors == length l && list_all (has_one model members factors) l) is
    ∙ ap (λ n. length factors == n && list_all (has_one model members factors) (range_with_len first (members + 1 - first))) (length-range_with_len first (members + 1 - first))

-- a level without its factor
pub levels-fail : (model : GroupModel) (members first : ℕ) (factors : List DraftFactor) → levels_of model members ≡ range_with_len first (members + 1 - first)
    → list_all (has_one model members factors) (range_with_len first (members + 1 - first)) ≡ false → has_levels model members factors ≡ false
levels-fail model members first factors is none =
    levels-by model members first factors is ∙ ap (λ b. length factors == (members + 1 - first) && b) none ∙ no-more (length factors == (members + 1 - first))

-- another number of factors
pub levels-short : (model : GroupModel) (members first : ℕ) (factors : List DraftFactor) → levels_of model members ≡ range_with_len first (members + 1 - first) → (length factors ≡ members + 1 - first → ⊥) → false ≡ has_levels model members factors
levels-short model members first factors is other =
    sym (levels-by model members first factors is ∙ by (length factors == (members + 1 - first)) refl)
  where
    by : (b : Bool) → (length factors == (members + 1 - first)) ≡ b → (length factors == (members + 1 - first) && list_all (has_one model members factors) (range_with_len first (members + 1 - first))) ≡ false
    by true e = absurd (other (eqb-true (length factors) (members + 1 - first) e))
    by false e = ap (λ b. b && list_all (has_one model members factors) (range_with_len first (members + 1 - first))) e

-- as many factors, and one for each level
pub levels-pass : (model : GroupModel) (members first : ℕ) (factors : List DraftFactor) → levels_of model members ≡ range_with_len first (members + 1 - first) → length factors ≡ members + 1 - first
    → list_all (has_one model members factors) (range_with_len first (members + 1 - first)) ≡ true → true ≡ has_levels model members factors
levels-pass model members first factors is same all =
    sym (levels-by model members first factors is
    ∙ ap (λ b. b && list_all (has_one model members factors) (range_with_len first (members + 1 - first))) (eq-eqb (length factors) (members + 1 - first) same) ∙ all)

-- a number that is not one
pub is-one : (n : ℕ) → (n ≡ 1 → ⊥) → (n == 1) ≡ false
is-one n other = by (n == 1) refl
  where
    by : (b : Bool) → (n == 1) ≡ b → (n == 1) ≡ false
    by true e = absurd (other (eqb-true n 1 e))
    by false e = e
