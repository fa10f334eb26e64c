-- The parts of quantities, as expressions.
use Rattle.std.proofs.Common.{◌≡◌, ◌≤◌, ◌<◌, ◌+◌, ◌-◌, ℕ, suc, zero, Bool, true, false, List, [], ◌∷◌, ◌++◌, map, nat_le, cond, eqb, ◌&&◌, refl, ap, ap₂, ◌∙◌, arith}
use Rattle.std.proofs.lemmas.Bool.Decides.{nat_tests}
use Rattle.std.proofs.lemmas.List.{map-append}
use Rattle.std.proofs.lemmas.List.Folds.{list_all-append}
use Rattle.std.specs.List.{list_all, range_with_len}
use Rattle.psa_number.specs.declared.limits.TheConstants.{MAX_DECIMAL}
use Rattle.psa_model.specs.declared.expression.Expression.TheVariants as expression
use Rattle.psa_model.specs.declared.expression.ExpressionOperator.TheVariants.{Mul}
use Rattle.psa_model.specs.declared.model.Group.{Group}
use Rattle.psa_model.specs.Expansion.{factor_at, one_less, product_of, whole_number, beta_quantity}
use Rattle.psa_expr.specs.declared.terms.Term.{Term}
use Rattle.psa_expr.specs.declared.terms.Term.TheVariants.{Whole, Distribution, Factor, Remainder, Weighted}
use Rattle.psa_expr.specs.Groups.{mgl_terms}
use Rattle.psa_expr.specs.Small.{is_small}
use Rattle.psa_expr.specs.Terms.{term_expression}
use Rattle.psa_expr.proofs.Settling.{map-map}

-- the beta factor
pub beta-expression : (group : Group) (count size : ℕ) (share : Term) → share ≡ cond (eqb size 1) (Remainder count) (Factor count) → expression.Operation Mul (term_expression group share ∷ group.distribution ∷ []) ≡ beta_quantity group count size
beta-expression group count size share is =
    ap (λ s. expression.Operation Mul (term_expression group s ∷ group.distribution ∷ [])) is ∙ by-test (eqb size 1)
  where
    by-test : (b : Bool) → expression.Operation Mul (term_expression group (cond b (Remainder count) (Factor count)) ∷ group.distribution ∷ []) ≡ cond b (product_of (one_less (factor_at group count) ∷ group.distribution ∷ [])) (product_of (factor_at group count ∷ group.distribution ∷ []))
    by-test true = refl
    by-test false = refl

pub beta-small : (count size : ℕ) (share : Term) → share ≡ cond (eqb size 1) (Remainder count) (Factor count) → list_all is_small (share ∷ Distribution ∷ []) ≡ true
beta-small count size share is = ap (λ s. list_all is_small (s ∷ Distribution ∷ [])) is ∙ by-test (eqb size 1)
  where
    by-test : (b : Bool) → list_all is_small (cond b (Remainder count) (Factor count) ∷ Distribution ∷ []) ≡ true
    by-test true = refl
    by-test false = refl

-- multiple Greek letters
abbrev pub letters : ℕ → List Term
letters size = map (λ level. Factor level) (range_with_len 2 (size - 1))

abbrev pub next : ℕ → Bool → List Term
next size b = cond b [] (Remainder (suc size) ∷ [])

next-expression : (group : Group) (size : ℕ) (b : Bool) → map (term_expression group) (next size b) ≡ cond b [] (one_less (factor_at group (suc size)) ∷ [])
next-expression group size true = refl
next-expression group size false = refl

pub mgl-expressions : (group : Group) (count size : ℕ) → map (term_expression group) (mgl_terms count size) ≡ map (factor_at group) (range_with_len 2 (size - 1)) ++ cond (eqb size count) [] (one_less (factor_at group (suc size)) ∷ []) ++ group.distribution ∷ []
mgl-expressions group count size =
    map-append (term_expression group) (letters size ++ next size (eqb size count)) (Distribution ∷ [])
    ∙ ap (λ xs. xs ++ group.distribution ∷ [])
    (map-append (term_expression group) (letters size) (next size (eqb size count))
    ∙ ap₂ (λ xs ys. xs ++ ys) (map-map (term_expression group) (λ level. Factor level) (range_with_len 2 (size - 1))) (next-expression group size (eqb size count)))

factors-small : (levels : List ℕ) → list_all is_small (map (λ level. Factor level) levels) ≡ true
factors-small [] = refl
factors-small (level ∷ levels) = factors-small levels

pub mgl-small : (count size : ℕ) → list_all is_small (mgl_terms count size) ≡ true
mgl-small count size =
    list_all-append is_small (map (λ level. Factor level) (range_with_len 2 (size - 1)) ++ cond (eqb size count) [] (Remainder (suc size) ∷ [])) (Distribution ∷ [])
    ∙ rw (list_all-append is_small (map (λ level. Factor level) (range_with_len 2 (size - 1))) (cond (eqb size count) [] (Remainder (suc size) ∷ [])), factors-small (range_with_len 2 (size - 1))) (by-test (eqb size count))
  where
    by-test : (b : Bool) → (list_all is_small (cond b [] (Remainder (suc size) ∷ [])) && true) ≡ true
    by-test true = refl
    by-test false = refl

-- the alpha factor
pub alpha-expressions : (group : Group) (count : ℕ) → map (term_expression group) (map (λ level. Weighted level) (range_with_len 1 count)) ≡ map (λ level. product_of (whole_number level ∷ factor_at group level ∷ [])) (range_with_len 1 count)
alpha-expressions group count = map-map (term_expression group) (λ level. Weighted level) (range_with_len 1 count)

weighted-from : (first count : ℕ) → first + count ≤ MAX_DECIMAL → list_all is_small (map (λ level. Weighted level) (range_with_len first count)) ≡ true
weighted-from first zero l = refl
weighted-from first (suc count) l =
    rw (below first (omega (arith, l)), weighted-from (first + 1) count (omega (arith, l))) refl
  where
    below : (n : ℕ) → n ≤ MAX_DECIMAL → nat_le n MAX_DECIMAL ≡ true
    below n h = grind (arith, nat_tests)

pub weighted-small : (count : ℕ) → count < 256 → list_all is_small (map (λ level. Weighted level) (range_with_len 1 count)) ≡ true
weighted-small count l = weighted-from 1 count (omega (arith, l))

pub alpha-share : (group : Group) (size level : ℕ) → level ≡ size → expression.Operation Mul (map (term_expression group) (Whole level ∷ Factor level ∷ Distribution ∷ [])) ≡ product_of (whole_number size ∷ factor_at group size ∷ group.distribution ∷ [])
alpha-share group size level is = ap (λ n. product_of (whole_number n ∷ factor_at group n ∷ group.distribution ∷ [])) is
