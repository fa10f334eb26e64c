-- The first value, and each further one by an operation.
use Rattle.std.proofs.Common.{◌≡◌, ◌≤◌, ◌<◌, ◌+◌, ℕ, List, [], ◌∷◌, Ok, Err, length, drop, get_or, refl, ap, sym, ◌∙◌, arith}
use Rattle.std.proofs.lemmas.List.{drop_more, drop_all}
use Rattle.std.specs.List.{fold}
use Rattle.psa_number.specs.Ends.{Ends}
use Rattle.psa_number.specs.declared.fault.NumberFault.{NumberFault}
use Rattle.psa_model.specs.declared.expression.ExpressionOperator.TheVariants.{Neg, Exponential}
use Rattle.psa_model.specs.Values.{Computed, no_value, applied, folded_ends, interval_operation}

pub fold-started : (f : Ends → Ends → Computed) (values : List Ends) (first : Ends) → 0 < length values → first ≡ get_or values 0 first → fold (applied f) (Ok first) (drop 1 values) ≡ folded_ends f values
fold-started f [] first l is = absurd (omega arith)
fold-started f (x ∷ xs) first l is = ap (λ v. fold (applied f) (Ok v) xs) is

pub fold-more : (f : Ends → Ends → Computed) (values : List Ends) (i : ℕ) (value next : Ends) → i < length values → next ≡ get_or values i next → fold (applied f) (Ok value) (drop i values) ≡ fold (applied f) (f value next) (drop (i + 1) values)
fold-more f values i value next l is = rw (drop_more values i next l ∙ ap (λ y. y ∷ drop (i + 1) values) (sym is)) refl

pub fold-failed : (f : Ends → Ends → Computed) (found : NumberFault) (values : List Ends) → fold (applied f) (Err found) values ≡ Err found
fold-failed f found [] = refl
fold-failed f found (x ∷ xs) = fold-failed f found xs

pub fold-ended : (f : Ends → Ends → Computed) (values : List Ends) (i : ℕ) (value : Ends) → length values ≤ i → fold (applied f) (Ok value) (drop i values) ≡ Ok value
fold-ended f values i value l = rw (drop_all i values l) refl

-- the only value, and the only two
pub one-value : (values : List Ends) (x : Ends) → length values ≡ 1 → x ≡ get_or values 0 x → values ≡ x ∷ []
one-value [] x size is = absurd (omega arith)
one-value (y ∷ []) x size is = cc
one-value (y ∷ z ∷ zs) x size is = absurd (omega arith)

pub two-values : (values : List Ends) (x y : Ends) → length values ≡ 2 → x ≡ get_or values 0 x → y ≡ get_or values 1 y → values ≡ x ∷ y ∷ []
two-values [] x y size first second = absurd (omega arith)
two-values (a ∷ []) x y size first second = absurd (omega arith)
two-values (a ∷ b ∷ []) x y size first second = cc
two-values (a ∷ b ∷ c ∷ cs) x y size first second = absurd (omega arith)

pub not-one : (values : List Ends) → (length values ≡ 1 → ⊥) → interval_operation Neg values ≡ no_value
not-one [] h = refl
not-one (x ∷ []) h = absurd (h refl)
not-one (x ∷ y ∷ ys) h = refl

pub not-two : (values : List Ends) → (length values ≡ 2 → ⊥) → interval_operation Exponential values ≡ no_value
not-two [] h = refl
not-two (x ∷ []) h = refl
not-two (x ∷ y ∷ []) h = absurd (h refl)
not-two (x ∷ y ∷ z ∷ zs) h = refl
