-- More levels than an expression's depth change neither its exact value nor its interval.
use Rattle.std.proofs.Common.{◌≡◌, ℕ, zero, suc, Bool, true, false, List, [], ◌∷◌, Option, None, Some, length, map, ◌&&◌, refl, ap, ap₂}
use Rattle.std.proofs.lemmas.Bool.{and_parts}
use Rattle.std.specs.List.{slice_get, list_all}
use Rattle.psa_number.specs.Fraction.{Fraction}
use Rattle.psa_number.specs.Scaled.{Scaled}
use Rattle.psa_model.specs.declared.expression.Expression.{Expression}
use Rattle.psa_model.specs.declared.expression.Expression.TheOpen.{Expression-F}
use Rattle.psa_model.specs.declared.expression.Expression.TheViews.{out-Expression}
use Rattle.psa_model.specs.declared.model.Model.{Model}
use Rattle.psa_model.specs.declared.model.Parameter.{Parameter}
use Rattle.psa_model.specs.Values.{at_parameter, has_operands, exact_operation, exact_layer, exact_value, Computed, all_computed, on_values, interval_layer, interval_value, value_within_layer, value_within}

-- two readings of parts that agree where a test passes agree on a layer whose parts pass
test-parameter : (below above : Expression → Bool) → ((g : Expression) → below g ≡ true → above g ≡ true) → (found : Option Parameter) → at_parameter false below found ≡ true → at_parameter false above found ≡ true
test-parameter below above more None h = h
test-parameter below above more (Some parameter) h = more parameter.expression h

and-both : (a b : Bool) → a ≡ true → b ≡ true → (a && b) ≡ true
and-both a b p q = rw (p, q) refl

test-all : (below above : Expression → Bool) → ((g : Expression) → below g ≡ true → above g ≡ true) → (gs : List Expression) → list_all below gs ≡ true → list_all above gs ≡ true
test-all below above more [] h = refl
test-all below above more (g ∷ gs) h =
    let parts = and_parts (below g) (list_all below gs) h in and-both _ _ (more g parts.0) (test-all below above more gs parts.1)

test-layer : (model : Model) (below above : Expression → Bool) → ((g : Expression) → below g ≡ true → above g ≡ true) → (layer : Expression-F Expression) → value_within_layer model below layer ≡ true → value_within_layer model above layer ≡ true
test-layer model below above more (Expression-F.Number decimal) h = h
test-layer model below above more (Expression-F.Parameter id) h = test-parameter below above more (slice_get model.parameters id.0) h
test-layer model below above more Expression-F.MissionTime h = h
test-layer model below above more (Expression-F.Operation operator arguments) h =
    let parts = and_parts (has_operands operator (length arguments)) (list_all below arguments) h in
    and-both _ _ parts.0 (test-all below above more arguments parts.1)

-- what is within some levels is within more
pub within-more : (n : ℕ) (model : Model) (e : Expression) → value_within n model e ≡ true → value_within (suc n) model e ≡ true
unfolding value_within
within-more zero model e h = absurd (cc)
within-more (suc n) model e h = test-layer model _ _ (λ g. within-more n model g) (out-Expression e) h

same-parameter : {A : Type 0} (none : A) (test : Expression → Bool) (f1 f2 : Expression → A) → ((g : Expression) → test g ≡ true → f1 g ≡ f2 g) → (found : Option Parameter) → at_parameter false test found ≡ true → at_parameter none f1 found ≡ at_parameter none f2 found
same-parameter none test f1 f2 same None h = refl
same-parameter none test f1 f2 same (Some parameter) h = same parameter.expression h

same-map : {A : Type 0} (test : Expression → Bool) (f1 f2 : Expression → A) → ((g : Expression) → test g ≡ true → f1 g ≡ f2 g) → (gs : List Expression) → list_all test gs ≡ true → map f1 gs ≡ map f2 gs
same-map test f1 f2 same [] h = refl
same-map {A} test f1 f2 same (g ∷ gs) h =
    let parts = and_parts (test g) (list_all test gs) h in
    ap₂ (λ (x : A) (xs : List A). x ∷ xs) (same g parts.0) (same-map test f1 f2 same gs parts.1)

exact-same : (terms : ℕ) (mission : Scaled) (model : Model) (test : Expression → Bool) (f1 f2 : Expression → Fraction) → ((g : Expression) → test g ≡ true → f1 g ≡ f2 g) → (layer : Expression-F Expression) → value_within_layer model test layer ≡ true → exact_layer terms mission model f1 layer ≡ exact_layer terms mission model f2 layer
exact-same terms mission model test f1 f2 same (Expression-F.Number decimal) h = refl
exact-same terms mission model test f1 f2 same (Expression-F.Parameter id) h = same-parameter _ test f1 f2 same (slice_get model.parameters id.0) h
exact-same terms mission model test f1 f2 same Expression-F.MissionTime h = refl
exact-same terms mission model test f1 f2 same (Expression-F.Operation operator arguments) h =
    let parts = and_parts (has_operands operator (length arguments)) (list_all test arguments) h in
    ap (λ values. exact_operation terms operator values) (same-map test f1 f2 same arguments parts.1)

-- one level more than are enough does not change the exact value
pub exact-more : (n terms : ℕ) (mission : Scaled) (model : Model) (e : Expression) → value_within n model e ≡ true → exact_value (suc n) terms mission model e ≡ exact_value n terms mission model e
unfolding value_within exact_value
exact-more zero terms mission model e h = absurd (cc)
exact-more (suc n) terms mission model e h =
    exact-same terms mission model (λ g. value_within n model g) _ _ (λ g. exact-more n terms mission model g) (out-Expression e) h

interval-same : (mission : Scaled) (model : Model) (test : Expression → Bool) (f1 f2 : Expression → Computed) → ((g : Expression) → test g ≡ true → f1 g ≡ f2 g) → (layer : Expression-F Expression) → value_within_layer model test layer ≡ true → interval_layer mission model f1 layer ≡ interval_layer mission model f2 layer
interval-same mission model test f1 f2 same (Expression-F.Number decimal) h = refl
interval-same mission model test f1 f2 same (Expression-F.Parameter id) h = same-parameter _ test f1 f2 same (slice_get model.parameters id.0) h
interval-same mission model test f1 f2 same Expression-F.MissionTime h = refl
interval-same mission model test f1 f2 same (Expression-F.Operation operator arguments) h =
    let parts = and_parts (has_operands operator (length arguments)) (list_all test arguments) h in
    ap (λ values. on_values operator (all_computed values)) (same-map test f1 f2 same arguments parts.1)

-- one level more than are enough does not change the interval
pub interval-more : (n : ℕ) (mission : Scaled) (model : Model) (e : Expression) → value_within n model e ≡ true → interval_value (suc n) mission model e ≡ interval_value n mission model e
unfolding value_within interval_value
interval-more zero mission model e h = absurd (cc)
interval-more (suc n) mission model e h =
    interval-same mission model (λ g. value_within n model g) _ _ (λ g. interval-more n mission model g) (out-Expression e) h
