-- The steps of the evaluation, each as what it says of the answer.
use Rattle.std.proofs.Common.{◌≡◌, ◌≤◌, ◌<◌, ◌+◌, ◌-◌, ◌⊎◌, inl, inr, ℕ, true, false, List, [], ◌∷◌, ◌++◌, Option, Some, None, Result, Ok, Err, length, map, take, drop, get_or, refl, ap, sym, ◌∙◌, subst}
use Rattle.std.proofs.lemmas.List.{take_all}
use Rattle.std.specs.List.{slice_get, list_all}
use Rattle.psa_number.specs.declared.fault.NumberFault.{NumberFault}
use Rattle.psa_number.specs.Ends.{Ends}
use Rattle.psa_number.specs.Operations.{decimal_ends}
use Rattle.psa_number.specs.Scaled.{Scaled}
use Rattle.psa_model.specs.declared.expression.Expression.{Expression}
use Rattle.psa_model.specs.declared.expression.Expression.TheVariants as expression
use Rattle.psa_model.specs.declared.expression.ExpressionOperator.{ExpressionOperator}
use Rattle.psa_model.specs.declared.ids.ParameterId.{ParameterId}
use Rattle.psa_model.specs.declared.model.Model.{Model}
use Rattle.psa_model.specs.declared.model.Parameter.{Parameter}
use Rattle.psa_model.specs.Values.{Computed, no_value, at_parameter, all_computed, on_values, interval_value, value_within}
use Rattle.psa_expr.specs.Answers.{recorded, AllRight, Answered, interval_at, is_enough}
use Rattle.psa_expr.proofs.Forms.{some-level, value-number, value-mission, value-parameter, value-operation, within-parameter, within-operation}
use Rattle.psa_expr.proofs.Lists.{all-at, all-more, all-failed, map-take-more, map-split}

abbrev pub Valued : Scaled → Model → Expression → List (Option Ends) → Computed → Type 0
Valued t m e known result = Answered t m (is_enough m e) (interval_at t m e) known result

abbrev pub ListValued : Scaled → Model → List Expression → List (Option Ends) → Result (List Ends) NumberFault → Type 0
ListValued t m es known result =
    Answered t m (λ n. list_all (λ g. is_enough m g n) es) (λ n. all_computed (map (λ g. interval_at t m g n) es)) known result

pub valued-as : (t : Scaled) (m : Model) (e f : Expression) (known : List (Option Ends)) (result : Computed) → e ≡ f → Valued t m f known result → Valued t m e known result
valued-as t m e f known result is valued = subst (λ g. Valued t m g known result) (sym is) valued

pub valued-number : (t : Scaled) (m : Model) (e : Expression) (d : Scaled) (known : List (Option Ends)) (a : Ends) → e ≡ expression.Number d → AllRight t m known → a ≡ decimal_ends d → Valued t m e known (Ok a)
valued-number t m e d known a is right value = valued-as t m e (expression.Number d) known (Ok a) is (record {
  right = right;
  is = λ n enough. ap Ok value ∙ sym (value-number n t m d (some-level n m _ enough));
})

pub valued-mission : (t : Scaled) (m : Model) (e : Expression) (known : List (Option Ends)) (a : Ends) → e ≡ expression.MissionTime → AllRight t m known → a ≡ decimal_ends t → Valued t m e known (Ok a)
valued-mission t m e known a is right value = valued-as t m e expression.MissionTime known (Ok a) is (record {
  right = right;
  is = λ n enough. ap Ok value ∙ sym (value-mission n t m (some-level n m _ enough));
})

pub valued-operation : (t : Scaled) (m : Model) (e : Expression) (operator : ExpressionOperator) (arguments items : List Expression) (known : List (Option Ends)) (values : Result (List Ends) NumberFault) (result : Computed) → e ≡ expression.Operation operator arguments → items ≡ arguments → ListValued t m items known values → result ≡ on_values operator values → Valued t m e known result
valued-operation t m e operator arguments items known values result is same valued operated =
    let here : ListValued t m arguments known values = subst (λ es. ListValued t m es known values) same valued in
    valued-as t m e (expression.Operation operator arguments) known result is (record {
      right = here.right;
      is = λ n enough.
          operated
          ∙ ap (on_values operator) (here.is (n - 1) (within-operation n m operator arguments enough))
          ∙ sym (value-operation n t m operator arguments (some-level n m _ enough));
    })

pub valued-known : (t : Scaled) (m : Model) (id : ParameterId) (known : List (Option Ends)) (a : Ends) → recorded known id.0 ≡ Some a → AllRight t m known → Valued t m (expression.Parameter id) known (Ok a)
valued-known t m id known a is right = record {
  right = right;
  is = λ n enough. sym (right id.0 a is n enough);
}

-- a parameter that stands
parameter-value : (t : Scaled) (m : Model) (id : ParameterId) (parameter : Parameter) (n : ℕ) → slice_get m.parameters id.0 ≡ Some parameter → value_within n m (expression.Parameter id) ≡ true → interval_value n t m (expression.Parameter id) ≡ interval_value (n - 1) t m parameter.expression
parameter-value t m id parameter n found enough =
    value-parameter n t m id (some-level n m _ enough)
    ∙ ap (at_parameter no_value (λ g. interval_value (n - 1) t m g)) found

pub parameter-within : (m : Model) (id : ParameterId) (parameter : Parameter) (n : ℕ) → slice_get m.parameters id.0 ≡ Some parameter → value_within n m (expression.Parameter id) ≡ true → value_within (n - 1) m parameter.expression ≡ true
parameter-within m id parameter n found enough =
    sym (ap (at_parameter false (λ g. value_within (n - 1) m g)) found) ∙ within-parameter n m id enough

pub valued-parameter : (t : Scaled) (m : Model) (id : ParameterId) (parameter : Parameter) (known after : List (Option Ends)) (a : Ends) → slice_get m.parameters id.0 ≡ Some parameter → Valued t m parameter.expression known (Ok a) → ((place : ℕ) (b : Ends) → recorded after place ≡ Some b → (recorded known place ≡ Some b) ⊎ ((place ≡ id.0) × (b ≡ a))) → Valued t m (expression.Parameter id) after (Ok a)
valued-parameter t m id parameter known after a found valued only = record {
  right = λ place b is n enough.
      elim (only place b is) [
        | inl old ↦ valued.right place b old n enough
        | inr new ↦ at-place place b new.0 new.1 n enough
      ];
  is = whole;
}
  where
    whole : (n : ℕ) → value_within n m (expression.Parameter id) ≡ true → Ok a ≡ interval_value n t m (expression.Parameter id)
    whole n enough =
        valued.is (n - 1) (parameter-within m id parameter n found enough) ∙ sym (parameter-value t m id parameter n found enough)

    at-place : (place : ℕ) (b : Ends) → place ≡ id.0 → b ≡ a → (n : ℕ) → value_within n m (expression.Parameter (record { 0 = place })) ≡ true → interval_value n t m (expression.Parameter (record { 0 = place })) ≡ Ok b
    at-place place b here same n enough =
        let there : value_within n m (expression.Parameter id) ≡ true = subst (λ p. value_within n m (expression.Parameter (record { 0 = p })) ≡ true) here enough in
        subst (λ p. interval_value n t m (expression.Parameter (record { 0 = p })) ≡ Ok b) (sym here) (sym (whole n there) ∙ ap Ok (sym same))

pub valued-parameter-fault : (t : Scaled) (m : Model) (id : ParameterId) (parameter : Parameter) (known : List (Option Ends)) (f : NumberFault) → slice_get m.parameters id.0 ≡ Some parameter → Valued t m parameter.expression known (Err f) → Valued t m (expression.Parameter id) known (Err f)
valued-parameter-fault t m id parameter known f found valued = record {
  right = valued.right;
  is = λ n enough. valued.is (n - 1) (parameter-within m id parameter n found enough) ∙ sym (parameter-value t m id parameter n found enough);
}

pub valued-missing : (t : Scaled) (m : Model) (id : ParameterId) (known : List (Option Ends)) → slice_get m.parameters id.0 ≡ None → AllRight t m known → Valued t m (expression.Parameter id) known no_value
valued-missing t m id known missing right = record {
  right = right;
  is = λ n enough.
      sym (value-parameter n t m id (some-level n m _ enough)
      ∙ ap (at_parameter no_value (λ g. interval_value (n - 1) t m g)) missing);
}

-- the values of the expressions before a place
pub record Gathered (t : Scaled) (m : Model) (es : List Expression) (i : ℕ) (known : List (Option Ends)) (values : List Ends) : Type 0 where
  pub right : AllRight t m known
  pub is : (n : ℕ) → list_all (λ g. is_enough m g n) es ≡ true → all_computed (map (λ g. interval_at t m g n) (take i es)) ≡ Ok values

pub gathered-none : (t : Scaled) (m : Model) (es : List Expression) (known : List (Option Ends)) → AllRight t m known → Gathered t m es 0 known []
gathered-none t m es known right = record { right = right; is = λ n enough. refl }

pub gathered-more : (t : Scaled) (m : Model) (es : List Expression) (i : ℕ) (e : Expression) (known after : List (Option Ends)) (values more : List Ends) (a : Ends) → i < length es → e ≡ get_or es i e → Gathered t m es i known values → Valued t m e after (Ok a) → more ≡ values ++ (a ∷ []) → Gathered t m es (i + 1) after more
gathered-more t m es i e known after values more a inside is before one pushed = record {
  right = one.right;
  is = λ n enough.
      let here : Ok a ≡ interval_at t m e n = one.is n (all-at (λ g. is_enough m g n) es i e enough inside is) in
      ap all_computed (map-take-more (λ g. interval_at t m g n) es i e inside is ∙ ap (λ c. map (λ g. interval_at t m g n) (take i es) ++ (c ∷ [])) (sym here))
      ∙ all-more (map (λ g. interval_at t m g n) (take i es)) values a (before.is n enough)
      ∙ ap Ok (sym pushed);
}

pub gathered-failed : (t : Scaled) (m : Model) (es : List Expression) (i : ℕ) (e : Expression) (known after : List (Option Ends)) (values : List Ends) (f : NumberFault) → i < length es → e ≡ get_or es i e → Gathered t m es i known values → Valued t m e after (Err f) → ListValued t m es after (Err f)
gathered-failed t m es i e known after values f inside is before one = record {
  right = one.right;
  is = λ n enough.
      let here : Err f ≡ interval_at t m e n = one.is n (all-at (λ g. is_enough m g n) es i e enough inside is) in
      sym (ap all_computed (map-split (λ g. interval_at t m g n) es i e inside is ∙ ap (λ c. map (λ g. interval_at t m g n) (take i es) ++ (c ∷ map (λ g. interval_at t m g n) (drop (i + 1) es))) (sym here))
      ∙ all-failed (map (λ g. interval_at t m g n) (take i es)) values f (map (λ g. interval_at t m g n) (drop (i + 1) es)) (before.is n enough));
}

pub gathered-all : (t : Scaled) (m : Model) (es : List Expression) (i : ℕ) (known : List (Option Ends)) (values : List Ends) → length es ≤ i → Gathered t m es i known values → ListValued t m es known (Ok values)
gathered-all t m es i known values past gathered = record {
  right = gathered.right;
  is = λ n enough.
      sym (ap (λ xs. all_computed (map (λ g. interval_at t m g n) xs)) (sym (take_all i es past)) ∙ gathered.is n enough);
}
