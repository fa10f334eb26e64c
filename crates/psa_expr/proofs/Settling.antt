-- The steps of the evaluation of a group's quantity, each as what it says of the answer.
use Rattle.std.proofs.Common.{◌≡◌, ◌≤◌, ◌<◌, ◌+◌, ◌-◌, ℕ, Bool, true, false, List, [], ◌∷◌, ◌++◌, Option, Some, None, Result, Ok, Err, length, map, take, drop, get_or, unwrap_or, find, cond, eqb, pos, IfOk, refl, ap, ap₂, sym, ◌∙◌, subst, arith}
use Rattle.std.proofs.lemmas.Bool.{and_parts}
use Rattle.std.proofs.lemmas.List.{take_all}
use Rattle.std.specs.List.{list_all}
use Rattle.std.specs.Option.{option_map}
use Rattle.psa_number.specs.declared.fault.NumberFault.{NumberFault}
use Rattle.psa_number.specs.Ends.{Ends}
use Rattle.psa_number.specs.Scaled.{Scaled}
use Rattle.psa_model.specs.declared.expression.Expression.{Expression}
use Rattle.psa_model.specs.declared.expression.Expression.TheVariants as expression
use Rattle.psa_model.specs.declared.expression.ExpressionOperator.{ExpressionOperator}
use Rattle.psa_model.specs.declared.model.Factor.{Factor}
use Rattle.psa_model.specs.declared.model.Group.{Group}
use Rattle.psa_model.specs.declared.model.Model.{Model}
use Rattle.psa_model.specs.Expansion.{factor_at, whole_number}
use Rattle.psa_model.specs.Values.{Computed, all_computed, on_values, interval_value, value_within}
use Rattle.psa_expr.specs.declared.terms.Term.{Term}
use Rattle.psa_expr.specs.Answers.{AllRight, interval_at}
use Rattle.psa_expr.specs.Combined.{whole_ends}
use Rattle.psa_expr.specs.Terms.{Settled, has_values, own_levels, term_expression}
use Rattle.psa_expr.proofs.Evaluating.{Valued}
use Rattle.psa_expr.proofs.Forms.{value-number, value-operation, within-above}
use Rattle.psa_expr.proofs.Lists.{all-more, all-failed, map-take-more, map-split}

abbrev pub SettledAs : Scaled → Model → ℕ → Expression → List (Option Ends) → Computed → Type 0
SettledAs t m levels e known result = Settled t m levels (interval_at t m e) known result

-- enough levels for an expression are enough for its interval
pub settled-valued : (t : Scaled) (m : Model) (levels : ℕ) (e : Expression) (known : List (Option Ends)) (result : Computed) → value_within levels m e ≡ true → Valued t m e known result → SettledAs t m levels e known result
settled-valued t m levels e known result enough valued = record {
  right = valued.right;
  is = λ n l. valued.is n (within-above levels n m e l enough);
}

pub settled-later : (t : Scaled) (m : Model) (levels later : ℕ) (e : Expression) (known : List (Option Ends)) (result : Computed) → levels ≤ later → SettledAs t m levels e known result → SettledAs t m later e known result
settled-later t m levels later e known result more settled = record {
  right = settled.right;
  is = λ n l. settled.is n (omega (arith, more, l));
}

pub settled-same : (t : Scaled) (m : Model) (levels : ℕ) (e f : Expression) (known : List (Option Ends)) (result : Computed) → e ≡ f → SettledAs t m levels e known result → SettledAs t m levels f known result
settled-same t m levels e f known result is settled = subst (λ g. SettledAs t m levels g known result) is settled

-- a whole number
pub whole-value : (t : Scaled) (m : Model) (c n : ℕ) → 0 < n → Ok (whole_ends c) ≡ interval_value n t m (whole_number c)
whole-value t m c n l = sym (value-number n t m (record { negative = false; digits = c; exponent = pos 0 }) l)

pub settled-whole : (t : Scaled) (m : Model) (levels c : ℕ) (known : List (Option Ends)) (a : Ends) → 0 < levels → AllRight t m known → a ≡ whole_ends c → SettledAs t m levels (whole_number c) known (Ok a)
settled-whole t m levels c known a some right is = record {
  right = right;
  is = λ n l. ap Ok is ∙ whole-value t m c n (omega (arith, some, l));
}

-- an operation on two values
pub settled-two : (t : Scaled) (m : Model) (levels : ℕ) (operator : ExpressionOperator) (x y : Expression) (known : List (Option Ends)) (first second result : Computed) → AllRight t m known → ((n : ℕ) → levels ≤ n → first ≡ interval_value n t m x) → ((n : ℕ) → levels ≤ n → second ≡ interval_value n t m y) → result ≡ on_values operator (all_computed (first ∷ second ∷ [])) → SettledAs t m (levels + 1) (expression.Operation operator (x ∷ y ∷ [])) known result
settled-two t m levels operator x y known first second result right one two is = record {
  right = right;
  is = λ n l.
      is
      ∙ ap₂ (λ a b. on_values operator (all_computed (a ∷ b ∷ []))) (one (n - 1) (omega (arith, l))) (two (n - 1) (omega (arith, l)))
      ∙ sym (value-operation n t m operator (x ∷ y ∷ []) (omega (arith, l)));
}

-- an operation on two values where the first has a fault
pub settled-first-fault : (t : Scaled) (m : Model) (levels : ℕ) (operator : ExpressionOperator) (x y : Expression) (known : List (Option Ends)) (f : NumberFault) → AllRight t m known → ((n : ℕ) → levels ≤ n → Err f ≡ interval_value n t m x) → SettledAs t m (levels + 1) (expression.Operation operator (x ∷ y ∷ [])) known (Err f)
settled-first-fault t m levels operator x y known f right one = record {
  right = right;
  is = λ n l.
      ap (λ a. on_values operator (all_computed (a ∷ interval_value (n - 1) t m y ∷ []))) (one (n - 1) (omega (arith, l)))
      ∙ sym (value-operation n t m operator (x ∷ y ∷ []) (omega (arith, l)));
}

-- the factor that is found
found-passes : (p q : Factor → Bool) (xs : List Factor) (x : Factor) → Some x ≡ find p xs → list_all q xs ≡ true → q x ≡ true
found-passes p q [] x is all = absurd (cc)
found-passes p q (y ∷ ys) x is all = by-test (found-passes p q ys x) (p y) is
  where
    parts : (q y ≡ true) × (list_all q ys ≡ true)
    parts = and_parts (q y) (list_all q ys) all

    by-test : (Some x ≡ find p ys → list_all q ys ≡ true → q x ≡ true) → (b : Bool) → Some x ≡ cond b (Some y) (find p ys) → q x ≡ true
    by-test rest true e = let same : x ≡ y = cc in subst (λ z. q z ≡ true) (sym same) parts.0
    by-test rest false e = rest e parts.1

pub factor-found : (group : Group) (level : ℕ) (factor : Factor) → Some factor ≡ find (λ f. eqb f.level level) group.factors → factor_at group level ≡ factor.expression
factor-found group level factor is = ap (λ o. unwrap_or (option_map (λ f. f.expression) o) (whole_number 0)) (sym is)

pub factor-missing : (group : Group) (level : ℕ) → None ≡ find (λ f. eqb f.level level) group.factors → factor_at group level ≡ whole_number 0
factor-missing group level is = ap (λ o. unwrap_or (option_map (λ f. f.expression) o) (whole_number 0)) (sym is)

pub factor-within : (m : Model) (group : Group) (level : ℕ) (factor : Factor) → Some factor ≡ find (λ f. eqb f.level level) group.factors → has_values m group ≡ true → value_within own_levels m factor.expression ≡ true
factor-within m group level factor is values =
    found-passes (λ f. eqb f.level level) (λ f. value_within own_levels m f.expression) group.factors factor is
    ((and_parts (value_within own_levels m group.distribution) (list_all (λ f. value_within own_levels m f.expression) group.factors) values).1)

-- the values of the parts before a place
pub record Collected (t : Scaled) (m : Model) (group : Group) (terms : List Term) (i : ℕ) (known : List (Option Ends)) (values : List Ends) : Type 0 where
  pub right : AllRight t m known
  pub is : (n : ℕ) → own_levels + 1 ≤ n → all_computed (map (λ term. interval_at t m (term_expression group term) n) (take i terms)) ≡ Ok values

abbrev pub TermsSettled : Scaled → Model → Group → List Term → List (Option Ends) → Result (List Ends) NumberFault → Type 0
TermsSettled t m group terms known result =
    Settled t m (own_levels + 1) (λ n. all_computed (map (λ term. interval_at t m (term_expression group term) n) terms)) known result

pub collected-none : (t : Scaled) (m : Model) (group : Group) (terms : List Term) (known : List (Option Ends)) → AllRight t m known → Collected t m group terms 0 known []
collected-none t m group terms known right = record { right = right; is = λ n l. refl }

pub collected-more : (t : Scaled) (m : Model) (group : Group) (terms : List Term) (i : ℕ) (term : Term) (known after : List (Option Ends)) (values more : List Ends) (r : Computed) (a : Ends) → i < length terms → SettledAs t m (own_levels + 1) (term_expression group term) after r → r ≡ Ok a → term ≡ get_or terms i term → Collected t m group terms i known values → more ≡ values ++ (a ∷ []) → Collected t m group terms (i + 1) after more
collected-more t m group terms i term known after values more r a inside settled same is before pushed = let one : SettledAs t m (own_levels + 1) (term_expression group term) after (Ok a) = subst (λ x. SettledAs t m (own_levels + 1) (term_expression group term) after x) same settled in record {
  right = one.right;
  is = λ n l.
      ap all_computed (map-take-more (λ g. interval_at t m (term_expression group g) n) terms i term inside is ∙ ap (λ c. map (λ g. interval_at t m (term_expression group g) n) (take i terms) ++ (c ∷ [])) (sym (one.is n l)))
      ∙ all-more (map (λ g. interval_at t m (term_expression group g) n) (take i terms)) values a (before.is n l)
      ∙ ap Ok (sym pushed);
}

pub collected-failed : (t : Scaled) (m : Model) (group : Group) (terms : List Term) (i : ℕ) (term : Term) (known after : List (Option Ends)) (values : List Ends) (r : Computed) (f : NumberFault) → i < length terms → SettledAs t m (own_levels + 1) (term_expression group term) after r → r ≡ Err f → term ≡ get_or terms i term → Collected t m group terms i known values → TermsSettled t m group terms after (Err f)
collected-failed t m group terms i term known after values r f inside settled same is before = let one : SettledAs t m (own_levels + 1) (term_expression group term) after (Err f) = subst (λ x. SettledAs t m (own_levels + 1) (term_expression group term) after x) same settled in record {
  right = one.right;
  is = λ n l.
      sym (ap all_computed (map-split (λ g. interval_at t m (term_expression group g) n) terms i term inside is ∙ ap (λ c. map (λ g. interval_at t m (term_expression group g) n) (take i terms) ++ (c ∷ map (λ g. interval_at t m (term_expression group g) n) (drop (i + 1) terms))) (sym (one.is n l)))
      ∙ all-failed (map (λ g. interval_at t m (term_expression group g) n) (take i terms)) values f (map (λ g. interval_at t m (term_expression group g) n) (drop (i + 1) terms)) (before.is n l));
}

pub collected-all : (t : Scaled) (m : Model) (group : Group) (terms : List Term) (i : ℕ) (known : List (Option Ends)) (values : List Ends) → length terms ≤ i → Collected t m group terms i known values → TermsSettled t m group terms known (Ok values)
collected-all t m group terms i known values past collected = record {
  right = collected.right;
  is = λ n l.
      sym (ap (λ xs. all_computed (map (λ term. interval_at t m (term_expression group term) n) xs)) (sym (take_all i terms past)) ∙ collected.is n l);
}

pub map-map : {A B C : Type 0} (f : B → C) (g : A → B) (xs : List A) → map f (map g xs) ≡ map (λ x. f (g x)) xs
map-map f g [] = refl
map-map f g (x ∷ xs) = ap (λ ys. f (g x) ∷ ys) (map-map f g xs)

-- an operation on parts
pub settled-operation : (t : Scaled) (m : Model) (group : Group) (operator : ExpressionOperator) (terms : List Term) (known : List (Option Ends)) (values : Result (List Ends) NumberFault) (result : Computed) → TermsSettled t m group terms known values → result ≡ on_values operator values → SettledAs t m (own_levels + 2) (expression.Operation operator (map (term_expression group) terms)) known result
settled-operation t m group operator terms known values result settled is = record {
  right = settled.right;
  is = λ n l.
      is
      ∙ ap (on_values operator)
      (settled.is (n - 1) (omega (arith, l))
      ∙ ap all_computed (sym (map-map (λ g. interval_value (n - 1) t m g) (term_expression group) terms)))
      ∙ sym (value-operation n t m operator (map (term_expression group) terms) (omega (arith, l)));
}

-- what follows from each answer
pub if-ok : {A E : Type 0} (P Q : A → Type 0) → ((a : A) → P a → Q a) → (r : Result A E) → IfOk r P → IfOk r Q
if-ok P Q f (Ok a) h = f a h
if-ok P Q f (Err e) h = tt
