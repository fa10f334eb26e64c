-- Where the attributes of a connective have no fault its bounds are numbers.
use Rattle.std.proofs.Common.{◌≡◌, ◌++◌, Bool, true, false, List, [], ◌∷◌, Option, Some, None, IfSome, map, refl}
use Rattle.std.specs.Prelude.{codes}
use Rattle.std.specs.List.{cons_option, filter_map}
use Rattle.psa_text.specs.declared.tree.Attribute.{Attribute}
use Rattle.psa_model.specs.PathNames.{Text}
use Rattle.psa_model.specs.declared.fault.FaultKind.{FaultKind}
use Rattle.psa_model.specs.declared.fault.FaultKind.TheVariants.{BadAttribute}
use Rattle.psa_model.specs.declared.formula.Connective.TheVariants.{Atleast, Cardinality}
use Rattle.psa_elements.specs.ElementTable.{AttributeRule, Row, are_digits, bound_rule, connective, rule_of}
use Rattle.psa_elements.specs.ShapeFaults.{attribute_faults, missing, unknown_or_repeated, value_in, wrong_value}
use Rattle.psa_shape.specs.FoundFaults.{HasNumbers, own_faults_by}

spelled : (tag : Text) (given : List Attribute) (name : Text) (value : Option Text) → value_in given name ≡ value
    → wrong_value tag given (bound_rule name) ≡ None → IfSome value (λ v. are_digits v ≡ true)
spelled tag given name None e none = tt
spelled tag given name (Some value) e none = digits (are_digits value) refl
  where
    digits : (b : Bool) → are_digits value ≡ b → are_digits value ≡ true
    digits true is = is
    digits false is = let bad = rw (e, is) at none in absurd (cc)

right : {A B : Type 0} (f : A → Option B) (x : A) (xs : List A) → filter_map f (x ∷ xs) ≡ []
    → (f x ≡ None) × (filter_map f xs ≡ [])
right {B = B} f x xs none = parts (f x) refl none
  where
    parts : (o : Option B) → f x ≡ o → cons_option o (filter_map f xs) ≡ [] → (f x ≡ None) × (filter_map f xs ≡ [])
    parts None e h = (e, h)
    parts (Some y) e h = absurd (cc)

values_right : (tag : Text) (rules : List AttributeRule) (given : List Attribute)
    → attribute_faults tag rules given ≡ [] → filter_map (wrong_value tag given) rules ≡ []
values_right tag rules given none = behind (map (λ name. (BadAttribute, name))
    (unknown_or_repeated rules [] given ++ missing rules given)) (filter_map (wrong_value tag given) rules) none
  where
    behind : (xs ys : List (FaultKind × Text)) → xs ++ ys ≡ [] → ys ≡ []
    behind [] ys h = h
    behind (x ∷ xs) ys h = absurd (cc)

-- where the attributes have no fault the bounds are numbers
pub numbers-right : (row : Row) (tag : Text) (given : List Attribute) → own_faults_by (rule_of row) tag given ≡ []
    → HasNumbers row given
numbers-right (connective Atleast) tag given none =
    let all = values_right tag (bound_rule (codes "min") ∷ []) given none in
    spelled tag given (codes "min") (value_in given (codes "min")) refl
    (right (wrong_value tag given) (bound_rule (codes "min")) [] all).0
numbers-right (connective Cardinality) tag given none =
    let all = values_right tag (bound_rule (codes "min") ∷ bound_rule (codes "max") ∷ []) given none in
    let first = right (wrong_value tag given) (bound_rule (codes "min")) (bound_rule (codes "max") ∷ []) all in (
      spelled tag given (codes "min") (value_in given (codes "min")) refl first.0,
      spelled tag given (codes "max") (value_in given (codes "max")) refl
          (right (wrong_value tag given) (bound_rule (codes "max")) [] first.1).0,
    )
numbers-right _ tag given none = tt
