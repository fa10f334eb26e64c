-- The intervals of events by place, and the faults of events.
use Rattle.std.proofs.Common.{◌≡◌, ◌≤◌, ◌<◌, ◌+◌, ℕ, zero, suc, true, List, [], ◌∷◌, ◌++◌, Option, Some, None, Result, Ok, Err, All, IfSome, length, take, drop, get_or, refl, ap, sym, ◌∙◌, subst}
use Rattle.std.proofs.lemmas.List.{take_more, take_all, take-append-drop, drop_more}
use Rattle.std.specs.List.{slice_get, list_all}
use Rattle.psa_number.specs.Ends.{Ends}
use Rattle.psa_number.specs.Scaled.{Scaled}
use Rattle.psa_model.specs.declared.expanded.ExpandedEvent.{ExpandedEvent}
use Rattle.psa_model.specs.declared.fault.FaultKind.{FaultKind}
use Rattle.psa_model.specs.declared.fault.ModelFault.{ModelFault}
use Rattle.psa_model.specs.declared.ids.Place.{Place}
use Rattle.psa_model.specs.declared.model.Model.{Model}
use Rattle.std.proofs.lemmas.List.Elements.{All-head, All-tail}
use Rattle.std.specs.Option.{option_map, option_and_then}
use Rattle.psa_model.specs.declared.expanded.ExpandedEvent.TheVariants.{Basic, Member, Shared}
use Rattle.psa_model.specs.declared.expression.Expression.{Expression}
use Rattle.psa_model.specs.declared.ids.EventId.{EventId}
use Rattle.psa_model.specs.declared.ids.GroupId.{GroupId}
use Rattle.psa_model.specs.declared.limits.TheConstants.{MAX_VALUE_LEVELS, MAX_MEMBERS}
use Rattle.psa_model.specs.declared.model.BasicEvent.{BasicEvent}
use Rattle.psa_model.specs.declared.model.Group.{Group}
use Rattle.psa_model.specs.Expansion.{expression_of, quantity_of, size_of}
use Rattle.psa_model.specs.Faults.{fault_at}
use Rattle.psa_model.specs.Values.{Computed, and_event, event_interval, finished, finished_value, place_of_event, value_within, values_from}
use Rattle.psa_expr.specs.Answers.{AllRight, recorded}
use Rattle.std.proofs.lemmas.Bool.{and_parts}
use Rattle.std.proofs.lemmas.List.{get_or_default}
use Rattle.psa_expr.specs.declared.error.ValueError.{ValueError}
use Rattle.psa_expr.specs.declared.error.ValueError.TheVariants as value_error
use Rattle.psa_expr.specs.Events.{EventAnswered, HaveValues}
use Rattle.psa_expr.specs.Terms.{has_values, own_levels}
use Rattle.psa_expr.proofs.Settling.{SettledAs}

step-more : (there : Option (Place × List ℕ)) (here : Result Ends FaultKind) (rest later : Result (List Ends) ModelFault) (vs : List Ends) (v : Ends) → and_event there here rest ≡ Ok vs → ((us : List Ends) → rest ≡ Ok us → later ≡ Ok (us ++ (v ∷ []))) → and_event there here later ≡ Ok (vs ++ (v ∷ []))
step-more there (Err k) rest later vs v h f = absurd (cc)
step-more there (Ok x) (Err g) later vs v h f = absurd (cc)
step-more there (Ok x) (Ok us) later vs v h f =
    let same : x ∷ us ≡ vs = cc in ap (and_event there (Ok x)) (f us refl) ∙ ap (λ ws. Ok (ws ++ (v ∷ []))) same

step-failed : (there : Option (Place × List ℕ)) (here : Result Ends FaultKind) (rest later : Result (List Ends) ModelFault) (vs : List Ends) (g : ModelFault) → and_event there here rest ≡ Ok vs → ((us : List Ends) → rest ≡ Ok us → later ≡ Err g) → and_event there here later ≡ Err g
step-failed there (Err k) rest later vs g h f = absurd (cc)
step-failed there (Ok x) (Err e) later vs g h f = absurd (cc)
step-failed there (Ok x) (Ok us) later vs g h f = ap (and_event there (Ok x)) (f us refl)

-- one event more
values-more : (t : Scaled) (m : Model) (es : List ExpandedEvent) (e : ExpandedEvent) (vs : List Ends) (v : Ends) → values_from t m es ≡ Ok vs → event_interval t m e ≡ Ok v → values_from t m (es ++ (e ∷ [])) ≡ Ok (vs ++ (v ∷ []))
values-more t m [] e vs v h is = let same : vs ≡ [] = cc in ap (λ r. and_event (place_of_event m e) r (Ok [])) is ∙ ap (λ us. Ok (us ++ (v ∷ []))) (sym same)
values-more t m (x ∷ es) e vs v h is =
    step-more (place_of_event m x) (event_interval t m x) (values_from t m es) _ vs v h (λ us before. values-more t m es e us v before is)

-- the first fault
values-failed : (t : Scaled) (m : Model) (es : List ExpandedEvent) (e : ExpandedEvent) (rest : List ExpandedEvent) (vs : List Ends) (k : FaultKind) → values_from t m es ≡ Ok vs → event_interval t m e ≡ Err k → values_from t m (es ++ (e ∷ rest)) ≡ Err (fault_at k (place_of_event m e))
values-failed t m [] e rest vs k h is = ap (λ r. and_event (place_of_event m e) r (values_from t m rest)) is
values-failed t m (x ∷ es) e rest vs k h is =
    step-failed (place_of_event m x) (event_interval t m x) (values_from t m es) _ vs _ h (λ us before. values-failed t m es e rest us k before is)

pub values-step : (t : Scaled) (m : Model) (es : List ExpandedEvent) (i : ℕ) (e : ExpandedEvent) (vs more : List Ends) (v : Ends) → i < length es → e ≡ get_or es i e → values_from t m (take i es) ≡ Ok vs → event_interval t m e ≡ Ok v → more ≡ vs ++ (v ∷ []) → values_from t m (take (i + 1) es) ≡ Ok more
values-step t m es i e vs more v inside is before here pushed =
    ap (values_from t m) (take_more es i e inside ∙ ap (λ x. take i es ++ (x ∷ [])) (sym is))
    ∙ values-more t m (take i es) e vs v before here
    ∙ ap Ok (sym pushed)

pub values-fault : (t : Scaled) (m : Model) (es : List ExpandedEvent) (i : ℕ) (e : ExpandedEvent) (vs : List Ends) (k : FaultKind) → i < length es → e ≡ get_or es i e → values_from t m (take i es) ≡ Ok vs → event_interval t m e ≡ Err k → values_from t m es ≡ Err (fault_at k (place_of_event m e))
values-fault t m es i e vs k inside is before here =
    ap (values_from t m) (sym (take-append-drop i es) ∙ ap (λ ys. take i es ++ ys) (drop_more es i e inside ∙ ap (λ x. x ∷ drop (i + 1) es) (sym is)))
    ∙ values-failed t m (take i es) e (drop (i + 1) es) vs k before here

pub values-all : (t : Scaled) (m : Model) (es : List ExpandedEvent) (i : ℕ) (vs : List Ends) → length es ≤ i → values_from t m (take i es) ≡ Ok vs → values_from t m es ≡ Ok vs
values-all t m es i vs past before = ap (values_from t m) (sym (take_all i es past)) ∙ before

-- what holds of all holds of the one at a place
pub all-get : {A : Type 0} (P : A → Type 0) (xs : List A) (i : ℕ) (x : A) → All P xs → Some x ≡ slice_get xs i → P x
all-get P [] i x all is = absurd (cc)
all-get P (y ∷ ys) zero x all is = let same : y ≡ x = cc in subst P same (All-head P y ys all)
all-get P (y ∷ ys) (suc i) x all is = all-get P ys i x (All-tail P y ys all) is

-- an event with an expression
pub event-settled : (t : Scaled) (m : Model) (event : ExpandedEvent) (levels : ℕ) (e : Expression) (known : List (Option Ends)) (computed : Computed) (result : Result Ends FaultKind) → levels ≤ MAX_VALUE_LEVELS → expression_of m event ≡ Some e → SettledAs t m levels e known computed → result ≡ finished computed → EventAnswered t m (event_interval t m event) known result
event-settled t m event levels e known computed result few has settled is = record {
  right = settled.right;
  is =
      is
      ∙ ap finished (settled.is MAX_VALUE_LEVELS few)
      ∙ sym (ap (finished_value t m) has);
}

-- an event that is given to a call in another form
pub event-same : (t : Scaled) (m : Model) (event other : ExpandedEvent) (known : List (Option Ends)) (result : Result Ends FaultKind) → event ≡ other → EventAnswered t m (event_interval t m other) known result → EventAnswered t m (event_interval t m event) known result
event-same t m event other known result is answered = subst (λ e. EventAnswered t m (event_interval t m e) known result) (sym is) answered

-- the expressions of events
pub basic-expression : (m : Model) (id : EventId) (basic : BasicEvent) (e : Expression) → Some basic ≡ slice_get m.basics id.0 → basic.expression ≡ Some e → expression_of m (Basic id) ≡ Some e
basic-expression m id basic e found has = ap (option_and_then (λ b. b.expression)) (sym found) ∙ has

pub member-expression : (m : Model) (id : GroupId) (place : ℕ) (group : Group) → Some group ≡ slice_get m.groups id.0 → expression_of m (Member id place) ≡ Some group.distribution
member-expression m id place group found = ap (option_map (λ g. g.distribution)) (sym found)

pub shared-expression : (m : Model) (id : GroupId) (subset : ℕ) (group : Group) → Some group ≡ slice_get m.groups id.0 → expression_of m (Shared id subset) ≡ Some (quantity_of group.model group (length group.members) (size_of (length group.members) subset))
shared-expression m id subset group found =
    ap (option_map (λ g. quantity_of g.model g (length g.members) (size_of (length g.members) subset))) (sym found)

-- where nothing is known, what is known is right
pub right-unknown : (t : Scaled) (m : Model) (known : List (Option Ends)) → ((place : ℕ) → recorded known place ≡ None) → AllRight t m known
right-unknown t m known none place value is n enough = absurd (let nothing : recorded known place ≡ None = none place in cc)

-- the expressions of events are within their levels
pub basic-within : (m : Model) (id : EventId) (basic : BasicEvent) (e : Expression) → HaveValues m → Some basic ≡ slice_get m.basics id.0 → basic.expression ≡ Some e → value_within own_levels m e ≡ true
basic-within m id basic e values found has =
    subst (λ o. IfSome o (λ x. value_within own_levels m x ≡ true)) has
    (all-get (λ b. IfSome b.expression (λ x. value_within own_levels m x ≡ true)) m.basics id.0 basic values.basics found)

pub group-within : (m : Model) (id : GroupId) (group : Group) → HaveValues m → Some group ≡ slice_get m.groups id.0 → value_within own_levels m group.distribution ≡ true
group-within m id group values found =
    (and_parts (value_within own_levels m group.distribution) (list_all (λ f. value_within own_levels m f.expression) group.factors)
    (all-get (λ g. (length g.members ≤ MAX_MEMBERS) × (has_values m g ≡ true)) m.groups id.0 group values.groups found).1).0

-- the same, at the event that a list has at a place
pub values-step-at : (t : Scaled) (m : Model) (es : List ExpandedEvent) (i : ℕ) (d : ExpandedEvent) (vs more : List Ends) (r : Result Ends FaultKind) (v : Ends) → i < length es → r ≡ event_interval t m (get_or es i d) → r ≡ Ok v → values_from t m (take i es) ≡ Ok vs → more ≡ vs ++ (v ∷ []) → values_from t m (take (i + 1) es) ≡ Ok more
values-step-at t m es i d vs more r v inside here is before pushed =
    values-step t m es i (get_or es i d) vs more v inside (get_or_default es i d (get_or es i d) inside) before (sym here ∙ is) pushed

pub values-fault-at : (t : Scaled) (m : Model) (es : List ExpandedEvent) (i : ℕ) (d : ExpandedEvent) (vs : List Ends) (r : Result Ends FaultKind) (k : FaultKind) → i < length es → r ≡ event_interval t m (get_or es i d) → r ≡ Err k → values_from t m (take i es) ≡ Ok vs → values_from t m es ≡ Err (fault_at k (place_of_event m (get_or es i d)))
values-fault-at t m es i d vs r k inside here is before =
    values-fault t m es i (get_or es i d) vs k inside (get_or_default es i d (get_or es i d) inside) before (sym here ∙ is)

-- equal answers have equal faults
pub same-fault : {A : Type 0} (f g : ModelFault) → ◌≡◌ {A = Result A ValueError} (Err (value_error.Fault f)) (Err (value_error.Fault g)) → f ≡ g
same-fault f g same = cc

pub group-few : (m : Model) (id : GroupId) (group : Group) → HaveValues m → Some group ≡ slice_get m.groups id.0 → length group.members ≤ MAX_MEMBERS
group-few m id group values found =
    (all-get (λ g. (length g.members ≤ MAX_MEMBERS) × (has_values m g ≡ true)) m.groups id.0 group values.groups found).0

pub group-has : (m : Model) (id : GroupId) (group : Group) → HaveValues m → Some group ≡ slice_get m.groups id.0 → has_values m group ≡ true
group-has m id group values found =
    (all-get (λ g. (length g.members ≤ MAX_MEMBERS) × (has_values m g ≡ true)) m.groups id.0 group values.groups found).1

pub shared-at : (m : Model) (id : GroupId) (subset count size : ℕ) (group : Group) → Some group ≡ slice_get m.groups id.0 → count ≡ length group.members → size ≡ size_of count subset → expression_of m (Shared id subset) ≡ Some (quantity_of group.model group count size)
shared-at m id subset count size group found counted sized =
    shared-expression m id subset group found
    ∙ ap (λ n. Some (quantity_of group.model group n (size_of n subset))) (sym counted)
    ∙ ap (λ k. Some (quantity_of group.model group count k)) (sym sized)
