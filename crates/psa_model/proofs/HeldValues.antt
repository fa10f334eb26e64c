-- The interval of an expression holds its exact value, for every number of Taylor terms from the last one that the
-- interval adds on.
use Rattle.std.proofs.Common.{◌≡◌, ◌≤◌, ◌≤ℤ◌, ◌*ℤ◌, ◌+◌, ◌*◌, ℕ, pos, zero, suc, Bool, true, false, List, [], ◌∷◌, Option, None, Some, Result, Ok, Err, map, int_lt, ◌||◌, if◌then◌else◌, refl, sym, subst, arith}
use Rattle.std.proofs.Math.Nat.{le_of_mul-le-mul_right}
use Rattle.std.specs.List.{slice_get, fold, AllZip}
use Rattle.std.specs.Option.{option_map, unwrap_or}
use borrow.Author.Differences.{at_most_in, up, down}
use Rattle.psa_number.specs.declared.fault.NumberFault.{NumberFault}
use Rattle.psa_number.specs.declared.fault.NumberFault.TheVariants as number
use Rattle.psa_number.specs.Ends.{Ends}
use Rattle.psa_number.specs.Exponential.{last_term}
use Rattle.psa_number.specs.Fraction.{Fraction, Holds, minus, plus, difference, times, quotient, exponential_at, fraction_of, held_in_unit}
use Rattle.psa_number.specs.Operations.{limited, negative_ends, sum_ends, difference_ends, product_ends, quotient_ends, quotient_of, exponential_of, has_zero, unit_ends, decimal_ends}
use Rattle.psa_number.specs.Scaled.{Scaled}
use Rattle.psa_number.specs.Units.{units}
use Rattle.psa_number.proofs.BracketLemmas.{held_if_limited, held_if_exponential, sum_held, difference_held, product_held, quotient_held, exponential_held, negative_held, decimal_held, unit_held}
use Rattle.psa_number.proofs.SignedLemmas.{le_then, parts_out}
use Rattle.psa_model.specs.declared.expression.Expression.{Expression}
use Rattle.psa_model.specs.declared.expression.Expression.TheOpen.{Expression-F}
use Rattle.psa_model.specs.declared.expression.Expression.TheViews.{out-Expression}
use Rattle.psa_model.specs.declared.expression.ExpressionOperator.{ExpressionOperator}
use Rattle.psa_model.specs.declared.expression.ExpressionOperator.TheVariants.{Neg, Add, Sub, Mul, Div, Exponential}
use Rattle.psa_model.specs.declared.expanded.ExpandedEvent.{ExpandedEvent}
use Rattle.psa_model.specs.declared.fault.FaultKind.{FaultKind}
use Rattle.psa_model.specs.declared.fault.FaultKind.TheVariants as fault
use Rattle.psa_model.specs.declared.fault.ModelFault.{ModelFault}
use Rattle.psa_model.specs.declared.ids.Place.{Place}
use Rattle.psa_model.specs.declared.limits.TheConstants.{MAX_VALUE_LEVELS}
use Rattle.psa_model.specs.declared.model.Model.{Model}
use Rattle.psa_model.specs.declared.model.Parameter.{Parameter}
use Rattle.psa_model.specs.Values.{of_only, of_both, at_parameter, zero_fraction, folded, exact_operation, exact_layer, exact_value, Computed, no_value, and_first, all_computed, applied, folded_ends, interval_operation, on_values, interval_layer, interval_value, finished, finished_value, exact_quantity, event_interval, place_of_event, and_event, values_from}
use Rattle.psa_model.specs.Expansion.{expression_of}

-- an interval that holds something is in order
pub ordered : (e : Ends) (f : Fraction) → Holds e f → e.lo ≤ℤ e.hi
ordered e f h =
    let through : (e.lo *ℤ pos f.den) ≤ℤ (e.hi *ℤ pos f.den) = le_then (e.lo *ℤ pos f.den) (f.num *ℤ pos units) (e.hi *ℤ pos f.den) h.low h.high in
    let parts = parts_out e.lo e.hi f.den f.den through in
    let scaled : (up e.lo + down e.hi) * f.den ≤ (up e.hi + down e.lo) * f.den = omega (arith, parts) in
    at_most_in e.lo e.hi (le_of_mul-le-mul_right scaled h.positive)

limited-held : (e a : Ends) (x : Fraction) → limited e ≡ Ok a → Holds e x → Holds a x
limited-held e a x is h = held_if_limited (λ b. Holds b x) (Ok a) e (sym is) h

quotient-case : (a b c : Ends) (x y : Fraction) (t : Bool) → has_zero b ≡ t → (if t then Err number.ZeroDivisor else limited (quotient_ends a b)) ≡ Ok c → Holds a x → Holds b y → Holds c (quotient x y)
quotient-case a b c x y true clear is h g = absurd (cc)
quotient-case a b c x y false clear is h g = limited-held (quotient_ends a b) c (quotient x y) is (quotient_held a b x y clear (ordered b y g) h g)

-- one step of a fold
abbrev pub StepHolds : (Ends → Ends → Computed) → (Fraction → Fraction → Fraction) → Type 0
StepHolds f g = (a b c : Ends) (x y : Fraction) → Holds a x → Holds b y → f a b ≡ Ok c → Holds c (g x y)

applied-held : (f : Ends → Ends → Computed) (g : Fraction → Fraction → Fraction) → StepHolds f g → (acc : Computed) (x : Fraction) → ((c : Ends) → acc ≡ Ok c → Holds c x) → (b : Ends) (y : Fraction) → Holds b y → (c : Ends) → applied f acc b ≡ Ok c → Holds c (g x y)
applied-held f g step (Err found) x held b y h c is = absurd (cc)
applied-held f g step (Ok a) x held b y h c is = step a b c x y (held a refl) h is

fold-held : (f : Ends → Ends → Computed) (g : Fraction → Fraction → Fraction) → StepHolds f g → (es : List Ends) (xs : List Fraction) → AllZip Holds es xs → (acc : Computed) (x : Fraction) → ((c : Ends) → acc ≡ Ok c → Holds c x) → (c : Ends) → fold (applied f) acc es ≡ Ok c → Holds c (fold g x xs)
fold-held f g step [] [] all acc x held c is = held c is
fold-held f g step [] (y ∷ ys) all acc x held c is = absurd all
fold-held f g step (e ∷ es) [] all acc x held c is = absurd all
fold-held f g step (e ∷ es) (y ∷ ys) all acc x held c is =
    fold-held f g step es ys all.1 (applied f acc e) (g x y) (λ d. applied-held f g step acc x held e y all.0 d) c is

folded-held : (f : Ends → Ends → Computed) (g : Fraction → Fraction → Fraction) → StepHolds f g → (es : List Ends) (xs : List Fraction) → AllZip Holds es xs → (c : Ends) → folded_ends f es ≡ Ok c → Holds c (folded g xs)
folded-held f g step [] xs all c is = absurd (cc)
folded-held f g step (e ∷ es) [] all c is = absurd all
folded-held f g step (e ∷ es) (y ∷ ys) all c is =
    fold-held f g step es ys all.1 (Ok e) y (λ d same. let these : e ≡ d = cc in subst (λ (b : Ends). Holds b y) these all.0) c is

only-held : (es : List Ends) (xs : List Fraction) → AllZip Holds es xs → (c : Ends) → of_only no_value (λ a. Ok (negative_ends a)) es ≡ Ok c → Holds c (of_only zero_fraction minus xs)
only-held [] xs all c is = absurd (cc)
only-held (e ∷ []) [] all c is = absurd all
only-held (e ∷ []) (x ∷ []) all c is =
    let these : negative_ends e ≡ c = cc in subst (λ (b : Ends). Holds b (minus x)) these (negative_held e x all.0)
only-held (e ∷ []) (x ∷ y ∷ ys) all c is = absurd all.1
only-held (e ∷ d ∷ es) xs all c is = absurd (cc)

both-held : (terms : ℕ) → last_term ≤ terms → (es : List Ends) (xs : List Fraction) → AllZip Holds es xs → (c : Ends) → of_both no_value exponential_of es ≡ Ok c → Holds c (of_both zero_fraction (exponential_at terms) xs)
both-held terms long [] xs all c is = absurd (cc)
both-held terms long (e ∷ []) xs all c is = absurd (cc)
both-held terms long (e ∷ d ∷ []) [] all c is = absurd all
both-held terms long (e ∷ d ∷ []) (x ∷ []) all c is = absurd all.1
both-held terms long (e ∷ d ∷ []) (x ∷ y ∷ []) all c is =
    held_if_exponential (λ b. Holds b (exponential_at terms x y)) e d c (sym is) (exponential_held e d terms x y long all.0 all.1.0)
both-held terms long (e ∷ d ∷ []) (x ∷ y ∷ z ∷ zs) all c is = absurd all.1.1
both-held terms long (e ∷ d ∷ b ∷ es) xs all c is = absurd (cc)

operation-held : (terms : ℕ) → last_term ≤ terms → (operator : ExpressionOperator) (es : List Ends) (xs : List Fraction) → AllZip Holds es xs → (c : Ends) → interval_operation operator es ≡ Ok c → Holds c (exact_operation terms operator xs)
operation-held terms long Neg es xs all c is = only-held es xs all c is
operation-held terms long Add es xs all c is =
    folded-held (λ a b. limited (sum_ends a b)) plus (λ a b d x y h g same. limited-held (sum_ends a b) d (plus x y) same (sum_held a b x y h g)) es xs all c is
operation-held terms long Sub es xs all c is =
    folded-held (λ a b. limited (difference_ends a b)) difference (λ a b d x y h g same. limited-held (difference_ends a b) d (difference x y) same (difference_held a b x y h g)) es xs all c is
operation-held terms long Mul es xs all c is =
    folded-held (λ a b. limited (product_ends a b)) times (λ a b d x y h g same. limited-held (product_ends a b) d (times x y) same (product_held a b x y h g)) es xs all c is
operation-held terms long Div es xs all c is =
    folded-held quotient_of quotient (λ a b d x y h g same. quotient-case a b d x y (has_zero b) refl same h g) es xs all c is
operation-held terms long Exponential es xs all c is = both-held terms long es xs all c is

-- all arguments that were computed
abbrev pub EachHolds : (Expression → Computed) → (Expression → Fraction) → Type 0
EachHolds below exact = (e : Expression) (a : Ends) → below e ≡ Ok a → Holds a (exact e)

-- intervals that were put together: the first, and those of the rest
pub and-parts : (one : Computed) (rest : Result (List Ends) NumberFault) (es : List Ends) → and_first one rest ≡ Ok es → (P : List Ends → Type 0) → ((a : Ends) (more : List Ends) → one ≡ Ok a → rest ≡ Ok more → P (a ∷ more)) → P es
and-parts (Err found) rest es is P each = absurd (cc)
and-parts (Ok a) (Err found) es is P each = absurd (cc)
and-parts (Ok a) (Ok more) es is P each = let these : a ∷ more ≡ es = cc in subst P these (each a more refl refl)

-- the intervals of arguments hold their exact values
pub arguments-held : (below : Expression → Computed) (exact : Expression → Fraction) → EachHolds below exact → (arguments : List Expression) (es : List Ends) → all_computed (map below arguments) ≡ Ok es → AllZip Holds es (map exact arguments)
arguments-held below exact each [] es is = let these : [] ≡ es = cc in subst (λ (l : List Ends). AllZip Holds l []) these tt
arguments-held below exact each (one ∷ more) es is =
    and-parts (below one) (all_computed (map below more)) es is (λ l. AllZip Holds l (exact one ∷ map exact more))
    (λ a rest first others. (each one a first, arguments-held below exact each more rest others))

on-held : (terms : ℕ) → last_term ≤ terms → (operator : ExpressionOperator) (computed : Result (List Ends) NumberFault) (xs : List Fraction) → ((es : List Ends) → computed ≡ Ok es → AllZip Holds es xs) → (c : Ends) → on_values operator computed ≡ Ok c → Holds c (exact_operation terms operator xs)
on-held terms long operator (Err found) xs all c is = absurd (cc)
on-held terms long operator (Ok es) xs all c is = operation-held terms long operator es xs (all es refl) c is

parameter-held : (below : Expression → Computed) (exact : Expression → Fraction) → EachHolds below exact → (found : Option Parameter) (a : Ends) → at_parameter no_value below found ≡ Ok a → Holds a (at_parameter zero_fraction exact found)
parameter-held below exact each None a is = absurd (cc)
parameter-held below exact each (Some parameter) a is = each parameter.expression a is

number-held : (d : Scaled) (a : Ends) → ◌≡◌ {A = Computed} (Ok (decimal_ends d)) (Ok a) → Holds a (fraction_of d)
number-held d a is = let these : decimal_ends d ≡ a = cc in subst (λ (b : Ends). Holds b (fraction_of d)) these (decimal_held d)

layer-held : (terms : ℕ) → last_term ≤ terms → (mission : Scaled) (model : Model) (below : Expression → Computed) (exact : Expression → Fraction) → EachHolds below exact → (layer : Expression-F Expression) (a : Ends) → interval_layer mission model below layer ≡ Ok a → Holds a (exact_layer terms mission model exact layer)
layer-held terms long mission model below exact each (Expression-F.Number decimal) a is = number-held decimal a is
layer-held terms long mission model below exact each (Expression-F.Parameter id) a is = parameter-held below exact each (slice_get model.parameters id.0) a is
layer-held terms long mission model below exact each Expression-F.MissionTime a is = number-held mission a is
layer-held terms long mission model below exact each (Expression-F.Operation operator arguments) a is =
    on-held terms long operator (all_computed (map below arguments)) (map exact arguments) (λ es. arguments-held below exact each arguments es) a is

-- the interval of an expression holds its exact value
pub value-held : (n terms : ℕ) → last_term ≤ terms → (mission : Scaled) (model : Model) (e : Expression) (a : Ends) → interval_value n mission model e ≡ Ok a → Holds a (exact_value n terms mission model e)
unfolding interval_value exact_value
value-held zero terms long mission model e a is = absurd (cc)
value-held (suc n) terms long mission model e a is =
    layer-held terms long mission model _ _ (λ g b same. value-held n terms long mission model g b same) (out-Expression e) a is

-- ---- events

finished-case : (a b : Ends) (x : Fraction) (t : Bool) → (if t then Err fault.NotProbability else Ok (unit_ends a)) ≡ Ok b → Holds a x → Holds b (held_in_unit x)
finished-case a b x true is h = absurd (cc)
finished-case a b x false is h = let these : unit_ends a ≡ b = cc in subst (λ (e : Ends). Holds e (held_in_unit x)) these (unit_held a x h)

finished-held : (computed : Computed) (b : Ends) (x : Fraction) → ((a : Ends) → computed ≡ Ok a → Holds a x) → finished computed ≡ Ok b → Holds b (held_in_unit x)
finished-held (Err found) b x held is = absurd (cc)
finished-held (Ok a) b x held is = finished-case a b x (int_lt (pos units) a.lo || int_lt a.hi (pos 0)) is (held a refl)

expression-held : (terms : ℕ) → last_term ≤ terms → (mission : Scaled) (model : Model) (found : Option Expression) (a : Ends) → finished_value mission model found ≡ Ok a → Holds a (held_in_unit (unwrap_or (option_map (exact_value MAX_VALUE_LEVELS terms mission model) found) zero_fraction))
expression-held terms long mission model None a is = absurd (cc)
expression-held terms long mission model (Some e) a is =
    finished-held (interval_value MAX_VALUE_LEVELS mission model e) a (exact_value MAX_VALUE_LEVELS terms mission model e)
    (λ b same. value-held MAX_VALUE_LEVELS terms long mission model e b same) is

-- the interval of an event holds its exact quantity
pub event-held : (terms : ℕ) → last_term ≤ terms → (mission : Scaled) (model : Model) (event : ExpandedEvent) (a : Ends) → event_interval mission model event ≡ Ok a → Holds a (exact_quantity terms mission model event)
event-held terms long mission model event a is = expression-held terms long mission model (expression_of model event) a is

-- intervals that were put together: the first event has one, and the rest have theirs
pub and-event-parts : (there : Option (Place × List ℕ)) (one : Result Ends FaultKind) (rest : Result (List Ends) ModelFault) (es : List Ends) → and_event there one rest ≡ Ok es → (P : List Ends → Type 0) → ((a : Ends) (more : List Ends) → one ≡ Ok a → rest ≡ Ok more → P (a ∷ more)) → P es
and-event-parts there (Err kind) rest es is P each = absurd (cc)
and-event-parts there (Ok a) (Err found) es is P each = absurd (cc)
and-event-parts there (Ok a) (Ok more) es is P each = let these : a ∷ more ≡ es = cc in subst P these (each a more refl refl)

-- the intervals of events hold their exact quantities, each its own
pub events-held : (terms : ℕ) → last_term ≤ terms → (mission : Scaled) (model : Model) (events : List ExpandedEvent) (es : List Ends) → values_from mission model events ≡ Ok es → AllZip Holds es (map (exact_quantity terms mission model) events)
events-held terms long mission model [] es is = let these : [] ≡ es = cc in subst (λ (l : List Ends). AllZip Holds l []) these tt
events-held terms long mission model (event ∷ events) es is =
    and-event-parts (place_of_event model event) (event_interval mission model event) (values_from mission model events) es is
    (λ l. AllZip Holds l (exact_quantity terms mission model event ∷ map (exact_quantity terms mission model) events))
    (λ a more one others. (event-held terms long mission model event a one, events-held terms long mission model events more others))
