-- Where an expression has an interval, it divides by no 0: the interval of each divisor holds its exact value and does
-- not hold 0.
use Rattle.std.proofs.Common.{◌≡◌, ◌≤◌, ◌<◌, ◌<ℤ◌, ◌≤ℤ◌, ◌*ℤ◌, ◌*◌, ◌⊎◌, ⊎_elim, ℕ, ℤ, pos, negsuc, zero, suc, Bool, true, false, List, [], ◌∷◌, Option, None, Some, Result, Ok, Err, map, ◌&&◌, if◌then◌else◌, refl, arith}
use Rattle.std.proofs.Math.Nat.{le_of_mul-le-mul_right}
use Rattle.std.specs.List.{slice_get, list_all, fold, AllZip}
use Rattle.std.specs.Option.{option_map, unwrap_or}
use borrow.Author.Differences.{up, down, lt_out}
use Rattle.psa_number.specs.declared.fault.NumberFault.{NumberFault}
use Rattle.psa_number.specs.declared.fault.NumberFault.TheVariants as number
use Rattle.psa_number.specs.Ends.{Ends}
use Rattle.psa_number.specs.Exponential.{last_term}
use Rattle.psa_number.specs.Fraction.{Fraction, Holds}
use Rattle.psa_number.specs.Operations.{limited, quotient_ends, quotient_of, has_zero}
use Rattle.psa_number.specs.Scaled.{Scaled}
use Rattle.psa_number.specs.Units.{units}
use Rattle.psa_number.proofs.BracketLemmas.{apart}
use Rattle.psa_number.proofs.SignedLemmas.{parts_out}
use Rattle.psa_model.specs.declared.expression.Expression.{Expression}
use Rattle.psa_model.specs.declared.expression.Expression.TheOpen.{Expression-F}
use Rattle.psa_model.specs.declared.expression.Expression.TheViews.{out-Expression}
use Rattle.psa_model.specs.declared.expression.ExpressionOperator.{ExpressionOperator}
use Rattle.psa_model.specs.declared.expression.ExpressionOperator.TheVariants.{Neg, Add, Sub, Mul, Div, Exponential}
use Rattle.psa_model.specs.declared.expanded.ExpandedEvent.{ExpandedEvent}
use Rattle.psa_model.specs.declared.limits.TheConstants.{MAX_VALUE_LEVELS}
use Rattle.psa_model.specs.declared.model.Model.{Model}
use Rattle.psa_model.specs.declared.model.Parameter.{Parameter}
use Rattle.psa_model.specs.Divisors.{is_nonzero, divisors_in, divides_layer, divides_rightly, event_divides_rightly}
use Rattle.psa_model.specs.Expansion.{expression_of}
use Rattle.psa_model.specs.Values.{at_parameter, exact_value, Computed, no_value, all_computed, applied, folded_ends, interval_operation, on_values, interval_layer, interval_value, finished, finished_value, event_interval, place_of_event, values_from}
use Rattle.psa_model.proofs.HeldValues.{EachHolds, value-held, arguments-held, and-parts, and-event-parts}

-- two tests that both pass
both : (a b : Bool) → a ≡ true → b ≡ true → (a && b) ≡ true
both a b p q = rw (p, q) refl

-- ---- one divisor

-- 0 is not held by an interval that is all above it
not-below : (lo : ℤ) (d : ℕ) → 0 < d → (lo *ℤ pos d) ≤ℤ (pos 0 *ℤ pos units) → pos 0 <ℤ lo → ⊥
not-below lo d some low above =
    let scaled : up lo * d ≤ down lo * d = omega (arith, parts_out lo (pos 0) d units low) in
    let less : up lo ≤ down lo = le_of_mul-le-mul_right scaled some in
    omega (arith, less, lt_out (pos 0) lo above)

-- 0 is not held by an interval that is all below it
not-above : (hi : ℤ) (d : ℕ) → 0 < d → (pos 0 *ℤ pos units) ≤ℤ (hi *ℤ pos d) → hi <ℤ pos 0 → ⊥
not-above hi d some high below =
    let scaled : down hi * d ≤ up hi * d = omega (arith, parts_out (pos 0) hi units d high) in
    let less : down hi ≤ up hi = le_of_mul-le-mul_right scaled some in
    omega (arith, less, lt_out hi (pos 0) below)

-- the same by the numerator: it is not 0
nonzero-number : (lo hi n : ℤ) (d : ℕ) → (pos 0 <ℤ lo) ⊎ (hi <ℤ pos 0) → 0 < d → (lo *ℤ pos d) ≤ℤ (n *ℤ pos units)
    → (n *ℤ pos units) ≤ℤ (hi *ℤ pos d) → is_nonzero (record { num = n; den = d }) ≡ true
nonzero-number lo hi (pos zero) d away some low high =
    absurd (⊎_elim (λ (above : pos 0 <ℤ lo). not-below lo d some low above)
    (λ (below : hi <ℤ pos 0). not-above hi d some high below) away)
nonzero-number lo hi (pos (suc n)) d away some low high = refl
nonzero-number lo hi (negsuc n) d away some low high = refl

-- what is held by an interval without 0 is not 0
nonzero-held : (b : Ends) (y : Fraction) → has_zero b ≡ false → Holds b y → is_nonzero y ≡ true
nonzero-held b y clear held = nonzero-number b.lo b.hi y.num y.den (apart b clear) held.positive held.low held.high

-- ---- divisors that are folded

-- a fault stays to the end of a fold
fault-stays : (f : Ends → Ends → Computed) (found : NumberFault) (es : List Ends) (c : Ends)
    → fold (applied f) (Err found) es ≡ Ok c → ⊥
fault-stays f found [] c is = cc
fault-stays f found (e ∷ es) c is = fault-stays f found es c is

-- one division more
step-nonzero : (a e : Ends) (y : Fraction) (es : List Ends) (ys : List Fraction) (c : Ends) → Holds e y
    → ((acc : Computed) → fold (applied quotient_of) acc es ≡ Ok c → list_all is_nonzero ys ≡ true) → (t : Bool)
    → has_zero e ≡ t
    → fold (applied quotient_of) (if t then Err number.ZeroDivisor else limited (quotient_ends a e)) es ≡ Ok c
    → (is_nonzero y && list_all is_nonzero ys) ≡ true
step-nonzero a e y es ys c held rest true clear is = absurd (fault-stays quotient_of number.ZeroDivisor es c is)
step-nonzero a e y es ys c held rest false clear is =
    both (is_nonzero y) (list_all is_nonzero ys) (nonzero-held e y clear held) (rest (limited (quotient_ends a e)) is)

-- what a value is divided by, one after another, is not 0
fold-nonzero : (es : List Ends) (ys : List Fraction) → AllZip Holds es ys → (c : Ends) (acc : Computed)
    → fold (applied quotient_of) acc es ≡ Ok c → list_all is_nonzero ys ≡ true
fold-nonzero [] [] all c acc is = refl
fold-nonzero [] (y ∷ ys) all c acc is = absurd all
fold-nonzero (e ∷ es) [] all c acc is = absurd all
fold-nonzero (e ∷ es) (y ∷ ys) all c (Err found) is = absurd (fault-stays quotient_of found es c is)
fold-nonzero (e ∷ es) (y ∷ ys) all c (Ok a) is =
    step-nonzero a e y es ys c all.0 (λ acc same. fold-nonzero es ys all.1 c acc same) (has_zero e) refl is

-- of a division with an interval, all values but the first are not 0
folded-nonzero : (es : List Ends) (xs : List Fraction) → AllZip Holds es xs → (c : Ends)
    → folded_ends quotient_of es ≡ Ok c → list_all is_nonzero (divisors_in Div xs) ≡ true
folded-nonzero [] xs all c is = absurd (cc)
folded-nonzero (e ∷ es) [] all c is = absurd all
folded-nonzero (e ∷ es) (y ∷ ys) all c is = fold-nonzero es ys all.1 c (Ok e) is

-- what an operation with an interval divides by is not 0
operation-nonzero : (operator : ExpressionOperator) (es : List Ends) (xs : List Fraction) → AllZip Holds es xs
    → (c : Ends) → interval_operation operator es ≡ Ok c → list_all is_nonzero (divisors_in operator xs) ≡ true
operation-nonzero Neg es xs all c is = refl
operation-nonzero Add es xs all c is = refl
operation-nonzero Sub es xs all c is = refl
operation-nonzero Mul es xs all c is = refl
operation-nonzero Div es xs all c is = folded-nonzero es xs all c is
operation-nonzero Exponential es xs all c is = refl

-- ---- expressions

-- whatever has an interval divides by no 0
abbrev EachDivides : (Expression → Computed) → (Expression → Bool) → Type 0
EachDivides below right = (e : Expression) (a : Ends) → below e ≡ Ok a → right e ≡ true

-- an operation with an interval has those of its arguments
on-parts : {P : Type 0} (operator : ExpressionOperator) (computed : Result (List Ends) NumberFault) (c : Ends)
    → on_values operator computed ≡ Ok c
    → ((es : List Ends) → computed ≡ Ok es → interval_operation operator es ≡ Ok c → P) → P
on-parts operator (Err found) c is f = absurd (cc)
on-parts operator (Ok es) c is f = f es refl is

-- arguments that all have intervals divide by no 0
arguments-divide : (below : Expression → Computed) (right : Expression → Bool) → EachDivides below right
    → (arguments : List Expression) (es : List Ends) → all_computed (map below arguments) ≡ Ok es
    → list_all right arguments ≡ true
arguments-divide below right each [] es is = refl
arguments-divide below right each (one ∷ more) es is =
    and-parts (below one) (all_computed (map below more)) es is (λ l. (right one && list_all right more) ≡ true)
    (λ a rest first others.
    both (right one) (list_all right more) (each one a first) (arguments-divide below right each more rest others))

-- a parameter with an interval divides by no 0
parameter-divides : (below : Expression → Computed) (right : Expression → Bool) → EachDivides below right
    → (found : Option Parameter) (a : Ends) → at_parameter no_value below found ≡ Ok a
    → at_parameter false right found ≡ true
parameter-divides below right each None a is = absurd (cc)
parameter-divides below right each (Some parameter) a is = each parameter.expression a is

-- one element with an interval divides by no 0, where what stands below it does not
layer-divides : (mission : Scaled) (model : Model) (below : Expression → Computed) (exact : Expression → Fraction)
    (right : Expression → Bool)
    → EachHolds below exact → EachDivides below right → (layer : Expression-F Expression) (a : Ends)
    → interval_layer mission model below layer ≡ Ok a → divides_layer model exact right layer ≡ true
layer-divides mission model below exact right held divides (Expression-F.Number decimal) a is = refl
layer-divides mission model below exact right held divides (Expression-F.Parameter id) a is =
    parameter-divides below right divides (slice_get model.parameters id.0) a is
layer-divides mission model below exact right held divides Expression-F.MissionTime a is = refl
layer-divides mission model below exact right held divides (Expression-F.Operation operator arguments) a is =
    on-parts operator (all_computed (map below arguments)) a is (λ es computed done.
    both (list_all right arguments) (list_all is_nonzero (divisors_in operator (map exact arguments)))
    (arguments-divide below right divides arguments es computed)
    (operation-nonzero operator es (map exact arguments) (arguments-held below exact held arguments es computed) a
    done))

-- an expression with an interval divides by no 0
pub value-divides : (n terms : ℕ) → last_term ≤ terms → (mission : Scaled) (model : Model) (e : Expression) (a : Ends)
    → interval_value n mission model e ≡ Ok a → divides_rightly n terms mission model e ≡ true
unfolding interval_value divides_rightly
value-divides zero terms long mission model e a is = absurd (cc)
value-divides (suc n) terms long mission model e a is =
    layer-divides mission model (λ g. interval_value n mission model g) (λ g. exact_value n terms mission model g)
    (λ g. divides_rightly n terms mission model g) (λ g b same. value-held n terms long mission model g b same)
    (λ g b same. value-divides n terms long mission model g b same)
    (out-Expression e) a is

-- ---- events

-- an event with an interval has that of its expression
finished-parts : {P : Type 0} (computed : Computed) (b : Ends) → finished computed ≡ Ok b
    → ((a : Ends) → computed ≡ Ok a → P) → P
finished-parts (Err found) b is f = absurd (cc)
finished-parts (Ok a) b is f = f a refl

-- the expression of an event with an interval divides by no 0
found-divides : (terms : ℕ) → last_term ≤ terms
    → (mission : Scaled) (model : Model) (found : Option Expression) (a : Ends)
    → finished_value mission model found ≡ Ok a
    → unwrap_or (option_map (divides_rightly MAX_VALUE_LEVELS terms mission model) found) false ≡ true
found-divides terms long mission model None a is = absurd (cc)
found-divides terms long mission model (Some e) a is =
    finished-parts (interval_value MAX_VALUE_LEVELS mission model e) a is
    (λ b same. value-divides MAX_VALUE_LEVELS terms long mission model e b same)

-- events with intervals divide by no 0
pub events-divide : (terms : ℕ) → last_term ≤ terms
    → (mission : Scaled) (model : Model) (events : List ExpandedEvent) (es : List Ends)
    → values_from mission model events ≡ Ok es → list_all (event_divides_rightly terms mission model) events ≡ true
events-divide terms long mission model [] es is = refl
events-divide terms long mission model (event ∷ events) es is =
    let right = event_divides_rightly terms mission model in
    and-event-parts (place_of_event model event) (event_interval mission model event)
    (values_from mission model events) es is (λ l. (right event && list_all right events) ≡ true)
    (λ a more one others. both (right event) (list_all right events)
    (found-divides terms long mission model (expression_of model event) a one)
    (events-divide terms long mission model events more others))
