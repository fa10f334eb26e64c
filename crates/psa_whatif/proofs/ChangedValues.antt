-- The intervals of a model's events, where house events or one basic event outside all groups changed.
use Rattle.std.proofs.Common.{◌≡◌, ◌<◌, ◌≤◌, ◌*◌, ◌+◌, ◌^◌, ◌==◌, ◌||◌, ℕ, ℤ, pos, negsuc, zero, suc, Bool, true, false, List, [], ◌∷◌, Option, Some, None, Result, Ok, Err, length, int_lt, if◌then◌else◌, refl, sym, ap, ap₂, ◌∙◌, inl, inr, arith}
use Rattle.std.proofs.lemmas.Bool.{eqb-true}
use Rattle.std.proofs.lemmas.Bool.Decides.{eqb_tells, nat_tests}
use Rattle.std.proofs.lemmas.Int.{ints}
use Rattle.std.proofs.lemmas.Nat.{pow-add}
use Rattle.std.proofs.Math.Nat.{div-le_of_le-mul, mul-le-mul_right, zero-mul, zero-div}
use Rattle.std.specs.Prelude.{◌≤ℤ◌, ◌+ℤ◌}
use Rattle.std.specs.List.{slice_get}
use Rattle.std.specs.Option.{option_and_then}
use Rattle.psa_number.specs.DecimalText.{is_within}
use Rattle.psa_number.specs.Ends.{Ends}
use Rattle.psa_number.specs.Operations.{decimal_ends, magnitude_below, negative_ends, positive_ends, unit_ends}
use Rattle.psa_number.specs.Scaled.{IsWithin, Scaled}
use Rattle.psa_number.specs.Units.{units}
use Rattle.psa_model.specs.declared.expanded.ExpandedEvent.{ExpandedEvent}
use Rattle.psa_model.specs.declared.expanded.ExpandedEvent.TheVariants.{Basic, Member, Shared}
use Rattle.psa_model.specs.declared.expression.Expression.{Expression}
use Rattle.psa_model.specs.declared.expression.Expression.TheViews.{out-Expression}
use Rattle.psa_model.specs.declared.expression.Expression.TheVariants as expression
use Rattle.psa_model.specs.declared.fault.FaultKind.{FaultKind}
use Rattle.psa_model.specs.declared.fault.FaultKind.TheVariants as fault
use Rattle.psa_model.specs.declared.fault.ModelFault.{ModelFault}
use Rattle.psa_model.specs.declared.ids.Place.{Place}
use Rattle.psa_model.specs.declared.limits.TheConstants.{MAX_VALUE_LEVELS}
use Rattle.psa_model.specs.declared.model.BasicEvent.{BasicEvent}
use Rattle.psa_model.specs.declared.model.House.{House}
use Rattle.psa_model.specs.declared.model.Model.{Model}
use Rattle.psa_model.specs.Expansion.{expression_of}
use Rattle.psa_model.specs.Values.{Computed, and_event, event_interval, finished, finished_value, interval_layer, interval_value, place_of_event, values_from}
use Rattle.psa_model.proofs.ExpressionForms.{interval-suc, out-number}
use Rattle.psa_model.proofs.HeldValues.{and-event-parts}
use Rattle.psa_model.proofs.Levels.{and-left}
use Rattle.psa_words.specs.Given.{is_fraction}
use Rattle.psa_whatif.specs.EditedLoads.{is_basic, revalued}
use Rattle.psa_whatif.specs.Edits.{with_item, with_number}
use Rattle.psa_whatif.proofs.ChangedLists.{item-other, item-same}
use Rattle.psa_whatif.proofs.ChangedModels.{changed}

-- expressions have the same intervals
interval-same : (m : Model) (bs : List BasicEvent) (hs : List House) (mission : Scaled) (n : ℕ) (e : Expression)
    → interval_value n mission (changed m bs hs) e ≡ interval_value n mission m e
unfolding interval_value
interval-same m bs hs mission zero e = refl
interval-same m bs hs mission (suc n) e =
    ap (λ (below : Expression → Computed). interval_layer mission m below (out-Expression e))
    (λ i g. interval-same m bs hs mission n g i)

-- so have optional ones
finished-same : (m : Model) (bs : List BasicEvent) (hs : List House) (mission : Scaled) (found : Option Expression)
    → finished_value mission (changed m bs hs) found ≡ finished_value mission m found
finished-same m bs hs mission None = refl
finished-same m bs hs mission (Some e) = ap finished (interval-same m bs hs mission MAX_VALUE_LEVELS e)

-- ---- house events

-- where house events alone changed, each event has the same interval
event-same : (m : Model) (hs : List House) (mission : Scaled) (event : ExpandedEvent)
    → event_interval mission (changed m m.basics hs) event ≡ event_interval mission m event
event-same m hs mission (Basic id) = finished-same m m.basics hs mission (expression_of m (Basic id))
event-same m hs mission (Member id place) = finished-same m m.basics hs mission (expression_of m (Member id place))
event-same m hs mission (Shared id subset) = finished-same m m.basics hs mission (expression_of m (Shared id subset))

-- and all together
pub houses-values : (m : Model) (hs : List House) (mission : Scaled) (events : List ExpandedEvent)
    → values_from mission (changed m m.basics hs) events ≡ values_from mission m events
houses-values m hs mission [] = refl
houses-values m hs mission (event ∷ events) =
    ap₂ (λ (one : Result Ends FaultKind) (rest : Result (List Ends) ModelFault).
    and_event (place_of_event m event) one rest)
    (event-same m hs mission event) (houses-values m hs mission events)

-- ---- one basic event

-- a number is its interval
number-interval : (n : ℕ) (mission : Scaled) (m : Model) (d : Scaled)
    → interval_value (suc n) mission m (expression.Number d) ≡ Ok (decimal_ends d)
number-interval n mission m d = simp (interval-suc, out-number) refl

-- a power of ten by parts of its exponent
power-sum : (i j k : ℕ) → i + j ≡ k → 10 ^ k ≡ 10 ^ i * 10 ^ j
power-sum i j k e = ap (λ (n : ℕ). 10 ^ n) (sym e) ∙ pow-add 10 i j

-- a magnitude of at most 1 is at most 1 in units
below-units : (digits : ℕ) (e s : ℤ) → s ≡ (e +ℤ pos 12) → IsWithin 1 digits e → magnitude_below digits s ≤ units
below-units digits (pos high) (pos k) is small =
    let all = ap (λ (t : ℕ). digits * t) (power-sum high 12 k (omega (arith, ints))) in
    omega (arith, all, small)
below-units digits (pos high) (negsuc k) is small = absurd (omega (arith, ints))
below-units digits (negsuc down) (pos k) is small =
    let twelve : 10 ^ 12 ≡ 10 ^ k * 10 ^ suc down = power-sum k (suc down) 12 (omega (arith, ints)) in
    let more : digits * 10 ^ k ≤ 1 * 10 ^ suc down * 10 ^ k = mul-le-mul_right (10 ^ k) small in
    omega (arith, twelve, more)
below-units digits (negsuc down) (negsuc k) is small =
    let sum : 10 ^ suc down ≡ 10 ^ suc k * 10 ^ 12 = power-sum (suc k) 12 (suc down) (omega (arith, ints)) in
    div-le_of_le-mul (10 ^ suc k) (omega (arith, sum, small))

-- the test of a magnitude, as a fact
within-fact : (digits : ℕ) (e : ℤ) → is_within 1 digits e ≡ true → IsWithin 1 digits e
within-fact digits (pos up) is = grind (arith, nat_tests)
within-fact digits (negsuc down) is = grind (arith, nat_tests)

-- no digits have no magnitude
no-digits : (digits : ℕ) (scale : ℤ) → digits ≡ 0 → magnitude_below digits scale ≡ 0
no-digits digits (pos up) none = rw none (zero-mul (10 ^ up))
no-digits digits (negsuc down) none = rw none (zero-div (10 ^ suc down))

-- a number is not below one that is at most it
not-under : (a b : ℤ) → b ≤ℤ a → int_lt a b ≡ false
not-under a b least = grind (arith, ints)

-- an interval that neither test refuses is held
held-if : (a : Ends) (above below : Bool) → above ≡ false → below ≡ false
    → (if above || below then Err fault.NotProbability else Ok (unit_ends a)) ≡ Ok (unit_ends a)
held-if a true below p q = absurd (cc)
held-if a false true p q = absurd (cc)
held-if a false false p q = refl

-- an interval that begins at most at 1 and ends at least at 0 is held
finished-held : (a : Ends) → a.lo ≤ℤ pos units → pos 0 ≤ℤ a.hi → finished (Ok a) ≡ Ok (unit_ends a)
finished-held a low high =
    held-if a (int_lt (pos units) a.lo) (int_lt a.hi (pos 0)) (not-under (pos units) a.lo low)
    (not-under a.hi (pos 0) high)

-- a decimal within 0 and 1 gives such an interval
fraction-case : (digits : ℕ) (e : ℤ) (negative : Bool)
    → is_fraction (record { negative = negative; digits = digits; exponent = e }) ≡ true
    → finished (Ok (decimal_ends (record { negative = negative; digits = digits; exponent = e })))
    ≡ Ok (unit_ends (decimal_ends (record { negative = negative; digits = digits; exponent = e })))
fraction-case digits e false is =
    let below : magnitude_below digits (e +ℤ pos 12) ≤ units =
    below-units digits e (e +ℤ pos 12) refl (within-fact digits e is) in
    finished-held (positive_ends digits (e +ℤ pos 12)) (omega (arith, ints)) (omega (arith, ints))
fraction-case digits e true is =
    let none : digits ≡ 0 = eqb-true digits 0 (and-left (digits == 0) _ is) in
    finished-held (negative_ends (positive_ends digits (e +ℤ pos 12))) (omega (arith, ints))
    (let zero_below = no-digits digits (e +ℤ pos 12) none in omega (arith, ints, zero_below))

-- the interval of a decimal within 0 and 1 is held
pub fraction-finished : (d : Scaled) → is_fraction d ≡ true
    → finished (Ok (decimal_ends d)) ≡ Ok (unit_ends (decimal_ends d))
fraction-finished d is = fraction-case d.digits d.exponent d.negative is

-- the interval of an event, or that of a number in its place
abbrev chosen : Bool → Ends → Result Ends FaultKind → Result Ends FaultKind
chosen is interval before = if is then Ok interval else before

-- what stands at a place within a list
there : {A : Type 0} (xs : List A) (i : ℕ) → i < length xs → (x : A) × (slice_get xs i ≡ Some x)
there [] i within = absurd (omega arith)
there (x ∷ xs) zero within = (x, refl)
there (x ∷ xs) (suc i) within = there xs i (omega arith)

-- where the expression of one basic event became a number, that event has its interval, and the others have theirs
basic-chosen : (m : Model) (hs : List House) (mission : Scaled) (id other : ℕ) (d : Scaled) → id < length m.basics
    → is_fraction d ≡ true
    → finished_value mission (changed m (with_item (with_number d) m.basics id) hs)
    (option_and_then (λ basic. basic.expression) (slice_get (with_item (with_number d) m.basics id) other))
    ≡ chosen (other == id) (unit_ends (decimal_ends d))
    (finished_value mission m (option_and_then (λ basic. basic.expression) (slice_get m.basics other)))
basic-chosen m hs mission id other d stands fraction = elim (eqb_tells other id) [
  | inl e ↦
      let at = there m.basics id stands in
      rw (e.0, e.1, item-same (with_number d) m.basics id at.0 at.1)
      (finished-same m (with_item (with_number d) m.basics id) hs mission (Some (expression.Number d))
      ∙ ap finished (number-interval 999 mission m d) ∙ fraction-finished d fraction)
  | inr e ↦
      rw (e.0, item-other (with_number d) m.basics id other e.1)
      (finished-same m (with_item (with_number d) m.basics id) hs mission
      (option_and_then (λ basic. basic.expression) (slice_get m.basics other)))
]

event-chosen : (m : Model) (mission : Scaled) (id : ℕ) (d : Scaled) (event : ExpandedEvent) → id < length m.basics
    → is_fraction d ≡ true
    → event_interval mission (changed m (with_item (with_number d) m.basics id) m.houses) event
    ≡ chosen (is_basic id event) (unit_ends (decimal_ends d)) (event_interval mission m event)
event-chosen m mission id d (Basic other) stands fraction =
    basic-chosen m m.houses mission id other.0 d stands fraction
event-chosen m mission id d (Member group place) stands fraction =
    finished-same m (with_item (with_number d) m.basics id) m.houses mission (expression_of m (Member group place))
event-chosen m mission id d (Shared group subset) stands fraction =
    finished-same m (with_item (with_number d) m.basics id) m.houses mission (expression_of m (Shared group subset))

-- one event more
and-chosen : (there : Option (Place × List ℕ)) (is : Bool) (interval one : Ends) (rest : List Ends)
    → and_event there (chosen is interval (Ok one)) (Ok rest) ≡ Ok ((if is then interval else one) ∷ rest)
and-chosen there true interval one rest = refl
and-chosen there false interval one rest = refl

-- all events
pub value-values : (m : Model) (mission : Scaled) (id : ℕ) (d : Scaled) (events : List ExpandedEvent)
    (values : List Ends) → id < length m.basics → is_fraction d ≡ true → values_from mission m events ≡ Ok values
    → values_from mission (changed m (with_item (with_number d) m.basics id) m.houses) events
    ≡ Ok (revalued id (unit_ends (decimal_ends d)) events values)
value-values m mission id d [] values stands fraction is = is
value-values m mission id d (event ∷ events) values stands fraction is =
    and-event-parts (place_of_event m event) (event_interval mission m event) (values_from mission m events) values is
    (λ l. values_from mission (changed m (with_item (with_number d) m.basics id) m.houses) (event ∷ events)
    ≡ Ok (revalued id (unit_ends (decimal_ends d)) (event ∷ events) l))
    (λ a more one others.
    ap₂ (λ (first : Result Ends FaultKind) (rest : Result (List Ends) ModelFault).
    and_event (place_of_event (changed m (with_item (with_number d) m.basics id) m.houses) event) first rest)
    (event-chosen m mission id d event stands fraction
    ∙ ap (chosen (is_basic id event) (unit_ends (decimal_ends d))) one)
    (value-values m mission id d events more stands fraction others)
    ∙ and-chosen (place_of_event (changed m (with_item (with_number d) m.basics id) m.houses) event)
    (is_basic id event) (unit_ends (decimal_ends d)) a (revalued id (unit_ends (decimal_ends d)) events more))
