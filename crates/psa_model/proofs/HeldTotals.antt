-- The bound of a product and the totals of bounds hold their exact values.
use Rattle.std.proofs.Common.{◌≡◌, ◌⊎◌, inl, inr, ◌≤◌, ◌<◌, ◌≤ℤ◌, ◌*ℤ◌, ◌+ℤ◌, ◌+◌, ◌*◌, ℕ, ℤ, pos, negsuc, zero, suc, Bool, true, false, List, [], ◌∷◌, Option, None, Some, Ok, Err, map, int_lt, ◌||◌, if◌then◌else◌, refl, ap, ◌∙◌, subst, arith}
use Rattle.std.specs.Prelude.{nat_le}
use Rattle.std.proofs.lemmas.Bool.Decides.{nat_tests}
use Rattle.std.proofs.lemmas.Int.{ints, clamps}
use Rattle.std.proofs.lemmas.Nat.{mul-le}
use Rattle.std.specs.Int.{int_min}
use Rattle.std.specs.List.{slice_get, fold, AllZip}
use Rattle.std.specs.Option.{option_and_then, option_map, unwrap_or}
use Rattle.psa_logic.specs.Products.{rank_of, is_positive}
use Rattle.psa_number.specs.Ends.{Ends}
use Rattle.psa_number.specs.Exponential.{last_term}
use Rattle.psa_number.specs.Fraction.{Fraction, Holds, plus, times, held_in_unit, one_minus, at_most_one}
use Rattle.psa_number.specs.Operations.{unit_ends, unit_product_ends, unit_sum_ends, complement_ends, IsInUnit}
use Rattle.psa_number.specs.Scaled.{Scaled}
use Rattle.psa_number.specs.Units.{units}
use Rattle.psa_number.proofs.BracketLemmas.{unit_held, unit_sum_held, complement_held, unit_product_held}
use Rattle.psa_number.proofs.SignedLemmas.{AreUnitEnds, held_in_order, products_in_unit, sums_in_unit}
use Rattle.psa_model.specs.declared.expanded.Expanded.{Expanded}
use Rattle.psa_model.specs.declared.expanded.ExpandedEvent.{ExpandedEvent}
use Rattle.psa_model.specs.declared.expression.Expression.{Expression}
use Rattle.psa_model.specs.declared.fault.FaultKind.TheVariants as fault
use Rattle.psa_model.specs.declared.ids.EventNumber.{EventNumber}
use Rattle.psa_model.specs.declared.limits.TheConstants.{MAX_VALUE_LEVELS}
use Rattle.psa_model.specs.declared.model.Model.{Model}
use Rattle.psa_model.specs.ExactQuantities.{one_fraction, literal_value, exact_bound, exact_rare_event, exact_min_cut}
use Rattle.psa_model.specs.Expansion.{expression_of}
use Rattle.psa_model.specs.Quantities.{zero_ends, one_ends, at_rank, literal_ends, bound_of, rare_event_of, min_cut_of}
use Rattle.psa_model.specs.Values.{zero_fraction, Computed, interval_value, exact_value, finished, finished_value, event_interval, exact_quantity, values_from, values_of, quantities_of, place_of_event}
use Rattle.psa_model.proofs.HeldValues.{ordered, value-held, and-event-parts}

-- an interval within 0 and 1 that holds a fraction within 0 and 1
pub record IsHeld (e : Ends) (x : Fraction) : Type 0 where
  pub ends : AreUnitEnds e.lo e.hi
  pub holds : Holds e x
  pub some : pos 0 ≤ℤ x.num
  pub few : x.num ≤ℤ pos x.den

inside : (e : Ends) → AreUnitEnds e.lo e.hi → IsInUnit e
inside e ends = record { low = ends.low; high = ends.high }

unit-is : (a : Ends) (x : Fraction) → Holds a x → IsHeld (unit_ends a) (held_in_unit x)
unit-is a x h = record {
  ends = held_in_order a.lo a.hi (ordered a x h);
  holds = unit_held a x h;
  some = omega (arith, ints, clamps);
  few = omega (arith, ints, clamps);
}

complement-is : (a : Ends) (x : Fraction) → IsHeld a x → IsHeld (complement_ends a) (one_minus x)
complement-is a x h = record {
  ends = record { low = let high = h.ends.high in omega (arith, ints, high); ordered = let o = h.ends.ordered in omega (arith, ints, o); high = let low = h.ends.low in omega (arith, ints, low) };
  holds = complement_held a x h.holds;
  some = let few = h.few in omega (arith, ints, few);
  few = let some = h.some in omega (arith, ints, some);
}

product-some : (p q : ℤ) → pos 0 ≤ℤ p → pos 0 ≤ℤ q → pos 0 ≤ℤ (p *ℤ q)
product-some (pos p) (pos q) h g = omega (arith, ints)
product-some (negsuc p) q h g = absurd (omega (arith, ints))
product-some p (negsuc q) h g = absurd (omega (arith, ints))

product-few : (p q : ℤ) (d e : ℕ) → pos 0 ≤ℤ p → pos 0 ≤ℤ q → p ≤ℤ pos d → q ≤ℤ pos e → (p *ℤ q) ≤ℤ pos (d * e)
product-few (pos p) (pos q) d e h g small_p small_q = let most = mul-le p q d e (omega (arith, ints)) (omega (arith, ints)) in omega (arith, ints, most)
product-few (negsuc p) q d e h g small_p small_q = absurd (omega (arith, ints))
product-few p (negsuc q) d e h g small_p small_q = absurd (omega (arith, ints))

product-is : (a b : Ends) (x y : Fraction) → IsHeld a x → IsHeld b y → IsHeld (unit_product_ends a b) (times x y)
product-is a b x y h g = record {
  ends = products_in_unit a.lo a.hi b.lo b.hi h.ends g.ends;
  holds = unit_product_held a b x y (inside a h.ends) h.ends.ordered (inside b g.ends) g.ends.ordered h.holds g.holds;
  some = product-some x.num y.num h.some g.some;
  few = product-few x.num y.num x.den y.den h.some g.some h.few g.few;
}

zero-is : IsHeld zero_ends zero_fraction
zero-is = record {
  ends = record { low = omega (arith, ints); ordered = omega (arith, ints); high = omega (arith, ints) };
  holds = record { positive = omega arith; low = omega (arith, ints); high = omega (arith, ints) };
  some = omega (arith, ints);
  few = omega (arith, ints);
}

one-is : IsHeld one_ends one_fraction
one-is = record {
  ends = record { low = omega (arith, ints); ordered = omega (arith, ints); high = omega (arith, ints) };
  holds = record { positive = omega arith; low = omega (arith, ints); high = omega (arith, ints) };
  some = omega (arith, ints);
  few = omega (arith, ints);
}

-- ---- the events

finished-case : (a b : Ends) (x : Fraction) (t : Bool) → (if t then Err fault.NotProbability else Ok (unit_ends a)) ≡ Ok b → Holds a x → IsHeld b (held_in_unit x)
finished-case a b x true is h = absurd (cc)
finished-case a b x false is h = let these : unit_ends a ≡ b = cc in subst (λ (e : Ends). IsHeld e (held_in_unit x)) these (unit-is a x h)

finished-is : (computed : Computed) (b : Ends) (x : Fraction) → ((a : Ends) → computed ≡ Ok a → Holds a x) → finished computed ≡ Ok b → IsHeld b (held_in_unit x)
finished-is (Err found) b x held is = absurd (cc)
finished-is (Ok a) b x held is = finished-case a b x (int_lt (pos units) a.lo || int_lt a.hi (pos 0)) is (held a refl)

expression-is : (terms : ℕ) → last_term ≤ terms → (mission : Scaled) (model : Model) (found : Option Expression) (a : Ends) → finished_value mission model found ≡ Ok a → IsHeld a (held_in_unit (unwrap_or (option_map (exact_value MAX_VALUE_LEVELS terms mission model) found) zero_fraction))
expression-is terms long mission model None a is = absurd (cc)
expression-is terms long mission model (Some e) a is =
    finished-is (interval_value MAX_VALUE_LEVELS mission model e) a (exact_value MAX_VALUE_LEVELS terms mission model e)
    (λ b same. value-held MAX_VALUE_LEVELS terms long mission model e b same) is

events-are : (terms : ℕ) → last_term ≤ terms → (mission : Scaled) (model : Model) (events : List ExpandedEvent) (es : List Ends) → values_from mission model events ≡ Ok es → AllZip IsHeld es (map (exact_quantity terms mission model) events)
events-are terms long mission model [] es is = let these : [] ≡ es = cc in subst (λ (l : List Ends). AllZip IsHeld l []) these tt
events-are terms long mission model (event ∷ events) es is =
    and-event-parts (place_of_event model event) (event_interval mission model event) (values_from mission model events) es is
    (λ l. AllZip IsHeld l (exact_quantity terms mission model event ∷ map (exact_quantity terms mission model) events))
    (λ a more one others. (expression-is terms long mission model (expression_of model event) a one, events-are terms long mission model events more others))

-- ---- literals and products

got-is : (es : List Ends) (xs : List Fraction) (i : ℕ) → AllZip IsHeld es xs → IsHeld (unwrap_or (slice_get es i) zero_ends) (unwrap_or (slice_get xs i) zero_fraction)
got-is [] [] i all = zero-is
got-is [] (y ∷ ys) i all = absurd all
got-is (e ∷ es) [] i all = absurd all
got-is (e ∷ es) (y ∷ ys) zero all = all.0
got-is (e ∷ es) (y ∷ ys) (suc i) all = got-is es ys i all.1

found-is : (es : List Ends) (xs : List Fraction) (found : Option EventNumber) → AllZip IsHeld es xs → IsHeld (unwrap_or (option_and_then (λ number. slice_get es number.0) found) zero_ends) (unwrap_or (option_and_then (λ number. slice_get xs number.0) found) zero_fraction)
found-is es xs None all = zero-is
found-is es xs (Some number) all = got-is es xs number.0 all

literal-case : (e : Ends) (x : Fraction) (t : Bool) → IsHeld e x → IsHeld (if t then e else complement_ends e) (if t then x else one_minus x)
literal-case e x true h = h
literal-case e x false h = complement-is e x h

literal-is : (es : List Ends) (xs : List Fraction) → AllZip IsHeld es xs → (ranks : List EventNumber) (literal : ℕ) → IsHeld (literal_ends es ranks literal) (literal_value xs ranks literal)
literal-is es xs all ranks literal =
    literal-case (at_rank zero_ends es ranks (rank_of literal)) (at_rank zero_fraction xs ranks (rank_of literal)) (is_positive literal)
    (found-is es xs (slice_get ranks (rank_of literal)) all)

product-from : (es : List Ends) (xs : List Fraction) → AllZip IsHeld es xs → (ranks : List EventNumber) (product : List ℕ) (a : Ends) (x : Fraction) → IsHeld a x → IsHeld (fold (λ bound literal. unit_product_ends bound (literal_ends es ranks literal)) a product) (fold (λ value literal. times value (literal_value xs ranks literal)) x product)
product-from es xs all ranks [] a x h = h
product-from es xs all ranks (literal ∷ product) a x h =
    product-from es xs all ranks product (unit_product_ends a (literal_ends es ranks literal)) (times x (literal_value xs ranks literal))
    (product-is a (literal_ends es ranks literal) x (literal_value xs ranks literal) h (literal-is es xs all ranks literal))

bound-is : (es : List Ends) (xs : List Fraction) → AllZip IsHeld es xs → (ranks : List EventNumber) (product : List ℕ) → IsHeld (bound_of es ranks product) (exact_bound xs ranks product)
bound-is es xs all ranks product = product-from es xs all ranks product one_ends one_fraction one-is

-- ---- totals

rest-from : (es : List Ends) (xs : List Fraction) → AllZip IsHeld es xs → (a : Ends) (x : Fraction) → IsHeld a x → IsHeld (fold (λ rest bound. unit_product_ends rest (complement_ends bound)) a es) (fold (λ rest value. times rest (one_minus value)) x xs)
rest-from [] [] all a x h = h
rest-from [] (y ∷ ys) all a x h = absurd all
rest-from (e ∷ es) [] all a x h = absurd all
rest-from (e ∷ es) (y ∷ ys) all a x h =
    rest-from es ys all.1 (unit_product_ends a (complement_ends e)) (times x (one_minus y)) (product-is a (complement_ends e) x (one_minus y) h (complement-is e y all.0))

min-cut-is : (es : List Ends) (xs : List Fraction) → AllZip IsHeld es xs → Holds (min_cut_of es) (exact_min_cut xs)
min-cut-is es xs all = (complement-is _ _ (rest-from es xs all one_ends one_fraction one-is)).holds

-- an interval within 0 and 1 that holds a sum, held at 1, of numbers that are at least 0
pub record IsSumHeld (e : Ends) (x : Fraction) : Type 0 where
  pub ends : AreUnitEnds e.lo e.hi
  pub holds : Holds e (at_most_one x)
  pub some : pos 0 ≤ℤ x.num

-- to hold the first number at 1 changes nothing of the sum held at 1
same-sum-case : (n m d c : ℕ) → (n ≤ d) ⊎ (d < n) → int_min (pos (d * c)) ((int_min (pos d) (pos n) *ℤ pos c) +ℤ (pos m *ℤ pos d)) ≡ int_min (pos (d * c)) ((pos n *ℤ pos c) +ℤ (pos m *ℤ pos d))
same-sum-case n m d c (inl small) =
    let same : int_min (pos d) (pos n) ≡ pos n = omega (arith, ints, clamps) in
    ap (λ (z : ℤ). int_min (pos (d * c)) ((z *ℤ pos c) +ℤ (pos m *ℤ pos d))) same
same-sum-case n m d c (inr large) =
    let same : int_min (pos d) (pos n) ≡ pos d = omega (arith, ints, clamps) in
    let more : d * c ≤ n * c = mul-le d c n c (omega arith) (omega arith) in
    ap (λ (z : ℤ). int_min (pos (d * c)) ((z *ℤ pos c) +ℤ (pos m *ℤ pos d))) same
    ∙ both-past (d * c) (m * d) (n * c) more
  where
    both-past : (k j i : ℕ) → k ≤ i → int_min (pos k) (pos (k + j)) ≡ int_min (pos k) (pos (i + j))
    both-past k j i h = omega (arith, ints, clamps)

by-test : (n d : ℕ) (t : Bool) → nat_le n d ≡ t → (n ≤ d) ⊎ (d < n)
by-test n d true is = let small : n ≤ d = grind (arith, nat_tests) in inl small
by-test n d false is = let large : d < n = grind (arith, nat_tests) in inr large

same-sum : (x y : ℤ) (d c : ℕ) → pos 0 ≤ℤ x → pos 0 ≤ℤ y → int_min (pos (d * c)) ((int_min (pos d) x *ℤ pos c) +ℤ (y *ℤ pos d)) ≡ int_min (pos (d * c)) ((x *ℤ pos c) +ℤ (y *ℤ pos d))
same-sum (pos n) (pos m) d c h g = same-sum-case n m d c (by-test n d (nat_le n d) refl)
same-sum (negsuc n) y d c h g = absurd (omega (arith, ints))
same-sum x (negsuc m) d c h g = absurd (omega (arith, ints))

sum-is : (a b : Ends) (x y : Fraction) → IsSumHeld a x → IsHeld b y → IsSumHeld (unit_sum_ends a b) (plus x y)
sum-is a b x y h g = record {
  ends = sums_in_unit a.lo a.hi b.lo b.hi h.ends g.ends;
  holds =
      subst (λ (num : ℤ). Holds (unit_sum_ends a b) (record { num = num; den = x.den * y.den }))
      (same-sum x.num y.num x.den y.den h.some g.some) (unit_sum_held a b (at_most_one x) y h.holds g.holds);
  some =
      let one = product-some x.num (pos y.den) h.some (omega (arith, ints)) in
      let other = product-some y.num (pos x.den) g.some (omega (arith, ints)) in
      omega (arith, ints, one, other);
}

sum-from : (es : List Ends) (xs : List Fraction) → AllZip IsHeld es xs → (a : Ends) (x : Fraction) → IsSumHeld a x → IsSumHeld (fold unit_sum_ends a es) (fold plus x xs)
sum-from [] [] all a x h = h
sum-from [] (y ∷ ys) all a x h = absurd all
sum-from (e ∷ es) [] all a x h = absurd all
sum-from (e ∷ es) (y ∷ ys) all a x h = sum-from es ys all.1 (unit_sum_ends a e) (plus x y) (sum-is a e x y h all.0)

no-sum : IsSumHeld zero_ends zero_fraction
no-sum = record {
  ends = zero-is.ends;
  holds = zero-is.holds;
  some = omega (arith, ints);
}

rare-event-is : (es : List Ends) (xs : List Fraction) → AllZip IsHeld es xs → Holds (rare_event_of es) (exact_rare_event xs)
rare-event-is es xs all = (sum-from es xs all zero_ends zero_fraction no-sum).holds

bounds-are : (es : List Ends) (xs : List Fraction) → AllZip IsHeld es xs → (ranks : List EventNumber) (products : List (List ℕ)) → AllZip IsHeld (map (bound_of es ranks) products) (map (exact_bound xs ranks) products)
bounds-are es xs all ranks [] = tt
bounds-are es xs all ranks (product ∷ products) = (bound-is es xs all ranks product, bounds-are es xs all ranks products)

-- ---- of the values of a model

-- where all quantities have intervals, the interval of a bound or total holds its exact value
pub bound-held : (terms : ℕ) → last_term ≤ terms → (mission : Scaled) (expanded : Expanded) (values : List Ends) → values_of mission expanded ≡ Ok values → (ranks : List EventNumber) (product : List ℕ) → Holds (bound_of values ranks product) (exact_bound (quantities_of terms mission expanded) ranks product)
bound-held terms long mission expanded values is ranks product =
    (bound-is values (quantities_of terms mission expanded) (events-are terms long mission expanded.model expanded.events values is) ranks product).holds

pub min-cut-held : (terms : ℕ) → last_term ≤ terms → (mission : Scaled) (expanded : Expanded) (values : List Ends) → values_of mission expanded ≡ Ok values → (ranks : List EventNumber) (products : List (List ℕ)) → Holds (min_cut_of (map (bound_of values ranks) products)) (exact_min_cut (map (exact_bound (quantities_of terms mission expanded) ranks) products))
min-cut-held terms long mission expanded values is ranks products =
    min-cut-is _ _ (bounds-are values (quantities_of terms mission expanded) (events-are terms long mission expanded.model expanded.events values is) ranks products)

pub rare-event-held : (terms : ℕ) → last_term ≤ terms → (mission : Scaled) (expanded : Expanded) (values : List Ends) → values_of mission expanded ≡ Ok values → (ranks : List EventNumber) (products : List (List ℕ)) → Holds (rare_event_of (map (bound_of values ranks) products)) (exact_rare_event (map (exact_bound (quantities_of terms mission expanded) ranks) products))
rare-event-held terms long mission expanded values is ranks products =
    rare-event-is _ _ (bounds-are values (quantities_of terms mission expanded) (events-are terms long mission expanded.model expanded.events values is) ranks products)
