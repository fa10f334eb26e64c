-- The choices of members, one member on.
use Rattle.std.proofs.Common.{◌≡◌, ◌<◌, ◌+◌, ◌-◌, ◌^◌, ℕ, suc, zero, List, [], ◌∷◌, ◌++◌, map, refl, ap, sym, ◌∙◌, arith}
use Rattle.std.proofs.lemmas.List.{append_assoc, append-nil}
use Rattle.std.proofs.lemmas.List.Sums.{sum_by-cons}
use Rattle.std.specs.List.{flat_map, range_with_len}
use Rattle.psa_model.specs.declared.expanded.ExpandedEvent.{ExpandedEvent}
use Rattle.psa_model.specs.declared.expanded.ExpandedEvent.TheVariants.{Shared}
use Rattle.psa_model.specs.declared.ids.GroupId.{GroupId}
use Rattle.psa_model.specs.Expansion.{choices, subset_number}

-- the events of sets together with those already chosen
abbrev pub events_with : GroupId → ℕ → List (List ℕ) → List ExpandedEvent
events_with id chosen sets = map (λ set. Shared id (chosen + subset_number set)) sets

with-append : (id : GroupId) (chosen : ℕ) (xs ys : List (List ℕ)) → events_with id chosen (xs ++ ys) ≡ events_with id chosen xs ++ events_with id chosen ys
with-append id chosen [] ys = refl
with-append id chosen (x ∷ xs) ys = ap (λ rest. Shared id (chosen + subset_number x) ∷ rest) (with-append id chosen xs ys)

-- a member more is its bit more
number-first : (place : ℕ) (set : List ℕ) → subset_number (place ∷ set) ≡ 2 ^ place + subset_number set
number-first place set = sum_by-cons (λ n. n) (2 ^ place) (map (λ p. 2 ^ p) set)

with-first : (id : GroupId) (chosen place : ℕ) (sets : List (List ℕ)) → events_with id chosen (map (λ set. place ∷ set) sets) ≡ events_with id (chosen + 2 ^ place) sets
with-first id chosen place [] = refl
with-first id chosen place (set ∷ sets) =
    let same : chosen + subset_number (place ∷ set) ≡ (chosen + 2 ^ place) + subset_number set = omega (arith, number-first place set) in
    ap (λ n. Shared id n ∷ events_with id chosen (map (λ s. place ∷ s) sets)) same
    ∙ ap (λ rest. Shared id ((chosen + 2 ^ place) + subset_number set) ∷ rest) (with-first id chosen place sets)

range-step : (place left : ℕ) → 0 < left → range_with_len place left ≡ place ∷ range_with_len (place + 1) (left - 1)
range-step place zero some = absurd (omega arith)
range-step place (suc left) some = let e : suc left - 1 ≡ left = omega arith in ap (λ n. place ∷ range_with_len (place + 1) n) (sym e)

choices-step : (size place : ℕ) (places : List ℕ) → 0 < size → choices size (place ∷ places) ≡ map (λ set. place ∷ set) (choices (size - 1) places) ++ choices size places
choices-step zero place places some = absurd (omega arith)
choices-step (suc size) place places some =
    let e : suc size - 1 ≡ size = omega arith in
    ap (λ n. map (λ set. place ∷ set) (choices n places) ++ choices (suc size) places) (sym e)

left-step : (place count : ℕ) → (count - place) - 1 ≡ count - (place + 1)
left-step place count = omega arith

-- with a member or without it
pub events-step : (id : GroupId) (chosen size place count bit : ℕ) → bit ≡ 2 ^ place → 0 < size → place < count → events_with id chosen (choices size (range_with_len place (count - place))) ≡ events_with id (chosen + bit) (choices (size - 1) (range_with_len (place + 1) (count - (place + 1)))) ++ events_with id chosen (choices size (range_with_len (place + 1) (count - (place + 1))))
events-step id chosen size place count bit is some inside =
    let places : List ℕ = range_with_len (place + 1) (count - (place + 1)) in
    ap (λ ps. events_with id chosen (choices size ps))
    (range-step place (count - place) (omega arith) ∙ ap (λ n. place ∷ range_with_len (place + 1) n) (left-step place count))
    ∙ ap (events_with id chosen) (choices-step size place places some)
    ∙ with-append id chosen (map (λ set. place ∷ set) (choices (size - 1) places)) (choices size places)
    ∙ ap (λ es. es ++ events_with id chosen (choices size places)) (with-first id chosen place (choices (size - 1) places) ∙ ap (λ b. events_with id (chosen + b) (choices (size - 1) places)) (sym is))

-- no choice of some among none
pub events-none : (id : GroupId) (chosen size : ℕ) → 0 < size → events_with id chosen (choices size []) ≡ []
events-none id chosen zero some = absurd (omega arith)
events-none id chosen (suc size) some = refl

-- a choice of nothing is what was chosen
pub events-chosen : (id : GroupId) (chosen : ℕ) (places : List ℕ) → events_with id chosen (choices 0 places) ≡ Shared id chosen ∷ []
events-chosen id chosen places = let e : chosen + 0 ≡ chosen = omega arith in ap (λ n. Shared id n ∷ []) e

-- where nothing is chosen yet, the events of the sets themselves
pub events-of-sets : (id : GroupId) (sets : List (List ℕ)) → events_with id 0 sets ≡ map (λ subset. Shared id subset) (map subset_number sets)
events-of-sets id [] = refl
events-of-sets id (set ∷ sets) =
    let e : 0 + subset_number set ≡ subset_number set = omega arith in
    ap (λ n. Shared id n ∷ events_with id 0 sets) e ∙ ap (λ rest. Shared id (subset_number set) ∷ rest) (events-of-sets id sets)

-- the sizes up to one more
sizes-from : (f : ℕ → List ℕ) (a n : ℕ) → flat_map f (range_with_len a (suc n)) ≡ flat_map f (range_with_len a n) ++ f (a + n)
sizes-from f a zero = let e : a ≡ a + 0 = omega arith in append-nil (f a) ∙ ap f e
sizes-from f a (suc n) =
    let e : (a + 1) + n ≡ a + suc n = omega arith in
    ap (λ rest. f a ++ rest) (sizes-from f (a + 1) n ∙ ap (λ k. flat_map f (range_with_len (a + 1) n) ++ f k) e)
    ∙ sym (append_assoc (f a) (flat_map f (range_with_len (a + 1) n)) (f (a + suc n)))

pub sizes-step : (f : ℕ → List ℕ) (n : ℕ) → flat_map f (range_with_len 1 (n + 1)) ≡ flat_map f (range_with_len 1 n) ++ f (n + 1)
sizes-step f n =
    let e : n + 1 ≡ suc n = omega arith in
    let e' : 1 + n ≡ n + 1 = omega arith in
    ap (λ k. flat_map f (range_with_len 1 k)) e ∙ sizes-from f 1 n ∙ ap (λ k. flat_map f (range_with_len 1 n) ++ f k) e'
