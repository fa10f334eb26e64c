-- Numbers by their first places, one after another.
use Rattle.std.proofs.Common.{◌≡◌, ◌≤◌, ℕ, Bool, true, false, List, [], ◌∷◌, ◌++◌, length, eqb, cond, not, ◌||◌, ◌&&◌, refl, ap, sym, ◌∙◌, subst, arith}
use Rattle.std.proofs.lemmas.Bool.Decides.{nat_tests}
use Rattle.std.proofs.lemmas.List.{append-nil, append_assoc, length-append}
use Rattle.std.proofs.lemmas.List.Folds.{list_any-append}
use Rattle.std.specs.List.{list_all, filter}
use Rattle.psa_model.specs.Ranks.{firsts}
use Rattle.psa_model.proofs.Levels.{and-left, and-right, and-both}
use Rattle.psa_prep.specs.Ranking.{is_in, ranked}

-- one more number
abbrev pub with_one : List ℕ → ℕ → List ℕ
with_one before x = cond (is_in before x) before (before ++ (x ∷ []))

-- ranks of two lists one after the other are those of the second from those of the first on
pub ranked-append : (before xs ys : List ℕ) → ranked before (xs ++ ys) ≡ ranked (ranked before xs) ys
ranked-append before [] ys = refl
ranked-append before (x ∷ xs) ys = ranked-append (with_one before x) xs ys

pub is_in-push : (before : List ℕ) (x y : ℕ) → is_in (before ++ (x ∷ [])) y ≡ (is_in before y || (eqb x y || false))
is_in-push before x y = list_any-append (λ z. eqb z y) before (x ∷ [])

or-left : (a b : Bool) → a ≡ true → (a || b) ≡ true
or-left true b h = refl
or-left false b h = absurd (cc)

or-right : (a b : Bool) → b ≡ true → (a || b) ≡ true
or-right true b h = refl
or-right false b h = h

same-self : (x : ℕ) → eqb x x ≡ true
same-self x = grind (arith, nat_tests)

stays-one : (b : Bool) (before : List ℕ) (x y : ℕ) → is_in before y ≡ true → is_in (cond b before (before ++ (x ∷ []))) y ≡ true
stays-one true before x y h = h
stays-one false before x y h = is_in-push before x y ∙ or-left _ _ h

-- what has a rank keeps it
stays : (before more : List ℕ) (y : ℕ) → is_in before y ≡ true → is_in (ranked before more) y ≡ true
stays before [] y h = h
stays before (x ∷ xs) y h = stays (with_one before x) xs y (stays-one (is_in before x) before x y h)

-- numbers that have a rank keep it while others are ranked
pub all-stay : (before more ys : List ℕ) → list_all (λ y. is_in before y) ys ≡ true → list_all (λ y. is_in (ranked before more) y) ys ≡ true
all-stay before more [] h = refl
all-stay before more (y ∷ ys) h = and-both _ _ (stays before more y (and-left _ _ h)) (all-stay before more ys (and-right _ _ h))

here-one : (b : Bool) (before : List ℕ) (x : ℕ) → is_in before x ≡ b → is_in (cond b before (before ++ (x ∷ []))) x ≡ true
here-one true before x h = h
here-one false before x h = is_in-push before x x ∙ or-right (is_in before x) (eqb x x || false) (or-left (eqb x x) false (same-self x))

-- what was ranked has a rank
pub all-ranked : (before ys : List ℕ) → list_all (λ y. is_in (ranked before ys) y) ys ≡ true
all-ranked before [] = refl
all-ranked before (y ∷ ys) =
    and-both _ _ (stays (with_one before y) ys y (here-one (is_in before y) before y refl)) (all-ranked (with_one before y) ys)

known-one : (b : Bool) (before : List ℕ) (x : ℕ) → b ≡ true → cond b before (before ++ (x ∷ [])) ≡ before
known-one true before x h = refl
known-one false before x h = absurd (cc)

-- what has a rank changes nothing
pub ranked-known : (before ys : List ℕ) → list_all (λ y. is_in before y) ys ≡ true → ranked before ys ≡ before
ranked-known before [] h = refl
ranked-known before (y ∷ ys) h =
    ap (λ now. ranked now ys) (known-one (is_in before y) before y (and-left _ _ h)) ∙ ranked-known before ys (and-right _ _ h)

-- ranks are the first places
filter-same : (p q : ℕ → Bool) → ((x : ℕ) → p x ≡ q x) → (xs : List ℕ) → filter p xs ≡ filter q xs
filter-same p q same [] = refl
filter-same p q same (x ∷ xs) = rw (same x, filter-same p q same xs) refl

twice-step : (p q r : ℕ → Bool) (x : ℕ) (xs : List ℕ) → filter p (filter q xs) ≡ filter r xs → (b a c : Bool) → (a && b) ≡ c → p x ≡ a → filter p (cond b (x ∷ filter q xs) (filter q xs)) ≡ cond c (x ∷ filter r xs) (filter r xs)
twice-step p q r x xs ih true true true e is = rw (is, ih) refl
twice-step p q r x xs ih true true false e is = absurd (cc)
twice-step p q r x xs ih true false true e is = absurd (cc)
twice-step p q r x xs ih true false false e is = rw (is, ih) refl
twice-step p q r x xs ih false true true e is = absurd (cc)
twice-step p q r x xs ih false true false e is = ih
twice-step p q r x xs ih false false true e is = absurd (cc)
twice-step p q r x xs ih false false false e is = ih

filter-twice : (p q r : ℕ → Bool) → ((x : ℕ) → (p x && q x) ≡ r x) → (xs : List ℕ) → filter p (filter q xs) ≡ filter r xs
filter-twice p q r both [] = refl
filter-twice p q r both (x ∷ xs) = twice-step p q r x xs (filter-twice p q r both xs) (q x) (p x) (r x) (both x) refl

new-known : (before : List ℕ) (x : ℕ) → is_in before x ≡ true → (y : ℕ) → (not (is_in before y) && not (eqb y x)) ≡ not (is_in before y)
new-known before x known y = by (eqb y x) (is_in before y) refl refl
  where
    by : (a b : Bool) → eqb y x ≡ a → is_in before y ≡ b → (not b && not a) ≡ not b
    by true true e h = refl
    by true false e h = let same : y ≡ x = grind (arith, nat_tests) in absurd (let k : is_in before y ≡ true = subst (λ z. is_in before z ≡ true) (sym same) known in cc)
    by false true e h = refl
    by false false e h = refl

new-pushed : (before : List ℕ) (x y : ℕ) → (not (is_in before y) && not (eqb y x)) ≡ not (is_in (before ++ (x ∷ [])) y)
new-pushed before x y = by (is_in before y) (eqb y x) (eqb x y) (turn y x) ∙ ap not (sym (is_in-push before x y))
  where
    turn : (a b : ℕ) → eqb a b ≡ eqb b a
    turn a b = grind (arith, nat_tests)

    by : (p a b : Bool) → a ≡ b → (not p && not a) ≡ not (p || (b || false))
    by true a b e = refl
    by false true true e = refl
    by false true false e = absurd (cc)
    by false false true e = absurd (cc)
    by false false false e = refl

abbrev new_to : List ℕ → List ℕ → List ℕ
new_to before xs = filter (λ y. not (is_in before y)) xs

abbrev but_one : ℕ → List ℕ → List ℕ
but_one x xs = filter (λ y. not (eqb y x)) xs

firsts-step : (before xs : List ℕ) (x : ℕ) → ranked before xs ≡ before ++ new_to before (firsts xs) → ranked (before ++ (x ∷ [])) xs ≡ (before ++ (x ∷ [])) ++ new_to (before ++ (x ∷ [])) (firsts xs) → (b : Bool) → is_in before x ≡ b → ranked (cond b before (before ++ (x ∷ []))) xs ≡ before ++ cond (not b) (x ∷ new_to before (but_one x (firsts xs))) (new_to before (but_one x (firsts xs)))
firsts-step before xs x ih_known ih_new true h =
    ih_known
    ∙ ap (λ zs. before ++ zs)
    (sym (filter-twice (λ y. not (is_in before y)) (λ y. not (eqb y x)) (λ y. not (is_in before y)) (new-known before x h) (firsts xs)))
firsts-step before xs x ih_known ih_new false h =
    ih_new
    ∙ append_assoc before (x ∷ []) (new_to (before ++ (x ∷ [])) (firsts xs))
    ∙ ap (λ zs. before ++ (x ∷ zs))
    (sym (filter-twice (λ y. not (is_in before y)) (λ y. not (eqb y x)) (λ y. not (is_in (before ++ (x ∷ [])) y)) (new-pushed before x) (firsts xs)))

ranked-firsts : (before xs : List ℕ) → ranked before xs ≡ before ++ new_to before (firsts xs)
ranked-firsts before [] = sym (append-nil before)
ranked-firsts before (x ∷ xs) = firsts-step before xs x (ranked-firsts before xs) (ranked-firsts (before ++ (x ∷ [])) xs) (is_in before x) refl

all-new : (xs : List ℕ) → filter (λ y. true) xs ≡ xs
all-new [] = refl
all-new (x ∷ xs) = ap (λ ys. x ∷ ys) (all-new xs)

-- from no rank on, the ranks are the first places
pub ranked-from-none : (xs : List ℕ) → ranked [] xs ≡ firsts xs
ranked-from-none xs = ranked-firsts [] xs ∙ all-new (firsts xs)

grows-one : (b : Bool) (before : List ℕ) (x : ℕ) → length before ≤ length (cond b before (before ++ (x ∷ [])))
grows-one true before x = omega arith
grows-one false before x = omega (arith, length-append before (x ∷ []))

-- ranks are not taken back
pub ranked-grows : (before xs : List ℕ) → length before ≤ length (ranked before xs)
ranked-grows before [] = omega arith
ranked-grows before (x ∷ xs) =
    let one = grows-one (is_in before x) before x in
    let rest = ranked-grows (with_one before x) xs in omega arith

-- a new number has the next rank
pub ranked-new : (before : List ℕ) (x : ℕ) → is_in before x ≡ false → ranked before (x ∷ []) ≡ before ++ (x ∷ [])
ranked-new before x new = rw new refl

-- more numbers give as many ranks or more
pub ranked-longer : (before xs ys : List ℕ) → length (ranked before xs) ≤ length (ranked before (xs ++ ys))
ranked-longer before xs ys = let grown = ranked-grows (ranked before xs) ys in omega (arith, ap length (ranked-append before xs ys))
