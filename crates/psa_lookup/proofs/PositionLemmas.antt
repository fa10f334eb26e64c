-- The order of positions, and the fault that stands first.
use Rattle.std.proofs.Common.{◌≡◌, ◌≤◌, ◌<◌, ◌||◌, ◌&&◌, ◌==◌, ◌⊎◌, inl, inr, ℕ, zero, suc, Bool, true, false, List, [], ◌∷◌, ◌++◌, take, slice_get, Option, Some, None, map, flat_map, refl, sym, ap, ◌∙◌, subst, arith, eqb-true, eq-eqb}
use Rattle.std.proofs.lemmas.Bool.{false≢true, and_parts, and_from, ltb-true, lt-ltb, cases_lt}
use Rattle.std.specs.List.{list_any}
use Rattle.std.specs.Prelude.{nat_lt}
use Rattle.psa_model.specs.Drafts.{Position, stands_before, are_ascending}
use Rattle.psa_names.specs.PlacedFaults.{PlacedFault, earlier, earliest}
use Rattle.psa_lookup.specs.Sooner.{sooner_of}
use Rattle.psa_lookup.proofs.BoolLemmas.{flat-one}

-- ---- the order of positions

pub before-facts : (a b : Position) → stands_before a b ≡ true → (a.file < b.file) ⊎ ((a.file ≡ b.file) × (a.tag < b.tag))
before-facts a b h = by (nat_lt a.file b.file) (a.file == b.file && nat_lt a.tag b.tag) refl refl h
  where
    by : (p q : Bool) → nat_lt a.file b.file ≡ p → (a.file == b.file && nat_lt a.tag b.tag) ≡ q → (p || q) ≡ true → (a.file < b.file) ⊎ ((a.file ≡ b.file) × (a.tag < b.tag))
    by true q e f g = inl (ltb-true a.file b.file e)
    by false true e f g = (let p = and_parts (a.file == b.file) (nat_lt a.tag b.tag) f in inr (eqb-true a.file b.file p.0, ltb-true a.tag b.tag p.1))
    by false false e f g = absurd (false≢true g)

or-left : (p q : Bool) → p ≡ true → (p || q) ≡ true
or-left true q h = refl
or-left false q h = absurd (false≢true h)

or-right : (p q : Bool) → q ≡ true → (p || q) ≡ true
or-right true q h = refl
or-right false q h = h

pub before-from : (a b : Position) → (a.file < b.file) ⊎ ((a.file ≡ b.file) × (a.tag < b.tag)) → stands_before a b ≡ true
before-from a b (inl h) = or-left _ (a.file == b.file && nat_lt a.tag b.tag) (lt-ltb a.file b.file h)
before-from a b (inr h) = or-right (nat_lt a.file b.file) _ (and_from _ _ (eq-eqb a.file b.file h.0) (lt-ltb a.tag b.tag h.1))

pub before-trans : (a b c : Position) → stands_before a b ≡ true → stands_before b c ≡ true → stands_before a c ≡ true
before-trans a b c g h = before-from a c (by (before-facts a b g) (before-facts b c h))
  where
    by : (a.file < b.file) ⊎ ((a.file ≡ b.file) × (a.tag < b.tag)) → (b.file < c.file) ⊎ ((b.file ≡ c.file) × (b.tag < c.tag)) → (a.file < c.file) ⊎ ((a.file ≡ c.file) × (a.tag < c.tag))
    by (inl x) (inl y) = inl (omega (arith, x, y))
    by (inl x) (inr y) = inl (omega (arith, x, y.0))
    by (inr x) (inl y) = inl (omega (arith, x.0, y))
    by (inr x) (inr y) = inr (x.0 ∙ y.0, omega (arith, x.1, y.1))

-- what does not stand behind a third, while another does, stands behind that one
pub before-split : (a b c : Position) → stands_before a c ≡ true → stands_before b c ≡ false → stands_before a b ≡ true
before-split a b c h g = before-from a b (by (before-facts a c h) (cases_lt b.file c.file))
  where
    no : (b.file < c.file) ⊎ ((b.file ≡ c.file) × (b.tag < c.tag)) → ⊥
    no f = false≢true (sym g ∙ before-from b c f)

    by : (a.file < c.file) ⊎ ((a.file ≡ c.file) × (a.tag < c.tag)) → (b.file < c.file) ⊎ (c.file ≤ b.file) → (a.file < b.file) ⊎ ((a.file ≡ b.file) × (a.tag < b.tag))
    by f (inl y) = absurd (no (inl y))
    by (inl x) (inr y) = inl (omega (arith, x, y))
    by (inr x) (inr y) = elim (cases_lt c.file b.file) [ inl z ↦ inl (omega (arith, x.0, z)) | inr z ↦ elim (cases_lt b.tag c.tag) [ inl u ↦ absurd (no (inr (omega arith, u))) | inr u ↦ inr (omega (arith, x.0, y, z), omega (arith, x.1, u)) ] ]

pub before-not-back : (a b : Position) → stands_before a b ≡ true → stands_before b a ≡ false
before-not-back a b h = by (stands_before b a) refl
  where
    no : (a.file < b.file) ⊎ ((a.file ≡ b.file) × (a.tag < b.tag)) → (b.file < a.file) ⊎ ((b.file ≡ a.file) × (b.tag < a.tag)) → ⊥
    no (inl x) (inl y) = omega (arith, x, y)
    no (inl x) (inr y) = omega (arith, x, y.0)
    no (inr x) (inl y) = omega (arith, x.0, y)
    no (inr x) (inr y) = omega (arith, x.1, y.1)

    by : (r : Bool) → stands_before b a ≡ r → stands_before b a ≡ false
    by true e = absurd (no (before-facts a b h) (before-facts b a e))
    by false e = e

pub before-self : (a : Position) → stands_before a a ≡ false
before-self a = by (stands_before a a) refl
  where
    by : (r : Bool) → stands_before a a ≡ r → stands_before a a ≡ false
    by true e = before-not-back a a e
    by false e = e

-- ---- the fault that stands first

pub earlier-is : (one : PlacedFault) (other : Option PlacedFault) → earlier one other ≡ sooner_of (Some one) other
earlier-is one None = refl
earlier-is one (Some other) = refl

pub sooner-none : (one : Option PlacedFault) → sooner_of one None ≡ one
sooner-none None = refl
sooner-none (Some one) = refl

pub sooner-assoc : (a b c : Option PlacedFault) → sooner_of (sooner_of a b) c ≡ sooner_of a (sooner_of b c)
sooner-assoc None b c = refl
sooner-assoc (Some a) None c = refl
sooner-assoc (Some a) (Some b) None = sooner-none (sooner_of (Some a) (Some b))
sooner-assoc (Some a) (Some b) (Some c) = by (stands_before b.position a.position) (stands_before c.position b.position) (stands_before c.position a.position) refl refl refl
  where
    by : (p q r : Bool) → stands_before b.position a.position ≡ p → stands_before c.position b.position ≡ q → stands_before c.position a.position ≡ r → sooner_of (sooner_of (Some a) (Some b)) (Some c) ≡ sooner_of (Some a) (sooner_of (Some b) (Some c))
    by true true true e f g = simp (e, f, g) refl
    by true true false e f g = absurd (false≢true (sym g ∙ before-trans c.position b.position a.position f e))
    by true false r e f g = simp (e, f) refl
    by false true r e f g = simp (e, f) refl
    by false false false e f g = simp (e, f, g) refl
    by false false true e f g = absurd (false≢true (sym f ∙ before-split c.position b.position a.position g e))

pub earliest-append : (xs ys : List PlacedFault) → earliest (xs ++ ys) ≡ sooner_of (earliest xs) (earliest ys)
earliest-append [] ys = refl
earliest-append (x ∷ xs) ys =
    earlier-is x (earliest (xs ++ ys)) ∙ ap (sooner_of (Some x)) (earliest-append xs ys)
    ∙ sym (sooner-assoc (Some x) (earliest xs) (earliest ys)) ∙ ap (λ o. sooner_of o (earliest ys)) (sym (earlier-is x (earliest xs)))

-- ---- ascending positions

ascending-rest : (one : Position) (others : List Position) → are_ascending (one ∷ others) ≡ true → are_ascending others ≡ true
ascending-rest one [] h = refl
ascending-rest one (other ∷ more) h = (and_parts (stands_before one other) (are_ascending (other ∷ more)) h).1

pub first-before : {A : Type 0} (position : A → Position) (one : A) (others : List A) → are_ascending (map position (one ∷ others)) ≡ true → (i : ℕ) (x : A) → slice_get others i ≡ Some x → stands_before (position one) (position x) ≡ true
first-before position one [] h i x at = absurd (cc)
first-before position one (other ∷ more) h zero x at =
    let same : other ≡ x = cc in
    subst (λ y. stands_before (position one) (position y) ≡ true) same (and_parts (stands_before (position one) (position other)) (are_ascending (map position (other ∷ more))) h).0
first-before position one (other ∷ more) h (suc i) x at =
    let p = and_parts (stands_before (position one) (position other)) (are_ascending (map position (other ∷ more))) h in
    before-trans (position one) (position other) (position x) p.0 (first-before position other more p.1 i x at)

never-behind : {A : Type 0} (position : A → Position) (q : A → Bool) (x : A) (xs : List A) → ((i : ℕ) (y : A) → slice_get xs i ≡ Some y → stands_before (position y) (position x) ≡ false) → list_any (λ y. stands_before (position y) (position x) && q y) xs ≡ false
never-behind position q x [] never = refl
never-behind position q x (y ∷ ys) never =
    ap (λ b. (b && q y) || list_any (λ z. stands_before (position z) (position x) && q z) ys) (never 0 y refl)
    ∙ never-behind position q x ys (λ i z at. never (suc i) z at)

-- of ascending ones those that stand before one are those in front of it
pub any-before : {A : Type 0} (position : A → Position) (q : A → Bool) (xs : List A) (i : ℕ) (x : A) → are_ascending (map position xs) ≡ true → slice_get xs i ≡ Some x → list_any (λ y. stands_before (position y) (position x) && q y) xs ≡ list_any q (take i xs)
any-before position q [] i x up at = absurd (cc)
any-before position q (y ∷ ys) zero x up at =
    let same : y ≡ x = cc in
    ap (λ b. (b && q y) || list_any (λ z. stands_before (position z) (position x) && q z) ys) (ap (λ z. stands_before (position z) (position x)) same ∙ before-self (position x))
    ∙ never-behind position q x ys (λ j z there. subst (λ w. stands_before (position z) (position w) ≡ false) same (before-not-back (position y) (position z) (first-before position y ys up j z there)))
any-before position q (y ∷ ys) (suc i) x up at =
    ap (λ b. (b && q y) || list_any (λ z. stands_before (position z) (position x) && q z) ys) (first-before position y ys up i x at)
    ∙ ap (λ b. q y || b) (any-before position q ys i x (ascending-rest (position y) (map position ys) up) at)

-- the faults of one more
pub soonest-one : {A : Type 0} (f : A → List PlacedFault) (first : Option PlacedFault) (xs : List A) (x : A) → sooner_of (sooner_of first (earliest (flat_map f xs))) (earliest (f x)) ≡ sooner_of first (earliest (flat_map f (xs ++ x ∷ [])))
soonest-one f first xs x =
    sooner-assoc first (earliest (flat_map f xs)) (earliest (f x))
    ∙ ap (sooner_of first) (sym (earliest-append (flat_map f xs) (f x)) ∙ ap earliest (sym (flat-one f xs x)))
