-- What stands at a place of a list, and the first place at which a test passes.
use Rattle.std.proofs.Common.{◌≡◌, ◌≤◌, ◌<◌, ◌+◌, ◌-◌, ◌⊎◌, inl, inr, ℕ, zero, suc, Bool, true, false, cond, List, [], ◌∷◌, ◌++◌, length, slice_get, Option, Some, None, IfNone, refl, sym, ap, ◌∙◌, arith}
use Rattle.std.specs.List.{position_from}

-- what stands at a place stands there in a longer list
pub at-front : {A : Type 0} (xs ys : List A) (i : ℕ) (x : A) → slice_get xs i ≡ Some x → slice_get (xs ++ ys) i ≡ Some x
at-front [] ys i x h = absurd (cc)
at-front (y ∷ xs) ys zero x h = h
at-front (y ∷ xs) ys (suc i) x h = at-front xs ys i x h

pub at-end : {A : Type 0} (xs : List A) (y : A) → slice_get (xs ++ y ∷ []) (length xs) ≡ Some y
at-end [] y = refl
at-end (x ∷ xs) y = at-end xs y

some-same : {A : Type 0} (x y : A) → Some x ≡ Some y → x ≡ y
some-same x y h = cc

-- what stands in a list with one more stands before, or is that one
pub back-cases : {A : Type 0} (xs : List A) (y z : A) (i : ℕ) → slice_get (xs ++ y ∷ []) i ≡ Some z → (slice_get xs i ≡ Some z) ⊎ ((i ≡ length xs) × (z ≡ y))
back-cases [] y z zero h = inr (refl, some-same z y (sym h))
back-cases [] y z (suc i) h = absurd (cc)
back-cases (x ∷ xs) y z zero h = inl h
back-cases (x ∷ xs) y z (suc i) h = elim (back-cases xs y z i h) [ inl a ↦ inl a | inr b ↦ inr (ap suc b.0, b.1) ]

pub stands : {A : Type 0} (xs : List A) (i : ℕ) → i < length xs → (x : A) × (slice_get xs i ≡ Some x)
stands [] i h = absurd (omega arith)
stands (x ∷ xs) zero h = (x, refl)
stands (x ∷ xs) (suc i) h = stands xs i (omega arith)

-- a list with one more is not empty, and shows what is before its last
pub more-not-nil : {A : Type 0} (xs : List A) (x : A) → xs ++ x ∷ [] ≡ [] → ⊥
more-not-nil [] x h = cc
more-not-nil (y ∷ ys) x h = cc

head-same : {A : Type 0} (x y : A) (xs ys : List A) → x ∷ xs ≡ y ∷ ys → (x ≡ y) × (xs ≡ ys)
head-same x y xs ys h = (cc, cc)

pub last-same : {A : Type 0} (xs ys : List A) (x y : A) → xs ++ x ∷ [] ≡ ys ++ y ∷ [] → (xs ≡ ys) × (x ≡ y)
last-same [] [] x y h = (refl, (head-same x y [] [] h).0)
last-same [] (b ∷ ys) x y h = absurd (more-not-nil ys y (sym (head-same x b [] (ys ++ y ∷ []) h).1))
last-same (a ∷ xs) [] x y h = absurd (more-not-nil xs x (head-same a y (xs ++ x ∷ []) [] h).1)
last-same (a ∷ xs) (b ∷ ys) x y h =
    let p = head-same a b (xs ++ x ∷ []) (ys ++ y ∷ []) h in
    let q = last-same xs ys x y p.1 in
    ((let e = p.0 in let f = q.0 in let same : a ∷ xs ≡ b ∷ ys = cc in same), q.1)

pub none-holds : {A : Type 0} {P : Type 0} (r : Option A) → P → IfNone r P
none-holds None h = h
none-holds (Some x) h = tt

-- ---- the first place that passes

minus-self : (a b : ℕ) → a ≡ b → b - a ≡ 0
minus-self a b h = omega arith

minus-suc : (a b : ℕ) → a + 1 ≤ b → b - a ≡ suc (b - (a + 1))
minus-suc a b h = omega arith

-- it has what passes
pub first-at : {A : Type 0} (p : A → Bool) (place : ℕ) (xs : List A) (found : ℕ) → position_from p place xs ≡ Some found → (place ≤ found) × ((x : A) × (slice_get xs (found - place) ≡ Some x) × (p x ≡ true))
first-at p place [] found h = absurd (cc)
first-at {A} p place (x ∷ xs) found h = by (p x) refl (λ g. first-at p (place + 1) xs found g)
  where
    by : (b : Bool) → p x ≡ b → (position_from p (place + 1) xs ≡ Some found → (place + 1 ≤ found) × ((y : A) × (slice_get xs (found - (place + 1)) ≡ Some y) × (p y ≡ true))) → (place ≤ found) × ((y : A) × (slice_get (x ∷ xs) (found - place) ≡ Some y) × (p y ≡ true))
    by true e more = (let here : place ≡ found = some-same place found (sym (ap (λ b. cond b (Some place) (position_from p (place + 1) xs)) e) ∙ h) in
        (omega arith, (x, ap (slice_get (x ∷ xs)) (minus-self place found here), e)))
    by false e more = (let rest = more (sym (ap (λ b. cond b (Some place) (position_from p (place + 1) xs)) e) ∙ h) in
        (omega (arith, rest.0), (rest.1.0, ap (slice_get (x ∷ xs)) (minus-suc place found rest.0) ∙ rest.1.1, rest.1.2)))

-- where there is none, nothing passes
pub first-none : {A : Type 0} (p : A → Bool) (place : ℕ) (xs : List A) → position_from p place xs ≡ None → (i : ℕ) (x : A) → slice_get xs i ≡ Some x → p x ≡ false
first-none p place [] h i x at = absurd (cc)
first-none {A} p place (y ∷ ys) h i x at = by (p y) refl i at (λ g j. first-none p (place + 1) ys g j x)
  where
    by : (b : Bool) → p y ≡ b → (i : ℕ) → slice_get (y ∷ ys) i ≡ Some x → (position_from p (place + 1) ys ≡ None → (j : ℕ) → slice_get ys j ≡ Some x → p x ≡ false) → p x ≡ false
    by true e i at more = absurd (let bad : Some place ≡ None = sym (ap (λ b. cond b (Some place) (position_from p (place + 1) ys)) e) ∙ h in cc)
    by false e zero at more = ap p (sym (some-same y x at)) ∙ e
    by false e (suc i) at more = more (sym (ap (λ b. cond b (Some place) (position_from p (place + 1) ys)) e) ∙ h) i at
