-- Sums over lists, and how much joined and filtered lists have.
use Rattle.std.proofs.Common.{◌≡◌, inl, inr, ◌≤◌, ◌+◌, ℕ, Bool, cond, List, [], ◌∷◌, ◌++◌, map, length, refl, ap, ap₂, ◌∙◌, arith}
use Rattle.std.proofs.lemmas.Bool.{cases_Bool}
use Rattle.std.proofs.lemmas.List.{length-append}
use Rattle.std.proofs.lemmas.List.Sums.{sum_by-cons}
use Rattle.std.specs.Prelude.{sum}
use Rattle.std.specs.List.{filter, flat_map, enumerate_from}
use Rattle.psa_names.proofs.ListPlaces.{Has, has-first, has-later}

-- a sum over a list, by recursion
abbrev pub weigh : {A : Type 0} → (A → ℕ) → List A → ℕ
weigh f [] = 0
weigh f (x ∷ xs) = f x + weigh f xs

-- the sum, by recursion
pub sum-weigh : {A : Type 0} (f : A → ℕ) (xs : List A) → sum (map f xs) ≡ weigh f xs
sum-weigh f [] = refl
sum-weigh f (x ∷ xs) = sum_by-cons (λ (n : ℕ). n) (f x) (map f xs) ∙ ap (λ n. f x + n) (sum-weigh f xs)

-- what is the same of each has the same sum
pub weigh-same : {A : Type 0} (f g : A → ℕ) → ((x : A) → f x ≡ g x) → (xs : List A) → weigh f xs ≡ weigh g xs
weigh-same f g same [] = refl
weigh-same f g same (x ∷ xs) = ap₂ (λ (a b : ℕ). a + b) (same x) (weigh-same f g same xs)

-- one where the test passes
abbrev pub one_if : Bool → ℕ
one_if b = cond b 1 0

-- the sum over joined lists
pub weigh-append : {A : Type 0} (f : A → ℕ) (xs ys : List A) → weigh f (xs ++ ys) ≡ weigh f xs + weigh f ys
weigh-append f [] ys = let n = weigh f ys in omega arith
weigh-append f (x ∷ xs) ys = let rest = weigh-append f xs ys in omega (arith, rest)

-- the sum over what is made of elements
pub weigh-map : {A B : Type 0} (f : B → ℕ) (g : A → B) (xs : List A) → weigh f (map g xs) ≡ weigh (λ x. f (g x)) xs
weigh-map f g [] = refl
weigh-map f g (x ∷ xs) = ap (λ n. f (g x) + n) (weigh-map f g xs)

-- where each weighs less, all do
pub weigh-less : {A : Type 0} (f g : A → ℕ) (xs : List A) → ((x : A) → Has xs x → f x ≤ g x) → weigh f xs ≤ weigh g xs
weigh-less f g [] less = omega arith
weigh-less f g (x ∷ xs) less =
    let here = less x (has-first x xs) in
    let rest = weigh-less f g xs (λ y later. less y (has-later x y xs later)) in
    omega (arith, here, rest)

-- the sum of two
pub weigh-sum : {A : Type 0} (f g : A → ℕ) (xs : List A) → weigh (λ x. f x + g x) xs ≡ weigh f xs + weigh g xs
weigh-sum f g [] = refl
weigh-sum f g (x ∷ xs) = let rest = weigh-sum f g xs in omega (arith, rest)

-- how long joined lists are
pub length-flat : {A B : Type 0} (f : A → List B) (xs : List A) → length (flat_map f xs) ≡ weigh (λ x. length (f x)) xs
length-flat f [] = refl
length-flat f (x ∷ xs) = length-append (f x) (flat_map f xs) ∙ ap (λ n. length (f x) + n) (length-flat f xs)

-- what weighs the elements that pass, by their values
pub kept-weigh : {A : Type 0} (g : A → ℕ) (q : A → Bool) (k : ℕ) (xs : List A)
    → weigh (λ (one : ℕ × A). g one.1) (filter (λ (one : ℕ × A). q one.1) (enumerate_from k xs)) ≡ weigh
    (λ x. cond (q x) (g x) 0) xs
kept-weigh g q k [] = refl
kept-weigh g q k (x ∷ xs) =
    let rest = kept-weigh g q (k + 1) xs in
    elim (cases_Bool (q x)) [
      | inl passes ↦ rw passes (ap (λ n. g x + n) rest)
      | inr fails ↦ rw fails (omega (arith, rest))
    ]

-- how many elements pass
pub kept-length : {A : Type 0} (q : A → Bool) (k : ℕ) (xs : List A)
    → length (filter (λ (one : ℕ × A). q one.1) (enumerate_from k xs)) ≡ weigh (λ x. one_if (q x)) xs
kept-length q k [] = refl
kept-length q k (x ∷ xs) =
    let rest = kept-length q (k + 1) xs in
    elim (cases_Bool (q x)) [
      | inl passes ↦ rw passes (omega (arith, rest))
      | inr fails ↦ rw fails (omega (arith, rest))
    ]
