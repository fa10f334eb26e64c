-- Totals of numbers over lists, and spans of numbers over places one after another.
use Rattle.std.proofs.Common.{◌≡◌, ℕ, zero, suc, ◌+◌, ◌≤◌, List, [], ◌∷◌, ◌++◌, map, sum, refl, ap, ◌∙◌, arith}
use Rattle.std.specs.Prelude.{unwrap_or, slice_get}
use Rattle.std.specs.List.{flat_map}
use Rattle.std.specs.Option.{option_to_list}
use Rattle.std.proofs.lemmas.List.Sums.{sum_by-cons}

abbrev pub total : {A : Type 0} → (A → ℕ) → List A → ℕ
total f [] = 0
total f (x ∷ xs) = f x + total f xs

pub total-append : {A : Type 0} (f : A → ℕ) (xs ys : List A) → total f (xs ++ ys) ≡ total f xs + total f ys
total-append f [] ys = omega arith
total-append f (x ∷ xs) ys = omega (arith, total-append f xs ys)

pub total-map : {A B : Type 0} (f : B → ℕ) (g : A → B) (xs : List A) → total f (map g xs) ≡ total (λ x. f (g x)) xs
total-map f g [] = refl
total-map f g (x ∷ xs) = omega (arith, total-map f g xs)

pub total-sum : {A : Type 0} (f : A → ℕ) (xs : List A) → sum (map f xs) ≡ total f xs
total-sum f [] = refl
total-sum f (x ∷ xs) = sum_by-cons (λ n. n) (f x) (map f xs) ∙ ap (λ n. f x + n) (total-sum f xs)

pub total-le : {A : Type 0} (f g : A → ℕ) → ((x : A) → f x ≤ g x) → (xs : List A) → total f xs ≤ total g xs
total-le f g h [] = omega arith
total-le f g h (x ∷ xs) = omega (arith, h x, total-le f g h xs)

pub total-same : {A : Type 0} (f g : A → ℕ) → ((x : A) → f x ≡ g x) → (xs : List A) → total f xs ≡ total g xs
total-same f g h [] = refl
total-same f g h (x ∷ xs) = omega (arith, h x, total-same f g h xs)

pub total-add : {A : Type 0} (f g : A → ℕ) (xs : List A) → total (λ x. f x + g x) xs ≡ total f xs + total g xs
total-add f g [] = refl
total-add f g (x ∷ xs) = omega (arith, total-add f g xs)

-- the total over what stands in each of some lists
pub total-flat_map : {A B : Type 0} (f : B → ℕ) (g : A → List B) (xs : List A)
    → total f (flat_map g xs) ≡ total (λ x. total f (g x)) xs
total-flat_map f g [] = refl
total-flat_map f g (x ∷ xs) = omega (arith, total-append f (g x) (flat_map g xs), total-flat_map f g xs)

-- the first of a list, or a default, has no more than a bound of both
pub first-le : {A : Type 0} (f : A → ℕ) (default : A) (xs : List A) (bound : ℕ) → f default ≤ bound → total f xs ≤ bound
    → f (unwrap_or (slice_get xs 0) default) ≤ bound
first-le f default [] bound d h = d
first-le f default (x ∷ xs) bound d h = omega (arith, h)

pub first-option-le : {A : Type 0} (f : A → ℕ) (xs : List A) → total f (option_to_list (slice_get xs 0)) ≤ total f xs
first-option-le f [] = omega arith
first-option-le f (x ∷ xs) = omega arith

-- the sum of a function over so many numbers from one on
abbrev pub span : (ℕ → ℕ) → ℕ → ℕ → ℕ
span f from zero = 0
span f from (suc count) = f from + span f (suc from) count

pub span-add : (f : ℕ → ℕ) (from a b : ℕ) → span f from (a + b) ≡ span f from a + span f (from + a) b
span-add f from zero b = rw (left_zero b, right_zero from) (omega arith)
  where
    left_zero : (n : ℕ) → 0 + n ≡ n
    left_zero n = omega arith

    right_zero : (n : ℕ) → n + 0 ≡ n
    right_zero n = omega arith
span-add f from (suc a) b =
    ap (span f from) (up a b) ∙ ap (λ n. f from + n)
    (span-add f (suc from) a b ∙ ap (λ m. span f (suc from) a + span f m b) (over from a)) ∙ joined (f from)
    (span f (suc from) a) (span f (from + suc a) b)
  where
    up : (m n : ℕ) → suc m + n ≡ suc (m + n)
    up m n = omega arith

    over : (m n : ℕ) → suc m + n ≡ m + suc n
    over m n = omega arith

    joined : (p q r : ℕ) → p + (q + r) ≡ (p + q) + r
    joined p q r = omega arith
