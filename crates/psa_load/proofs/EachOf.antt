-- What holds of each item of lists that are made of others.
use Rattle.std.proofs.Common.{◌≡◌, ℕ, zero, suc, ◌+◌, Bool, true, false, List, [], ◌∷◌, ◌++◌, Option, Some, None, map, filter, filter_map, refl, subst}
use Rattle.std.specs.List.{AllByRecursion, flat_map, enumerate_from, slice_get}

pub each-map : {A B : Type 0} (P : B → Type 0) (f : A → B) (xs : List A) → AllByRecursion (λ x. P (f x)) xs → AllByRecursion P (map f xs)
each-map P f [] all = tt
each-map P f (x ∷ xs) all = (all.0, each-map P f xs all.1)

pub each-append : {A : Type 0} (P : A → Type 0) (xs ys : List A) → AllByRecursion P xs → AllByRecursion P ys → AllByRecursion P (xs ++ ys)
each-append P [] ys all more = more
each-append P (x ∷ xs) ys all more = (all.0, each-append P xs ys all.1 more)

pub each-filter : {A : Type 0} (P : A → Type 0) (p : A → Bool) (xs : List A) → AllByRecursion P xs → AllByRecursion P (filter p xs)
each-filter P p [] all = tt
each-filter P p (x ∷ xs) all = by-test (p x) refl (each-filter P p xs all.1)
  where
    by-test : (b : Bool) → p x ≡ b → AllByRecursion P (filter p xs) → AllByRecursion P (filter p (x ∷ xs))
    by-test true e rest = rw e (all.0, rest)
    by-test false e rest = rw e rest

pub each-flat : {A B : Type 0} (P : B → Type 0) (Q : A → Type 0) (f : A → List B) → ((x : A) → Q x → AllByRecursion P (f x)) → (xs : List A) → AllByRecursion Q xs → AllByRecursion P (flat_map f xs)
each-flat P Q f each [] all = tt
each-flat P Q f each (x ∷ xs) all = each-append P (f x) (flat_map f xs) (each x all.0) (each-flat P Q f each xs all.1)

pub each-found : {A B : Type 0} (P : B → Type 0) (Q : A → Type 0) (f : A → Option B) → ((x : A) (y : B) → Q x → f x ≡ Some y → P y) → (xs : List A) → AllByRecursion Q xs → AllByRecursion P (filter_map f xs)
each-found P Q f each [] all = tt
each-found {B = B} P Q f each (x ∷ xs) all = by-result (f x) refl (each-found P Q f each xs all.1)
  where
    by-result : (o : Option B) → f x ≡ o → AllByRecursion P (filter_map f xs) → AllByRecursion P (filter_map f (x ∷ xs))
    by-result None e rest = rw e rest
    by-result (Some y) e rest = rw e (each x y all.0 e, rest)

pub each-numbered : {A : Type 0} (P : A → Type 0) (from : ℕ) (xs : List A) → AllByRecursion P xs → AllByRecursion (λ one. P one.1) (enumerate_from from xs)
each-numbered P from [] all = tt
each-numbered P from (x ∷ xs) all = (all.0, each-numbered P (from + 1) xs all.1)

pub each-weaker : {A : Type 0} (P Q : A → Type 0) → ((x : A) → P x → Q x) → (xs : List A) → AllByRecursion P xs → AllByRecursion Q xs
each-weaker P Q weaker [] all = tt
each-weaker P Q weaker (x ∷ xs) all = (weaker x all.0, each-weaker P Q weaker xs all.1)

-- what holds of each holds of the one at a place
pub at-place : {A : Type 0} (P : A → Type 0) (xs : List A) (i : ℕ) (x : A) → AllByRecursion P xs → slice_get xs i ≡ Some x → P x
at-place P [] i x all found = absurd (cc)
at-place P (y ∷ xs) zero x all found = subst P (same found) all.0
  where
    same : Some y ≡ Some x → y ≡ x
    same e = cc
at-place P (y ∷ xs) (suc i) x all found = at-place P xs i x all.1 found
