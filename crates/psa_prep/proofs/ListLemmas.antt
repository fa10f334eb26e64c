-- What stands in a list at a place.
use Rattle.std.proofs.Common.{◌≡◌, ◌<◌, ◌+◌, ℕ, suc, zero, Bool, true, List, [], ◌∷◌, ◌++◌, Some, length, take, drop, get_or, refl, ap, sym, ◌∙◌, subst, cond, eqb, ne_eqb, Option, None, arith}
use Rattle.std.specs.List.{slice_get, list_all, flat_map}
use Rattle.std.proofs.lemmas.List.{append-nil, append_assoc, take_more, drop_more, get_or_default}
use lib.Dec.{eqb-suc-suc}
use Rattle.psa_model.proofs.Levels.{and-left, and-right, and-both}

-- some item stands at each place
pub at-place : {A : Type 0} (xs : List A) (i : ℕ) → i < length xs → (x : A) × (slice_get xs i ≡ Some x)
at-place [] i l = absurd (omega arith)
at-place (x ∷ xs) zero l = (x, refl)
at-place (x ∷ xs) (suc i) l = at-place xs i (omega arith)

-- what holds of all items holds of the one at a place
pub all-at : {A : Type 0} (p : A → Bool) (xs : List A) (i : ℕ) (x : A) → list_all p xs ≡ true → i < length xs → x ≡ get_or xs i x → p x ≡ true
all-at p [] i x h l is = absurd (omega arith)
all-at p (y ∷ ys) zero x h l is = subst (λ z. p z ≡ true) (sym is) (and-left _ _ h)
all-at p (y ∷ ys) (suc i) x h l is = all-at p ys i x (and-right _ _ h) (omega arith) is

-- the items before a place, and the one at it
pub take-next : {A : Type 0} (xs : List A) (i : ℕ) (x : A) → i < length xs → x ≡ get_or xs i x → take (i + 1) xs ≡ take i xs ++ (x ∷ [])
take-next xs i x inside is = take_more xs i x inside ∙ ap (λ y. take i xs ++ (y ∷ [])) (sym is)

-- the items from a place on
pub drop-next : {A : Type 0} (xs : List A) (i : ℕ) (x : A) → i < length xs → x ≡ get_or xs i x → drop i xs ≡ x ∷ drop (i + 1) xs
drop-next xs i x inside is = drop_more xs i x inside ∙ ap (λ y. y ∷ drop (i + 1) xs) (sym is)

-- the lists of one more item come last
pub flat-push : {A B : Type 0} (f : A → List B) (xs : List A) (x : A) → flat_map f (xs ++ (x ∷ [])) ≡ flat_map f xs ++ f x
flat-push f [] x = append-nil (f x)
flat-push f (y ∷ ys) x = ap (λ zs. f y ++ zs) (flat-push f ys x) ∙ sym (append_assoc (f y) (flat_map f ys) (f x))

-- what holds of all items of two lists holds of those of each
pub all-split : {A : Type 0} (p : A → Bool) (xs ys : List A) → list_all p (xs ++ ys) ≡ true → (list_all p xs ≡ true) × (list_all p ys ≡ true)
all-split p [] ys h = (refl, h)
all-split p (x ∷ xs) ys h = let rest = all-split p xs ys (and-right (p x) (list_all p (xs ++ ys)) h) in (and-both (p x) (list_all p xs) (and-left (p x) (list_all p (xs ++ ys)) h) rest.0, rest.1)

-- an item more at the end
pub slice_get-push : {A : Type 0} (xs : List A) (x : A) (i : ℕ) → slice_get (xs ++ (x ∷ [])) i ≡ cond (eqb i (length xs)) (Some x) (slice_get xs i)
slice_get-push [] x zero = refl
slice_get-push [] x (suc i) = rw (ne_eqb (suc i) 0 (λ e. omega arith)) refl
slice_get-push (y ∷ ys) x zero = rw (ne_eqb zero (suc (length ys)) (λ e. omega arith)) refl
slice_get-push (y ∷ ys) x (suc i) = rw (eqb-suc-suc i (length ys)) (slice_get-push ys x i)

-- an item that was read from the same list
pub item-of : {A : Type 0} (xs ys : List A) (i : ℕ) (d : A) → xs ≡ ys → i < length ys → get_or xs i d ≡ get_or ys i (get_or xs i d)
item-of xs ys i d same inside = ap (λ zs. get_or zs i d) same ∙ get_or_default ys i d (get_or xs i d) inside

-- a place with an item is not without
pub some-none : {A : Type 0} (xs : List A) (i : ℕ) (x : A) → slice_get xs i ≡ Some x → slice_get xs i ≡ None → ⊥
some-none xs i x found missing = absurd (cc)

-- an item at a place is the one
pub some-same : {A : Type 0} (o : Option A) (x y : A) → o ≡ Some x → o ≡ Some y → y ≡ x
some-same o x y p q = cc
