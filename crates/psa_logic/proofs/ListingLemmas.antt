-- The items of joined and mapped lists, lists in report order, and that a listing is the only one.
use Rattle.std.proofs.Common.{◌≡◌, ◌⊎◌, ℕ, true, List, [], ◌∷◌, ◌++◌, map, refl, sym, ap, subst, ◌∙◌, inl, inr}
use Rattle.std.proofs.lemmas.Bool.{and_parts, and_from}
use Rattle.psa_logic.specs.Sets.{Has}
use Rattle.psa_logic.specs.Products.{is_before, is_before_all, is_in_order, IsListing}
use Rattle.psa_logic.proofs.ReportOrderLemmas.{before-not_self, before-trans}

-- an item of one of two lists is an item of both joined, and the other way round
pub has-append_left : {A : Type 0} → (xs ys : List A) (x : A) → Has xs x → Has (xs ++ ys) x
has-append_left [] ys x h = absurd h
has-append_left (y ∷ xs) ys x h = elim h [ inl e ↦ inl e | inr r ↦ inr (has-append_left xs ys x r) ]

-- An item of the second list is an item of both joined.
pub has-append_right : {A : Type 0} → (xs ys : List A) (x : A) → Has ys x → Has (xs ++ ys) x
has-append_right [] ys x h = h
has-append_right (y ∷ xs) ys x h = inr (has-append_right xs ys x h)

-- An item of two lists joined is an item of one of them.
pub has-append_cases : {A : Type 0} → (xs ys : List A) (x : A) → Has (xs ++ ys) x → Has xs x ⊎ Has ys x
has-append_cases [] ys x h = inr h
has-append_cases (y ∷ xs) ys x h = elim h [
  | inl e ↦ inl (inl e)
  | inr r ↦ elim (has-append_cases xs ys x r) [ inl p ↦ inl (inr p) | inr p ↦ inr p ]
]

-- the images of the items are the items of the image
pub has-map : {A B : Type 0} → (f : A → B) (xs : List A) (x : A) → Has xs x → Has (map f xs) (f x)
has-map f [] x h = absurd h
has-map f (y ∷ xs) x h = elim h [ inl e ↦ inl (ap f e) | inr r ↦ inr (has-map f xs x r) ]

-- Each item of the image is the image of an item.
pub has-map_from : {A B : Type 0} → (f : A → B) (xs : List A) (z : B) → Has (map f xs) z → (x : A) × (Has xs x) × (f x ≡ z)
has-map_from f [] z h = absurd h
has-map_from f (y ∷ xs) z h = elim h [
  | inl e ↦ (y, inl refl, e)
  | inr r ↦ let found = has-map_from f xs z r in (found.0, inr found.1, found.2)
]

-- `one` stands before all others where it stands before each
pub before_all-from : (one : List ℕ) (others : List (List ℕ)) → ((other : List ℕ) → Has others other → is_before one other ≡ true) → is_before_all one others ≡ true
before_all-from one [] each = refl
before_all-from one (other ∷ others) each =
    and_from (is_before one other) (is_before_all one others) (each other (inl refl)) (before_all-from one others (λ o m. each o (inr m)))

-- A list that stands before all others stands before each of them.
pub before_all-each : (one : List ℕ) (others : List (List ℕ)) → is_before_all one others ≡ true → (other : List ℕ) → Has others other → is_before one other ≡ true
before_all-each one [] h other m = absurd m
before_all-each one (x ∷ others) h other m =
    let p = and_parts (is_before one x) (is_before_all one others) h in
    elim m [
      | inl e ↦ subst (λ o. is_before one o ≡ true) e p.0
      | inr r ↦ before_all-each one others p.1 other r
    ]

-- two lists in order make one where each item of the first stands before each of the second
pub in_order-append : (xs ys : List (List ℕ)) → is_in_order xs ≡ true → is_in_order ys ≡ true → ((x y : List ℕ) → Has xs x → Has ys y → is_before x y ≡ true) → is_in_order (xs ++ ys) ≡ true
in_order-append [] ys h k across = k
in_order-append (x ∷ xs) ys h k across =
    let p = and_parts (is_before_all x xs) (is_in_order xs) h in
    and_from (is_before_all x (xs ++ ys)) (is_in_order (xs ++ ys))
    (before_all-from x (xs ++ ys) (λ z m. elim (has-append_cases xs ys z m) [
      | inl q ↦ before_all-each x xs p.0 z q
      | inr q ↦ across x z (inl refl) q
    ]))
    (in_order-append xs ys p.1 k (λ z y m n. across z y (inr m) n))

-- in a list in order each item before a place stands before each item from that place on
pub in_order-across : (xs ys : List (List ℕ)) → is_in_order (xs ++ ys) ≡ true → (x y : List ℕ) → Has xs x → Has ys y → is_before x y ≡ true
in_order-across [] ys h x y m n = absurd m
in_order-across (z ∷ xs) ys h x y m n =
    let p = and_parts (is_before_all z (xs ++ ys)) (is_in_order (xs ++ ys)) h in
    elim m [
      | inl e ↦ subst (λ o. is_before o y ≡ true) e (before_all-each z (xs ++ ys) p.0 y (has-append_right xs ys y n))
      | inr r ↦ in_order-across xs ys p.1 x y r n
    ]

-- what keeps the order of two lists keeps lists in order
pub in_order-map : (f : List ℕ → List ℕ) → ((x y : List ℕ) → is_before x y ≡ true → is_before (f x) (f y) ≡ true) → (xs : List (List ℕ)) → is_in_order xs ≡ true → is_in_order (map f xs) ≡ true
in_order-map f keeps [] h = refl
in_order-map f keeps (x ∷ xs) h =
    let p = and_parts (is_before_all x xs) (is_in_order xs) h in
    and_from (is_before_all (f x) (map f xs)) (is_in_order (map f xs))
    (before_all-from (f x) (map f xs) (λ z m.
    let found = has-map_from f xs z m in
    subst (λ o. is_before (f x) o ≡ true) found.2 (keeps x found.0 (before_all-each x xs p.0 found.0 found.1))))
    (in_order-map f keeps xs p.1)

-- two lists in order with the same items are the same
pub same-items : (xs ys : List (List ℕ)) → is_in_order xs ≡ true → is_in_order ys ≡ true → ((z : List ℕ) → Has xs z → Has ys z) → ((z : List ℕ) → Has ys z → Has xs z) → xs ≡ ys
same-items [] [] h k to from = refl
same-items [] (y ∷ ys) h k to from = absurd (from y (inl refl))
same-items (x ∷ xs) [] h k to from = absurd (to x (inl refl))
same-items (x ∷ xs) (y ∷ ys) h k to from =
    let p = and_parts (is_before_all x xs) (is_in_order xs) h in
    let q = and_parts (is_before_all y ys) (is_in_order ys) k in
    let e : x ≡ y = heads x y xs ys p.0 q.0 (to x (inl refl)) (from y (inl refl)) in
    let t : xs ≡ ys = same-items xs ys p.1 q.1
    (λ z m. elim (to z (inr m)) [
      | inl d ↦ absurd (before-not_self x (before_all-each x xs p.0 x (subst (λ o. Has xs o) (sym d ∙ sym e) m)))
      | inr n ↦ n
    ])
    (λ z m. elim (from z (inr m)) [
      | inl d ↦ absurd (before-not_self y (before_all-each y ys q.0 y (subst (λ o. Has ys o) (sym d ∙ e) m)))
      | inr n ↦ n
    ]) in
    cc
  where
    heads : (x y : List ℕ) (xs ys : List (List ℕ)) → is_before_all x xs ≡ true → is_before_all y ys ≡ true → Has (y ∷ ys) x → Has (x ∷ xs) y → x ≡ y
    heads x y xs ys h k m n = elim m [
      | inl e ↦ sym e
      | inr r ↦ elim n [
        | inl d ↦ d
        | inr s ↦ absurd (before-not_self x (before-trans x y x (before_all-each x xs h y s) (before_all-each y ys k x r)))
      ]
    ]

-- a listing of a kind of product is the only one
pub listing-only : (IsOne : List ℕ → Type 0) (xs ys : List (List ℕ)) → IsListing IsOne xs → IsListing IsOne ys → xs ≡ ys
listing-only IsOne xs ys left right =
    same-items xs ys left.ordered right.ordered (λ z m. right.whole z (left.sound z m)) (λ z m. left.whole z (right.sound z m))
