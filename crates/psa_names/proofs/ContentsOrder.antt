-- The order of contents: strict, and total where definitions stand in order.
use Rattle.std.proofs.Common.{◌≡◌, ◌⊎◌, inl, inr, ◌==◌, ◌<◌, Bool, true, false, not, nat_lt, List, [], ◌∷◌, map, ◌&&◌, ◌||◌, refl, sym, ap, ◌∙◌, arith}
use Rattle.std.proofs.lemmas.Bool.{and_parts, and_from, or_cases, or_left, or_right, or_parts, ltb-true, lt-ltb, eqb-true, eq-eqb, not-true, not_from_false, cases_order, both_ways}
use Rattle.psa_model.specs.declared.draft.Draft.{Draft}
use Rattle.psa_model.specs.Drafts.{Position, IsDraft, stands_before, are_ascending, position_of}
use Rattle.psa_names.specs.Outlines.{Entry, entry_of, entries_of}
use Rattle.psa_names.specs.Collected.{contents_position, contents_before}
use Rattle.psa_names.proofs.ListPlaces.{Has, has-none, has-cases, map-map}

-- ---- positions

abbrev Before : Position → Position → Type 0
Before a b = (a.file < b.file) ⊎ ((a.file ≡ b.file) × (a.tag < b.tag))

abbrev Same : Position → Position → Type 0
Same a b = (a.file ≡ b.file) × (a.tag ≡ b.tag)

before-from : (a b : Position) → stands_before a b ≡ true → Before a b
before-from a b h = elim (or_cases (nat_lt a.file b.file) (a.file == b.file && nat_lt a.tag b.tag) h) [
  | inl less ↦ inl (ltb-true a.file b.file less)
  | inr both ↦ let parts = and_parts (a.file == b.file) (nat_lt a.tag b.tag)
      both in inr (eqb-true a.file b.file parts.0, ltb-true a.tag b.tag parts.1)
]

from-before : (a b : Position) → Before a b → stands_before a b ≡ true
from-before a b (inl less) = or_left (nat_lt a.file b.file) _ (lt-ltb a.file b.file less)
from-before a b (inr both) = or_right (nat_lt a.file b.file) _
    (and_from _ _ (eq-eqb a.file b.file both.0) (lt-ltb a.tag b.tag both.1))

before-before : (a b c : Position) → Before a b → Before b c → Before a c
before-before a b c (inl h) (inl k) = inl (omega (arith, h, k))
before-before a b c (inl h) (inr k) = let e = k.0 in inl (omega (arith, h, e))
before-before a b c (inr h) (inl k) = let e = h.0 in inl (omega (arith, e, k))
before-before a b c (inr h) (inr k) =
    let e = h.0 in let f = k.0 in let l = h.1 in let m = k.1 in
    inr (omega (arith, e, f), omega (arith, l, m))

before-never : (a b : Position) → Before a b → Before b a → ⊥
before-never a b (inl h) (inl k) = omega (arith, h, k)
before-never a b (inl h) (inr k) = let e = k.0 in omega (arith, h, e)
before-never a b (inr h) (inl k) = let e = h.0 in omega (arith, e, k)
before-never a b (inr h) (inr k) = let l = h.1 in let m = k.1 in omega (arith, l, m)

before-same : (a b c : Position) → Before a b → Same b c → Before a c
before-same a b c (inl h) k = let e = k.0 in inl (omega (arith, h, e))
before-same a b c (inr h) k = let e = h.0 in let l = h.1 in let f = k.0 in let g =
    k.1 in inr (omega (arith, e, f), omega (arith, l, g))

same-before : (a b c : Position) → Same a b → Before b c → Before a c
same-before a b c h (inl k) = let e = h.0 in inl (omega (arith, k, e))
same-before a b c h (inr k) = let e = h.0 in let g = h.1 in let f = k.0 in let l =
    k.1 in inr (omega (arith, e, f), omega (arith, l, g))

-- positions are in order
pub stands-before : (a b c : Position) → stands_before a b ≡ true → stands_before b c ≡ true
    → stands_before a c ≡ true
stands-before a b c h k = from-before a c (before-before a b c (before-from a b h) (before-from b c k))

trichotomy : (a b : Position) → Before a b ⊎ (Same a b ⊎ Before b a)
trichotomy a b = elim (cases_order a.file b.file) [
  | inl same ↦ elim (cases_order a.tag b.tag) [
    | inl tag ↦ inr (inl (same, tag))
    | inr (inl less) ↦ inl (inr (same, less))
    | inr (inr more) ↦ inr (inr (inr (sym same, more)))
  ]
  | inr (inl less) ↦ inl (inl less)
  | inr (inr more) ↦ inr (inr (inl more))
]

-- ---- contents

-- contents at one position stand in the order of their definitions
abbrev lex : Position → Position → Position → Position → Bool
lex c p d q = stands_before c d || (not (stands_before d c) && stands_before p q)

abbrev Order : Position → Position → Position → Position → Type 0
Order c p d q = Before c d ⊎ (Same c d × Before p q)

order-from : (c p d q : Position) → lex c p d q ≡ true → Order c p d q
order-from c p d q h = elim (or_cases (stands_before c d) (not (stands_before d c) && stands_before p q) h) [
  | inl here ↦ inl (before-from c d here)
  | inr both ↦
      let parts = and_parts (not (stands_before d c)) (stands_before p q) both in
      elim (trichotomy c d) [
        | inl before ↦ inl before
        | inr (inl same) ↦ inr (same, before-from p q parts.1)
        | inr (inr after) ↦ absurd (both_ways (stands_before d c) (not-true (stands_before d c) parts.0)
            (from-before d c after))
      ]
]

from-order : (c p d q : Position) → Order c p d q → lex c p d q ≡ true
from-order c p d q (inl before) = or_left (stands_before c d) _ (from-before c d before)
from-order c p d q (inr both) =
    or_right (stands_before c d) _ (and_from _ _ (none (stands_before d c) refl) (from-before p q both.1))
  where
    none : (b : Bool) → stands_before d c ≡ b → not b ≡ true
    none true h = let x = before-same d c d (before-from d c h) both.0 in absurd (before-never d d x x)
    none false h = refl

order-order : (c p d q e r : Position) → Order c p d q → Order d q e r → Order c p e r
order-order c p d q e r (inl h) (inl k) = inl (before-before c d e h k)
order-order c p d q e r (inl h) (inr k) = inl (before-same c d e h k.0)
order-order c p d q e r (inr h) (inl k) = inl (same-before c d e h.0 k)
order-order c p d q e r (inr h) (inr k) =
    let f = h.0.0 in let g = h.0.1 in let i = k.0.0 in let j = k.0.1 in
    inr ((omega (arith, f, i), omega (arith, g, j)), before-before p q r h.1 k.1)

order-never : (c p d q : Position) → Order c p d q → Order d q c p → ⊥
order-never c p d q (inl h) (inl k) = before-never c d h k
order-never c p d q (inl h) (inr k) = let x = before-same c d c h k.0 in before-never c c x x
order-never c p d q (inr h) (inl k) = let x = before-same d c d k h.0 in before-never d d x x
order-never c p d q (inr h) (inr k) = before-never p q h.1 k.1

-- contents are in order
pub contents-contents : (a b c : Entry) → contents_before a b ≡ true → contents_before b c ≡ true
    → contents_before a c ≡ true
contents-contents a b c h k =
    from-order (contents_position a) (position_of a.definition) (contents_position c) (position_of c.definition)
    (order-order (contents_position a) (position_of a.definition) (contents_position b) (position_of b.definition)
    (contents_position c) (position_of c.definition)
    (order-from (contents_position a) (position_of a.definition) (contents_position b) (position_of b.definition) h)
    (order-from (contents_position b) (position_of b.definition) (contents_position c) (position_of c.definition) k))

-- of two contents not each stands before the other
pub contents-never : (a b : Entry) → contents_before a b ≡ true → contents_before b a ≡ true → ⊥
contents-never a b h k =
    order-never (contents_position a) (position_of a.definition) (contents_position b) (position_of b.definition)
    (order-from (contents_position a) (position_of a.definition) (contents_position b) (position_of b.definition) h)
    (order-from (contents_position b) (position_of b.definition) (contents_position a) (position_of a.definition) k)

-- of two definitions in order, the contents of the first stand first, or those of the second do
pub contents-total : (a b : Entry) → stands_before (position_of a.definition) (position_of b.definition) ≡ true
    → contents_before b a ≡ false → contents_before a b ≡ true
contents-total a b before h =
    let none = (or_parts (stands_before (contents_position b) (contents_position a)) _ h).0 in
    or_right (stands_before (contents_position a) (contents_position b)) _
    (and_from _ _ (not_from_false _ none) before)

-- ---- in order

-- definitions in the order of their positions
abbrev pub IsAscending : List Entry → Type 0
IsAscending [] = Unit {0}
IsAscending (one ∷ others) = ((other : Entry) → Has others other
    → stands_before (position_of one.definition) (position_of other.definition) ≡ true) × IsAscending others

first-ascending : (one : Position) (others : List Entry)
    → are_ascending (one ∷ map (λ (e : Entry). position_of e.definition) others) ≡ true → (other : Entry)
    → Has others other → stands_before one (position_of other.definition) ≡ true
first-ascending one [] h other here = absurd (has-none other here)
first-ascending one (e ∷ others) h other here =
    let parts = and_parts (stands_before one (position_of e.definition))
    (are_ascending (position_of e.definition ∷ map (λ (x : Entry). position_of x.definition) others)) h in
    elim (has-cases e other others here) [
      | inl same ↦ ap (λ (x : Entry). stands_before one (position_of x.definition)) (sym same) ∙ parts.0
      | inr later ↦ stands-before one (position_of e.definition) (position_of other.definition) parts.0
          (first-ascending (position_of e.definition) others parts.1 other later)
    ]

rest-ascending : (one : Position) (others : List Position) → are_ascending (one ∷ others) ≡ true
    → are_ascending others ≡ true
rest-ascending one [] h = refl
rest-ascending one (other ∷ others) h = (and_parts (stands_before one other) (are_ascending (other ∷ others)) h).1

-- where positions ascend, definitions are in order
pub ascending-from : (entries : List Entry)
    → are_ascending (map (λ (e : Entry). position_of e.definition) entries) ≡ true → IsAscending entries
ascending-from [] h = tt
ascending-from (one ∷ others) h = (
  first-ascending (position_of one.definition) others h,
  ascending-from others (rest-ascending _ (map (λ (e : Entry). position_of e.definition) others) h),
)

-- the definitions stand in order
pub entries-ascend : (draft : Draft) → IsDraft draft → IsAscending (entries_of draft)
entries-ascend draft is =
    ascending-from (entries_of draft) (ap are_ascending
    (map-map (λ (e : Entry). position_of e.definition) entry_of draft.definitions) ∙ is.ascending)
