-- Definitions in the order of their contents: the same definitions, each before those behind it.
use Rattle.std.proofs.Common.{◌≡◌, ◌⊎◌, inl, inr, ◌+◌, ℕ, true, false, List, [], ◌∷◌, Some, refl, ap, ◌∙◌, subst, arith}
use Rattle.std.proofs.lemmas.Bool.{cases_Bool}
use Rattle.psa_names.specs.Outlines.{Entry}
use Rattle.psa_names.specs.Collected.{contents_before, placed, by_contents}
use Rattle.psa_names.proofs.ListPlaces.{Has, has-none, has-first, has-later, has-cases}
use Rattle.psa_names.proofs.ContentsOrder.{IsAscending, contents-contents, contents-total}
use Rattle.psa_names.proofs.Sums.{weigh}

-- ---- sums

weigh-placed : (f : Entry → ℕ) (one : Entry) (xs : List Entry) → weigh f (placed one xs) ≡ f one + weigh f xs
weigh-placed f one [] = refl
weigh-placed f one (other ∷ others) = elim (cases_Bool (contents_before other one)) [
  | inl before ↦ let rest = weigh-placed f one others in rw before (omega (arith, rest))
  | inr after ↦ rw after refl
]

-- the order of contents does not change a sum
pub weigh-by : (f : Entry → ℕ) (xs : List Entry) → weigh f (by_contents xs) ≡ weigh f xs
weigh-by f [] = refl
weigh-by f (x ∷ xs) = weigh-placed f x (by_contents xs) ∙ ap (λ n. f x + n) (weigh-by f xs)

-- ---- the same definitions

from-placed : (one : Entry) (xs : List Entry) (y : Entry) → Has (placed one xs) y → (one ≡ y) ⊎ Has xs y
from-placed one [] y h = has-cases one y [] h
from-placed one (other ∷ others) y h = elim (cases_Bool (contents_before other one)) [
  | inl before ↦ elim (has-cases other y (placed one others) (rw before at h)) [
    | inl same ↦ inr (0, ap Some same)
    | inr later ↦ elim (from-placed one others y later) [
      | inl same ↦ inl same
      | inr there ↦ inr (has-later other y others there)
    ]
  ]
  | inr after ↦ has-cases one y (other ∷ others) (rw after at h)
]

placed-own : (one : Entry) (xs : List Entry) → Has (placed one xs) one
placed-own one [] = has-first one []
placed-own one (other ∷ others) = elim (cases_Bool (contents_before other one)) [
  | inl before ↦ rw before (has-later other one (placed one others) (placed-own one others))
  | inr after ↦ rw after (has-first one (other ∷ others))
]

placed-other : (one : Entry) (xs : List Entry) (y : Entry) → Has xs y → Has (placed one xs) y
placed-other one [] y h = absurd (has-none y h)
placed-other one (other ∷ others) y h = elim (cases_Bool (contents_before other one)) [
  | inl before ↦ rw before (elim (has-cases other y others h) [
    | inl same ↦ (0, ap Some same)
    | inr later ↦ has-later other y (placed one others) (placed-other one others y later)
  ])
  | inr after ↦ rw after (has-later one y (other ∷ others) h)
]

-- each definition is among those in the order of contents
pub has-by : (xs : List Entry) (y : Entry) → Has xs y → Has (by_contents xs) y
has-by [] y h = h
has-by (x ∷ xs) y h = elim (has-cases x y xs h) [
  | inl same ↦ subst (λ (z : Entry). Has (placed x (by_contents xs)) z) same (placed-own x (by_contents xs))
  | inr later ↦ placed-other x (by_contents xs) y (has-by xs y later)
]

-- each in the order of contents is a definition
pub from-by : (xs : List Entry) (y : Entry) → Has (by_contents xs) y → Has xs y
from-by [] y h = h
from-by (x ∷ xs) y h = elim (from-placed x (by_contents xs) y h) [
  | inl same ↦ (0, ap Some same)
  | inr later ↦ has-later x y xs (from-by xs y later)
]

-- ---- in order

-- each definition's contents stand before those of the definitions behind it
abbrev pub IsSorted : List Entry → Type 0
IsSorted [] = Unit {0}
IsSorted (one ∷ others) = ((other : Entry) → Has others other → contents_before one other ≡ true) × IsSorted others

placed-sorted : (one : Entry) (xs : List Entry) → IsSorted xs
    → ((y : Entry) → Has xs y → contents_before y one ≡ false → contents_before one y ≡ true)
    → IsSorted (placed one xs)
placed-sorted one [] sorted total = ((λ y h. absurd (has-none y h)), tt)
placed-sorted one (other ∷ others) sorted total = elim (cases_Bool (contents_before other one)) [
  | inl before ↦ rw before (
    (λ y h. elim (from-placed one others y h) [
      | inl same ↦ subst (λ (z : Entry). contents_before other z ≡ true) same before
      | inr later ↦ sorted.0 y later
    ]),
    placed-sorted one others sorted.1 (λ y h. total y (has-later other y others h)),
  )
  | inr after ↦
      let here = total other (has-first other others) after in
      rw after (
        (λ y h. elim (has-cases other y others h) [
          | inl same ↦ subst (λ (z : Entry). contents_before one z ≡ true) same here
          | inr later ↦ contents-contents one other y here (sorted.0 y later)
        ]),
        sorted,
      )
]

-- the order of contents is sorted
pub by-sorted : (xs : List Entry) → IsAscending xs → IsSorted (by_contents xs)
by-sorted [] ascending = tt
by-sorted (x ∷ xs) ascending =
    placed-sorted x (by_contents xs) (by-sorted xs ascending.1)
    (λ y h. contents-total x y (ascending.0 y (from-by xs y h)))
