-- How deep elements are nested.
use Rattle.std.proofs.Common.{◌≡◌, ◌≤◌, ◌<◌, ℕ, suc, Bool, true, List, [], ◌∷◌, Option, map, refl, arith}
use Rattle.std.proofs.lemmas.Bool.{and_parts, and_from, leb-true, le-leb}
use Rattle.std.specs.Prelude.{nat_le}
use Rattle.std.specs.List.{list_all}
use Rattle.psa_model.specs.declared.draft.DraftReference.{DraftReference}
use Rattle.psa_model.specs.Drafts.{Contents, together, element}
use Rattle.psa_model.specs.Models.{greatest}

-- each is nested within so many levels
abbrev pub are_shallow : ℕ → List Contents → Bool
are_shallow levels all = list_all (λ one. nat_le one.nesting levels) all

-- where elements together are nested within some levels, each is
pub together-shallow : (levels : ℕ) (all : List Contents) → (together all).nesting ≤ levels
    → are_shallow levels all ≡ true
together-shallow levels [] h = refl
together-shallow levels (one ∷ others) h =
    and_from _ _ (le-leb one.nesting levels (omega arith)) (together-shallow levels others (omega arith))

-- what stands inside an element is nested within a level less
pub inside-shallow : (levels : ℕ) (right : Bool) (name : Option DraftReference) (contents : List Contents)
    → are_shallow (suc levels) (element right name contents ∷ []) ≡ true → are_shallow levels contents ≡ true
inside-shallow levels right name contents h =
    let nested = leb-true (suc (together contents).nesting) (suc levels) (and_parts _ true h).0 in
    together-shallow levels contents (omega (arith, nested))

-- nothing is nested within no levels
pub no-nesting : {n : ℕ} (one : Contents) → one.nesting ≡ n → 0 < n → are_shallow 0 (one ∷ []) ≡ true → ⊥
no-nesting one same some h = let nested = leb-true one.nesting 0 (and_parts _ true h).0 in omega
    (arith, nested, same, some)

-- where each is at most a number, so is the greatest
pub greatest-below : {A : Type 0} (f : A → ℕ) (levels : ℕ) (all : List A)
    → list_all (λ x. nat_le (f x) levels) all ≡ true → greatest (map f all) ≤ levels
greatest-below f levels [] h = omega arith
greatest-below f levels (x ∷ all) h =
    let parts = and_parts (nat_le (f x) levels) _ h in
    let here = leb-true (f x) levels parts.0 in
    let rest = greatest-below f levels all parts.1 in
    omega (arith, here, rest)
