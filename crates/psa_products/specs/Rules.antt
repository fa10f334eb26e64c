-- A rule on products that may be asked about each, and has one answer there. A product is given as its literal numbers.
-- `may set` says that the rule may be asked about the product of a set, `says set answer` that it may answer so.
use Rattle.std.specs.Prelude.{◌≡◌, Bool, true, false, ℕ, List, [], ◌∷◌, ◌++◌, Option, None, Some, if◌then◌else◌}
use Rattle.std.specs.Coded.{×_prop, Π_prop, Unit-prop}
use mathlib.Core.HLevel.{Σ_prop_path}
use mathlib.Core.Logic.{∥∥₁_prop, ∥∥₁_elim}
use mathlib.Core.Bool.{Bool-set}
use Rattle.arrayvec.specs.ArrayVec.{ArrayVec}
use Rattle.psa_model.specs.declared.product.Literal.{Literal}
use Rattle.psa_model.specs.Literals.{literals_of}

module _ (may : List ℕ → Type 0) (says : List ℕ → Bool → Type 0) where
  -- the rule may be asked about a set, and has exactly one answer
  pub record IsRuled (set : List ℕ) : Type 0 where
    pub callable : may set
    pub answer : Bool
    pub answers : says set answer
    pub only : (other : Bool) → says set other → other ≡ answer

-- the rule may be asked about each
abbrev pub AllCallable : (List ℕ → Type 0) → List (List ℕ) → Type 0
AllCallable may [] = Unit {0}
AllCallable may (set ∷ sets) = may set × AllCallable may sets

module _ (says : List ℕ → Bool → Type 0) where
  -- exactly one answer
  abbrev pub IsOneAnswer : List ℕ → Bool → Type 0
  IsOneAnswer set answer = ∥ says set answer ∥₁ × ((other : Bool) → says set other → other ≡ answer)

  abbrev pub AllAnswered : List (List ℕ) → Type 0
  AllAnswered [] = Unit {0}
  AllAnswered (set ∷ sets) = ((answer : Bool) × IsOneAnswer set answer) × AllAnswered sets

  one-prop : (set : List ℕ) → IsProp ((answer : Bool) × IsOneAnswer set answer)
  one-prop set x y =
      Σ_prop_path
      (λ (answer : Bool). ×_prop {A = ∥ says set answer ∥₁} {B = (other : Bool) → says set other → other ≡ answer} ∥∥₁_prop (Π_prop (λ other. Π_prop (λ h. Bool-set other answer))))
      (∥∥₁_elim x.1.0 (Bool-set x.0 y.0) (λ h. y.1.1 x.0 h))

  pub AllAnswered-prop : (sets : List (List ℕ)) → IsProp (AllAnswered sets)
  AllAnswered-prop [] = Unit-prop
  AllAnswered-prop (set ∷ sets) = ×_prop (one-prop set) (AllAnswered-prop sets)

  -- the sets whose product the rule keeps
  abbrev pub kept : (sets : List (List ℕ)) → AllAnswered sets → List (List ℕ)
  kept [] h = []
  kept (set ∷ sets) h = if h.0.0 then set ∷ kept sets h.1 else kept sets h.1

  abbrev pub AllRejected : List (List ℕ) → Type 0
  AllRejected [] = Unit {0}
  AllRejected (set ∷ sets) = says set false × AllRejected sets

  abbrev pub IsFound : Option (ArrayVec Literal) → List (List ℕ) → List (List ℕ) → List (List ℕ) → Type 0
  IsFound None skipped before after = (before ≡ skipped) × (after ≡ [])
  IsFound (Some product) skipped before after = (before ≡ skipped ++ literals_of product.items ∷ after) × says (literals_of product.items) true

  -- the answer of a search for the first set whose product the rule keeps, and the sets after it
  pub record IsNextKept (before after : List (List ℕ)) (answer : Option (ArrayVec Literal)) : Type 0 where
    pub skipped : List (List ℕ)
    pub rejected : AllRejected skipped
    pub found : IsFound answer skipped before after
