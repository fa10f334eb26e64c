-- Where the walk stops is the first fault of the paths; else all of them arrived.
use Rattle.std.proofs.Common.{◌≡◌, ◌-◌, ℕ, List, [], ◌∷◌, ◌++◌, Result, Ok, Err, refl, sym, ap, ◌∙◌, inl, inr, append_assoc}
use Rattle.std.proofs.lemmas.Bool.Decides.{eqb_tells}
use Rattle.psa_model.specs.declared.fault.FaultKind.TheVariants.{LongPath, TooManyPaths}
use Rattle.psa_model.specs.declared.model.Initiating.{Initiating}
use Rattle.psa_model.specs.PathFaults.{walk_fault_at, first_fault}
use Rattle.psa_model.specs.PathTargets.{arrived_in}
use Rattle.psa_model.specs.Paths.{Arrived, Arrival, too_long, arrives}
use Rattle.psa_walk.specs.declared.walk.Stop.{Stop}
use Rattle.psa_walk.specs.declared.walk.Stop.TheVariants as stop
use Rattle.psa_walk.specs.Walks.{GatheredPaths, gather}
use Rattle.psa_walk.specs.Answers.{GoesOn, Fails}

same_findings : (f g : GatheredPaths) → ◌≡◌ {A = Result GatheredPaths Stop} (Ok f) (Ok g) → f ≡ g
same_findings f g e = cc

-- all paths arrived
pub gather-arrived : (xs : List Arrival) (left rest : ℕ) (before now : List Arrived) → gather xs (record { left = left; arrived = before }) ≡ Ok (record { left = rest; arrived = now }) → now ≡ before ++ arrived_in xs
gather-arrived [] left rest before now e = sym (ap (λ (f : GatheredPaths). f.arrived) (same_findings (record { left = left; arrived = before }) (record { left = rest; arrived = now }) e)) ∙ end before
  where
    end : (l : List Arrived) → l ≡ l ++ []
    end [] = refl
    end (a ∷ l) = ap (λ (m : List Arrived). a ∷ m) (end l)
gather-arrived (too_long ∷ xs) left rest before now e = absurd (cc)
gather-arrived (arrives a ∷ xs) left rest before now e = elim (eqb_tells left 0) [
  | inl p ↦ let bad = rw p.0 at e in absurd (cc)
  | inr p ↦ gather-arrived xs (left - 1) rest (before ++ a ∷ []) now (rw p.0 at e) ∙ append_assoc before (a ∷ []) (arrived_in xs)
]

-- after paths that all arrived the first fault is that of what follows
pub gather-goes_on : (i : Initiating) (xs : List Arrival) (left rest : ℕ) (before now : List Arrived) → gather xs (record { left = left; arrived = before }) ≡ Ok (record { left = rest; arrived = now }) → GoesOn left rest i xs
gather-goes_on i [] left rest before now e more =
    ap (λ n. first_fault n more) (ap (λ (f : GatheredPaths). f.left) (same_findings (record { left = left; arrived = before }) (record { left = rest; arrived = now }) e))
gather-goes_on i (too_long ∷ xs) left rest before now e more = absurd (cc)
gather-goes_on i (arrives a ∷ xs) left rest before now e more = elim (eqb_tells left 0) [
  | inl p ↦ let bad = rw p.0 at e in absurd (cc)
  | inr p ↦ rw p.0 (gather-goes_on i xs (left - 1) rest (before ++ a ∷ []) now (rw p.0 at e) more)
]

-- or one is a fault
pub gather-long : (i : Initiating) (xs : List Arrival) (left : ℕ) (before : List Arrived) → gather xs (record { left = left; arrived = before }) ≡ Err stop.LongPath → Fails left i xs (walk_fault_at LongPath i)
gather-long i [] left before e more = absurd (cc)
gather-long i (too_long ∷ xs) left before e more = refl
gather-long i (arrives a ∷ xs) left before e more = elim (eqb_tells left 0) [
  | inl p ↦ let bad = rw p.0 at e in absurd (cc)
  | inr p ↦ rw p.0 (gather-long i xs (left - 1) (before ++ a ∷ []) (rw p.0 at e) more)
]

-- a path too many is the first fault, whatever follows
pub gather-many : (i : Initiating) (xs : List Arrival) (left : ℕ) (before : List Arrived) → gather xs (record { left = left; arrived = before }) ≡ Err stop.TooManyPaths → Fails left i xs (walk_fault_at TooManyPaths i)
gather-many i [] left before e more = absurd (cc)
gather-many i (too_long ∷ xs) left before e more = absurd (cc)
gather-many i (arrives a ∷ xs) left before e more = elim (eqb_tells left 0) [
  | inl p ↦ rw p.0 refl
  | inr p ↦ rw p.0 (gather-many i xs (left - 1) (before ++ a ∷ []) (rw p.0 at e) more)
]
