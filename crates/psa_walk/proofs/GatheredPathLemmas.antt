-- What the walk gathers from a list of paths, part by part.
use Rattle.std.specs.Prelude.{⊤}
use Rattle.std.proofs.Common.{◌≡◌, ◌<◌, ◌-◌, ℕ, zero, suc, List, [], ◌∷◌, ◌++◌, Option, Result, Ok, Err, refl, sym, ap, ◌∙◌, subst, sub-one, inl, inr, arith}
use Rattle.std.proofs.lemmas.Bool.Decides.{eqb_tells}
use Rattle.psa_model.specs.declared.model.Model.{Model}
use Rattle.psa_model.specs.declared.walks.Branch.{Branch}
use Rattle.psa_model.specs.declared.walks.BranchEnd.TheViews.{out-BranchEnd}
use Rattle.psa_walk.specs.declared.walk.Stop.{Stop}
use Rattle.psa_walk.specs.declared.walk.Stop.TheVariants as stop
use Rattle.psa_model.specs.Paths.{Travelled, Arrival, too_long, arrives, Carried, carried, after_instructions, end_arrivals, arrivals, below}
use Rattle.psa_walk.specs.Walks.{GatheredPaths, Carries, gather, Gathers}

same_ok : (f g : GatheredPaths) → ◌≡◌ {A = Result GatheredPaths Stop} (Ok f) (Ok g) → f ≡ g
same_ok f g e = cc

-- two lists of paths one after another
pub gather-then : (xs ys : List Arrival) (f g : GatheredPaths) → gather xs f ≡ Ok g → gather (xs ++ ys) f ≡ gather ys g
gather-then [] ys f g e = ap (λ (h : GatheredPaths). gather ys h) (same_ok f g e)
gather-then (too_long ∷ xs) ys f g e = absurd (cc)
gather-then (arrives a ∷ xs) ys f g e = elim (eqb_tells f.left 0) [
  | inl p ↦ let bad = rw p.0 at e in absurd (cc)
  | inr p ↦ rw p.0 (gather-then xs ys _ g (rw p.0 at e))
]

-- where the first list stops, both do
pub gather-stop : (xs ys : List Arrival) (f : GatheredPaths) (e : Stop) → gather xs f ≡ Err e → gather (xs ++ ys) f ≡ Err e
gather-stop [] ys f e h = absurd (cc)
gather-stop (too_long ∷ xs) ys f e h = h
gather-stop (arrives a ∷ xs) ys f e h = elim (eqb_tells f.left 0) [
  | inl p ↦ rw p.0 (rw p.0 at h)
  | inr p ↦ rw p.0 (gather-stop xs ys _ e (rw p.0 at h))
]

-- the same of what a walk answers
pub gathers-then : (xs ys : List Arrival) (a b c : GatheredPaths) (r : Result ⊤ Stop) → gather xs a ≡ Ok b → Gathers ys b r c → Gathers (xs ++ ys) a r c
gathers-then xs ys a b c (Ok u) e h = gather-then xs ys a b e ∙ h
gathers-then xs ys a b c (Err stop.LongPath) e h = gather-then xs ys a b e ∙ h
gathers-then xs ys a b c (Err stop.TooManyPaths) e h = gather-then xs ys a b e ∙ h
gathers-then xs ys a b c (Err stop.Memory) e h = tt

-- and where it stops
pub gathers-stop : (xs ys : List Arrival) (a b c : GatheredPaths) (e : Stop) → Gathers xs a (Err e) b → Gathers (xs ++ ys) a (Err e) c
gathers-stop xs ys a b c stop.LongPath h = gather-stop xs ys a stop.LongPath h
gathers-stop xs ys a b c stop.TooManyPaths h = gather-stop xs ys a stop.TooManyPaths h
gathers-stop xs ys a b c stop.Memory h = tt

-- after instructions that were carried out, or of which one is too many
pub after-carried : (outcome : Option Carried) (rest : ℕ) (now : Travelled) (go : ℕ → Travelled → List Arrival) → Carries outcome (Ok rest) now → after_instructions outcome go ≡ go rest now
after-carried outcome rest now go h = ap (λ (o : Option Carried). after_instructions o go) h

-- where one instruction is too many the walk stops
pub after-stopped : (outcome : Option Carried) (now : Travelled) (go : ℕ → Travelled → List Arrival) (a c : GatheredPaths) (e : Stop) → Carries outcome (Err e) now → Gathers (after_instructions outcome go) a (Err e) c
after-stopped outcome now go a c stop.LongPath h = ap (λ (o : Option Carried). gather (after_instructions o go) a) h
after-stopped outcome now go a c stop.TooManyPaths h = absurd h
after-stopped outcome now go a c stop.Memory h = tt

-- the same paths under another form
pub gathers-as : (xs ys : List Arrival) (a c : GatheredPaths) (r : Result ⊤ Stop) → xs ≡ ys → Gathers ys a r c → Gathers xs a r c
gathers-as xs ys a c r e h = subst (λ (l : List Arrival). Gathers l a r c) (sym e) h

-- one level
pub arrivals-none : (levels : ℕ) (model : Model) (initiating left : ℕ) (branch : Branch) (along : Travelled) → levels ≡ 0 → arrivals levels model initiating left branch along ≡ []
unfolding arrivals
arrivals-none zero model initiating left branch along e = refl
arrivals-none (suc levels) model initiating left branch along e = absurd (omega arith)

-- the paths below a branch, one level deep
pub arrivals-one : (levels : ℕ) (model : Model) (initiating left : ℕ) (branch : Branch) (along : Travelled) → 0 < levels → arrivals levels model initiating left branch along ≡ after_instructions (carried left model initiating branch.instructions along) (λ l a. end_arrivals model initiating (below (levels - 1) model initiating) l a (out-BranchEnd branch.end))
unfolding arrivals
arrivals-one zero model initiating left branch along lt = absurd (omega arith)
arrivals-one (suc levels) model initiating left branch along lt = rw sub-one refl
