-- The truth of a formula over the ranks of a target at each form of formula.
use Rattle.std.proofs.Common.{◌≡◌, ◌≤◌, ◌-◌, ℕ, suc, Bool, true, List, [], ◌∷◌, Some, map, refl, sym, ap, ◌∙◌, arith}
use Rattle.std.specs.List.{slice_get, list_all, list_any}
use Rattle.psa_model.specs.declared.expanded.Expanded.{Expanded}
use Rattle.psa_model.specs.declared.formula.Connective.{Connective}
use Rattle.psa_model.specs.declared.formula.Formula.{Formula}
use Rattle.psa_model.specs.declared.formula.Formula.TheVariants as variant
use Rattle.psa_model.specs.declared.ids.EventId.{EventId}
use Rattle.psa_model.specs.declared.ids.GateId.{GateId}
use Rattle.psa_model.specs.declared.ids.HouseId.{HouseId}
use Rattle.psa_model.specs.declared.model.TheConstants.{MAX_DEPTH}
use Rattle.psa_model.specs.declared.model.Gate.{Gate}
use Rattle.psa_model.specs.Events.{events_of}
use Rattle.psa_model.specs.Formulas.{truth_of_connective}
use Rattle.psa_model.specs.Ranks.{ranks_of}
use Rattle.psa_model.specs.Targets.{occurs_by_rank}
use Rattle.psa_model.specs.Truth.{truth, within, state_of}
use Rattle.psa_model.proofs.Levels.{truth-basic, truth-house, truth-constant, truth-connective, truth-of-gate, truth-more, within-above, gate-within, arguments-within, and-left, and-right}
use Rattle.psa_prep.specs.Sound.{World, formula_truth}

-- a basic event
pub over-basic : (w : World) (houses : List Bool) (id : EventId) (s : ℕ → Bool) → formula_truth w houses (variant.Basic id) s ≡ list_any (occurs_by_rank s 0 (ranks_of w.expanded w.target)) (events_of w.expanded id.0)
over-basic w houses id s = truth-basic (suc MAX_DEPTH) w.expanded houses (occurs_by_rank s 0 (ranks_of w.expanded w.target)) id (omega arith)

-- a house event
pub over-house : (w : World) (houses : List Bool) (id : HouseId) (s : ℕ → Bool) → formula_truth w houses (variant.House id) s ≡ state_of (slice_get houses id.0)
over-house w houses id s = truth-house (suc MAX_DEPTH) w.expanded houses (occurs_by_rank s 0 (ranks_of w.expanded w.target)) id (omega arith)

-- a constant
pub over-constant : (w : World) (houses : List Bool) (b : Bool) (s : ℕ → Bool) → formula_truth w houses (variant.Constant b) s ≡ b
over-constant w houses b s = truth-constant (suc MAX_DEPTH) w.expanded houses (occurs_by_rank s 0 (ranks_of w.expanded w.target)) b (omega arith)

gate-at : (top depth : ℕ) (expanded : Expanded) (houses : List Bool) (s : ℕ → Bool) (id : GateId) (gate : Gate) → depth ≤ suc top → within depth expanded.model (variant.Gate id) ≡ true → slice_get expanded.model.gates id.0 ≡ Some gate → truth (suc top) expanded houses s (variant.Gate id) ≡ truth (suc top) expanded houses s gate.formula
gate-at top depth expanded houses s id gate l deep found =
    truth-of-gate top expanded houses s id gate found
    ∙ sym (truth-more top expanded houses s gate.formula (within-above (depth - 1) top expanded.model gate.formula (omega arith) (gate-within depth expanded.model id gate deep found)))

-- a gate is its formula
pub over-gate : (w : World) (houses : List Bool) (depth : ℕ) (id : GateId) (gate : Gate) → depth ≤ suc MAX_DEPTH → within depth w.expanded.model (variant.Gate id) ≡ true → slice_get w.expanded.model.gates id.0 ≡ Some gate → (s : ℕ → Bool) → formula_truth w houses gate.formula s ≡ formula_truth w houses (variant.Gate id) s
over-gate w houses depth id gate l deep found s = sym (gate-at MAX_DEPTH depth w.expanded houses (occurs_by_rank s 0 (ranks_of w.expanded w.target)) id gate l deep found)

cons-same : {A : Type 0} (x y : A) (xs ys : List A) → x ≡ y → xs ≡ ys → (x ∷ xs) ≡ (y ∷ ys)
cons-same x y xs ys head tail = cc

same-map : (test : Formula → Bool) (f1 f2 : Formula → Bool) → ((g : Formula) → test g ≡ true → f1 g ≡ f2 g) → (gs : List Formula) → list_all test gs ≡ true → map f1 gs ≡ map f2 gs
same-map test f1 f2 same [] h = refl
same-map test f1 f2 same (g ∷ gs) h = cons-same _ _ _ _ (same g (and-left _ _ h)) (same-map test f1 f2 same gs (and-right _ _ h))

connective-at : (top depth : ℕ) (expanded : Expanded) (houses : List Bool) (s : ℕ → Bool) (operator : Connective) (min max : ℕ) (arguments : List Formula) → depth ≤ suc top → within depth expanded.model (variant.Connective operator min max arguments) ≡ true → truth (suc top) expanded houses s (variant.Connective operator min max arguments) ≡ truth_of_connective operator min max (map (λ g. truth (suc top) expanded houses s g) arguments)
connective-at top depth expanded houses s operator min max arguments l deep =
    truth-connective (suc top) expanded houses s operator min max arguments (omega arith)
    ∙ ap (truth_of_connective operator min max)
    (same-map (λ g. within (depth - 1) expanded.model g) (λ g. truth (suc top - 1) expanded houses s g) (λ g. truth (suc top) expanded houses s g) same arguments (arguments-within depth expanded.model operator min max arguments deep))
  where
    same : (g : Formula) → within (depth - 1) expanded.model g ≡ true → truth (suc top - 1) expanded houses s g ≡ truth (suc top) expanded houses s g
    same g h =
        let less : suc top - 1 ≡ top = omega arith in
        ap (λ n. truth n expanded houses s g) less
        ∙ sym (truth-more top expanded houses s g (within-above (depth - 1) top expanded.model g (omega arith) h))

-- a connective is that of its arguments' truths
pub over-connective : (w : World) (houses : List Bool) (depth : ℕ) (operator : Connective) (min max : ℕ) (arguments : List Formula) → depth ≤ suc MAX_DEPTH → within depth w.expanded.model (variant.Connective operator min max arguments) ≡ true → (s : ℕ → Bool) → formula_truth w houses (variant.Connective operator min max arguments) s ≡ truth_of_connective operator min max (map (λ g. formula_truth w houses g s) arguments)
over-connective w houses depth operator min max arguments l deep s =
    connective-at MAX_DEPTH depth w.expanded houses (occurs_by_rank s 0 (ranks_of w.expanded w.target)) operator min max arguments l deep
