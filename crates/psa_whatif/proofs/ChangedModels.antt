-- A model with other basic events and house events, as many as before: what is within some levels stays so.
use Rattle.std.proofs.Common.{◌≡◌, ℕ, zero, suc, Bool, List, length, nat_lt, ◌&&◌, refl, ap, ◌∙◌}
use Rattle.std.specs.List.{slice_get, list_all}
use Rattle.psa_model.specs.declared.expression.Expression.{Expression}
use Rattle.psa_model.specs.declared.expression.Expression.TheViews.{out-Expression}
use Rattle.psa_model.specs.declared.formula.Formula.{Formula}
use Rattle.psa_model.specs.declared.formula.Formula.TheOpen.{Formula-F}
use Rattle.psa_model.specs.declared.formula.Formula.TheViews.{out-Formula}
use Rattle.psa_model.specs.declared.model.BasicEvent.{BasicEvent}
use Rattle.psa_model.specs.declared.model.House.{House}
use Rattle.psa_model.specs.declared.model.Model.{Model}
use Rattle.psa_model.specs.declared.walks.Branch.{Branch}
use Rattle.psa_model.specs.declared.walks.BranchEnd.{BranchEnd}
use Rattle.psa_model.specs.declared.walks.BranchEnd.TheOpen.{BranchEnd-F}
use Rattle.psa_model.specs.declared.walks.BranchEnd.TheViews.{out-BranchEnd}
use Rattle.psa_model.specs.declared.walks.ForkPath.{ForkPath}
use Rattle.psa_model.specs.declared.walks.Instruction.{Instruction}
use Rattle.psa_model.specs.declared.walks.Instruction.TheOpen.{Instruction-F}
use Rattle.psa_model.specs.declared.walks.Instruction.TheViews.{out-Instruction}
use Rattle.psa_model.specs.declared.walks.Test.{Test}
use Rattle.psa_model.specs.declared.walks.Test.TheViews.{out-Test}
use Rattle.psa_model.specs.PathLevels.{passes_there, link_within}
use Rattle.psa_model.specs.Truth.{within, within_layer}
use Rattle.psa_model.specs.Values.{value_within, value_within_layer}
use Rattle.psa_model.specs.WalkLevels.{end_layer, instruction_layer, instruction_within, test_layer, test_within, walk_within}

-- the model with these basic events and house events
abbrev pub changed : Model → List BasicEvent → List House → Model
changed model basics houses = record model { basics = basics; houses = houses }

-- as many basic events and as many house events
pub record AreAsMany (model : Model) (bs : List BasicEvent) (hs : List House) : Type 0 where
  pub basics : length bs ≡ length model.basics
  pub houses : length hs ≡ length model.houses

-- one element of a formula is within some levels as before, by the same test of those below it
layer-same : (m : Model) (bs : List BasicEvent) (hs : List House) → AreAsMany m bs hs
    → (below : Formula → Bool) (f : Formula-F Formula)
    → within_layer (changed m bs hs) below f ≡ within_layer m below f
layer-same m bs hs many below (Formula-F.Gate id) = refl
layer-same m bs hs many below (Formula-F.Basic id) = ap (nat_lt id.0) many.basics
layer-same m bs hs many below (Formula-F.House id) = ap (nat_lt id.0) many.houses
layer-same m bs hs many below (Formula-F.Constant b) = refl
layer-same m bs hs many below (Formula-F.Connective operator least most arguments) = refl

-- formulas are within some levels as before
pub within-same : (m : Model) (bs : List BasicEvent) (hs : List House) → AreAsMany m bs hs
    → (n : ℕ) (f : Formula) → within n (changed m bs hs) f ≡ within n m f
unfolding within
within-same m bs hs many zero f = refl
within-same m bs hs many (suc n) f =
    layer-same m bs hs many (λ g. within n (changed m bs hs) g) (out-Formula f)
    ∙ ap (λ (below : Formula → Bool). within_layer m below (out-Formula f)) (λ i g. within-same m bs hs many n g i)

-- so are expressions
pub value-same : (m : Model) (bs : List BasicEvent) (hs : List House) (n : ℕ) (e : Expression)
    → value_within n (changed m bs hs) e ≡ value_within n m e
unfolding value_within
value-same m bs hs zero e = refl
value-same m bs hs (suc n) e =
    ap (λ (below : Expression → Bool). value_within_layer m below (out-Expression e)) (λ i g. value-same m bs hs n g i)

-- and tests
test-same : (m : Model) (bs : List BasicEvent) (hs : List House) (n : ℕ) (t : Test)
    → test_within n (changed m bs hs) t ≡ test_within n m t
unfolding test_within
test-same m bs hs zero t = refl
test-same m bs hs (suc n) t =
    ap (λ (below : Test → Bool). test_layer m below (out-Test t)) (λ i one. test-same m bs hs n one i)

-- one instruction is within some levels as before, by the same test of those below it
one-instruction : (m : Model) (bs : List BasicEvent) (hs : List House) → AreAsMany m bs hs
    → (n : ℕ) (below : Instruction → Bool) (one : Instruction-F Instruction)
    → instruction_layer n (changed m bs hs) below one ≡ instruction_layer n m below one
one-instruction m bs hs many n below (Instruction-F.Collect id) =
    ap (passes_there (slice_get m.formulas id.0)) (λ i formula. within-same m bs hs many n formula i)
one-instruction m bs hs many n below (Instruction-F.SetHouse house state) = ap (nat_lt house.0) many.houses
one-instruction m bs hs many n below (Instruction-F.Block inside) = refl
one-instruction m bs hs many n below (Instruction-F.Rule id) = refl
one-instruction m bs hs many n below (Instruction-F.If test first second) =
    rw (test-same m bs hs n test) refl

-- instructions are within some levels as before
pub instruction-same : (m : Model) (bs : List BasicEvent) (hs : List House) → AreAsMany m bs hs
    → (n : ℕ) (one : Instruction) → instruction_within n (changed m bs hs) one ≡ instruction_within n m one
unfolding instruction_within
instruction-same m bs hs many zero one = refl
instruction-same m bs hs many (suc n) one =
    one-instruction m bs hs many n (λ i. instruction_within n (changed m bs hs) i) (out-Instruction one)
    ∙ ap (λ (below : Instruction → Bool). instruction_layer n m below (out-Instruction one))
    (λ i inner. instruction-same m bs hs many n inner i)

-- lists of instructions are within some levels as before
pub instructions-same : (m : Model) (bs : List BasicEvent) (hs : List House) → AreAsMany m bs hs
    → (n : ℕ) (all : List Instruction)
    → list_all (instruction_within n (changed m bs hs)) all ≡ list_all (instruction_within n m) all
instructions-same m bs hs many n all =
    ap (λ (below : Instruction → Bool). list_all below all) (λ i one. instruction-same m bs hs many n one i)

-- the end of a branch is within some levels as before, by the same test of the branches below it
one-end : (m : Model) (bs : List BasicEvent) (hs : List House) → AreAsMany m bs hs
    → (n : ℕ) (below : Branch → Bool) (end : BranchEnd-F BranchEnd Branch ForkPath)
    → end_layer n (changed m bs hs) below end ≡ end_layer n m below end
one-end m bs hs many n below (BranchEnd-F.Fork functional paths) = refl
one-end m bs hs many n below (BranchEnd-F.Sequence id) =
    ap (passes_there (slice_get m.sequences id.0))
    (λ i sequence. instructions-same m bs hs many n sequence.instructions i && link_within m below sequence.link)
one-end m bs hs many n below (BranchEnd-F.Branch id) = refl

-- branches are within some levels as before
pub walk-same : (m : Model) (bs : List BasicEvent) (hs : List House) → AreAsMany m bs hs
    → (n : ℕ) (branch : Branch) → walk_within n (changed m bs hs) branch ≡ walk_within n m branch
unfolding walk_within
walk-same m bs hs many zero branch = refl
walk-same m bs hs many (suc n) branch =
    ap (λ (passes : Bool). passes && end_layer n (changed m bs hs) below (out-BranchEnd branch.end))
    (instructions-same m bs hs many (suc n) branch.instructions)
    ∙ ap (λ (passes : Bool). list_all (instruction_within (suc n) m) branch.instructions && passes)
    (one-end m bs hs many n below (out-BranchEnd branch.end)
    ∙ ap (λ (below : Branch → Bool). end_layer n m below (out-BranchEnd branch.end))
    (λ i other. walk-same m bs hs many n other i))
  where
    below : Branch → Bool
    below other = walk_within n (changed m bs hs) other
