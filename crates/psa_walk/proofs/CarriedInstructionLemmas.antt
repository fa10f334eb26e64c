-- Instructions carried out one after another.
use Rattle.std.proofs.Common.{◌≡◌, ◌<◌, ◌≤◌, ◌-◌, ◌+◌, ℕ, Bool, Result, Ok, Err, drop, get_or, zero, suc, List, [], ◌∷◌, ◌++◌, Option, None, Some, if◌then◌else◌, take, length, refl, sym, ap, ◌∙◌, subst, sub-one, append_assoc, arith}
use Rattle.std.specs.List.{slice_get}
use Rattle.std.proofs.Math.Seq.{take-append_seam}
use Rattle.std.proofs.lemmas.List.{drop_more, drop_all}
use Rattle.psa_model.specs.declared.model.RuleDefinition.{RuleDefinition}
use Rattle.psa_model.specs.declared.targets.PathStep.TheVariants.{Collect, Set}
use Rattle.psa_model.specs.declared.walks.Instruction.TheVariants as variant
use Rattle.psa_model.specs.declared.walks.Test.{Test}
use Rattle.psa_walk.specs.declared.walk.Stop.{Stop}
use Rattle.psa_walk.specs.declared.walk.Stop.TheVariants as stop
use Rattle.psa_walk.specs.Walks.{Carries}
use Rattle.psa_model.proofs.WalkForms.{out-collect, out-set, out-rule, out-block, out-if}
use Rattle.psa_model.specs.declared.ids.FormulaId.{FormulaId}
use Rattle.psa_model.specs.declared.ids.HouseId.{HouseId}
use Rattle.psa_model.specs.declared.ids.RuleId.{RuleId}
use Rattle.psa_model.specs.declared.model.Model.{Model}
use Rattle.psa_model.specs.declared.targets.PathStep.{PathStep}
use Rattle.psa_model.specs.declared.walks.Instruction.{Instruction}
use Rattle.psa_model.specs.declared.walks.Instruction.TheOpen.{Instruction-F}
use Rattle.psa_model.specs.declared.walks.Instruction.TheViews.{out-Instruction}
use Rattle.psa_model.specs.Paths.{Travelled, Carried, with_step, contents_of, one_carried, carried}
use Rattle.psa_model.specs.Tests.{is_true_in}

-- what follows instructions that were carried out
abbrev pub then_carried : Option Carried → (ℕ → Travelled → Option Carried) → Option Carried
then_carried None go = None
then_carried (Some c) go = go c.left c.along

-- no instruction changes nothing
pub carried-nil : (left : ℕ) (model : Model) (initiating : ℕ) (along : Travelled) → carried left model initiating [] along ≡ Some (record { left = left; along = along })
unfolding carried
carried-nil zero model initiating along = refl
carried-nil (suc left) model initiating along = refl

-- where none may be carried out, one is too many
pub carried-none : (left : ℕ) (model : Model) (initiating : ℕ) (x : Instruction) (xs : List Instruction) (along : Travelled) → left ≡ 0 → carried left model initiating (x ∷ xs) along ≡ None
unfolding carried
carried-none zero model initiating x xs along e = refl
carried-none (suc left) model initiating x xs along e = absurd (omega arith)

-- one instruction and those after it
pub carried-one : (left : ℕ) (model : Model) (initiating : ℕ) (x : Instruction) (xs : List Instruction) (along : Travelled) → 0 < left → carried left model initiating (x ∷ xs) along ≡ one_carried model initiating (λ is a. carried (left - 1) model initiating is a) xs along (out-Instruction x)
unfolding carried
carried-one zero model initiating x xs along lt = absurd (omega arith)
carried-one (suc left) model initiating x xs along lt = rw sub-one refl

one-append : (model : Model) (initiating : ℕ) (go : List Instruction → Travelled → Option Carried) (ys : List Instruction) (k : ℕ → Travelled → Option Carried) → ((xs : List Instruction) (a : Travelled) → go (xs ++ ys) a ≡ then_carried (go xs a) k) → (xs : List Instruction) (along : Travelled) (layer : Instruction-F Instruction) → one_carried model initiating go (xs ++ ys) along layer ≡ then_carried (one_carried model initiating go xs along layer) k
one-append model initiating go ys k each xs along (Instruction-F.Collect id) = each xs _
one-append model initiating go ys k each xs along (Instruction-F.SetHouse house state) = each xs _
one-append model initiating go ys k each xs along (Instruction-F.Block inner) =
    ap (λ (is : List Instruction). go is along) (sym (append_assoc inner xs ys)) ∙ each (inner ++ xs) along
one-append model initiating go ys k each xs along (Instruction-F.Rule id) =
    ap (λ (is : List Instruction). go is along) (sym (append_assoc (contents_of (slice_get model.rules id.0)) xs ys))
    ∙ each (contents_of (slice_get model.rules id.0) ++ xs) along
one-append model initiating go ys k each xs along (Instruction-F.If test first second) =
    let chosen : List Instruction = if is_true_in initiating along.forks test then first else second in
    ap (λ (is : List Instruction). go is along) (sym (append_assoc chosen xs ys)) ∙ each (chosen ++ xs) along

-- instructions one after another are carried out one after another
pub carried-append : (left : ℕ) (model : Model) (initiating : ℕ) (ys xs : List Instruction) (along : Travelled) → carried left model initiating (xs ++ ys) along ≡ then_carried (carried left model initiating xs along) (λ l a. carried l model initiating ys a)
unfolding carried
carried-append zero model initiating ys [] along = refl
carried-append zero model initiating ys (x ∷ xs) along = refl
carried-append (suc left) model initiating ys [] along = refl
carried-append (suc left) model initiating ys (x ∷ xs) along =
    one-append model initiating (λ is a. carried left model initiating is a) ys (λ l a. carried l model initiating ys a)
    (λ zs a. carried-append left model initiating ys zs a) xs along (out-Instruction x)

-- the path begins with what it was before
pub record Extends (before now : Travelled) : Type 0 where
  pub more : List PathStep
  pub is : now ≡ record before { steps = before.steps ++ more }

append-nil : (xs : List PathStep) → xs ++ [] ≡ xs
append-nil [] = refl
append-nil (x ∷ xs) = ap (λ (l : List PathStep). x ∷ l) (append-nil xs)

extends-self : (a : Travelled) → Extends a a
extends-self a = record { more = []; is = ap (λ (steps : List PathStep). record a { steps = steps }) (sym (append-nil a.steps)) }

extends-step : (a now : Travelled) (step : PathStep) → Extends (with_step a step) now → Extends a now
extends-step a now step e = record {
  more = step ∷ e.more;
  is = e.is ∙ ap (λ (steps : List PathStep). record a { steps = steps }) (append_assoc a.steps (step ∷ []) e.more);
}

some-extends : (c d : Carried) → ◌≡◌ {A = Option Carried} (Some c) (Some d) → c.along ≡ d.along
some-extends c d e = let same : c ≡ d = cc in ap (λ (x : Carried). x.along) same

one-extends : (model : Model) (initiating : ℕ) (go : List Instruction → Travelled → Option Carried) (left : ℕ) (now : Travelled) → ((xs : List Instruction) (a : Travelled) → go xs a ≡ Some (record { left = left; along = now }) → Extends a now) → (xs : List Instruction) (along : Travelled) (layer : Instruction-F Instruction) → one_carried model initiating go xs along layer ≡ Some (record { left = left; along = now }) → Extends along now
one-extends model initiating go left now each xs along (Instruction-F.Collect id) e = extends-step along now _ (each xs _ e)
one-extends model initiating go left now each xs along (Instruction-F.SetHouse house state) e = extends-step along now _ (each xs _ e)
one-extends model initiating go left now each xs along (Instruction-F.Block inner) e = each _ along e
one-extends model initiating go left now each xs along (Instruction-F.Rule id) e = each _ along e
one-extends model initiating go left now each xs along (Instruction-F.If test first second) e = each _ along e

-- what instructions make of a path begins with the path
pub carried-extends : (n : ℕ) (model : Model) (initiating : ℕ) (left : ℕ) (now : Travelled) (xs : List Instruction) (along : Travelled) → carried n model initiating xs along ≡ Some (record { left = left; along = now }) → Extends along now
unfolding carried
carried-extends zero model initiating left now [] along e = subst (λ a. Extends along a) (some-extends (record { left = zero; along = along }) (record { left = left; along = now }) e) (extends-self along)
carried-extends zero model initiating left now (x ∷ xs) along e = absurd (cc)
carried-extends (suc n) model initiating left now [] along e = subst (λ a. Extends along a) (some-extends (record { left = suc n; along = along }) (record { left = left; along = now }) e) (extends-self along)
carried-extends (suc n) model initiating left now (x ∷ xs) along e =
    one-extends model initiating (λ is a. carried n model initiating is a) left now (λ zs a. carried-extends n model initiating left now zs a) xs along (out-Instruction x) e

-- so it goes back to what it was
pub goes-back : (before now : Travelled) → Extends before now → record now { steps = take (length before.steps) now.steps } ≡ before
goes-back before now e =
    ap (λ (a : Travelled). record a { steps = take (length before.steps) a.steps }) e.is
    ∙ ap (λ (steps : List PathStep). record before { steps = steps }) (take-append_seam before.steps e.more)

-- one instruction alone, by its form
carried-form : (left : ℕ) (model : Model) (initiating : ℕ) (x : Instruction) (along : Travelled) (layer : Instruction-F Instruction) → 0 < left → out-Instruction x ≡ layer → carried left model initiating (x ∷ []) along ≡ one_carried model initiating (λ is a. carried (left - 1) model initiating is a) [] along layer
carried-form left model initiating x along layer lt is =
    carried-one left model initiating x [] along lt
    ∙ ap (λ l. one_carried model initiating (λ is a. carried (left - 1) model initiating is a) [] along l) is

instructions-nil : (xs : List Instruction) → xs ++ [] ≡ xs
instructions-nil [] = refl
instructions-nil (x ∷ xs) = ap (λ (l : List Instruction). x ∷ l) (instructions-nil xs)

-- a collection alone
pub carried-collect : (left : ℕ) (model : Model) (initiating : ℕ) (x : Instruction) (along : Travelled) (id : FormulaId) → 0 < left → x ≡ variant.Collect id → carried left model initiating (x ∷ []) along ≡ Some (record { left = left - 1; along = with_step along (Collect id) })
carried-collect left model initiating x along id lt is =
    carried-form left model initiating x along (Instruction-F.Collect id) lt (ap out-Instruction is ∙ out-collect id)
    ∙ carried-nil (left - 1) model initiating (with_step along (Collect id))

-- a house setting alone
pub carried-set : (left : ℕ) (model : Model) (initiating : ℕ) (x : Instruction) (along : Travelled) (house : HouseId) (state : Bool) → 0 < left → x ≡ variant.SetHouse house state → carried left model initiating (x ∷ []) along ≡ Some (record { left = left - 1; along = with_step along (Set house state) })
carried-set left model initiating x along house state lt is =
    carried-form left model initiating x along (Instruction-F.SetHouse house state) lt (ap out-Instruction is ∙ out-set house state)
    ∙ carried-nil (left - 1) model initiating (with_step along (Set house state))

-- contents in place of the instruction
contents : (left : ℕ) (model : Model) (initiating : ℕ) (along : Travelled) (inner slice : List Instruction) → slice ≡ inner → carried (left - 1) model initiating (inner ++ []) along ≡ carried (left - 1) model initiating slice along
contents left model initiating along inner slice same = ap (λ (is : List Instruction). carried (left - 1) model initiating is along) (instructions-nil inner ∙ sym same)

-- a block alone is its contents
pub carried-block : (left : ℕ) (model : Model) (initiating : ℕ) (x : Instruction) (along : Travelled) (inner slice : List Instruction) → 0 < left → x ≡ variant.Block inner → slice ≡ inner → carried left model initiating (x ∷ []) along ≡ carried (left - 1) model initiating slice along
carried-block left model initiating x along inner slice lt is same =
    carried-form left model initiating x along (Instruction-F.Block inner) lt (ap out-Instruction is ∙ out-block inner) ∙ contents left model initiating along inner slice same

-- a rule alone is its instructions
pub carried-rule : (left : ℕ) (model : Model) (initiating : ℕ) (x : Instruction) (along : Travelled) (id : RuleId) (stands : Option RuleDefinition) (slice : List Instruction) → 0 < left → x ≡ variant.Rule id → slice_get model.rules id.0 ≡ stands → slice ≡ contents_of stands → carried left model initiating (x ∷ []) along ≡ carried (left - 1) model initiating slice along
carried-rule left model initiating x along id stands slice lt is there same =
    carried-form left model initiating x along (Instruction-F.Rule id) lt (ap out-Instruction is ∙ out-rule id)
    ∙ contents left model initiating along (contents_of (slice_get model.rules id.0)) slice (same ∙ ap contents_of (sym there))

-- a conditional alone is its first instructions where its test is true, else its second ones
pub carried-if : (left : ℕ) (model : Model) (initiating : ℕ) (x : Instruction) (along : Travelled) (test : Test) (first second slice : List Instruction) (b : Bool) → 0 < left → x ≡ variant.If test first second → b ≡ is_true_in initiating along.forks test → slice ≡ (if b then first else second) → carried left model initiating (x ∷ []) along ≡ carried (left - 1) model initiating slice along
carried-if left model initiating x along test first second slice b lt is test_is same =
    carried-form left model initiating x along (Instruction-F.If test first second) lt (ap out-Instruction is ∙ out-if test first second)
    ∙ contents left model initiating along (if is_true_in initiating along.forks test then first else second) slice (same ∙ ap (λ c. if c then first else second) test_is)

-- the same outcome under another form
pub carries-as : (outcome other : Option Carried) (r : Result ℕ Stop) (now : Travelled) → outcome ≡ other → Carries other r now → Carries outcome r now
carries-as outcome other r now e h = subst (λ (o : Option Carried). Carries o r now) (sym e) h

-- one instruction of several
module _ (model : Model) (initiating : ℕ) (whole : Option Carried) (xs : List Instruction) (k : ℕ) (x : Instruction) (rest : ℕ) (along : Travelled) (so : carried rest model initiating (drop k xs) along ≡ whole) (lt : k < length xs) (is : x ≡ get_or xs k x) where
  split_here : carried rest model initiating (drop k xs) along ≡ then_carried (carried rest model initiating (x ∷ []) along) (λ l a. carried l model initiating (drop (k + 1) xs) a)
  split_here =
      ap (λ (is : List Instruction). carried rest model initiating is along) (drop_more xs k x lt ∙ ap (λ (y : Instruction). y ∷ drop (k + 1) xs) (sym is))
      ∙ carried-append rest model initiating (drop (k + 1) xs) (x ∷ []) along

  -- after one instruction the others are to be carried out
  pub one-more : (l : ℕ) (now : Travelled) → Carries (carried rest model initiating (x ∷ []) along) (Ok l) now → carried l model initiating (drop (k + 1) xs) now ≡ whole
  one-more l now h = sym (ap (λ (o : Option Carried). then_carried o (λ l a. carried l model initiating (drop (k + 1) xs) a)) h) ∙ sym split_here ∙ so

  -- or all stop where the one stops
  pub one-stops : (e : Stop) (now : Travelled) → Carries (carried rest model initiating (x ∷ []) along) (Err e) now → Carries whole (Err e) now
  one-stops stop.LongPath now h = sym so ∙ split_here ∙ ap (λ (o : Option Carried). then_carried o (λ l a. carried l model initiating (drop (k + 1) xs) a)) h
  one-stops stop.TooManyPaths now h = h
  one-stops stop.Memory now h = tt

-- behind the last instruction all are carried out
pub all-carried : (model : Model) (initiating : ℕ) (whole : Option Carried) (xs : List Instruction) (k : ℕ) (rest : ℕ) (along : Travelled) → carried rest model initiating (drop k xs) along ≡ whole → length xs ≤ k → whole ≡ Some (record { left = rest; along = along })
all-carried model initiating whole xs k rest along so le =
    sym so ∙ ap (λ (is : List Instruction). carried rest model initiating is along) (drop_all k xs le) ∙ carried-nil rest model initiating along
