-- What a fold is at each form of the draft's types, and how one form of them opens.
use Rattle.std.proofs.Common.{◌≡◌, ℕ, Bool, List, sym, ap, ◌∙◌}
use Rattle.psa_number.specs.Scaled.{Scaled}
use Rattle.psa_model.specs.PathNames.{Text}
use Rattle.psa_model.specs.declared.formula.Connective.{Connective}
use Rattle.psa_model.specs.declared.draft.DraftReference.{DraftReference}
use Rattle.psa_model.specs.declared.draft.EventKind.{EventKind}
use Rattle.psa_model.specs.declared.draft.DraftFormula.{DraftFormula}
use Rattle.psa_model.specs.declared.draft.DraftFormula.TheOpen.{DraftFormula-F}
use Rattle.psa_model.specs.declared.draft.DraftFormula.TheVariants as formula
use Rattle.psa_model.specs.declared.draft.DraftFormula.TheFolds.{fold-DraftFormula, fold-roll-DraftFormula, map-DraftFormula}
use Rattle.psa_model.specs.declared.draft.DraftExpression.TheOpen.{DraftExpression-F}
use Rattle.psa_model.specs.declared.draft.DraftExpression.TheVariants as expression
use Rattle.psa_model.specs.declared.draft.DraftExpression.TheFolds.{fold-DraftExpression, fold-roll-DraftExpression}
use Rattle.psa_model.specs.declared.draft.DraftTest.{DraftTest}
use Rattle.psa_model.specs.declared.draft.DraftTest.TheOpen.{DraftTest-F}
use Rattle.psa_model.specs.declared.draft.DraftTest.TheVariants as test
use Rattle.psa_model.specs.declared.draft.DraftTest.TheFolds.{fold-DraftTest, fold-roll-DraftTest, map-DraftTest}
use Rattle.psa_model.specs.declared.draft.DraftInstruction.{DraftInstruction}
use Rattle.psa_model.specs.declared.draft.DraftInstruction.TheOpen.{DraftInstruction-F}
use Rattle.psa_model.specs.declared.draft.DraftInstruction.TheVariants as instruction
use Rattle.psa_model.specs.declared.draft.DraftInstruction.TheFolds.{fold-DraftInstruction, fold-roll-DraftInstruction, map-DraftInstruction}
use Rattle.psa_model.specs.declared.draft.DraftForkPath.{DraftForkPath}
use Rattle.psa_model.specs.declared.draft.DraftBranchEnd.TheOpen.{DraftBranchEnd-F}
use Rattle.psa_model.specs.declared.draft.DraftBranchEnd.TheViews.{out-DraftBranchEnd, out-roll-DraftBranchEnd}
use Rattle.psa_model.specs.declared.draft.DraftBranchEnd.TheVariants as end

pub at-event : {A : Type 0} (step : DraftFormula-F A → A) (its : EventKind) (name : DraftReference) → fold-DraftFormula A step (formula.Event its name) ≡ step (DraftFormula-F.Event its name)
at-event {A} step its name =
    ap (fold-DraftFormula A step) (sym (formula.rolls-Event its name)) ∙ fold-roll-DraftFormula A step (DraftFormula-F.Event its name)

pub at-constant : {A : Type 0} (step : DraftFormula-F A → A) (state : Bool) → fold-DraftFormula A step (formula.Constant state) ≡ step (DraftFormula-F.Constant state)
at-constant {A} step state =
    ap (fold-DraftFormula A step) (sym (formula.rolls-Constant state)) ∙ fold-roll-DraftFormula A step (DraftFormula-F.Constant state)

pub at-connective : {A : Type 0} (step : DraftFormula-F A → A) (operator : Connective) (least most : ℕ) (arguments : List DraftFormula) → fold-DraftFormula A step (formula.Connective operator least most arguments) ≡ step (map-DraftFormula DraftFormula A (fold-DraftFormula A step) (DraftFormula-F.Connective operator least most arguments))
at-connective {A} step operator least most arguments =
    ap (fold-DraftFormula A step) (sym (formula.rolls-Connective operator least most arguments))
    ∙ fold-roll-DraftFormula A step (DraftFormula-F.Connective operator least most arguments)

pub at-number : {A : Type 0} (step : DraftExpression-F A → A) (decimal : Scaled) → fold-DraftExpression A step (expression.Number decimal) ≡ step (DraftExpression-F.Number decimal)
at-number {A} step decimal =
    ap (fold-DraftExpression A step) (sym (expression.rolls-Number decimal)) ∙ fold-roll-DraftExpression A step (DraftExpression-F.Number decimal)

pub at-initiating : {A : Type 0} (step : DraftTest-F A → A) (name : DraftReference) → fold-DraftTest A step (test.Initiating name) ≡ step (DraftTest-F.Initiating name)
at-initiating {A} step name =
    ap (fold-DraftTest A step) (sym (test.rolls-Initiating name)) ∙ fold-roll-DraftTest A step (DraftTest-F.Initiating name)

pub at-functional : {A : Type 0} (step : DraftTest-F A → A) (name : DraftReference) (state : Text) → fold-DraftTest A step (test.Functional name state) ≡ step (DraftTest-F.Functional name state)
at-functional {A} step name state =
    ap (fold-DraftTest A step) (sym (test.rolls-Functional name state)) ∙ fold-roll-DraftTest A step (DraftTest-F.Functional name state)

pub at-all : {A : Type 0} (step : DraftTest-F A → A) (tests : List DraftTest) → fold-DraftTest A step (test.All tests) ≡ step (map-DraftTest DraftTest A (fold-DraftTest A step) (DraftTest-F.All tests))
at-all {A} step tests = ap (fold-DraftTest A step) (sym (test.rolls-All tests)) ∙ fold-roll-DraftTest A step (DraftTest-F.All tests)

pub at-collect : {A : Type 0} (step : DraftInstruction-F A → A) (one : DraftFormula) → fold-DraftInstruction A step (instruction.Collect one) ≡ step (DraftInstruction-F.Collect one)
at-collect {A} step one =
    ap (fold-DraftInstruction A step) (sym (instruction.rolls-Collect one)) ∙ fold-roll-DraftInstruction A step (DraftInstruction-F.Collect one)

pub at-rule : {A : Type 0} (step : DraftInstruction-F A → A) (name : DraftReference) → fold-DraftInstruction A step (instruction.Rule name) ≡ step (DraftInstruction-F.Rule name)
at-rule {A} step name =
    ap (fold-DraftInstruction A step) (sym (instruction.rolls-Rule name)) ∙ fold-roll-DraftInstruction A step (DraftInstruction-F.Rule name)

pub at-if : {A : Type 0} (step : DraftInstruction-F A → A) (condition : DraftTest) (first second : List DraftInstruction) → fold-DraftInstruction A step (instruction.If condition first second) ≡ step (map-DraftInstruction DraftInstruction A (fold-DraftInstruction A step) (DraftInstruction-F.If condition first second))
at-if {A} step condition first second =
    ap (fold-DraftInstruction A step) (sym (instruction.rolls-If condition first second))
    ∙ fold-roll-DraftInstruction A step (DraftInstruction-F.If condition first second)

pub out-fork : (name : DraftReference) (paths : List DraftForkPath) → out-DraftBranchEnd (end.Fork name paths) ≡ DraftBranchEnd-F.Fork name paths
out-fork name paths = ap out-DraftBranchEnd (sym (end.rolls-Fork name paths)) ∙ out-roll-DraftBranchEnd (DraftBranchEnd-F.Fork name paths)

pub out-sequence : (name : DraftReference) → out-DraftBranchEnd (end.Sequence name) ≡ DraftBranchEnd-F.Sequence name
out-sequence name = ap out-DraftBranchEnd (sym (end.rolls-Sequence name)) ∙ out-roll-DraftBranchEnd (DraftBranchEnd-F.Sequence name)
