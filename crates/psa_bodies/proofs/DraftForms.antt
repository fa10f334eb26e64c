-- What a fold is at the forms of the draft's types that psa_names does not have.
use Rattle.std.proofs.Common.{◌≡◌, Bool, List, sym, ap, ◌∙◌}
use Rattle.psa_model.specs.declared.draft.DraftReference.{DraftReference}
use Rattle.psa_model.specs.declared.expression.ExpressionOperator.{ExpressionOperator}
use Rattle.psa_model.specs.declared.draft.DraftExpression.{DraftExpression}
use Rattle.psa_model.specs.declared.draft.DraftExpression.TheOpen.{DraftExpression-F}
use Rattle.psa_model.specs.declared.draft.DraftExpression.TheVariants as expression
use Rattle.psa_model.specs.declared.draft.DraftExpression.TheFolds.{fold-DraftExpression, fold-roll-DraftExpression, map-DraftExpression}
use Rattle.psa_model.specs.declared.draft.DraftTest.{DraftTest}
use Rattle.psa_model.specs.declared.draft.DraftTest.TheOpen.{DraftTest-F}
use Rattle.psa_model.specs.declared.draft.DraftTest.TheVariants as test
use Rattle.psa_model.specs.declared.draft.DraftTest.TheFolds.{fold-DraftTest, fold-roll-DraftTest, map-DraftTest}
use Rattle.psa_model.specs.declared.draft.DraftInstruction.{DraftInstruction}
use Rattle.psa_model.specs.declared.draft.DraftInstruction.TheOpen.{DraftInstruction-F}
use Rattle.psa_model.specs.declared.draft.DraftInstruction.TheVariants as instruction
use Rattle.psa_model.specs.declared.draft.DraftInstruction.TheFolds.{fold-DraftInstruction, fold-roll-DraftInstruction, map-DraftInstruction}
use Rattle.psa_model.specs.declared.draft.DraftBranchEnd.TheOpen.{DraftBranchEnd-F}
use Rattle.psa_model.specs.declared.draft.DraftBranchEnd.TheViews.{out-DraftBranchEnd, out-roll-DraftBranchEnd}
use Rattle.psa_model.specs.declared.draft.DraftBranchEnd.TheVariants as end

-- a parameter
pub at-parameter : {A : Type 0} (step : DraftExpression-F A → A) (name : DraftReference) → fold-DraftExpression A step (expression.Parameter name) ≡ step (DraftExpression-F.Parameter name)
at-parameter {A} step name =
    ap (fold-DraftExpression A step) (sym (expression.rolls-Parameter name)) ∙ fold-roll-DraftExpression A step (DraftExpression-F.Parameter name)

-- the mission time
pub at-mission : {A : Type 0} (step : DraftExpression-F A → A) → fold-DraftExpression A step expression.MissionTime ≡ step DraftExpression-F.MissionTime
at-mission {A} step =
    ap (fold-DraftExpression A step) (sym expression.rolls-MissionTime) ∙ fold-roll-DraftExpression A step DraftExpression-F.MissionTime

-- an operation
pub at-operation : {A : Type 0} (step : DraftExpression-F A → A) (operator : ExpressionOperator) (arguments : List DraftExpression) → fold-DraftExpression A step (expression.Operation operator arguments) ≡ step (map-DraftExpression DraftExpression A (fold-DraftExpression A step) (DraftExpression-F.Operation operator arguments))
at-operation {A} step operator arguments =
    ap (fold-DraftExpression A step) (sym (expression.rolls-Operation operator arguments))
    ∙ fold-roll-DraftExpression A step (DraftExpression-F.Operation operator arguments)

-- some of several tests
pub at-any : {A : Type 0} (step : DraftTest-F A → A) (tests : List DraftTest) → fold-DraftTest A step (test.Any tests) ≡ step (map-DraftTest DraftTest A (fold-DraftTest A step) (DraftTest-F.Any tests))
at-any {A} step tests = ap (fold-DraftTest A step) (sym (test.rolls-Any tests)) ∙ fold-roll-DraftTest A step (DraftTest-F.Any tests)

-- none of several tests
pub at-not : {A : Type 0} (step : DraftTest-F A → A) (tests : List DraftTest) → fold-DraftTest A step (test.Not tests) ≡ step (map-DraftTest DraftTest A (fold-DraftTest A step) (DraftTest-F.Not tests))
at-not {A} step tests = ap (fold-DraftTest A step) (sym (test.rolls-Not tests)) ∙ fold-roll-DraftTest A step (DraftTest-F.Not tests)

-- the state of a house event
pub at-set-house : {A : Type 0} (step : DraftInstruction-F A → A) (name : DraftReference) (state : Bool) → fold-DraftInstruction A step (instruction.SetHouse name state) ≡ step (DraftInstruction-F.SetHouse name state)
at-set-house {A} step name state =
    ap (fold-DraftInstruction A step) (sym (instruction.rolls-SetHouse name state)) ∙ fold-roll-DraftInstruction A step (DraftInstruction-F.SetHouse name state)

-- a block
pub at-block : {A : Type 0} (step : DraftInstruction-F A → A) (inside : List DraftInstruction) → fold-DraftInstruction A step (instruction.Block inside) ≡ step (map-DraftInstruction DraftInstruction A (fold-DraftInstruction A step) (DraftInstruction-F.Block inside))
at-block {A} step inside =
    ap (fold-DraftInstruction A step) (sym (instruction.rolls-Block inside)) ∙ fold-roll-DraftInstruction A step (DraftInstruction-F.Block inside)

-- the end at a named branch
pub out-branch : (name : DraftReference) → out-DraftBranchEnd (end.Branch name) ≡ DraftBranchEnd-F.Branch name
out-branch name = ap out-DraftBranchEnd (sym (end.rolls-Branch name)) ∙ out-roll-DraftBranchEnd (DraftBranchEnd-F.Branch name)
