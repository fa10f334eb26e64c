-- What stands in each form of formula, expression, test and instruction, and how some of them open.
use Rattle.std.proofs.Common.{◌≡◌, ℕ, Bool, true, List, [], ◌∷◌, ◌++◌, ◌==◌, ◌&&◌, nat_le, map, length, Some, None, sym, ap, ◌∙◌}
use Rattle.psa_number.specs.Scaled.{Scaled}
use Rattle.psa_model.specs.PathNames.{Text}
use Rattle.psa_model.specs.declared.formula.Connective.{Connective}
use Rattle.psa_model.specs.declared.expression.ExpressionOperator.{ExpressionOperator}
use Rattle.psa_model.specs.declared.draft.DraftReference.{DraftReference}
use Rattle.psa_model.specs.declared.draft.EventKind.{EventKind}
use Rattle.psa_model.specs.declared.draft.DraftFormula.{DraftFormula}
use Rattle.psa_model.specs.declared.draft.DraftFormula.TheOpen.{DraftFormula-F}
use Rattle.psa_model.specs.declared.draft.DraftFormula.TheVariants as formula
use Rattle.psa_model.specs.declared.draft.DraftFormula.TheViews.{out-DraftFormula, out-roll-DraftFormula}
use Rattle.psa_model.specs.declared.draft.DraftFormula.TheFolds.{fold-roll-DraftFormula, fold_out-DraftFormula, map-DraftFormula}
use Rattle.psa_model.specs.declared.draft.DraftExpression.{DraftExpression}
use Rattle.psa_model.specs.declared.draft.DraftExpression.TheOpen.{DraftExpression-F}
use Rattle.psa_model.specs.declared.draft.DraftExpression.TheVariants as expression
use Rattle.psa_model.specs.declared.draft.DraftExpression.TheFolds.{fold-roll-DraftExpression}
use Rattle.psa_model.specs.declared.draft.DraftTest.{DraftTest}
use Rattle.psa_model.specs.declared.draft.DraftTest.TheOpen.{DraftTest-F}
use Rattle.psa_model.specs.declared.draft.DraftTest.TheVariants as test
use Rattle.psa_model.specs.declared.draft.DraftTest.TheFolds.{fold-roll-DraftTest}
use Rattle.psa_model.specs.declared.draft.DraftInstruction.{DraftInstruction}
use Rattle.psa_model.specs.declared.draft.DraftInstruction.TheOpen.{DraftInstruction-F}
use Rattle.psa_model.specs.declared.draft.DraftInstruction.TheVariants as instruction
use Rattle.psa_model.specs.declared.draft.DraftInstruction.TheFolds.{fold-roll-DraftInstruction}
use Rattle.psa_model.specs.declared.draft.DraftForkPath.{DraftForkPath}
use Rattle.psa_model.specs.declared.draft.DraftBranchEnd.TheOpen.{DraftBranchEnd-F}
use Rattle.psa_model.specs.declared.draft.DraftBranchEnd.TheViews.{out-DraftBranchEnd, out-roll-DraftBranchEnd}
use Rattle.psa_model.specs.declared.draft.DraftBranchEnd.TheVariants as end
use Rattle.psa_model.specs.Formulas.{has_arity}
use Rattle.psa_model.specs.Values.{has_operands}
use Rattle.psa_model.specs.Drafts.{Contents, element, collecting, formula_step, formula_contents, expression_step, expression_contents, test_contents_step, test_contents, instruction_step, instruction_contents}

-- ---- formulas

pub formula-event : (its : EventKind) (name : DraftReference)
    → formula_contents (formula.Event its name) ≡ element true (Some name) []
formula-event its name =
    ap formula_contents (sym (formula.rolls-Event its name)) ∙ fold-roll-DraftFormula Contents formula_step
    (DraftFormula-F.Event its name)

pub formula-constant : (state : Bool) → formula_contents (formula.Constant state) ≡ element true None []
formula-constant state =
    ap formula_contents (sym (formula.rolls-Constant state)) ∙ fold-roll-DraftFormula Contents formula_step
    (DraftFormula-F.Constant state)

pub formula-connective : (operator : Connective) (least most : ℕ) (arguments : List DraftFormula)
    → formula_contents (formula.Connective operator least most arguments)
    ≡ element (has_arity operator least most (length (map formula_contents arguments))) None
    (map formula_contents arguments)
formula-connective operator least most arguments =
    ap formula_contents (sym (formula.rolls-Connective operator least most arguments))
    ∙ fold-roll-DraftFormula Contents formula_step (DraftFormula-F.Connective operator least most arguments)

pub out-event : (its : EventKind) (name : DraftReference)
    → out-DraftFormula (formula.Event its name) ≡ DraftFormula-F.Event its name
out-event its name =
    ap out-DraftFormula (sym (formula.rolls-Event its name)) ∙ out-roll-DraftFormula (DraftFormula-F.Event its name)

pub out-constant : (state : Bool) → out-DraftFormula (formula.Constant state) ≡ DraftFormula-F.Constant state
out-constant state =
    ap out-DraftFormula (sym (formula.rolls-Constant state)) ∙ out-roll-DraftFormula (DraftFormula-F.Constant state)

pub out-connective : (operator : Connective) (least most : ℕ) (arguments : List DraftFormula)
    → out-DraftFormula (formula.Connective operator least most arguments)
    ≡ DraftFormula-F.Connective operator least most arguments
out-connective operator least most arguments =
    ap out-DraftFormula (sym (formula.rolls-Connective operator least most arguments))
    ∙ out-roll-DraftFormula (DraftFormula-F.Connective operator least most arguments)

-- what stands in a formula, by how it opens
pub formula-opened : (f : DraftFormula)
    → formula_contents f ≡ formula_step (map-DraftFormula DraftFormula Contents formula_contents (out-DraftFormula f))
formula-opened f = fold_out-DraftFormula Contents formula_step f

-- ---- expressions

pub expression-number : (decimal : Scaled) → expression_contents (expression.Number decimal) ≡ element true None []
expression-number decimal =
    ap expression_contents (sym (expression.rolls-Number decimal)) ∙ fold-roll-DraftExpression Contents expression_step
    (DraftExpression-F.Number decimal)

pub expression-parameter : (name : DraftReference)
    → expression_contents (expression.Parameter name) ≡ element true (Some name) []
expression-parameter name =
    ap expression_contents (sym (expression.rolls-Parameter name)) ∙ fold-roll-DraftExpression Contents expression_step
    (DraftExpression-F.Parameter name)

pub expression-time : expression_contents expression.MissionTime ≡ element true None []
expression-time =
    ap expression_contents (sym expression.rolls-MissionTime)
    ∙ fold-roll-DraftExpression Contents expression_step DraftExpression-F.MissionTime

pub expression-operation : (operator : ExpressionOperator) (arguments : List DraftExpression)
    → expression_contents (expression.Operation operator arguments)
    ≡ element (has_operands operator (length (map expression_contents arguments))) None
    (map expression_contents arguments)
expression-operation operator arguments =
    ap expression_contents (sym (expression.rolls-Operation operator arguments))
    ∙ fold-roll-DraftExpression Contents expression_step (DraftExpression-F.Operation operator arguments)

-- ---- tests

pub test-initiating : (name : DraftReference) → test_contents (test.Initiating name) ≡ element true (Some name) []
test-initiating name =
    ap test_contents (sym (test.rolls-Initiating name)) ∙ fold-roll-DraftTest Contents test_contents_step
    (DraftTest-F.Initiating name)

pub test-functional : (name : DraftReference) (state : Text)
    → test_contents (test.Functional name state) ≡ element true (Some name) []
test-functional name state =
    ap test_contents (sym (test.rolls-Functional name state)) ∙ fold-roll-DraftTest Contents test_contents_step
    (DraftTest-F.Functional name state)

pub test-all : (tests : List DraftTest)
    → test_contents (test.All tests) ≡ element (nat_le 1 (length (map test_contents tests))) None
    (map test_contents tests)
test-all tests = ap test_contents (sym (test.rolls-All tests)) ∙ fold-roll-DraftTest Contents test_contents_step
    (DraftTest-F.All tests)

pub test-any : (tests : List DraftTest)
    → test_contents (test.Any tests) ≡ element (nat_le 1 (length (map test_contents tests))) None
    (map test_contents tests)
test-any tests = ap test_contents (sym (test.rolls-Any tests)) ∙ fold-roll-DraftTest Contents test_contents_step
    (DraftTest-F.Any tests)

pub test-not : (tests : List DraftTest)
    → test_contents (test.Not tests) ≡ element (length (map test_contents tests) == 1) None (map test_contents tests)
test-not tests = ap test_contents (sym (test.rolls-Not tests)) ∙ fold-roll-DraftTest Contents test_contents_step
    (DraftTest-F.Not tests)

-- ---- instructions

pub instruction-collect : (one : DraftFormula)
    → instruction_contents (instruction.Collect one) ≡ collecting (formula_contents one)
instruction-collect one =
    ap instruction_contents (sym (instruction.rolls-Collect one)) ∙ fold-roll-DraftInstruction Contents instruction_step
    (DraftInstruction-F.Collect one)

pub instruction-set : (name : DraftReference) (state : Bool)
    → instruction_contents (instruction.SetHouse name state) ≡ element true (Some name) []
instruction-set name state =
    ap instruction_contents (sym (instruction.rolls-SetHouse name state))
    ∙ fold-roll-DraftInstruction Contents instruction_step (DraftInstruction-F.SetHouse name state)

pub instruction-block : (inside : List DraftInstruction)
    → instruction_contents (instruction.Block inside) ≡ element true None (map instruction_contents inside)
instruction-block inside =
    ap instruction_contents (sym (instruction.rolls-Block inside))
    ∙ fold-roll-DraftInstruction Contents instruction_step (DraftInstruction-F.Block inside)

pub instruction-rule : (name : DraftReference)
    → instruction_contents (instruction.Rule name) ≡ element true (Some name) []
instruction-rule name =
    ap instruction_contents (sym (instruction.rolls-Rule name)) ∙ fold-roll-DraftInstruction Contents instruction_step
    (DraftInstruction-F.Rule name)

pub instruction-if : (condition : DraftTest) (first second : List DraftInstruction)
    → instruction_contents (instruction.If condition first second)
    ≡ element (length (map instruction_contents first) == 1 && nat_le (length (map instruction_contents second)) 1) None
    (test_contents condition ∷ map instruction_contents first ++ map instruction_contents second)
instruction-if condition first second =
    ap instruction_contents (sym (instruction.rolls-If condition first second))
    ∙ fold-roll-DraftInstruction Contents instruction_step (DraftInstruction-F.If condition first second)

-- ---- ends of branches

pub out-fork : (name : DraftReference) (paths : List DraftForkPath)
    → out-DraftBranchEnd (end.Fork name paths) ≡ DraftBranchEnd-F.Fork name paths
out-fork name paths =
    ap out-DraftBranchEnd (sym (end.rolls-Fork name paths)) ∙ out-roll-DraftBranchEnd (DraftBranchEnd-F.Fork name paths)

pub out-sequence : (name : DraftReference) → out-DraftBranchEnd (end.Sequence name) ≡ DraftBranchEnd-F.Sequence name
out-sequence name = ap out-DraftBranchEnd (sym (end.rolls-Sequence name)) ∙ out-roll-DraftBranchEnd
    (DraftBranchEnd-F.Sequence name)

pub out-branch : (name : DraftReference) → out-DraftBranchEnd (end.Branch name) ≡ DraftBranchEnd-F.Branch name
out-branch name = ap out-DraftBranchEnd (sym (end.rolls-Branch name)) ∙ out-roll-DraftBranchEnd
    (DraftBranchEnd-F.Branch name)
