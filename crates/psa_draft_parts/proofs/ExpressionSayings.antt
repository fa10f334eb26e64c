-- What the elements of an expression say, row by row.
use Rattle.std.proofs.Common.{◌≡◌, ℕ, Some, refl, ap, ◌∙◌}
use Rattle.psa_text.specs.declared.tree.Element.{Element}
use Rattle.psa_model.specs.declared.expression.ExpressionOperator.{ExpressionOperator}
use Rattle.psa_model.specs.declared.expression.ExpressionOperator.TheVariants as operation
use Rattle.psa_model.specs.declared.draft.DraftExpression.TheVariants as expression
use Rattle.psa_elements.specs.ElementTable as table
use Rattle.psa_elements.specs.ElementTable.{Row, rows_inside, expressions}
use Rattle.psa_elements.specs.DraftReading.{Surroundings, expression_of, expressions_in, decimal_in, reference}
use Rattle.psa_draft_parts.specs.Sayings.{start_tag, reading_as, inside_among}
use Rattle.psa_draft_parts.proofs.Readings.{reading-as}

rows-operator : (operator : ExpressionOperator) → rows_inside (table.operator operator) ≡ expressions
rows-operator operation.Neg = refl
rows-operator operation.Add = refl
rows-operator operation.Sub = refl
rows-operator operation.Mul = refl
rows-operator operation.Div = refl
rows-operator operation.Exponential = refl

-- what an element of this row says: operation
pub says-operation : (operator : ExpressionOperator) (around : Surroundings) (n : ℕ) (e : Element)
    → expression_of (reading_as (table.operator operator) around n e) ≡ Some (expression.Operation operator
    (expressions_in (inside_among expressions around n e)))
says-operation operator around n e =
    ap expression_of (reading-as (table.operator operator) around n e)
    ∙ ap (λ rows. Some (expression.Operation operator (expressions_in (inside_among rows around n e))))
    (rows-operator operator)

-- what an element of this row says: float
pub says-float : (around : Surroundings) (n : ℕ) (e : Element) → expression_of (reading_as table.float around n e)
    ≡ Some (expression.Number (decimal_in (start_tag around n e)))
says-float around n e = ap expression_of (reading-as table.float around n e)

-- what an element of this row says: int
pub says-int : (around : Surroundings) (n : ℕ) (e : Element) → expression_of (reading_as table.int around n e) ≡
    Some (expression.Number (decimal_in (start_tag around n e)))
says-int around n e = ap expression_of (reading-as table.int around n e)

-- what an element of this row says: parameter
pub says-parameter : (around : Surroundings) (n : ℕ) (e : Element) → expression_of (reading_as table.parameter
    around n e) ≡ Some (expression.Parameter (reference (start_tag around n e)))
says-parameter around n e = ap expression_of (reading-as table.parameter around n e)

-- what an element of this row says: mission time
pub says-mission_time : (around : Surroundings) (n : ℕ) (e : Element) → expression_of (reading_as
    table.mission_time around n e) ≡ Some expression.MissionTime
says-mission_time around n e = ap expression_of (reading-as table.mission_time around n e)
