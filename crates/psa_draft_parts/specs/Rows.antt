-- The rows that the code tells apart in each place, as rows of the element table.
use Rattle.std.specs.Prelude.{List, [], ◌∷◌, ◌++◌, Bool, true, false}
use Rattle.psa_model.specs.declared.draft.EventKind.TheVariants as asked
use Rattle.psa_model.specs.declared.draft.DefinitionKind.{DefinitionKind}
use Rattle.psa_model.specs.declared.draft.DefinitionKind.TheVariants as kind
use Rattle.psa_elements.specs.ElementTable as table
use Rattle.psa_elements.specs.ElementTable.{Row}
use Rattle.psa_draft_parts.specs.declared.rows.FormulaRow.{FormulaRow}
use Rattle.psa_draft_parts.specs.declared.rows.FormulaRow.TheVariants as formula
use Rattle.psa_draft_parts.specs.declared.rows.ExpressionRow.{ExpressionRow}
use Rattle.psa_draft_parts.specs.declared.rows.ExpressionRow.TheVariants as expression
use Rattle.psa_draft_parts.specs.declared.rows.TestRow.{TestRow}
use Rattle.psa_draft_parts.specs.declared.rows.TestRow.TheVariants as test
use Rattle.psa_draft_parts.specs.declared.rows.InstructionRow.{InstructionRow}
use Rattle.psa_draft_parts.specs.declared.rows.InstructionRow.TheVariants as instruction
use Rattle.psa_draft_parts.specs.declared.rows.EndRow.{EndRow}
use Rattle.psa_draft_parts.specs.declared.rows.EndRow.TheVariants as ends
use Rattle.psa_draft_parts.specs.declared.rows.GroupRow.{GroupRow}
use Rattle.psa_draft_parts.specs.declared.rows.GroupRow.TheVariants as group
use Rattle.psa_draft_parts.specs.declared.rows.PlainRow.{PlainRow}
use Rattle.psa_draft_parts.specs.declared.rows.PlainRow.TheVariants as plain
use Rattle.psa_draft_parts.specs.declared.rows.DefinitionRow.{DefinitionRow}
use Rattle.psa_draft_parts.specs.declared.rows.DefinitionRow.TheVariants as definition
use Rattle.psa_draft_parts.specs.declared.rows.Inside.{Inside}
use Rattle.psa_draft_parts.specs.declared.rows.Inside.TheVariants as inside

abbrev pub row_of_formula : FormulaRow → Row
row_of_formula (formula.Event asked.Gate) = table.gate
row_of_formula (formula.Event asked.Basic) = table.basic_event
row_of_formula (formula.Event asked.House) = table.house_event
row_of_formula (formula.Event asked.Any) = table.event
row_of_formula formula.Constant = table.constant
row_of_formula (formula.Connective operator) = table.connective operator

abbrev pub row_of_expression : ExpressionRow → Row
row_of_expression expression.Float = table.float
row_of_expression expression.Int = table.int
row_of_expression expression.Parameter = table.parameter
row_of_expression expression.MissionTime = table.mission_time
row_of_expression (expression.Operation operator) = table.operator operator

abbrev pub row_of_test : TestRow → Row
row_of_test test.Initiating = table.test_initiating_event
row_of_test test.Functional = table.test_functional_event
row_of_test test.All = table.all_tests
row_of_test test.Any = table.any_test
row_of_test test.Not = table.not_test

abbrev pub row_of_instruction : InstructionRow → Row
row_of_instruction instruction.Collect = table.collect_formula
row_of_instruction instruction.SetHouse = table.set_house_event
row_of_instruction instruction.Block = table.block
row_of_instruction instruction.Rule = table.rule
row_of_instruction instruction.If = table.if_instruction

abbrev pub row_of_end : EndRow → Row
row_of_end ends.Fork = table.fork
row_of_end ends.Sequence = table.to_sequence
row_of_end ends.Branch = table.to_branch

abbrev pub row_of_group : GroupRow → Row
row_of_group group.Members = table.members
row_of_group group.Distribution = table.distribution
row_of_group group.Factor = table.factor
row_of_group group.Factors = table.factors

abbrev pub row_of_plain : PlainRow → Row
row_of_plain plain.Gate = table.define_gate
row_of_plain plain.BasicEvent = table.define_basic_event
row_of_plain plain.HouseEvent = table.define_house_event
row_of_plain plain.Parameter = table.define_parameter
row_of_plain plain.PublicBasicEvent = table.public_basic_event
row_of_plain plain.PublicHouseEvent = table.public_house_event
row_of_plain plain.PublicParameter = table.public_parameter
row_of_plain plain.Group = table.define_group
row_of_plain plain.InitiatingEvent = table.define_initiating_event
row_of_plain plain.FunctionalEvent = table.define_functional_event
row_of_plain plain.Sequence = table.define_sequence
row_of_plain plain.Branch = table.define_branch
row_of_plain plain.Rule = table.define_rule

abbrev pub row_of_definition : DefinitionRow → Row
row_of_definition (definition.Plain row) = row_of_plain row
row_of_definition definition.FaultTree = table.define_fault_tree
row_of_definition definition.Component = table.define_component
row_of_definition definition.ModelData = table.model_data
row_of_definition definition.EventTree = table.define_event_tree

abbrev pub model_data_rows : List Row
model_data_rows = table.public_basic_event ∷ table.public_house_event ∷ table.public_parameter ∷ []

-- the definitions that stand in each place
abbrev pub rows_of : Inside → List Row
rows_of inside.Root = table.in_root
rows_of inside.Container = table.in_container
rows_of inside.ModelData = model_data_rows

-- the kind of a definition
abbrev pub kind_of : PlainRow → DefinitionKind
kind_of plain.Gate = kind.Gate
kind_of plain.BasicEvent = kind.BasicEvent
kind_of plain.HouseEvent = kind.HouseEvent
kind_of plain.Parameter = kind.Parameter
kind_of plain.PublicBasicEvent = kind.BasicEvent
kind_of plain.PublicHouseEvent = kind.HouseEvent
kind_of plain.PublicParameter = kind.Parameter
kind_of plain.Group = kind.Group
kind_of plain.InitiatingEvent = kind.InitiatingEvent
kind_of plain.FunctionalEvent = kind.FunctionalEvent
kind_of plain.Sequence = kind.Sequence
kind_of plain.Branch = kind.Branch
kind_of plain.Rule = kind.Rule

-- whether a role or the component around it makes a definition private
abbrev pub may_be_private : PlainRow → Bool
may_be_private plain.Gate = true
may_be_private plain.BasicEvent = true
may_be_private plain.HouseEvent = true
may_be_private plain.Parameter = true
may_be_private plain.Group = true
may_be_private _ = false

-- what stands in a common cause group
abbrev pub group_rows : List Row
group_rows = table.members ∷ table.distribution ∷ table.factor ∷ table.factors ∷ []

-- what stands in an event tree
abbrev pub event_tree_rows : List Row
event_tree_rows = table.in_event_tree ++ table.initial_state ∷ []
