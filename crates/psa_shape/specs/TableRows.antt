-- The rows of the code as rows of the element table.
use Rattle.std.specs.Prelude.{List, [], ◌∷◌}
use Rattle.psa_elements.specs.ElementTable as definition
use Rattle.psa_shape.specs.declared.rows.Row.{Row}
use Rattle.psa_shape.specs.declared.rows.Row.TheVariants as row
use Rattle.psa_shape.specs.declared.rows.Rows.{Rows}
use Rattle.psa_shape.specs.declared.rows.Rows.TheVariants as rows

abbrev pub row_of : Row → definition.Row
row_of row.OpsaMef = definition.opsa_mef
row_of row.Label = definition.label
row_of row.Attributes = definition.attributes
row_of row.Attribute = definition.attribute
row_of row.DefineFaultTree = definition.define_fault_tree
row_of row.DefineComponent = definition.define_component
row_of row.ModelData = definition.model_data
row_of row.DefineGate = definition.define_gate
row_of row.DefineBasicEvent = definition.define_basic_event
row_of row.DefineHouseEvent = definition.define_house_event
row_of row.DefineParameter = definition.define_parameter
row_of row.PublicBasicEvent = definition.public_basic_event
row_of row.PublicHouseEvent = definition.public_house_event
row_of row.PublicParameter = definition.public_parameter
row_of row.DefineGroup = definition.define_group
row_of row.Members = definition.members
row_of row.Distribution = definition.distribution
row_of row.Factors = definition.factors
row_of row.Factor = definition.factor
row_of row.DefineInitiatingEvent = definition.define_initiating_event
row_of row.DefineEventTree = definition.define_event_tree
row_of row.DefineFunctionalEvent = definition.define_functional_event
row_of row.DefineSequence = definition.define_sequence
row_of row.DefineBranch = definition.define_branch
row_of row.DefineRule = definition.define_rule
row_of row.InitialState = definition.initial_state
row_of row.Fork = definition.fork
row_of row.Path = definition.path
row_of row.ToSequence = definition.to_sequence
row_of row.ToBranch = definition.to_branch
row_of row.ToEventTree = definition.to_event_tree
row_of row.CollectFormula = definition.collect_formula
row_of row.SetHouseEvent = definition.set_house_event
row_of row.Block = definition.block
row_of row.Rule = definition.rule
row_of row.IfInstruction = definition.if_instruction
row_of row.TestInitiatingEvent = definition.test_initiating_event
row_of row.TestFunctionalEvent = definition.test_functional_event
row_of row.AllTests = definition.all_tests
row_of row.AnyTest = definition.any_test
row_of row.NotTest = definition.not_test
row_of row.Gate = definition.gate
row_of row.BasicEvent = definition.basic_event
row_of row.HouseEvent = definition.house_event
row_of row.Event = definition.event
row_of row.Constant = definition.constant
row_of (row.Connective c) = definition.connective c
row_of row.Float = definition.float
row_of row.Int = definition.int
row_of row.Parameter = definition.parameter
row_of row.MissionTime = definition.mission_time
row_of (row.Operator o) = definition.operator o

-- the rows that each place among children has
abbrev pub rows_of : Rows → List definition.Row
rows_of rows.Labels = definition.label_rows
rows_of rows.InRoot = definition.in_root
rows_of rows.InContainer = definition.in_container
rows_of rows.InModelData =
    definition.public_basic_event ∷ definition.public_house_event ∷ definition.public_parameter ∷ []
rows_of rows.InEventTree = definition.in_event_tree
rows_of rows.Formulas = definition.formulas
rows_of rows.Expressions = definition.expressions
rows_of rows.Instructions = definition.instructions
rows_of rows.Tests = definition.tests
rows_of rows.Ends = definition.ends
rows_of rows.AnyFactors = definition.factor ∷ definition.factors ∷ []
rows_of rows.Factor = definition.factor ∷ []
rows_of rows.Members = definition.members ∷ []
rows_of rows.Distribution = definition.distribution ∷ []
rows_of rows.BasicEvent = definition.basic_event ∷ []
rows_of rows.Constant = definition.constant ∷ []
rows_of rows.InitialState = definition.initial_state ∷ []
rows_of rows.ToEventTree = definition.to_event_tree ∷ []
rows_of rows.Path = definition.path ∷ []
rows_of rows.Attribute = definition.attribute ∷ []
