-- Formulas, expressions and tests with each name replaced by the place of what it stands for. (This project's own.)
use Rattle.std.specs.Prelude.{false, Option, Some, None, slice_get, if◌then◌else◌}
use Rattle.psa_model.specs.declared.formula.Formula.{Formula}
use Rattle.psa_model.specs.declared.formula.Formula.TheVariants as formula
use Rattle.psa_model.specs.declared.expression.Expression.{Expression}
use Rattle.psa_model.specs.declared.expression.Expression.TheVariants as expression
use Rattle.psa_model.specs.declared.walks.Test.{Test}
use Rattle.psa_model.specs.declared.walks.Test.TheVariants as test
use Rattle.psa_model.specs.declared.draft.DefinitionKind.TheVariants as kind
use Rattle.psa_model.specs.declared.draft.DraftFormula.{DraftFormula}
use Rattle.psa_model.specs.declared.draft.DraftFormula.TheOpen.{DraftFormula-F}
use Rattle.psa_model.specs.declared.draft.DraftFormula.TheFolds.{fold-DraftFormula}
use Rattle.psa_model.specs.declared.draft.DraftExpression.{DraftExpression}
use Rattle.psa_model.specs.declared.draft.DraftExpression.TheOpen.{DraftExpression-F}
use Rattle.psa_model.specs.declared.draft.DraftExpression.TheFolds.{fold-DraftExpression}
use Rattle.psa_model.specs.declared.draft.DraftTest.{DraftTest}
use Rattle.psa_model.specs.declared.draft.DraftTest.TheOpen.{DraftTest-F}
use Rattle.psa_model.specs.declared.draft.DraftTest.TheFolds.{fold-DraftTest}
use Rattle.psa_names.specs.Outlines.{event, parameter, initiating_event, Entry, Entries}
use Rattle.psa_names.specs.Meanings.{Meaning, definition, of_group, meaning_of}
use Rattle.psa_names.specs.Ids.{is_kind, id_of, basic_id, referred_id}

-- the formula that is one event; what is said where nothing is meant does not matter
abbrev pub event_formula : Entries → Option Meaning → Formula
event_formula entries None = formula.Constant false
event_formula entries (Some (of_group name)) = formula.Basic (record { 0 = basic_id entries (of_group name) })
event_formula entries (Some (definition place)) = of_definition (slice_get entries place)
  where
    of_definition : Option Entry → Formula
    of_definition None = formula.Constant false
    of_definition (Some one) =
        if is_kind kind.Gate one then formula.Gate (record { 0 = id_of kind.Gate entries place })
        else if is_kind kind.HouseEvent one then formula.House (record { 0 = id_of kind.HouseEvent entries place })
        else formula.Basic (record { 0 = basic_id entries (definition place) })

-- one element of a formula with its name found, over its arguments
abbrev pub resolved_formula_layer : Entries → Entry → DraftFormula-F Formula → Formula
resolved_formula_layer entries from (DraftFormula-F.Event its name) =
    event_formula entries (meaning_of entries from (record { kind = event its; written = name }))
resolved_formula_layer entries from (DraftFormula-F.Constant state) = formula.Constant state
resolved_formula_layer entries from (DraftFormula-F.Connective operator least most arguments) =
    formula.Connective operator least most arguments

-- a formula in a definition
abbrev pub resolved_formula : Entries → Entry → DraftFormula → Formula
resolved_formula entries from = fold-DraftFormula Formula (resolved_formula_layer entries from)

-- one element of an expression with its name found, over its arguments
abbrev pub resolved_expression_layer : Entries → Entry → DraftExpression-F Expression → Expression
resolved_expression_layer entries from (DraftExpression-F.Number decimal) = expression.Number decimal
resolved_expression_layer entries from (DraftExpression-F.Parameter name) =
    expression.Parameter (record { 0 = referred_id kind.Parameter parameter entries from name })
resolved_expression_layer entries from DraftExpression-F.MissionTime = expression.MissionTime
resolved_expression_layer entries from (DraftExpression-F.Operation operator arguments) =
    expression.Operation operator arguments

-- an expression with its names found
abbrev pub resolved_expression : Entries → Entry → DraftExpression → Expression
resolved_expression entries from = fold-DraftExpression Expression (resolved_expression_layer entries from)

-- a functional event of a test stays a name
abbrev pub resolved_test_layer : Entries → Entry → DraftTest-F Test → Test
resolved_test_layer entries from (DraftTest-F.Initiating name) =
    test.Initiating (record { 0 = referred_id kind.InitiatingEvent initiating_event entries from name })
resolved_test_layer entries from (DraftTest-F.Functional name state) = test.Functional name.name state
resolved_test_layer entries from (DraftTest-F.All tests) = test.All tests
resolved_test_layer entries from (DraftTest-F.Any tests) = test.Any tests
resolved_test_layer entries from (DraftTest-F.Not tests) = test.Not tests

-- a test with its names found
abbrev pub resolved_test : Entries → Entry → DraftTest → Test
resolved_test entries from = fold-DraftTest Test (resolved_test_layer entries from)
