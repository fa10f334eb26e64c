-- What the definitions say that no definition stands in: the lines of the third table, by the kind of row.
use Rattle.std.specs.Prelude.{List, [], ◌∷◌, ◌++◌, None, slice_get}
use Rattle.std.specs.List.{filter_map}
use Rattle.psa_model.specs.declared.draft.DraftBody.{DraftBody}
use Rattle.psa_model.specs.declared.draft.DraftBody.TheVariants as body
use Rattle.psa_elements.specs.DraftReading.{StartTag, Reading, formula_in, value_body, state_in, group_in, event_tree_of, instructions_in, link_of, branch_in}
use Rattle.psa_elements.specs.ElementTable.{Row, formulas, expressions, constant, instructions, to_event_tree, ends}
use Rattle.psa_draft_parts.specs.declared.rows.PlainRow.{PlainRow}
use Rattle.psa_draft_parts.specs.declared.rows.PlainRow.TheVariants as plain
use Rattle.psa_draft_parts.specs.Rows.{group_rows}

-- what stands in such a definition, but for labels
abbrev pub rows_in : PlainRow → List Row
rows_in plain.Gate = formulas
rows_in plain.BasicEvent = expressions
rows_in plain.HouseEvent = constant ∷ []
rows_in plain.Parameter = expressions
rows_in plain.PublicBasicEvent = expressions
rows_in plain.PublicHouseEvent = constant ∷ []
rows_in plain.PublicParameter = expressions
rows_in plain.Group = group_rows
rows_in plain.InitiatingEvent = []
rows_in plain.FunctionalEvent = []
rows_in plain.Sequence = instructions ++ to_event_tree ∷ []
rows_in plain.Branch = instructions ++ ends
rows_in plain.Rule = instructions

abbrev pub body_of : PlainRow → StartTag → List Reading → DraftBody
body_of plain.Gate start inside = body.Formula (formula_in inside)
body_of plain.BasicEvent start inside = value_body inside
body_of plain.HouseEvent start inside = body.State (state_in inside)
body_of plain.Parameter start inside = value_body inside
body_of plain.PublicBasicEvent start inside = value_body inside
body_of plain.PublicHouseEvent start inside = body.State (state_in inside)
body_of plain.PublicParameter start inside = value_body inside
body_of plain.Group start inside = body.Group (group_in start inside)
body_of plain.InitiatingEvent start inside = body.Start (event_tree_of start)
body_of plain.FunctionalEvent start inside = body.Nothing
body_of plain.Sequence start inside = body.Steps (instructions_in inside) (slice_get (filter_map link_of inside) 0)
body_of plain.Branch start inside = body.Walk (branch_in start inside)
body_of plain.Rule start inside = body.Steps (instructions_in inside) None
