use Rattle.psa_elements.specs.ElementTable.{in_event_tree}
use Rattle.psa_draft_parts.proofs.Readings.{none-of}
use Rattle.psa_draft_parts.proofs.rows.event_tree_row.Goals as goal

pub returns-in_default : goal.returns-in_default
returns-in_default c = none-of c.args.tag.now in_event_tree (assumption c.in_default)
