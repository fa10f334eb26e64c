use Rattle.psa_draft_parts.specs.Rows.{group_rows}
use Rattle.psa_draft_parts.proofs.Readings.{none-of}
use Rattle.psa_draft_parts.proofs.rows.group_row.Goals as goal

pub returns-in_default : goal.returns-in_default
returns-in_default c = none-of c.args.tag.now group_rows (assumption c.in_default)
