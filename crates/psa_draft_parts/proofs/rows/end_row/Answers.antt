use Rattle.psa_elements.specs.ElementTable.{ends}
use Rattle.psa_draft_parts.proofs.Readings.{none-of}
use Rattle.psa_draft_parts.proofs.rows.end_row.Goals as goal

pub returns-in_default : goal.returns-in_default
returns-in_default c = none-of c.args.tag.now ends (assumption c.in_default)
