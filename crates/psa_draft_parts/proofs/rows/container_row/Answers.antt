use Rattle.psa_elements.specs.ElementTable.{in_container}
use Rattle.psa_draft_parts.proofs.Readings.{none-of}
use Rattle.psa_draft_parts.proofs.rows.container_row.Goals as goal

pub returns-in_default : goal.returns-in_default
returns-in_default c = none-of c.args.tag.now in_container (assumption c.in_default)
