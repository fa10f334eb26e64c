use Rattle.std.proofs.Common.{sym}
use Rattle.psa_shape.specs.TableRows.{rows_of}
use Rattle.psa_shape.specs.declared.rows.Rows.TheVariants.{InEventTree}
use Rattle.psa_shape.proofs.RowLemmas.{find-none}
use Rattle.psa_shape.proofs.rows.event_tree_row.Goals as goal

pub returns-in_default : goal.returns-in_default
returns-in_default c = sym (find-none c.args.tag.now (rows_of InEventTree) (assumption c.in_default))
