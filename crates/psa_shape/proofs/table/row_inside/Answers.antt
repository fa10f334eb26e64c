use Rattle.std.proofs.Common.{sym}
use Rattle.psa_shape.proofs.RowLemmas.{find-first}
use Rattle.psa_shape.proofs.table.row_inside.Goals as goal

pub returns-in-Some : goal.returns-in-Some
returns-in-Some c = sym (find-first c.args.tag.now _ _ _ (sym c.in-Some.ensures))
