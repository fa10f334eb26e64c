use Rattle.psa_assembly.proofs.Marks.{get-none}
use Rattle.psa_assembly.proofs.values.is_marked.Goals as goal

pub returns-in-None : goal.returns-in-None
returns-in-None c = get-none c.args.marks.now c.args.id c.in-None.ensures
