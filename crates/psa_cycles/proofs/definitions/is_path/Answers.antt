use Rattle.std.proofs.Common.{◌∙◌, sym}
use Rattle.psa_cycles.proofs.BodyForms.{path-dot}
use Rattle.psa_cycles.proofs.definitions.is_path.Goals as goal

pub returns : goal.returns
returns c = c.contains.ensures.value ∙ sym (path-dot c.args.name.now)
