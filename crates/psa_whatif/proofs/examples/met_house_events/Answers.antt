use Rattle.std.proofs.Common.{refl}
use Rattle.psa_whatif.specs.Edits.{houses_in}
use Rattle.psa_model.proofs.Levels.{out-basic, out-connective, out-gate, out-house}
use Rattle.psa_whatif.proofs.examples.met_house_events.Goals as goal

pub returns-clause-met : goal.returns-clause-met
unfolding houses_in
returns-clause-met c state = simp (out-gate, out-connective, out-basic, out-house) refl

pub returns-clause-unmet : goal.returns-clause-unmet
unfolding houses_in
returns-clause-unmet c state = simp (out-gate, out-basic) refl
