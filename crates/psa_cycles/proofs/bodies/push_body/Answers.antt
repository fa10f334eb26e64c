use Rattle.std.proofs.Common.{arith}
use Rattle.psa_cycles.proofs.AddedElements.{on-ok}
use Rattle.psa_cycles.proofs.BodyForms.{steps-inside, steps-pushed}
use Rattle.psa_cycles.proofs.bodies.push_body.Goals as goal

pub push_instructions-requires : goal.push_instructions-requires
push_instructions-requires c =
    let inside = steps-inside c.args.body.now c.in-Steps.instructions c.as_slice.result.now c.in-Steps.link c.in-Steps.is c.as_slice.ensures in omega arith

pub returns-in_ok-push_instructions-in-Steps : goal.returns-in_ok-push_instructions-in-Steps
returns-in_ok-push_instructions-in-Steps c =
    on-ok c.push_link-in-Steps.result _ _
    (λ h. steps-pushed c.args.around c.args.body.now c.in-Steps.instructions c.as_slice.result.now c.in-Steps.link c.args.levels.now _ _ c.in-Steps.is c.as_slice.ensures c.in_ok-push_instructions-in-Steps.ensures h) c.push_link-in-Steps.ensures
