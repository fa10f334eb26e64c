use Rattle.std.proofs.Common.{ap, ◌∙◌}
use Rattle.psa_expr.specs.Answers.{recorded}
use Rattle.psa_expr.proofs.Known.{none-pushed}
use Rattle.psa_expr.proofs.parameters.unknown.Goals as goal

pub loop-preserved : goal.loop-preserved
loop-preserved c = λ place. ap (λ known. recorded known place) c.in_ok-push.ensures.ok ∙ none-pushed c.loop.known place (c.loop.invariant place)
