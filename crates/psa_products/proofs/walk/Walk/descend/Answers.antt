use Rattle.std.proofs.Common.{◌≡◌, ℕ, arith, subst, ◌∙◌}
use Rattle.psa_nodes.specs.Readings.{has}
use Rattle.psa_nodes.specs.Sizes.{HasMember}
use Rattle.psa_products.proofs.StepLemmas.{ended}
use Rattle.psa_products.proofs.walk.Walk.descend.Goals as goal

pub returns-clause-end : goal.returns-clause-end
returns-clause-end g c =
    let w = c.loop-self.self in
    let one : w.at.0 ≡ 1 = c.loop-self-test.false in
    (one, ended w.table.now.nodes w.left (subst (λ i. HasMember (has w.table.now.nodes i) w.left) one c.loop-self.invariant.member))
