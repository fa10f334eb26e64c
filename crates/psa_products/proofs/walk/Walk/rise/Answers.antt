use Rattle.std.proofs.Common.{◌≡◌, sym, ◌∙◌, true≢false}
use Rattle.psa_products.proofs.MemberLemmas.{sized-empty}
use Rattle.psa_products.proofs.walk.Walk.rise.Goals as goal

pub step_up-requires-clause-none : goal.step_up-requires-clause-none
step_up-requires-clause-none g c =
    let w = c.loop-self.self in
    sized-empty w.table.now.nodes c.has_member.ensures.table.fit w.at.0 c.loop-self.invariant.walk.at w.left
    (λ m. true≢false (sym (c.has_member.ensures.member.1 m) ∙ c.loop-self-test.true))
