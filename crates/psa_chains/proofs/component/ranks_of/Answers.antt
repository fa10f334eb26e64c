use Rattle.std.proofs.Common.{inl, inr}
use Rattle.psa_chains.proofs.Marks.{new-closed, open-closed}
use Rattle.psa_chains.proofs.component.ranks_of.Goals as goal

pub unreachable-requires : goal.unreachable-requires
unreachable-requires c =
    let is = c.requires c.loop-mark.mark-index c.loop-mark-test.true in
    elim c.in-New.is [
      | inl new ↦ new-closed _ _ new is.1
      | inr at ↦ open-closed _ _ _ at.1 is.1
    ]
