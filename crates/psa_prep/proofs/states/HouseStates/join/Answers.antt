use Rattle.std.proofs.Common.{◌∙◌, reverse, sym}
use Rattle.psa_prep.proofs.PlaceLemmas.{if-ok}
use Rattle.psa_prep.proofs.StateLemmas.{joined-none, joined-made}
use Rattle.psa_prep.proofs.states.HouseStates.join.Goals as goal

pub returns-then-is_empty : goal.returns-then-is_empty
returns-then-is_empty c = joined-none (reverse c.args.self.now.changes.keys) c.args.parts c.requires.shared (sym c.is_empty.ensures ∙ c.if-is_empty.true)

pub returns-else-is_empty : goal.returns-else-is_empty
returns-else-is_empty c =
    if-ok c.add.result _ _
    (λ number made. joined-made (reverse c.args.self.now.changes.keys) (reverse c.add.new.changes.keys) c.args.parts number c.requires.shared c.requires.left c.requires.right (sym c.is_empty.ensures ∙ c.if-is_empty.false) made) c.add.ensures
