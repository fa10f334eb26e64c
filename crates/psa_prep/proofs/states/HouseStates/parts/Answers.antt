use Rattle.std.proofs.Common.{◌-◌, ◌∙◌, reverse, sym}
use Rattle.psa_prep.proofs.PlaceLemmas.{older_at-key}
use Rattle.psa_prep.proofs.StateLemmas.{parts-none, parts-some}
use Rattle.psa_prep.proofs.states.HouseStates.parts.Goals as goal

pub returns-then-number-eq0 : goal.returns-then-number-eq0
returns-then-number-eq0 c = parts-none (reverse c.args.self.now.changes.keys) c.args.number c.if-number-eq0.true

pub returns : goal.returns
returns c = parts-some (reverse c.args.self.now.changes.keys) c.args.number c.in-Some.parts.now c.requires.earlier c.if-number-eq0.false (older_at-key c.args.self.now.changes.keys (c.args.number - 1) ∙ sym c.in-Some.ensures.key)
