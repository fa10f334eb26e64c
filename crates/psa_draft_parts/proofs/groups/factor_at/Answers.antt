use Rattle.std.proofs.Common.{Some, None, [], ◌∷◌, ap, sym, ◌∙◌}
use Rattle.psa_draft_parts.specs.Starts.{around_of}
use Rattle.psa_draft_parts.proofs.Readings.{among-known, one-row, no-row}
use Rattle.psa_elements.specs.ElementTable.{factor}
use Rattle.psa_elements.specs.DraftReading.{factors_of}
use Rattle.psa_draft_parts.proofs.Passing.{not-so, is-so}
use Rattle.psa_draft_parts.proofs.groups.factor_at.Goals as goal

pub returns-then-ne-clause-said : goal.returns-then-ne-clause-said
returns-then-ne-clause-said c =
    ap factors_of (sym (among-known (factor ∷ []) (around_of c.args.around.now) c.args.reader.now.number
    c.args.element.now c.as_str.result.now None c.as_str.ensures (no-row factor c.as_str.result.now (not-so
    c.ne.result _ c.ne.ensures c.if-ne.true))))

pub returns-clause-said : goal.returns-clause-said
returns-clause-said c =
    ap factors_of (c.in_ok-factor.ensures.said ∙ sym (among-known (factor ∷ []) (around_of c.args.around.now)
    c.args.reader.now.number c.args.element.now c.as_str.result.now (Some factor) c.as_str.ensures (one-row
    factor c.as_str.result.now (is-so c.ne.result _ c.ne.ensures c.if-ne.false))))
