use Rattle.std.proofs.Common.{[], ◌∷◌, ap, ◌∙◌}
use Rattle.psa_draft_parts.specs.Starts.{around_of}
use Rattle.psa_model.specs.declared.draft.DraftReference.{DraftReference}
use Rattle.psa_draft_parts.proofs.Passing.{not-so, is-so}
use Rattle.psa_draft_parts.proofs.GroupSayings as says
use Rattle.psa_draft_parts.proofs.groups.member.Goals as goal

pub returns-then-ne-clause-said : goal.returns-then-ne-clause-said
returns-then-ne-clause-said c =
    says.no-member (around_of c.args.around.now) c.args.reader.now.number c.args.element.now c.as_str.result.now
    c.as_str.ensures (not-so c.ne.result _ c.ne.ensures c.if-ne.true)

pub returns-clause-said : goal.returns-clause-said
returns-clause-said c =
    ap (λ (r : DraftReference). r ∷ []) c.in_ok-reference.ensures ∙ says.says-member (around_of c.args.around.now)
    c.args.reader.now.number c.args.element.now c.as_str.result.now c.as_str.ensures (is-so c.ne.result _
    c.ne.ensures c.if-ne.false)
