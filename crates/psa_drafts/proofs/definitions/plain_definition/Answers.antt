use Rattle.psa_draft_parts.specs.Starts.{around_of}
use Rattle.psa_drafts.proofs.DefinitionSayings as says
use Rattle.psa_drafts.proofs.definitions.plain_definition.Goals as goal

pub returns-clause-said : goal.returns-clause-said
returns-clause-said c =
    says.plain-said c.args.row (around_of c.args.around.now) c.args.reader.now.number c.args.element.now
    c.kind_of.result c.in_ok-body.body c.private_by-private.result c.define.result c.kind_of.ensures
    c.in_ok-body.ensures.said c.private_by-private.ensures c.define.ensures
