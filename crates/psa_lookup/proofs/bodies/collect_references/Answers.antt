use Rattle.std.proofs.Common.{◌≡◌, ◌++◌, List, flat_map, sym, ap, ◌∙◌}
use Rattle.psa_model.specs.declared.draft.DraftReference.{DraftReference}
use Rattle.psa_names.specs.Chains.{references_in}
use Rattle.psa_names.specs.Meanings.{members_of}
use Rattle.psa_names.specs.Outlines.{Reference, body_outlines}
use Rattle.psa_lookup.specs.declared.asked.Asked.{Asked}
use Rattle.psa_lookup.specs.Asking.{asked_references, member_references}
use Rattle.psa_lookup.proofs.StateLemmas.{on-ok}
use Rattle.psa_lookup.proofs.AskedLemmas.{outline-references}
use Rattle.psa_lookup.proofs.bodies.collect_references.Goals as goal

pub returns : goal.returns
returns c =
    let one = c.args.definition.now in
    let members : asked_references c.push_members.new.asked.items ≡ member_references (members_of one.body) =
    c.in_ok-push_members.ensures
    ∙ ap (λ (l : List Asked). asked_references l ++ member_references c.group_members.result.now) c.clear.ensures.items
    ∙ ap (λ (l : List DraftReference). member_references l) c.group_members.ensures in
    on-ok c.push_body.result
    (λ (made : asked_references c.push_body.new.asked.items ≡ asked_references c.push_members.new.asked.items ++ flat_map references_in (body_outlines one.body)).
    made
    ∙ ap (λ (l : List Reference). l ++ flat_map references_in (body_outlines one.body)) members
    ∙ ap (λ (l : List Reference). member_references (members_of one.body) ++ l) (sym (outline-references one)))
    c.push_body.ensures
