use Rattle.std.proofs.Common.{◌≡◌, ◌++◌, List, flat_map, ap, ◌∙◌}
use Rattle.psa_model.specs.declared.draft.DraftInstruction.{DraftInstruction}
use Rattle.psa_model.specs.declared.draft.DraftBody.{DraftBody}
use Rattle.psa_names.specs.Chains.{references_in}
use Rattle.psa_names.specs.Outlines.{Reference, body_outlines, instruction_outline, link_outlines}
use Rattle.psa_lookup.specs.Asking.{asked_references}
use Rattle.psa_lookup.proofs.StateLemmas.{on-ok}
use Rattle.psa_lookup.proofs.AskedLemmas.{two-added, steps-references}
use Rattle.psa_lookup.proofs.bodies.push_body.Goals as goal

pub returns-in_ok-push_instructions-in-Steps : goal.returns-in_ok-push_instructions-in-Steps
returns-in_ok-push_instructions-in-Steps c =
    let its : List DraftInstruction → List Reference = λ all. flat_map (λ one. references_in (instruction_outline one)) all in
    on-ok c.push_link-in-Steps.result
    (λ (made : asked_references c.push_link-in-Steps.new.asked.items ≡ asked_references c.push_instructions.new.asked.items ++ flat_map references_in (link_outlines c.in-Steps.link)).
    two-added (asked_references c.args.asked.now.items) (asked_references c.push_instructions.new.asked.items) (asked_references c.push_link-in-Steps.new.asked.items)
    (its c.in-Steps.instructions) (flat_map references_in (link_outlines c.in-Steps.link)) (flat_map references_in (body_outlines c.args.body.now))
    (c.in_ok-push_instructions-in-Steps.ensures ∙ ap (λ all. asked_references c.args.asked.now.items ++ its all) c.as_slice.ensures) made
    (ap (λ (b : DraftBody). flat_map references_in (body_outlines b)) c.in-Steps.is ∙ steps-references c.in-Steps.instructions c.in-Steps.link))
    c.push_link-in-Steps.ensures
