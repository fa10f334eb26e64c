use Rattle.std.proofs.Common.{◌≡◌, ◌++◌, Option, Some, None, [], ◌∷◌, ap, sym, ◌∙◌}
use Rattle.std.proofs.Common.{subst, append-nil}
use Rattle.std.specs.Option.{option_or, option_to_list}
use Rattle.psa_draft_parts.specs.Starts.{around_of}
use Rattle.psa_draft_parts.proofs.Readings.{among-first, among-others, one-row, no-row}
use Rattle.psa_elements.specs.ElementTable.{instructions, to_event_tree}
use Rattle.psa_elements.specs.DraftReading.{instruction_of, link_of}
use Rattle.psa_model.specs.declared.draft.DraftInstruction.{DraftInstruction}
use Rattle.psa_model.specs.declared.draft.DraftReference.{DraftReference}
use Rattle.psa_draft_parts.specs.Rows.{row_of_instruction}
use Rattle.psa_draft_parts.proofs.Passing.{always-ok, or-none, not-so, is-so}
use Rattle.psa_draft_parts.proofs.InstructionSayings as says
use Rattle.std.proofs.Common.{OnOk}
use Rattle.psa_drafts.proofs.bodies.steps_part.Goals as goal

pub returns-in-Some-clause-said : goal.returns-in-Some-clause-said
returns-in-Some-clause-said c =
    let P : Option DraftInstruction → Type 0 = λ (o : Option DraftInstruction). OnOk c.push_found.result
    (c.push_found.new.all ≡ c.args.instructions.now ++ option_to_list o) in
    subst P (c.in_ok-found.ensures.said ∙ sym (ap instruction_of (among-first instructions (to_event_tree ∷ [])
    (around_of c.args.around.now) c.args.reader.now.number c.args.element.now c.as_str-tag.result.now
    (row_of_instruction c.in-Some.row) c.as_str-tag.ensures c.in-Some.ensures))) c.push_found.ensures

pub returns-in-Some-clause-linked : goal.returns-in-Some-clause-linked
returns-in-Some-clause-linked c =
    always-ok c.push_found.result (sym (or-none c.args.link.now) ∙ ap (λ (o : Option DraftReference). option_or
    c.args.link.now o) (sym (ap link_of (among-first instructions (to_event_tree ∷ []) (around_of
    c.args.around.now) c.args.reader.now.number c.args.element.now c.as_str-tag.result.now
    (row_of_instruction c.in-Some.row) c.as_str-tag.ensures c.in-Some.ensures) ∙ says.no-link c.in-Some.row
    (around_of c.args.around.now) c.args.reader.now.number c.args.element.now)))

pub returns-then-ne-clause-said : goal.returns-then-ne-clause-said
returns-then-ne-clause-said c =
    sym (append-nil c.args.instructions.now) ∙ ap (λ (o : Option DraftInstruction). c.args.instructions.now ++
    option_to_list o) (sym (ap instruction_of (among-others instructions (to_event_tree ∷ []) (around_of
    c.args.around.now) c.args.reader.now.number c.args.element.now c.as_str-tag.result.now None
    c.as_str-tag.ensures c.in_default.ensures (no-row to_event_tree c.as_str-tag.result.now (not-so
    c.ne.result _ c.ne.ensures c.if-ne.true)))))

pub returns-then-ne-clause-linked : goal.returns-then-ne-clause-linked
returns-then-ne-clause-linked c =
    sym (or-none c.args.link.now) ∙ ap (λ (o : Option DraftReference). option_or c.args.link.now o) (sym (ap
    link_of (among-others instructions (to_event_tree ∷ []) (around_of c.args.around.now)
    c.args.reader.now.number c.args.element.now c.as_str-tag.result.now None c.as_str-tag.ensures
    c.in_default.ensures (no-row to_event_tree c.as_str-tag.result.now (not-so c.ne.result _ c.ne.ensures
    c.if-ne.true)))))

pub returns-clause-said : goal.returns-clause-said
returns-clause-said c =
    sym (append-nil c.args.instructions.now) ∙ ap (λ (o : Option DraftInstruction). c.args.instructions.now ++
    option_to_list o) (sym (ap instruction_of (among-others instructions (to_event_tree ∷ []) (around_of
    c.args.around.now) c.args.reader.now.number c.args.element.now c.as_str-tag.result.now (Some
    to_event_tree) c.as_str-tag.ensures c.in_default.ensures (one-row to_event_tree c.as_str-tag.result.now
    (is-so c.ne.result _ c.ne.ensures c.if-ne.false))) ∙ says.link-no-instruction (around_of
    c.args.around.now) c.args.reader.now.number c.args.element.now))

pub returns-clause-linked : goal.returns-clause-linked
returns-clause-linked c =
    c.keep_first.ensures ∙ ap (λ (r : DraftReference). option_or c.args.link.now (Some r)) c.in_ok-found-2.ensures
    ∙ ap (λ (o : Option DraftReference). option_or c.args.link.now o) (sym (ap link_of (among-others
    instructions (to_event_tree ∷ []) (around_of c.args.around.now) c.args.reader.now.number
    c.args.element.now c.as_str-tag.result.now (Some to_event_tree) c.as_str-tag.ensures
    c.in_default.ensures (one-row to_event_tree c.as_str-tag.result.now (is-so c.ne.result _ c.ne.ensures
    c.if-ne.false))) ∙ says.says-link (around_of c.args.around.now) c.args.reader.now.number
    c.args.element.now))
