use Rattle.std.proofs.Common.{◌≡◌, ◌++◌, Option, Some, None, List, [], ◌∷◌, ap, sym, ◌∙◌}
use Rattle.std.proofs.Common.{subst, append-nil}
use Rattle.std.specs.Option.{option_or}
use Rattle.psa_draft_parts.specs.Starts.{around_of}
use Rattle.psa_draft_parts.proofs.Readings.{among-first, among-others, one-row, no-row}
use Rattle.std.proofs.Common.{OnOk}
use Rattle.psa_elements.specs.ElementTable.{in_event_tree, initial_state}
use Rattle.psa_elements.specs.DraftReading.{Reading, definitions_of, initial_state_of}
use Rattle.psa_model.specs.declared.draft.DraftDefinition.{DraftDefinition}
use Rattle.psa_model.specs.declared.draft.DraftBranch.{DraftBranch}
use Rattle.psa_draft_parts.specs.Rows.{row_of_plain}
use Rattle.psa_draft_parts.proofs.Passing.{always-ok, or-none}
use Rattle.psa_drafts.proofs.DefinitionSayings as says
use Rattle.psa_drafts.proofs.definitions.event_tree_part.Goals as goal

pub returns-in-Some-clause-said : goal.returns-in-Some-clause-said
returns-in-Some-clause-said c =
    let P : List DraftDefinition → Type 0 = λ (ds : List DraftDefinition). OnOk c.push.result (c.push.new.self ≡
    c.args.inside.now ++ ds) in
    subst P (ap definitions_of (c.in_ok-found.ensures.said ∙ sym (among-first in_event_tree (initial_state ∷ [])
    (around_of c.args.around.now) c.args.reader.now.number c.args.element.now c.as_str-tag.result.now
    (row_of_plain c.in-Some.row) c.as_str-tag.ensures c.in-Some.ensures))) c.push.ensures.ok

pub returns-in-Some-clause-started : goal.returns-in-Some-clause-started
returns-in-Some-clause-started c =
    always-ok c.push.result (sym (or-none c.args.state.now) ∙ ap (λ (o : Option DraftBranch). option_or
    c.args.state.now o) (sym (ap initial_state_of (among-first in_event_tree (initial_state ∷ [])
    (around_of c.args.around.now) c.args.reader.now.number c.args.element.now c.as_str-tag.result.now
    (row_of_plain c.in-Some.row) c.as_str-tag.ensures c.in-Some.ensures) ∙ (says.silent-row c.in-Some.row
    (around_of c.args.around.now) c.args.reader.now.number c.args.element.now).2)))

pub returns-then-eq-clause-said : goal.returns-then-eq-clause-said
returns-then-eq-clause-said c =
    sym (append-nil c.args.inside.now) ∙ ap (λ (r : Reading). c.args.inside.now ++ definitions_of r) (sym
    (among-others in_event_tree (initial_state ∷ []) (around_of c.args.around.now) c.args.reader.now.number
    c.args.element.now c.as_str-tag.result.now (Some initial_state) c.as_str-tag.ensures
    c.in_default.ensures (one-row initial_state c.as_str-tag.result.now (sym c.eq.ensures ∙ c.if-eq.true))
    ∙ says.says-initial (around_of c.args.around.now) c.args.reader.now.number c.args.element.now))

pub returns-then-eq-clause-started : goal.returns-then-eq-clause-started
returns-then-eq-clause-started c =
    c.keep_first.ensures ∙ ap (λ (b : DraftBranch). option_or c.args.state.now (Some b))
    c.in_ok-found-2.ensures.said ∙ ap (λ (r : Reading). option_or c.args.state.now (initial_state_of r))
    (sym (among-others in_event_tree (initial_state ∷ []) (around_of c.args.around.now)
    c.args.reader.now.number c.args.element.now c.as_str-tag.result.now (Some initial_state)
    c.as_str-tag.ensures c.in_default.ensures (one-row initial_state c.as_str-tag.result.now (sym
    c.eq.ensures ∙ c.if-eq.true)) ∙ says.says-initial (around_of c.args.around.now)
    c.args.reader.now.number c.args.element.now))

pub returns-clause-said : goal.returns-clause-said
returns-clause-said c =
    sym (append-nil c.args.inside.now) ∙ ap (λ (r : Reading). c.args.inside.now ++ definitions_of r) (sym
    (among-others in_event_tree (initial_state ∷ []) (around_of c.args.around.now) c.args.reader.now.number
    c.args.element.now c.as_str-tag.result.now None c.as_str-tag.ensures c.in_default.ensures (no-row
    initial_state c.as_str-tag.result.now (sym c.eq.ensures ∙ c.if-eq.false))))

pub returns-clause-started : goal.returns-clause-started
returns-clause-started c =
    sym (or-none c.args.state.now) ∙ ap (λ (o : Option DraftBranch). option_or c.args.state.now o) (sym (ap
    initial_state_of (among-others in_event_tree (initial_state ∷ []) (around_of c.args.around.now)
    c.args.reader.now.number c.args.element.now c.as_str-tag.result.now None c.as_str-tag.ensures
    c.in_default.ensures (no-row initial_state c.as_str-tag.result.now (sym c.eq.ensures ∙ c.if-eq.false)))))
