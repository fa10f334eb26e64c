use Rattle.std.proofs.Common.{◌≡◌, ◌++◌, Some, None, List, ap, sym, ◌∙◌}
use Rattle.std.proofs.Common.{subst, append-nil}
use Rattle.std.specs.Option.{option_or}
use Rattle.psa_draft_parts.specs.Sayings.{reading_as}
use Rattle.psa_draft_parts.specs.Starts.{around_of}
use Rattle.psa_draft_parts.proofs.Readings.{among-known}
use Rattle.psa_elements.specs.DraftReading.{Reading, members_of, distribution_of, factors_of}
use Rattle.psa_model.specs.declared.draft.DraftExpression.{DraftExpression}
use Rattle.psa_model.specs.declared.draft.DraftFactor.{DraftFactor}
use Rattle.psa_draft_parts.specs.Rows.{row_of_group, group_rows}
use Rattle.psa_draft_parts.specs.declared.rows.GroupRow.{GroupRow}
use Rattle.psa_draft_parts.proofs.Passing.{always-ok, or-none}
use Rattle.psa_draft_parts.proofs.GroupSayings as says
use Rattle.std.proofs.Common.{OnOk}
use Rattle.psa_draft_parts.proofs.groups.group_part.Goals as goal

pub returns-in-Some-Members-clause-members : goal.returns-in-Some-Members-clause-members
returns-in-Some-Members-clause-members c =
    let P : Reading → Type 0 = λ (r : Reading). OnOk c.members.result (c.members.new.all ≡ c.args.all_members.now
    ++ members_of r) in
    subst P (sym (among-known group_rows (around_of c.args.around.now) c.args.reader.now.number c.args.element.now
    c.as_str.result.now (Some (row_of_group c.in-Some-Members.field-0)) c.as_str.ensures
    c.in-Some-Members.ensures ∙ ap (λ (g : GroupRow). reading_as (row_of_group g) (around_of
    c.args.around.now) c.args.reader.now.number c.args.element.now) c.in-Some-Members.field-0-is))
    c.members.ensures.said

pub returns-in-Some-Members-clause-factored : goal.returns-in-Some-Members-clause-factored
returns-in-Some-Members-clause-factored c =
    always-ok c.members.result (sym (append-nil c.args.all_factors.now) ∙ ap (λ (r : Reading).
    c.args.all_factors.now ++ factors_of r) (sym ((among-known group_rows (around_of c.args.around.now)
    c.args.reader.now.number c.args.element.now c.as_str.result.now (Some (row_of_group
    c.in-Some-Members.field-0)) c.as_str.ensures c.in-Some-Members.ensures ∙ ap (λ (g : GroupRow).
    reading_as (row_of_group g) (around_of c.args.around.now) c.args.reader.now.number c.args.element.now)
    c.in-Some-Members.field-0-is) ∙ says.says-members (around_of c.args.around.now)
    c.args.reader.now.number c.args.element.now)))

pub returns-in-Some-Members-clause-distributed : goal.returns-in-Some-Members-clause-distributed
returns-in-Some-Members-clause-distributed c =
    always-ok c.members.result (sym (or-none c.args.first.now) ∙ ap (λ (r : Reading). option_or c.args.first.now
    (distribution_of r)) (sym ((among-known group_rows (around_of c.args.around.now)
    c.args.reader.now.number c.args.element.now c.as_str.result.now (Some (row_of_group
    c.in-Some-Members.field-0)) c.as_str.ensures c.in-Some-Members.ensures ∙ ap (λ (g : GroupRow).
    reading_as (row_of_group g) (around_of c.args.around.now) c.args.reader.now.number c.args.element.now)
    c.in-Some-Members.field-0-is) ∙ says.says-members (around_of c.args.around.now)
    c.args.reader.now.number c.args.element.now)))

pub returns-in-Some-Factors-clause-members : goal.returns-in-Some-Factors-clause-members
returns-in-Some-Factors-clause-members c =
    always-ok c.factors.result (sym (append-nil c.args.all_members.now) ∙ ap (λ (r : Reading).
    c.args.all_members.now ++ members_of r) (sym ((among-known group_rows (around_of c.args.around.now)
    c.args.reader.now.number c.args.element.now c.as_str.result.now (Some (row_of_group
    c.in-Some-Factors.field-0)) c.as_str.ensures c.in-Some-Factors.ensures ∙ ap (λ (g : GroupRow).
    reading_as (row_of_group g) (around_of c.args.around.now) c.args.reader.now.number c.args.element.now)
    c.in-Some-Factors.field-0-is) ∙ says.says-factors (around_of c.args.around.now)
    c.args.reader.now.number c.args.element.now)))

pub returns-in-Some-Factors-clause-factored : goal.returns-in-Some-Factors-clause-factored
returns-in-Some-Factors-clause-factored c =
    let P : Reading → Type 0 = λ (r : Reading). OnOk c.factors.result (c.factors.new.all ≡ c.args.all_factors.now
    ++ factors_of r) in
    subst P (sym (among-known group_rows (around_of c.args.around.now) c.args.reader.now.number c.args.element.now
    c.as_str.result.now (Some (row_of_group c.in-Some-Factors.field-0)) c.as_str.ensures
    c.in-Some-Factors.ensures ∙ ap (λ (g : GroupRow). reading_as (row_of_group g) (around_of
    c.args.around.now) c.args.reader.now.number c.args.element.now) c.in-Some-Factors.field-0-is))
    c.factors.ensures.said

pub returns-in-Some-Factors-clause-distributed : goal.returns-in-Some-Factors-clause-distributed
returns-in-Some-Factors-clause-distributed c =
    always-ok c.factors.result (sym (or-none c.args.first.now) ∙ ap (λ (r : Reading). option_or c.args.first.now
    (distribution_of r)) (sym ((among-known group_rows (around_of c.args.around.now)
    c.args.reader.now.number c.args.element.now c.as_str.result.now (Some (row_of_group
    c.in-Some-Factors.field-0)) c.as_str.ensures c.in-Some-Factors.ensures ∙ ap (λ (g : GroupRow).
    reading_as (row_of_group g) (around_of c.args.around.now) c.args.reader.now.number c.args.element.now)
    c.in-Some-Factors.field-0-is) ∙ says.says-factors (around_of c.args.around.now)
    c.args.reader.now.number c.args.element.now)))

pub returns-in_ok-found-in-Some-Distribution-clause-members :
    goal.returns-in_ok-found-in-Some-Distribution-clause-members
returns-in_ok-found-in-Some-Distribution-clause-members c =
    sym (append-nil c.args.all_members.now) ∙ ap (λ (r : Reading). c.args.all_members.now ++ members_of r) (sym
    ((among-known group_rows (around_of c.args.around.now) c.args.reader.now.number c.args.element.now
    c.as_str.result.now (Some (row_of_group c.in-Some-Distribution.field-0)) c.as_str.ensures
    c.in-Some-Distribution.ensures ∙ ap (λ (g : GroupRow). reading_as (row_of_group g) (around_of
    c.args.around.now) c.args.reader.now.number c.args.element.now) c.in-Some-Distribution.field-0-is) ∙
    says.says-distribution (around_of c.args.around.now) c.args.reader.now.number c.args.element.now))

pub returns-in_ok-found-in-Some-Distribution-clause-factored :
    goal.returns-in_ok-found-in-Some-Distribution-clause-factored
returns-in_ok-found-in-Some-Distribution-clause-factored c =
    sym (append-nil c.args.all_factors.now) ∙ ap (λ (r : Reading). c.args.all_factors.now ++ factors_of r) (sym
    ((among-known group_rows (around_of c.args.around.now) c.args.reader.now.number c.args.element.now
    c.as_str.result.now (Some (row_of_group c.in-Some-Distribution.field-0)) c.as_str.ensures
    c.in-Some-Distribution.ensures ∙ ap (λ (g : GroupRow). reading_as (row_of_group g) (around_of
    c.args.around.now) c.args.reader.now.number c.args.element.now) c.in-Some-Distribution.field-0-is) ∙
    says.says-distribution (around_of c.args.around.now) c.args.reader.now.number c.args.element.now))

pub returns-in_ok-found-in-Some-Distribution-clause-distributed :
    goal.returns-in_ok-found-in-Some-Distribution-clause-distributed
returns-in_ok-found-in-Some-Distribution-clause-distributed c =
    c.keep_first.ensures ∙ ap (λ (x : DraftExpression). option_or c.args.first.now (Some x))
    c.in_ok-found-in-Some-Distribution.ensures.said ∙ ap (λ (r : Reading). option_or c.args.first.now
    (distribution_of r)) (sym ((among-known group_rows (around_of c.args.around.now)
    c.args.reader.now.number c.args.element.now c.as_str.result.now (Some (row_of_group
    c.in-Some-Distribution.field-0)) c.as_str.ensures c.in-Some-Distribution.ensures ∙ ap (λ (g :
    GroupRow). reading_as (row_of_group g) (around_of c.args.around.now) c.args.reader.now.number
    c.args.element.now) c.in-Some-Distribution.field-0-is) ∙ says.says-distribution (around_of
    c.args.around.now) c.args.reader.now.number c.args.element.now))

pub returns-in_ok-found-in-Some-Factor-clause-members : goal.returns-in_ok-found-in-Some-Factor-clause-members
returns-in_ok-found-in-Some-Factor-clause-members c =
    always-ok c.push.result (sym (append-nil c.args.all_members.now) ∙ ap (λ (r : Reading). c.args.all_members.now
    ++ members_of r) (sym ((among-known group_rows (around_of c.args.around.now) c.args.reader.now.number
    c.args.element.now c.as_str.result.now (Some (row_of_group c.in-Some-Factor.field-0)) c.as_str.ensures
    c.in-Some-Factor.ensures ∙ ap (λ (g : GroupRow). reading_as (row_of_group g) (around_of
    c.args.around.now) c.args.reader.now.number c.args.element.now) c.in-Some-Factor.field-0-is) ∙
    says.says-factor (around_of c.args.around.now) c.args.reader.now.number c.args.element.now)))

pub returns-in_ok-found-in-Some-Factor-clause-factored : goal.returns-in_ok-found-in-Some-Factor-clause-factored
returns-in_ok-found-in-Some-Factor-clause-factored c =
    let P : List DraftFactor → Type 0 = λ (xs : List DraftFactor). OnOk c.push.result (c.push.new.self ≡
    c.args.all_factors.now ++ xs) in
    subst P (ap factors_of (c.in_ok-found-in-Some-Factor.ensures.said ∙ sym (among-known group_rows (around_of
    c.args.around.now) c.args.reader.now.number c.args.element.now c.as_str.result.now (Some (row_of_group
    c.in-Some-Factor.field-0)) c.as_str.ensures c.in-Some-Factor.ensures ∙ ap (λ (g : GroupRow). reading_as
    (row_of_group g) (around_of c.args.around.now) c.args.reader.now.number c.args.element.now)
    c.in-Some-Factor.field-0-is))) c.push.ensures.ok

pub returns-in_ok-found-in-Some-Factor-clause-distributed : goal.returns-in_ok-found-in-Some-Factor-clause-distributed
returns-in_ok-found-in-Some-Factor-clause-distributed c =
    always-ok c.push.result (sym (or-none c.args.first.now) ∙ ap (λ (r : Reading). option_or c.args.first.now
    (distribution_of r)) (sym ((among-known group_rows (around_of c.args.around.now)
    c.args.reader.now.number c.args.element.now c.as_str.result.now (Some (row_of_group
    c.in-Some-Factor.field-0)) c.as_str.ensures c.in-Some-Factor.ensures ∙ ap (λ (g : GroupRow). reading_as
    (row_of_group g) (around_of c.args.around.now) c.args.reader.now.number c.args.element.now)
    c.in-Some-Factor.field-0-is) ∙ says.says-factor (around_of c.args.around.now) c.args.reader.now.number
    c.args.element.now)))

pub returns-in-None-clause-members : goal.returns-in-None-clause-members
returns-in-None-clause-members c =
    sym (append-nil c.args.all_members.now) ∙ ap (λ (r : Reading). c.args.all_members.now ++ members_of r) (sym
    (among-known group_rows (around_of c.args.around.now) c.args.reader.now.number c.args.element.now
    c.as_str.result.now None c.as_str.ensures c.in-None.ensures))

pub returns-in-None-clause-factored : goal.returns-in-None-clause-factored
returns-in-None-clause-factored c =
    sym (append-nil c.args.all_factors.now) ∙ ap (λ (r : Reading). c.args.all_factors.now ++ factors_of r) (sym
    (among-known group_rows (around_of c.args.around.now) c.args.reader.now.number c.args.element.now
    c.as_str.result.now None c.as_str.ensures c.in-None.ensures))

pub returns-in-None-clause-distributed : goal.returns-in-None-clause-distributed
returns-in-None-clause-distributed c =
    sym (or-none c.args.first.now) ∙ ap (λ (r : Reading). option_or c.args.first.now (distribution_of r)) (sym
    (among-known group_rows (around_of c.args.around.now) c.args.reader.now.number c.args.element.now
    c.as_str.result.now None c.as_str.ensures c.in-None.ensures))
