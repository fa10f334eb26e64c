use Rattle.std.proofs.Common.{◌≡◌, List, All, true, map, sym, ap, ◌∙◌, subst}
use Rattle.std.specs.Option.{option_or}
use Rattle.psa_model.specs.Drafts.{are_ascending, has_body, position_of}
use Rattle.psa_model.specs.declared.draft.DraftDefinition.{DraftDefinition}
use Rattle.psa_names.specs.Found.{member_meanings}
use Rattle.psa_names.specs.NameFaults.{bad_groups}
use Rattle.psa_names.specs.Outlines.{Entries}
use Rattle.psa_lookup.specs.Senses.{IsPass}
use Rattle.psa_lookup.proofs.FoundLemmas.{told, named-where-found, found-where-found, same-definitions}
use Rattle.psa_lookup.proofs.found.find_names.Goals as goal

pub check_groups-requires-clause-bodies : goal.check_groups-requires-clause-bodies
check_groups-requires-clause-bodies c =
    let same = same-definitions c.in_ok-looked.looked.names.table.definitions.now c.args.draft.now.definitions c.in_ok-looked.ensures.same in
    subst (λ (ds : List DraftDefinition). All (λ (one : DraftDefinition). has_body one.kind one.body ≡ true) ds) (sym same) c.requires.bodies

pub check_groups-requires-clause-ascending : goal.check_groups-requires-clause-ascending
check_groups-requires-clause-ascending c =
    let same = same-definitions c.in_ok-looked.looked.names.table.definitions.now c.args.draft.now.definitions c.in_ok-looked.ensures.same in
    subst (λ (ds : List DraftDefinition). are_ascending (map position_of ds) ≡ true) (sym same) c.requires.ascending

pub returns-clause-fault : goal.returns-clause-fault
returns-clause-fault c fault told_as =
    let looked = c.in_ok-looked.looked in
    let groups = c.in_ok-groups.groups in
    told c.args.draft.now looked.repeat looked.references groups c.or-first.result fault
    (record {
      repeat_is = c.in_ok-looked.ensures.repeat;
      references_are = c.in_ok-looked.ensures.references;
      groups_are = subst (λ (entries : Entries). IsPass entries groups (bad_groups entries) (member_meanings entries)) c.in_ok-looked.ensures.same c.in_ok-groups.ensures;
    })
    (sym (c.or-first.ensures ∙ ap (λ o. option_or o groups.first) c.or.ensures))
    (c.concluded.ensures.fault fault told_as)

pub returns-clause-names : goal.returns-clause-names
returns-clause-names c =
    let looked = c.in_ok-looked.looked in
    let groups = c.in_ok-groups.groups in
    named-where-found c.args.draft.now looked.repeat looked.references groups c.or-first.result c.concluded.result
    (record {
      repeat_is = c.in_ok-looked.ensures.repeat;
      references_are = c.in_ok-looked.ensures.references;
      groups_are = subst (λ (entries : Entries). IsPass entries groups (bad_groups entries) (member_meanings entries)) c.in_ok-looked.ensures.same c.in_ok-groups.ensures;
    })
    (sym (c.or-first.ensures ∙ ap (λ o. option_or o groups.first) c.or.ensures))
    c.concluded.ensures.found

pub returns-clause-found : goal.returns-clause-found
returns-clause-found c =
    let looked = c.in_ok-looked.looked in
    let groups = c.in_ok-groups.groups in
    found-where-found c.args.draft.now looked.repeat looked.references groups c.or-first.result c.concluded.result
    (record {
      repeat_is = c.in_ok-looked.ensures.repeat;
      references_are = c.in_ok-looked.ensures.references;
      groups_are = subst (λ (entries : Entries). IsPass entries groups (bad_groups entries) (member_meanings entries)) c.in_ok-looked.ensures.same c.in_ok-groups.ensures;
    })
    (sym (c.or-first.ensures ∙ ap (λ o. option_or o groups.first) c.or.ensures))
    c.concluded.ensures.found
