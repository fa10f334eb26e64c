use Rattle.std.proofs.Common.{◌≡◌, ◌∙◌, ◌++◌, ap, sym, map, length}
use Rattle.std.proofs.lemmas.Result.{on_ok_weaker}
use Rattle.psa_model.specs.Drafts.{has_body}
use Rattle.psa_model.specs.declared.draft.DefinitionKind.TheVariants as kind
use Rattle.psa_names.specs.Outlines.{entry_of, entries_of}
use Rattle.psa_names.specs.Meanings.{meaning_of}
use Rattle.psa_names.specs.Chains.{references_of}
use Rattle.psa_names.specs.Found.{meaning_of_sense}
use Rattle.psa_assembly.specs.Groups.{names_of_groups}
use Rattle.psa_assembly.proofs.NextMembers.{ids-are, others-are}
use Rattle.psa_assembly.proofs.EventsOfGroups.{names-defined}
use Rattle.psa_assembly.proofs.AddedLists.{group-added, group-kind}
use Rattle.psa_assembly.proofs.assembly.Assembly.add_group.Goals as goal

pub make_group-requires-clause-kind : goal.make_group-requires-clause-kind
make_group-requires-clause-kind c =
    group-kind c.args.definition.now.kind c.args.group.now (sym (ap (has_body c.args.definition.now.kind) c.requires.body) ∙ c.requires.promised.body)

pub make_group-requires-clause-members : goal.make_group-requires-clause-members
make_group-requires-clause-members c =
    c.in_ok-members.ensures.ids (entries_of c.args.context.now.draft.now) c.requires.context.numbers
    ∙ ids-are (entries_of c.args.context.now.draft.now) (entry_of c.args.definition.now) c.args.group.now c.args.self.now.members c.requires.next.others (length c.as_slice-members.result.now) c.requires.body (ap length c.as_slice-members.ensures) c.requires.next.members

pub returns : goal.returns
returns c =
    let entries = entries_of c.args.context.now.draft.now in
    let one = entry_of c.args.definition.now in
    let is : c.args.definition.now.kind ≡ kind.Group = group-kind c.args.definition.now.kind c.args.group.now (sym (ap (has_body c.args.definition.now.kind) c.requires.body) ∙ c.requires.promised.body) in
    let members = others-are entries one c.args.group.now c.args.self.now.members c.resolve_members.new.members c.requires.next.others (length c.as_slice-members.result.now) c.requires.body (ap length c.as_slice-members.ensures) c.requires.next.members c.in_ok-members.ensures.rest in
    let made = c.in_ok-made.ensures.is c.requires.next.later c.requires.next.references in
    let names = names-defined entries one c.args.group.now c.as_slice-members.result.now c.rest-senses.result.now c.requires.next.others c.requires.body c.as_slice-members.ensures (ap (map (meaning_of_sense entries)) c.rest-senses.ensures ∙ c.requires.next.members) c.requires.next.known in
    on_ok_weaker c.push.result (λ pushed. record {
      model = group-added entries one c.args.self.now.model c.push_events.new.basics c.push.new.self (names_of_groups c.as_slice-members.result.now c.rest-senses.result.now) c.in_ok-made.made is names c.in_ok-push_events.ensures made.0 pushed;
      references = c.requires.next.references ∙ ap (λ ms. map (meaning_of entries one) (references_of one) ++ ms) (sym made.1);
      members = members;
    }) c.push.ensures.ok
