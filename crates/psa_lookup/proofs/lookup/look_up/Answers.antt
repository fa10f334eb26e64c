use Rattle.std.proofs.Common.{◌≡◌, ◌<◌, ◌^◌, List, true, length, map, sym, ap, ◌∙◌, subst}
use Rattle.psa_model.specs.Drafts.{are_ascending, position_of}
use Rattle.psa_model.specs.declared.draft.DraftDefinition.{DraftDefinition}
use Rattle.psa_names.specs.Found.{reference_meanings}
use Rattle.psa_names.specs.NameFaults.{bad_references, duplicates}
use Rattle.psa_names.specs.Outlines.{Entries, entry_of}
use Rattle.psa_names.specs.PlacedFaults.{earliest}
use Rattle.psa_lookup.specs.Senses.{IsPass}
use Rattle.psa_lookup.proofs.DraftLemmas.{few-definitions, few-members}
use Rattle.psa_lookup.proofs.GroupingLemmas.{members_in}
use Rattle.psa_lookup.proofs.lookup.look_up.Goals as goal

pub build_table-requires-clause-few : goal.build_table-requires-clause-few
build_table-requires-clause-few c =
    subst (λ (ds : List DraftDefinition). length ds < 2 ^ 32) (sym c.as_slice.ensures) (few-definitions c.args.draft.now c.requires)

pub build_table-requires-clause-ascending : goal.build_table-requires-clause-ascending
build_table-requires-clause-ascending c =
    subst (λ (ds : List DraftDefinition). are_ascending (map position_of ds) ≡ true) (sym c.as_slice.ensures) c.requires.ascending

pub group_names-requires-clause-few : goal.group_names-requires-clause-few
group_names-requires-clause-few c =
    subst (λ (ds : List DraftDefinition). members_in ds < 2 ^ 32) (sym (c.in_ok-built.ensures.same ∙ c.as_slice.ensures)) (few-members c.args.draft.now c.requires)

pub follow_all-requires : goal.follow_all-requires
follow_all-requires c = record { names = record { table = c.in_ok-built.ensures.table; grouped = c.in_ok-grouped.ensures } }

pub returns-clause-names : goal.returns-clause-names
returns-clause-names c = record { table = c.in_ok-built.ensures.table; grouped = c.in_ok-grouped.ensures }

pub returns-clause-same : goal.returns-clause-same
returns-clause-same c = ap (λ (ds : List DraftDefinition). map entry_of ds) (c.in_ok-built.ensures.same ∙ c.as_slice.ensures)

pub returns-clause-repeat : goal.returns-clause-repeat
returns-clause-repeat c = c.in_ok-built.ensures.first ∙ ap (λ (ds : List DraftDefinition). earliest (duplicates (map entry_of ds))) c.as_slice.ensures

pub returns-clause-references : goal.returns-clause-references
returns-clause-references c =
    subst (λ (entries : Entries). IsPass entries c.in_ok-references.references (bad_references entries) (reference_meanings entries))
    (ap (λ (ds : List DraftDefinition). map entry_of ds) (c.in_ok-built.ensures.same ∙ c.as_slice.ensures))
    c.in_ok-references.ensures
