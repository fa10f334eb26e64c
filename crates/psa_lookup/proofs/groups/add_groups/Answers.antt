use Rattle.std.proofs.Common.{◌≡◌, ◌+◌, ◌++◌, ◌∷◌, [], List, Some, map, not, take, slice_get, sym, ap, ◌∙◌, subst, arith}
use Rattle.std.proofs.lemmas.List.{length-map, take-map}
use Rattle.std.proofs.lemmas.Option.{slice_get-get_or, slice_get-map}
use Rattle.std.specs.Option.{option_map}
use Rattle.psa_model.specs.declared.draft.DraftDefinition.{DraftDefinition}
use Rattle.psa_names.specs.Outlines.{Entries, entry_of}
use Rattle.psa_names.specs.PlacedFaults.{PlacedFault}
use Rattle.psa_lookup.specs.Members.{AreMembersOf, is_bad_group}
use Rattle.psa_lookup.specs.Senses.{names_entries}
use Rattle.psa_lookup.proofs.BoolLemmas.{one-more-taken, map-one}
use Rattle.psa_lookup.proofs.GroupLemmas.{bad-first, bad-none, entries-ascend, passed-one}
use Rattle.psa_lookup.proofs.groups.add_groups.Goals as goal

pub loop-place-preserved : goal.loop-place-preserved
loop-place-preserved c =
    let at = c.loop-place in
    let entries = names_entries c.args.names.now in
    let ds = c.args.names.now.table.definitions.now in
    let one = c.index-definitions-place.result in
    let before = map entry_of (take at.place ds) in
    let there : slice_get ds at.place ≡ Some one = slice_get-get_or ds at.place one c.loop-place-test.true ∙ ap (λ (d : DraftDefinition). Some d) (sym c.index-definitions-place.is) in
    let here : slice_get entries at.place ≡ Some (entry_of one) = slice_get-map entry_of ds at.place ∙ ap (option_map entry_of) there in
    let more : before ++ entry_of one ∷ [] ≡ map entry_of (take (at.place + 1) ds) =
    sym (ap (λ (l : List DraftDefinition). map entry_of l) (one-more-taken ds at.place one c.loop-place-test.true c.index-definitions-place.is) ∙ map-one entry_of (take at.place ds) one) in
    record {
      members = subst (λ (l : Entries). AreMembersOf entries l c.add_definition.new.members) more (c.in_ok-add_definition.ensures.added c.if-not-branch.false before at.invariant.members);
      passed =
          passed-one entries at.place (entry_of one) here
          (ap (λ (l : Entries). is_bad_group entries l (entry_of one)) (take-map entry_of at.place ds)
          ∙ sym (c.in_ok-add_definition.ensures.allowed before at.invariant.members) ∙ ap not c.if-not-branch.false)
          at.invariant.passed;
    }

pub returns-then-not-branch-clause-first : goal.returns-then-not-branch-clause-first
returns-then-not-branch-clause-first c =
    let at = c.loop-place in
    let entries = names_entries c.args.names.now in
    let ds = c.args.names.now.table.definitions.now in
    let one = c.index-definitions-place.result in
    let before = map entry_of (take at.place ds) in
    let there : slice_get ds at.place ≡ Some one = slice_get-get_or ds at.place one c.loop-place-test.true ∙ ap (λ (d : DraftDefinition). Some d) (sym c.index-definitions-place.is) in
    let here : slice_get entries at.place ≡ Some (entry_of one) = slice_get-map entry_of ds at.place ∙ ap (option_map entry_of) there in
    ap (λ (f : PlacedFault). Some f) c.group_fault.ensures
    ∙ sym (bad-first entries at.place (entry_of one) (entries-ascend ds c.requires.ascending) here
    (ap (λ (l : Entries). is_bad_group entries l (entry_of one)) (take-map entry_of at.place ds)
    ∙ sym (c.in_ok-add_definition.ensures.allowed before at.invariant.members) ∙ ap not c.if-not-branch.true)
    at.invariant.passed)

pub returns-clause-first : goal.returns-clause-first
returns-clause-first c =
    let entries = names_entries c.args.names.now in
    let ds = c.args.names.now.table.definitions.now in
    sym (bad-none entries c.loop-place.place (let past = c.loop-place-test.false in let size = length-map ds entry_of in omega arith) c.loop-place.invariant.passed)
