use Rattle.std.proofs.Common.{◌≡◌, ◌+◌, ◌++◌, ◌∷◌, [], ℕ, List, Option, Some, map, flat_map, take, get_or, slice_get, sym, ap, ◌∙◌, subst, arith}
use Rattle.std.proofs.lemmas.Option.{slice_get-get_or, get_or_from_slice_get}
use Rattle.psa_model.specs.declared.draft.DraftDefinition.{DraftDefinition}
use Rattle.psa_spaces.specs.Paths.{IsPath}
use Rattle.psa_names.specs.Chains.{references_of}
use Rattle.psa_names.specs.Meanings.{Meaning}
use Rattle.psa_names.specs.Outlines.{Entry, Reference, entry_of}
use Rattle.psa_names.specs.PlacedFaults.{PlacedFault}
use Rattle.psa_lookup.specs.declared.asked.Asked.{Asked}
use Rattle.psa_lookup.specs.Asking.{asked_references}
use Rattle.psa_lookup.specs.Senses.{IsPass, faults_among, meanings_among, names_entries}
use Rattle.psa_lookup.proofs.BoolLemmas.{one-more-taken, flat-one, map-one}
use Rattle.psa_lookup.proofs.GroupingLemmas.{take-all}
use Rattle.psa_lookup.proofs.references.follow_all.Goals as goal

pub around_of-around-requires-clause-number : goal.around_of-around-requires-clause-number
around_of-around-requires-clause-number c =
    let at = c.loop-place in
    let table = c.args.names.now.table in
    let ds = table.definitions.now in
    let one = c.index-definitions-place.result in
    let there : slice_get ds at.place ≡ Some one = slice_get-get_or ds at.place one c.loop-place-test.true ∙ ap (λ (d : DraftDefinition). Some d) (sym c.index-definitions-place.is) in
    let its = c.requires.names.table.numbered.each at.place one there in
    let number : get_or c.as_slice-numbers.result.now at.place 0 ≡ its.0 = ap (λ (l : List ℕ). get_or l at.place 0) c.as_slice-numbers.ensures ∙ get_or_from_slice_get table.numbered.numbers at.place its.0 0 its.1 in
    subst (λ n. IsPath table.numbered.containers n one.container) (sym number) its.2

pub loop-place-preserved : goal.loop-place-preserved
loop-place-preserved c =
    let at = c.loop-place in
    let entries = names_entries c.args.names.now in
    let ds = c.args.names.now.table.definitions.now in
    let one = c.index-definitions-place.result in
    let before = map entry_of (take at.place ds) in
    let faults : Entry → List PlacedFault = λ its. faults_among entries its (references_of its) in
    let meanings : Entry → List (Option Meaning) = λ its. meanings_among entries its (references_of its) in
    let more : before ++ entry_of one ∷ [] ≡ map entry_of (take (at.place + 1) ds) =
    sym (ap (λ (l : List DraftDefinition). map entry_of l) (one-more-taken ds at.place one c.loop-place-test.true c.index-definitions-place.is) ∙ map-one entry_of (take at.place ds) one) in
    let its : asked_references c.as_slice.result.now ≡ references_of (entry_of one) = ap (λ (l : List Asked). asked_references l) c.as_slice.ensures.value ∙ c.in_ok-collect_references.ensures in
    subst (λ (l : List Entry). IsPass entries c.follow.new.pass (flat_map faults l) (flat_map meanings l)) more
    (subst (λ (l : List PlacedFault). IsPass entries c.follow.new.pass l (flat_map meanings (before ++ entry_of one ∷ []))) (sym (flat-one faults before (entry_of one)))
    (subst (λ (l : List (Option Meaning)). IsPass entries c.follow.new.pass (flat_map faults before ++ faults (entry_of one)) l) (sym (flat-one meanings before (entry_of one)))
    (subst (λ (l : List Reference). IsPass entries c.follow.new.pass (flat_map faults before ++ faults_among entries (entry_of one) l) (flat_map meanings before ++ meanings_among entries (entry_of one) l)) its
    (c.in_ok-follow.ensures (flat_map faults before) (flat_map meanings before) at.invariant))))

pub returns : goal.returns
returns c =
    let at = c.loop-place in
    let entries = names_entries c.args.names.now in
    let ds = c.args.names.now.table.definitions.now in
    let whole : take at.place ds ≡ ds = (let past = c.loop-place-test.false in take-all at.place ds (omega arith)) in
    subst (λ (l : List DraftDefinition). IsPass entries at.pass (flat_map (λ (its : Entry). faults_among entries its (references_of its)) (map entry_of l)) (flat_map (λ (its : Entry). meanings_among entries its (references_of its)) (map entry_of l))) whole at.invariant
