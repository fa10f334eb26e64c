use Rattle.std.proofs.Common.{◌≡◌, ◌<◌, ◌+◌, ◌++◌, ℕ, List, Some, None, length, take, get_or, slice_get, sym, ap, ◌∙◌, subst, arith}
use Rattle.std.proofs.lemmas.Option.{slice_get-get_or, slice_get_within, get_or_from_slice_get}
use Rattle.std.specs.List.{position_from}
use Rattle.std.specs.Str.{bytes_eq}
use Rattle.psa_model.specs.PathNames.{Text}
use Rattle.psa_model.specs.declared.draft.DraftDefinition.{DraftDefinition}
use Rattle.psa_model.specs.declared.draft.DraftReference.{DraftReference}
use Rattle.psa_spaces.specs.Addresses.{place_of}
use Rattle.psa_spaces.specs.Paths.{Path, path_at}
use Rattle.psa_spaces.proofs.ContainerLemmas.{path-is}
use Rattle.psa_names.specs.Meanings.{members_of}
use Rattle.psa_lookup.specs.Grouping.{absent_names, first_grouped, grouped_address}
use Rattle.psa_lookup.specs.Tables.{table_entries}
use Rattle.psa_lookup.proofs.BoolLemmas.{one-more-taken, flat-one}
use Rattle.psa_lookup.proofs.GroupingLemmas.{take-all, absent_of, absent-all, absent-few-all, members-front, count-more, places-more}
use Rattle.psa_lookup.proofs.grouped.group_names.Goals as goal

pub note_members-requires-clause-stands : goal.note_members-requires-clause-stands
note_members-requires-clause-stands c =
    let at = c.loop-place in
    let ds = c.args.table.now.definitions.now in
    let one = c.index-definitions-place.result in
    let there : slice_get ds at.place ≡ Some one = slice_get-get_or ds at.place one c.loop-place-test.true ∙ ap (λ (d : DraftDefinition). Some d) (sym c.index-definitions-place.is) in
    let its = c.requires.table.numbered.each at.place one there in
    let number : get_or c.as_slice-numbers.result.now at.place 0 ≡ its.0 = ap (λ (l : List ℕ). get_or l at.place 0) c.as_slice-numbers.ensures ∙ get_or_from_slice_get c.args.table.now.numbered.numbers at.place its.0 0 its.1 in
    subst (λ n. n < length c.args.table.now.numbered.containers) (sym number) (slice_get_within c.args.table.now.numbered.containers its.0 one.container its.2)

pub note_members-requires-clause-few : goal.note_members-requires-clause-few
note_members-requires-clause-few c =
    let at = c.loop-place in
    let entries = table_entries c.args.table.now in
    let ds = c.args.table.now.definitions.now in
    let one = c.index-definitions-place.result in
    let there : slice_get ds at.place ≡ Some one = slice_get-get_or ds at.place one c.loop-place-test.true ∙ ap (λ (d : DraftDefinition). Some d) (sym c.index-definitions-place.is) in
    let front = members-front ds at.place one there in
    let few = absent-few-all entries (take at.place ds) in
    let count = at.invariant.count in
    let room = c.requires.few in
    let own = ap length c.group_members-members.ensures in
    omega arith

pub loop-place-preserved : goal.loop-place-preserved
loop-place-preserved c =
    let at = c.loop-place in
    let entries = table_entries c.args.table.now in
    let paths = c.args.table.now.numbered.containers in
    let ds = c.args.table.now.definitions.now in
    let one = c.index-definitions-place.result in
    let before = take at.place ds in
    let there : slice_get ds at.place ≡ Some one = slice_get-get_or ds at.place one c.loop-place-test.true ∙ ap (λ (d : DraftDefinition). Some d) (sym c.index-definitions-place.is) in
    let its = c.requires.table.numbered.each at.place one there in
    let number : get_or c.as_slice-numbers.result.now at.place 0 ≡ its.0 = ap (λ (l : List ℕ). get_or l at.place 0) c.as_slice-numbers.ensures ∙ get_or_from_slice_get c.args.table.now.numbered.numbers at.place its.0 0 its.1 in
    let container : path_at paths (get_or c.as_slice-numbers.result.now at.place 0) ≡ one.container = ap (path_at paths) number ∙ path-is paths its.0 one.container its.2 in
    let names : absent_names entries (path_at paths (get_or c.as_slice-numbers.result.now at.place 0)) c.group_members-members.result.now ≡ absent_names entries one.container (members_of one.body) =
    ap (λ (p : Path). absent_names entries p c.group_members-members.result.now) container ∙ ap (λ (l : List DraftReference). absent_names entries one.container l) c.group_members-members.ensures in
    let more : absent_of entries before ++ absent_names entries one.container (members_of one.body) ≡ absent_of entries (take (at.place + 1) ds) =
    sym (flat-one (λ (d : DraftDefinition). absent_names entries d.container (members_of d.body)) before one)
    ∙ ap (λ (l : List DraftDefinition). absent_of entries l) (sym (one-more-taken ds at.place one c.loop-place-test.true c.index-definitions-place.is)) in
    record {
      count =
          count-more 0 at.grouped.count c.note_members.new.grouped.count (absent_of entries before) (absent_names entries one.container (members_of one.body)) (let same = at.invariant.count in omega arith)
          (c.in_ok-note_members.ensures.count ∙ ap (λ (l : List Text). at.grouped.count + length l) names)
          ∙ ap (λ (l : List Text). 0 + length l) more ∙ (let e : 0 + length (absent_of entries (take (at.place + 1) ds)) ≡ length (absent_of entries (take (at.place + 1) ds)) = omega arith in e);
      places = λ name.
          places-more None (place_of at.grouped.places (grouped_address name)) (place_of c.note_members.new.grouped.places (grouped_address name)) 0 at.grouped.count name (absent_of entries before) (absent_names entries one.container (members_of one.body))
          (at.invariant.places name) (let same = at.invariant.count in omega arith)
          (c.in_ok-note_members.ensures.places name ∙ ap (λ (l : List Text). first_grouped (place_of at.grouped.places (grouped_address name)) at.grouped.count name l) names)
          ∙ ap (λ (l : List Text). first_grouped None 0 name l) more;
    }

pub returns : goal.returns
returns c name =
    let entries = table_entries c.args.table.now in
    let ds = c.args.table.now.definitions.now in
    let at = c.loop-place in
    at.invariant.places name
    ∙ ap (λ (l : List DraftDefinition). position_from (λ one. bytes_eq one name) 0 (absent_of entries l)) (let past = c.loop-place-test.false in let whole : take at.place ds ≡ ds = take-all at.place ds (omega arith) in whole)
    ∙ ap (λ (l : List Text). position_from (λ one. bytes_eq one name) 0 l) (sym (absent-all entries ds))
