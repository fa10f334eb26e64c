use Rattle.std.proofs.Common.{◌≡◌, ◌+◌, ◌++◌, ◌∷◌, [], List, length, take, sym, ap, ◌∙◌, arith}
use Rattle.std.proofs.lemmas.List.{length-take-le}
use Rattle.psa_model.specs.PathNames.{Text}
use Rattle.psa_model.specs.declared.draft.DraftReference.{DraftReference}
use Rattle.psa_spaces.specs.Addresses.{place_of}
use Rattle.psa_spaces.specs.Paths.{path_at}
use Rattle.psa_lookup.specs.Grouping.{absent_names, first_grouped, grouped_address}
use Rattle.psa_lookup.specs.Tables.{table_entries}
use Rattle.psa_lookup.proofs.BoolLemmas.{one-more-taken}
use Rattle.psa_lookup.proofs.GroupingLemmas.{absent-append, absent-few, count-more, places-more}
use Rattle.psa_lookup.proofs.grouped.note_members.Goals as goal

pub note_member-requires-clause-few : goal.note_member-requires-clause-few
note_member-requires-clause-few c =
    let entries = table_entries c.args.table.now in
    let container = path_at c.args.table.now.numbered.containers c.args.within in
    let at = c.loop-member in
    let low = c.loop-member-test.true in
    let few = absent-few entries container (take at.member-index c.args.members.now) in
    let size = length-take-le at.member-index c.args.members.now (omega arith) in
    let count = at.invariant.count in
    let room = c.requires.few in
    omega arith

pub loop-member-preserved : goal.loop-member-preserved
loop-member-preserved c =
    let entries = table_entries c.args.table.now in
    let container = path_at c.args.table.now.numbered.containers c.args.within in
    let at = c.loop-member in
    let one = c.member-item.result in
    let before = take at.member-index c.args.members.now in
    let old = c.args.grouped.now in
    let more : absent_names entries container before ++ absent_names entries container (one ∷ []) ≡ absent_names entries container (take (at.member-index + 1) c.args.members.now) =
    sym (absent-append entries container before (one ∷ [])) ∙ ap (λ (ms : List DraftReference). absent_names entries container ms) (sym (one-more-taken c.args.members.now at.member-index one c.loop-member-test.true c.member-item.is)) in
    record {
      count =
          count-more old.count at.grouped.count c.note_member.new.grouped.count (absent_names entries container before) (absent_names entries container (one ∷ [])) at.invariant.count c.in_ok-note_member.ensures.count
          ∙ ap (λ (l : List Text). old.count + length l) more;
      places = λ name.
          places-more (place_of old.places (grouped_address name)) (place_of at.grouped.places (grouped_address name)) (place_of c.note_member.new.grouped.places (grouped_address name)) old.count at.grouped.count name (absent_names entries container before) (absent_names entries container (one ∷ []))
          (at.invariant.places name) at.invariant.count (c.in_ok-note_member.ensures.places name)
          ∙ ap (λ (l : List Text). first_grouped (place_of old.places (grouped_address name)) old.count name l) more;
    }
