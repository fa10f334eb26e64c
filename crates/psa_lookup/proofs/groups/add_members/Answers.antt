use Rattle.std.proofs.Common.{◌+◌, ◌++◌, List, Option, Some, map, take, drop, sym, ap, ◌∙◌}
use Rattle.psa_model.specs.declared.draft.DraftReference.{DraftReference}
use Rattle.psa_spaces.specs.Paths.{path_at}
use Rattle.psa_names.specs.declared.found.Sense.{Sense}
use Rattle.psa_lookup.specs.Members.{may_join, senses_of_members}
use Rattle.psa_lookup.specs.Senses.{names_entries, names_paths}
use Rattle.psa_lookup.proofs.BoolLemmas.{one-more-taken}
use Rattle.psa_lookup.proofs.MemberLemmas.{join-step, joined-more, rest-at}
use Rattle.psa_lookup.proofs.groups.add_members.Goals as goal

pub loop-member-preserved : goal.loop-member-preserved
loop-member-preserved c =
    let at = c.loop-member in
    let entries = names_entries c.args.names.now in
    let container = path_at (names_paths c.args.names.now) c.args.within in
    let senses : List DraftReference → List (Option Sense) = λ members. senses_of_members entries container members in
    let one = c.member-item.result in
    let old = c.args.members.now in
    let added = c.in_ok-add_member.ensures.added c.if-not-branch.false in
    record {
      rest =
          at.invariant.rest
          ∙ ap (λ (l : List DraftReference). may_join entries at.members (senses l)) (rest-at c.args.added.now at.member-index one c.loop-member-test.true c.member-item.is)
          ∙ join-step entries at.members c.add_member.new.members _ (senses (drop (at.member-index + 1) c.args.added.now)) (sym c.if-not-branch.false ∙ c.in_ok-add_member.ensures.right) added;
      added =
          joined-more entries container old at.members c.add_member.new.members (take at.member-index c.args.added.now) one at.invariant.added added
          ∙ ap (λ (l : List DraftReference). map Some old ++ senses l) (sym (one-more-taken c.args.added.now at.member-index one c.loop-member-test.true c.member-item.is));
    }
