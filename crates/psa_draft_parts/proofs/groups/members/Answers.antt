use Rattle.std.proofs.Common.{◌+◌, ◌++◌, arith, List, [], ◌∷◌, ap, sym, ◌∙◌}
use Rattle.std.specs.Option.{option_to_list}
use Rattle.psa_draft_parts.specs.Starts.{around_of}
use Rattle.psa_draft_parts.proofs.Passing.{next-fits, child-readable, counted-more, counted-all, inside-all}
use Rattle.psa_elements.specs.ElementTable.{basic_event}
use Rattle.psa_elements.specs.DraftReading.{Reading, members_of}
use Rattle.psa_model.specs.declared.draft.DraftReference.{DraftReference}
use Rattle.psa_draft_parts.specs.Groups.{members_in}
use Rattle.psa_draft_parts.proofs.GroupSayings as says
use Rattle.psa_draft_parts.proofs.groups.members.Goals as goal

pub overflow_add-reader : goal.overflow_add-reader
overflow_add-reader c =
    omega (arith, next-fits c.args.reader.now.number c.args.element.now c.requires)

pub member-requires : goal.member-requires
member-requires c =
    child-readable c.args.reader.now.number c.args.element.now c.as_slice-children.result.now
    c.loop-child.child-index c.child-item.result c.loop-child.reader.number c.requires
    c.as_slice-children.ensures c.loop-child.invariant.counted c.loop-child-test.true c.child-item.is

pub loop-child-preserved : goal.loop-child-preserved
loop-child-preserved c =
    record {
      counted = counted-more (c.args.reader.now.number + 1) c.as_slice-children.result.now c.loop-child.child-index
          c.child-item.result c.loop-child.reader.number c.member.new.reader.number
          c.loop-child.invariant.counted c.loop-child-test.true c.child-item.is c.in_ok-found.ensures.counted;
      said = c.in_ok-push_found.ensures ∙ ap (λ (xs : List DraftReference). xs ++ option_to_list
          c.in_ok-found.found) c.loop-child.invariant.said ∙ says.members-more (basic_event ∷ []) (around_of
          c.args.around.now) (c.args.reader.now.number + 1) c.as_slice-children.result.now
          c.loop-child.child-index c.child-item.result c.loop-child.reader.number c.args.all.now
          (option_to_list c.in_ok-found.found) c.loop-child.invariant.counted c.loop-child-test.true
          c.child-item.is c.in_ok-found.ensures.said;
    }

pub returns-clause-counted : goal.returns-clause-counted
returns-clause-counted c =
    counted-all c.args.reader.now.number c.args.element.now c.as_slice-children.result.now c.loop-child.child-index
    c.loop-child.reader.number c.as_slice-children.ensures c.loop-child-test.false
    c.loop-child.invariant.counted

pub returns-clause-said : goal.returns-clause-said
returns-clause-said c =
    c.loop-child.invariant.said ∙ ap (λ (rs : List Reading). c.args.all.now ++ members_in rs) (inside-all
    (basic_event ∷ []) (around_of c.args.around.now) c.args.reader.now.number c.args.element.now
    c.as_slice-children.result.now c.loop-child.child-index c.as_slice-children.ensures
    c.loop-child-test.false) ∙ ap (λ (r : Reading). c.args.all.now ++ members_of r) (sym (says.says-members
    (around_of c.args.around.now) c.args.reader.now.number c.args.element.now))
