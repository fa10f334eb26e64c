use Rattle.std.proofs.Common.{◌≡◌, ◌+◌, ◌++◌, arith, List, slice_get, refl, ap, ◌∙◌}
use Rattle.std.proofs.Common.{subst}
use Rattle.std.specs.List.{filter_map}
use Rattle.psa_draft_parts.specs.Sayings.{inside_among, reading_among}
use Rattle.psa_draft_parts.specs.Starts.{around_of}
use Rattle.psa_draft_parts.proofs.Passing.{next-fits, child-readable, counted-more, counted-all, first-more, several-more, inside-all}
use Rattle.psa_model.specs.PathNames.{Text}
use Rattle.psa_drafts.proofs.AroundSayings.{inner_of}
use Rattle.std.proofs.Common.{OnOk}
use Rattle.psa_elements.specs.DraftReading.{Reading, definitions_in, definitions_of, initial_state_of}
use Rattle.psa_model.specs.declared.draft.DraftDefinition.{DraftDefinition}
use Rattle.psa_draft_parts.specs.Rows.{event_tree_rows}
use Rattle.psa_draft_parts.proofs.Passing.{always-ok}
use Rattle.psa_drafts.proofs.DefinitionSayings as says
use Rattle.psa_drafts.proofs.definitions.event_tree.Goals as goal

pub returns-clause-said : goal.returns-clause-said
returns-clause-said c =
    let P : List DraftDefinition → Type 0 = λ (ds : List DraftDefinition). OnOk c.append.result (c.append.new.self
    ≡ ds) in
    subst P (ap (λ (ds : List DraftDefinition). ds ++ c.loop-child.inside) c.in_ok-push.ensures.ok
    ∙ says.tree-said (around_of c.args.around.now) c.args.reader.now.number c.args.element.now c.args.all.now
    c.loop-child.inside c.in_ok-own.own c.in_ok-walk.walk c.loop-child.state c.in_ok-own.ensures
    c.in_ok-walk.ensures
    (c.loop-child.invariant.started ∙ ap (λ (rs : List Reading). slice_get (filter_map initial_state_of rs) 0)
    (inside-all event_tree_rows (inner_of c.args.around.now c.in_ok-container_of.field-0
    c.args.around.now.is_private) c.args.reader.now.number c.args.element.now
    c.as_slice-children.result.now c.loop-child.child-index c.as_slice-children.ensures
    c.loop-child-test.false ∙ (ap (λ (k : List Text). inside_among event_tree_rows (inner_of
    c.args.around.now k c.args.around.now.is_private) c.args.reader.now.number c.args.element.now)
    c.in_ok-container_of.ensures)))
    (c.loop-child.invariant.said ∙ ap (λ (rs : List Reading). definitions_in rs) (inside-all event_tree_rows
    (inner_of c.args.around.now c.in_ok-container_of.field-0 c.args.around.now.is_private)
    c.args.reader.now.number c.args.element.now c.as_slice-children.result.now c.loop-child.child-index
    c.as_slice-children.ensures c.loop-child-test.false ∙ (ap (λ (k : List Text). inside_among
    event_tree_rows (inner_of c.args.around.now k c.args.around.now.is_private) c.args.reader.now.number
    c.args.element.now) c.in_ok-container_of.ensures)))) c.append.ensures

pub loop-child-preserved : goal.loop-child-preserved
loop-child-preserved c =
    record {
      counted = counted-more (c.args.reader.now.number + 1) c.as_slice-children.result.now c.loop-child.child-index
          c.child-item.result c.loop-child.reader.number c.event_tree_part.new.reader.number
          c.loop-child.invariant.counted c.loop-child-test.true c.child-item.is
          c.in_ok-event_tree_part.ensures.counted;
      said = c.in_ok-event_tree_part.ensures.said ∙ several-more definitions_of event_tree_rows (inner_of
          c.args.around.now c.in_ok-container_of.field-0 c.args.around.now.is_private)
          (c.args.reader.now.number + 1) c.as_slice-children.result.now c.loop-child.child-index
          c.child-item.result c.loop-child.reader.number c.loop-child.inside (definitions_of (reading_among
          event_tree_rows (inner_of c.args.around.now c.in_ok-container_of.field-0
          c.args.around.now.is_private) c.loop-child.reader.number c.child-item.result))
          c.loop-child.invariant.counted c.loop-child-test.true c.child-item.is c.loop-child.invariant.said refl;
      started = c.in_ok-event_tree_part.ensures.started ∙ first-more initial_state_of event_tree_rows (inner_of
          c.args.around.now c.in_ok-container_of.field-0 c.args.around.now.is_private)
          (c.args.reader.now.number + 1) c.as_slice-children.result.now c.loop-child.child-index
          c.child-item.result c.loop-child.reader.number c.loop-child.state (initial_state_of (reading_among
          event_tree_rows (inner_of c.args.around.now c.in_ok-container_of.field-0
          c.args.around.now.is_private) c.loop-child.reader.number c.child-item.result))
          c.loop-child.invariant.counted c.loop-child-test.true c.child-item.is c.loop-child.invariant.started
          refl;
    }

pub event_tree_part-requires : goal.event_tree_part-requires
event_tree_part-requires c =
    child-readable c.args.reader.now.number c.args.element.now c.as_slice-children.result.now
    c.loop-child.child-index c.child-item.result c.loop-child.reader.number c.requires
    c.as_slice-children.ensures c.loop-child.invariant.counted c.loop-child-test.true c.child-item.is

pub overflow_add-reader : goal.overflow_add-reader
overflow_add-reader c =
    omega (arith, next-fits c.args.reader.now.number c.args.element.now c.requires)

pub returns-clause-counted : goal.returns-clause-counted
returns-clause-counted c =
    always-ok c.append.result (counted-all c.args.reader.now.number c.args.element.now
    c.as_slice-children.result.now c.loop-child.child-index c.loop-child.reader.number
    c.as_slice-children.ensures c.loop-child-test.false c.loop-child.invariant.counted)
