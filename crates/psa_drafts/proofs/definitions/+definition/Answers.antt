use Rattle.std.proofs.Common.{◌≡◌, ◌+◌, ◌++◌, arith, rules, Some, None, List, [], ◌∷◌, refl, ap, sym, ◌∙◌}
use Rattle.std.proofs.Common.{subst, take, append-nil}
use Rattle.psa_elements.specs.DraftReading as reading
use Rattle.psa_text.specs.declared.tree.Element.TheViews as q
use Rattle.psa_draft_parts.specs.Sayings.{reading_among, readings_among, reading_as, start_tag}
use Rattle.psa_draft_parts.specs.Starts.{around_of}
use Rattle.psa_draft_parts.proofs.Passing.{next-fits, counted-more, several-more}
use Rattle.psa_text.specs.declared.tree.Element.{Element}
use Rattle.psa_model.specs.PathNames.{Text}
use Rattle.psa_elements.specs.ElementTable.{in_container}
use Rattle.psa_drafts.proofs.AroundSayings.{inner_of}
use Rattle.psa_draft_parts.proofs.Readings.{among-known}
use Rattle.std.proofs.Common.{ℕ, append_assoc, subst}
use Rattle.std.proofs.Common.{OnOk}
use Rattle.psa_elements.specs.DraftReading.{Reading, Surroundings, definitions_in, definitions_of}
use Rattle.psa_model.specs.declared.draft.DraftDefinition.{DraftDefinition}
use Rattle.psa_draft_parts.specs.Rows.{row_of_definition, rows_of, model_data_rows}
use Rattle.psa_draft_parts.specs.declared.rows.DefinitionRow.{DefinitionRow}
use Rattle.psa_draft_parts.proofs.Passing.{inside-counted, children-readable, readable-at}
use Rattle.psa_drafts.proofs.DefinitionSayings as says
use Rattle.psa_drafts.proofs.definitions.+definition.Goals as goal

pub definitions_in-definition_at-requires : goal.definitions_in-definition_at-requires
definitions_in-definition_at-requires t c = (
  search (rules, q.the_lemmas),
  readable-at c.args.reader.now.number c.args.elements.now
      c.loop-element.element-index c.element-item.result c.loop-element.reader.number c.requires
      c.loop-element.invariant.counted c.loop-element-test.true c.element-item.is,
)

pub definitions_in-loop-element-preserved : goal.definitions_in-loop-element-preserved
definitions_in-loop-element-preserved t c =
    record {
      counted = counted-more c.args.reader.now.number c.args.elements.now c.loop-element.element-index
          c.element-item.result c.loop-element.reader.number c.definition_at.new.reader.number
          c.loop-element.invariant.counted c.loop-element-test.true c.element-item.is
          c.in_ok-definition_at.ensures.counted;
      said = c.in_ok-definition_at.ensures.said
          ∙ ap (λ (xs : List DraftDefinition). xs ++ definitions_of (reading_among (rows_of c.args.inside)
          (around_of c.args.around.now) c.loop-element.reader.number c.element-item.result))
          c.loop-element.invariant.said
          ∙ append_assoc c.args.all.now (definitions_in (readings_among (rows_of c.args.inside) (around_of
          c.args.around.now) c.args.reader.now.number (take c.loop-element.element-index
          c.args.elements.now))) (definitions_of (reading_among (rows_of c.args.inside) (around_of
          c.args.around.now) c.loop-element.reader.number c.element-item.result))
          ∙ ap (λ (xs : List DraftDefinition). c.args.all.now ++ xs)
          (several-more definitions_of (rows_of c.args.inside) (around_of c.args.around.now)
          c.args.reader.now.number c.args.elements.now c.loop-element.element-index c.element-item.result
          c.loop-element.reader.number (definitions_in (readings_among (rows_of c.args.inside) (around_of
          c.args.around.now) c.args.reader.now.number (take c.loop-element.element-index
          c.args.elements.now))) (definitions_of (reading_among (rows_of c.args.inside) (around_of
          c.args.around.now) c.loop-element.reader.number c.element-item.result))
          c.loop-element.invariant.counted c.loop-element-test.true c.element-item.is refl refl);
    }

pub definition_at-returns-in-Some-clause-said : goal.definition_at-returns-in-Some-clause-said
definition_at-returns-in-Some-clause-said t c =
    let P : Reading → Type 0 = λ (r : Reading). OnOk c.definition.result (c.definition.new.all ≡ c.args.all.now ++
    definitions_of r) in
    subst P (sym (among-known (rows_of c.args.inside) (around_of c.args.around.now) c.args.reader.now.number
    c.args.element.now c.as_str.result.now (Some (row_of_definition c.in-Some.row)) c.as_str.ensures
    c.in-Some.ensures)) c.definition.ensures.said

pub definition_at-returns-in-None-clause-said : goal.definition_at-returns-in-None-clause-said
definition_at-returns-in-None-clause-said t c =
    sym (append-nil c.args.all.now) ∙ ap (λ (r : Reading). c.args.all.now ++ definitions_of r) (sym (among-known
    (rows_of c.args.inside) (around_of c.args.around.now) c.args.reader.now.number c.args.element.now
    c.as_str.result.now None c.as_str.ensures c.in-None.ensures))

pub fault_tree-overflow_add-reader : goal.fault_tree-overflow_add-reader
fault_tree-overflow_add-reader t c =
    omega (arith, next-fits c.args.reader.now.number c.args.element.now c.requires)

pub fault_tree-definitions_in-requires : goal.fault_tree-definitions_in-requires
fault_tree-definitions_in-requires t c = (
  search (rules, q.the_lemmas),
  children-readable c.args.reader.now.number c.args.element.now
      c.as_slice-children.result.now c.as_slice-children.ensures c.requires,
)

pub fault_tree-returns-clause-counted : goal.fault_tree-returns-clause-counted
fault_tree-returns-clause-counted t c =
    let P : ℕ → Type 0 = λ (m : ℕ). OnOk c.definitions_in.result (c.definitions_in.new.reader.number ≡ m) in
    subst P (inside-counted c.args.reader.now.number c.args.element.now c.as_slice-children.result.now
    c.as_slice-children.ensures) c.definitions_in.ensures.counted

pub fault_tree-returns-clause-said : goal.fault_tree-returns-clause-said
fault_tree-returns-clause-said t c =
    let inner : Surroundings = (inner_of c.args.around.now c.in_ok-container_of.field-0 c.args.around.now.is_private) in
    let inside : List DraftDefinition = definitions_in (readings_among in_container inner (c.args.reader.now.number
    + 1) c.as_slice-children.result.now) in
    let P : List DraftDefinition → Type 0 = λ (ds : List DraftDefinition). OnOk c.definitions_in.result
    (c.definitions_in.new.all ≡ ds) in
    subst P (ap (λ (ds : List DraftDefinition). ds ++ inside) c.in_ok-push.ensures.ok
    ∙ says.fault_tree-said (around_of c.args.around.now) c.args.reader.now.number c.args.element.now c.args.all.now
    c.in_ok-own.own inner c.as_slice-children.result.now c.in_ok-own.ensures
    (ap (λ (k : List Text). inner_of c.args.around.now k c.args.around.now.is_private)
    c.in_ok-container_of.ensures) c.as_slice-children.ensures) c.definitions_in.ensures.said

pub component-overflow_add-reader : goal.component-overflow_add-reader
component-overflow_add-reader t c =
    omega (arith, next-fits c.args.reader.now.number c.args.element.now c.requires)

pub component-definitions_in-requires : goal.component-definitions_in-requires
component-definitions_in-requires t c = (
  search (rules, q.the_lemmas),
  children-readable c.args.reader.now.number c.args.element.now
      c.as_slice-children.result.now c.as_slice-children.ensures c.requires,
)

pub component-returns-clause-counted : goal.component-returns-clause-counted
component-returns-clause-counted t c =
    let P : ℕ → Type 0 = λ (m : ℕ). OnOk c.definitions_in.result (c.definitions_in.new.reader.number ≡ m) in
    subst P (inside-counted c.args.reader.now.number c.args.element.now c.as_slice-children.result.now
    c.as_slice-children.ensures) c.definitions_in.ensures.counted

pub component-returns-clause-said : goal.component-returns-clause-said
component-returns-clause-said t c =
    let inner : Surroundings = inner_of c.args.around.now c.in_ok-container_of.field-0 c.is_private-private.result in
    let inside : List DraftDefinition = definitions_in (readings_among in_container inner (c.args.reader.now.number
    + 1) c.as_slice-children.result.now) in
    let P : List DraftDefinition → Type 0 = λ (ds : List DraftDefinition). OnOk c.definitions_in.result
    (c.definitions_in.new.all ≡ ds) in
    subst P (ap (λ (ds : List DraftDefinition). ds ++ inside) c.in_ok-push.ensures.ok
    ∙ says.component-said (around_of c.args.around.now) c.args.reader.now.number c.args.element.now c.args.all.now
    c.in_ok-own.own c.is_private-private.result inner c.as_slice-children.result.now c.in_ok-own.ensures
    c.is_private-private.ensures
    (ap (λ (k : List Text). inner_of c.args.around.now k c.is_private-private.result)
    (c.in_ok-container_of.ensures ∙ ap (λ (k : List Text). k ++ reading.own_name (start_tag (around_of
    c.args.around.now) c.args.reader.now.number c.args.element.now) ∷ []) c.as_slice.ensures))
    c.as_slice-children.ensures) c.definitions_in.ensures.said

pub definition-overflow_add-reader : goal.definition-overflow_add-reader
definition-overflow_add-reader t c =
    omega (arith, next-fits c.args.reader.now.number c.args.element.now c.requires)

pub definition-definitions_in-requires : goal.definition-definitions_in-requires
definition-definitions_in-requires t c = (
  search (rules, q.the_lemmas),
  children-readable c.args.reader.now.number c.args.element.now
      c.as_slice-children.result.now c.as_slice-children.ensures c.requires,
)

pub definition-returns-in-ModelData-clause-counted : goal.definition-returns-in-ModelData-clause-counted
definition-returns-in-ModelData-clause-counted t c =
    let P : ℕ → Type 0 = λ (m : ℕ). OnOk c.definitions_in.result (c.definitions_in.new.reader.number ≡ m) in
    subst P (inside-counted c.args.reader.now.number c.args.element.now c.as_slice-children.result.now
    c.as_slice-children.ensures) c.definitions_in.ensures.counted

pub definition-returns-in-ModelData-clause-said : goal.definition-returns-in-ModelData-clause-said
definition-returns-in-ModelData-clause-said t c =
    let P : List DraftDefinition → Type 0 = λ (ds : List DraftDefinition). OnOk c.definitions_in.result
    (c.definitions_in.new.all ≡ ds) in
    subst P (ap (λ (es : List Element). c.args.all.now ++ definitions_in (readings_among model_data_rows (around_of
    c.args.around.now) (c.args.reader.now.number + 1) es)) c.as_slice-children.ensures
    ∙ ap (λ (r : Reading). c.args.all.now ++ definitions_of r) (sym (says.says-model_data (around_of
    c.args.around.now) c.args.reader.now.number c.args.element.now))
    ∙ ap (λ (w : DefinitionRow). c.args.all.now ++ definitions_of (reading_as (row_of_definition w) (around_of
    c.args.around.now) c.args.reader.now.number c.args.element.now)) (sym c.in-ModelData.is))
    c.definitions_in.ensures.said
