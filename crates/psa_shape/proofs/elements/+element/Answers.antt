use Rattle.std.proofs.Common.{◌≡◌, List, Err, find, sym, ap, ◌∙◌, subst}
use Rattle.std.proofs.lemmas.Result.{err_from_is_err_and}
use Rattle.psa_text.specs.declared.tree.Element.TheViews.{out-Element}
use Rattle.psa_model.specs.PathNames.{Text}
use Rattle.psa_model.specs.declared.fault.FaultKind.TheVariants.{BadShape}
use Rattle.psa_model.specs.declared.fault.ModelFault.{ModelFault}
use Rattle.psa_elements.specs.ElementTable.{Rule, has_tag}
use Rattle.psa_elements.specs.ShapeFaults.{fault_at}
use Rattle.psa_shape.specs.TableRows.{row_of}
use Rattle.psa_shape.specs.TableRules.{rows_by, seen_rule}
use Rattle.psa_shape.specs.FoundFaults.{Finds, Tells, own_faults_by, seen_fault}
use Rattle.psa_shape.proofs.BoundLemmas.{numbers-right}
use Rattle.psa_shape.proofs.FaultLemmas.{child-found, child-passed, child-unknown, children-found, empty, nothing-found, own-found, shape-found}
use Rattle.psa_shape.proofs.elements.+element.Goals as goal

pub check_children-returns-in_err-check_element-in-Some : goal.check_children-returns-in_err-check_element-in-Some
check_children-returns-in_err-check_element-in-Some t c =
    let rule = seen_rule c.args.rule.now in
    let p = err_from_is_err_and c.from_residual.result c.from_residual.ensures.1 in
    rw (p.1, p.2) (subst (λ (l : List ModelFault). Finds l
    (Err c.in_err-check_element-in-Some.field-0.0)) c.loop-child.invariant
    (child-found c.args.file rule c.args.children.now c.loop-child.child-index c.child-item.result
    c.loop-child-test.true c.child-item.is (row_of c.in-Some.row) c.in_err-check_element-in-Some.field-0.0
    (c.in-Some.ensures ∙ ap (λ (t : Text). find (has_tag t)
    (rows_by rule)) c.as_str.ensures) c.in_err-check_element-in-Some.ensures))

pub check_children-returns-in-None : goal.check_children-returns-in-None
check_children-returns-in-None t c =
    let rule = seen_rule c.args.rule.now in
    subst (λ (l : List ModelFault). Finds l (Err c.unknown.result)) c.loop-child.invariant
    (child-unknown c.args.file rule c.args.children.now c.loop-child.child-index c.child-item.result
    c.loop-child-test.true c.child-item.is c.unknown.result
    (c.in-None.ensures ∙ ap (λ (t : Text). find (has_tag t) (rows_by rule)) c.as_str.ensures) c.unknown.ensures)

pub check_children-loop-child-preserved : goal.check_children-loop-child-preserved
check_children-loop-child-preserved t c =
    let rule = seen_rule c.args.rule.now in
    sym (child-passed c.args.file rule c.args.children.now c.loop-child.child-index c.child-item.result
    c.loop-child-test.true c.child-item.is (row_of c.in-Some.row)
    (c.in-Some.ensures ∙ ap (λ (t : Text). find (has_tag t)
    (rows_by rule)) c.as_str.ensures) c.in_ok-check_element-in-Some.ensures)
    ∙ c.loop-child.invariant

pub check_element-returns-in-Some : goal.check_element-returns-in-Some
check_element-returns-in-Some t c =
    own-found c.args.file c.args.element.now (row_of c.args.row)
    (seen_rule c.rule_of-rule.result) c.as_str.result.now c.as_slice-given.result.now c.as_slice-children.result.now
    c.rule_of-rule.ensures c.as_str.ensures c.as_slice-given.ensures c.as_slice-children.ensures
    (seen_fault c.in-Some.found) c.fault.result c.in-Some.ensures c.fault.ensures

pub check_element-returns-in_err-check_children : goal.check_element-returns-in_err-check_children
check_element-returns-in_err-check_children t c =
    let p = err_from_is_err_and c.from_residual.result c.from_residual.ensures.1 in
    rw (p.1, p.2) (children-found c.args.file c.args.element.now (row_of c.args.row)
    (seen_rule c.rule_of-rule.result) c.as_str.result.now c.as_slice-given.result.now c.as_slice-children.result.now
    c.rule_of-rule.ensures c.as_str.ensures c.as_slice-given.ensures c.as_slice-children.ensures
    c.in_default.ensures c.in_err-check_children.field-0.0 c.in_err-check_children.ensures)

pub check_element-is_well_shaped-requires : goal.check_element-is_well_shaped-requires
check_element-is_well_shaped-requires t c =
    numbers-right (row_of c.args.row) c.as_str.result.now c.as_slice-given.result.now
    (ap (λ (r : Rule). own_faults_by r c.as_str.result.now c.as_slice-given.result.now) (sym c.rule_of-rule.ensures)
    ∙ empty _ c.in_default.ensures)

pub check_element-returns-then-not-is_well_shaped : goal.check_element-returns-then-not-is_well_shaped
check_element-returns-then-not-is_well_shaped t c =
    shape-found c.args.file c.args.element.now (row_of c.args.row)
    (seen_rule c.rule_of-rule.result) c.as_str.result.now c.as_slice-given.result.now c.as_slice-children.result.now
    c.rule_of-rule.ensures c.as_str.ensures c.as_slice-given.ensures c.as_slice-children.ensures
    c.in_default.ensures c.in_ok-check_children.ensures c.fault-then-not-is_well_shaped.result
    (sym c.if-not-is_well_shaped.true ∙ c.is_well_shaped.ensures)
    (subst (λ (t : Text). Tells c.fault-then-not-is_well_shaped.result
    (λ f. f ≡ fault_at c.args.file (out-Element c.args.element.now).line (BadShape, t)))
    (c.as_str-then-not-is_well_shaped.ensures ∙ sym c.as_str.ensures) c.fault-then-not-is_well_shaped.ensures)

pub check_element-returns : goal.check_element-returns
check_element-returns t c =
    nothing-found c.args.file c.args.element.now (row_of c.args.row)
    (seen_rule c.rule_of-rule.result) c.as_str.result.now c.as_slice-given.result.now c.as_slice-children.result.now
    c.rule_of-rule.ensures c.as_str.ensures c.as_slice-given.ensures c.as_slice-children.ensures
    c.in_default.ensures c.in_ok-check_children.ensures (sym c.if-not-is_well_shaped.false ∙ c.is_well_shaped.ensures)
