use Rattle.std.proofs.Common.{◌-◌, [], sym, ap, ◌∙◌, refl, arith}
use Rattle.std.specs.List.{slice_get}
use Rattle.std.proofs.lemmas.Result.{err_from_is_err_and}
use Rattle.psa_walk.proofs.CarriedInstructionLemmas.{carried-nil, carried-none, carried-collect, carried-set, carried-block, carried-rule, carried-if, carries-as, one-more, one-stops, all-carried}
use Rattle.psa_walk.proofs.instructions.+carrying.Goals as goal

pub carry_out-returns-then-left-eq0-clause-carried : goal.carry_out-returns-then-left-eq0-clause-carried
carry_out-returns-then-left-eq0-clause-carried t c =
    let a = c.args in
    carried-none a.left a.walk.now.model.now a.walk.now.initiating.0 _ _ a.travelled.now c.if-left-eq0.true

pub carry_out-returns-in-Collect-clause-carried : goal.carry_out-returns-in-Collect-clause-carried
carry_out-returns-in-Collect-clause-carried t c =
    let a = c.args in
    carries-as _ _ _ _ (carried-collect a.left a.walk.now.model.now a.walk.now.initiating.0 a.instruction.now a.travelled.now c.in-Collect.id (omega arith) c.in-Collect.is) c.take_step.ensures.carried

pub carry_out-returns-in-SetHouse-clause-carried : goal.carry_out-returns-in-SetHouse-clause-carried
carry_out-returns-in-SetHouse-clause-carried t c =
    let a = c.args in
    carries-as _ _ _ _ (carried-set a.left a.walk.now.model.now a.walk.now.initiating.0 a.instruction.now a.travelled.now c.in-SetHouse.house c.in-SetHouse.state (omega arith) c.in-SetHouse.is) c.take_step-in-SetHouse.ensures.carried

pub carry_out-returns-in-Block-clause-carried : goal.carry_out-returns-in-Block-clause-carried
carry_out-returns-in-Block-clause-carried t c =
    let a = c.args in
    carries-as _ _ _ _ (carried-block a.left a.walk.now.model.now a.walk.now.initiating.0 a.instruction.now a.travelled.now c.in-Block.inner _ (omega arith) c.in-Block.is c.as_slice.ensures) c.carry_out_all.ensures.carried

pub carry_out-returns-in-Some-clause-carried : goal.carry_out-returns-in-Some-clause-carried
carry_out-returns-in-Some-clause-carried t c =
    let a = c.args in
    carries-as _ _ _ _
    (carried-rule a.left a.walk.now.model.now a.walk.now.initiating.0 a.instruction.now a.travelled.now c.in-Rule.id _ _ (omega arith) c.in-Rule.is
    (ap (λ rs. slice_get rs c.in-Rule.id.0) (sym c.as_slice-in-Rule.ensures) ∙ sym c.in-Some.ensures) c.as_slice-in-Some.ensures)
    c.carry_out_all-in-Some.ensures.carried

pub carry_out-returns-in-None-clause-carried : goal.carry_out-returns-in-None-clause-carried
carry_out-returns-in-None-clause-carried t c =
    let a = c.args in
    carried-rule a.left a.walk.now.model.now a.walk.now.initiating.0 a.instruction.now a.travelled.now c.in-Rule.id _ [] (omega arith) c.in-Rule.is
    (ap (λ rs. slice_get rs c.in-Rule.id.0) (sym c.as_slice-in-Rule.ensures) ∙ sym c.in-None.ensures) refl
    ∙ carried-nil (a.left - 1) a.walk.now.model.now a.walk.now.initiating.0 a.travelled.now

pub carry_out-returns-then-holds-clause-carried : goal.carry_out-returns-then-holds-clause-carried
carry_out-returns-then-holds-clause-carried t c =
    let a = c.args in
    carries-as _ _ _ _
    (carried-if a.left a.walk.now.model.now a.walk.now.initiating.0 a.instruction.now a.travelled.now c.in-If.test c.in-If.first c.in-If.second _ _ (omega arith) c.in-If.is
    (sym c.if-holds.true ∙ c.holds.ensures) c.as_slice-then-holds.ensures)
    c.carry_out_all-then-holds.ensures.carried

pub carry_out-returns-else-holds-clause-carried : goal.carry_out-returns-else-holds-clause-carried
carry_out-returns-else-holds-clause-carried t c =
    let a = c.args in
    carries-as _ _ _ _
    (carried-if a.left a.walk.now.model.now a.walk.now.initiating.0 a.instruction.now a.travelled.now c.in-If.test c.in-If.first c.in-If.second _ _ (omega arith) c.in-If.is
    (sym c.if-holds.false ∙ c.holds.ensures) c.as_slice-else-holds.ensures)
    c.carry_out_all-else-holds.ensures.carried

pub carry_out_all-loop-instruction-preserved : goal.carry_out_all-loop-instruction-preserved
carry_out_all-loop-instruction-preserved t c =
    let a = c.args in
    let fewer = c.loop-instruction.invariant.fewer in
    let less = c.in_ok-rest.ensures.left in
    record {
      same = one-more a.walk.now.model.now a.walk.now.initiating.0 _ a.instructions.now c.loop-instruction.instruction-index c.instruction-item.result c.loop-instruction.rest c.loop-instruction.travelled
          c.loop-instruction.invariant.same c.loop-instruction-test.true c.instruction-item.is c.in_ok-rest.rest c.carry_out.new.travelled c.in_ok-rest.ensures.carried;
      fewer = omega (arith, fewer, less);
    }

pub carry_out_all-returns-in_err-rest-clause-carried : goal.carry_out_all-returns-in_err-rest-clause-carried
carry_out_all-returns-in_err-rest-clause-carried t c =
    let a = c.args in
    let p = err_from_is_err_and c.from_residual.result c.from_residual.ensures.1 in
    rw (p.1, p.2) (one-stops a.walk.now.model.now a.walk.now.initiating.0 _ a.instructions.now c.loop-instruction.instruction-index c.instruction-item.result c.loop-instruction.rest c.loop-instruction.travelled
    c.loop-instruction.invariant.same c.loop-instruction-test.true c.instruction-item.is c.in_err-rest.field-0.0 c.carry_out.new.travelled c.in_err-rest.ensures.carried)

pub carry_out_all-returns-clause-carried : goal.carry_out_all-returns-clause-carried
carry_out_all-returns-clause-carried t c =
    let a = c.args in
    all-carried a.walk.now.model.now a.walk.now.initiating.0 _ a.instructions.now c.loop-instruction.instruction-index c.loop-instruction.rest c.loop-instruction.travelled c.loop-instruction.invariant.same c.loop-instruction-test.false
