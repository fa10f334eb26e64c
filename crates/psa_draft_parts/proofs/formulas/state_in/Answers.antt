use Rattle.std.proofs.Common.{◌+◌, arith, [], ◌∷◌, ap, ◌∙◌}
use Rattle.psa_elements.specs.ElementTable.{constant}
use Rattle.psa_elements.specs.DraftReading.{state_in}
use Rattle.psa_draft_parts.specs.Starts.{around_of}
use Rattle.psa_draft_parts.proofs.Passing.{next-fits, child-readable, counted-more, counted-all, inside-all}
use Rattle.psa_draft_parts.proofs.FormulaSayings.{state-more, taken, passed}
use Rattle.psa_draft_parts.proofs.formulas.state_in.Goals.{then-state, else-state}
use Rattle.psa_draft_parts.proofs.formulas.state_in.Goals as goal

pub overflow_add-reader : goal.overflow_add-reader
overflow_add-reader c = omega (arith, next-fits c.args.reader.now.number c.args.element.now c.requires)

pub is_true_constant-found-requires : goal.is_true_constant-found-requires
is_true_constant-found-requires c = child-readable c.args.reader.now.number c.args.element.now
    c.as_slice-children.result.now c.loop-child.child-index c.child-item.result c.loop-child.reader.number
    c.requires c.as_slice-children.ensures c.loop-child.invariant.counted c.loop-child-test.true c.child-item.is

pub loop-child-preserved : goal.loop-child-preserved
loop-child-preserved c =
    let more = state-more (constant ∷ []) (around_of c.args.around.now) (c.args.reader.now.number + 1)
    c.as_slice-children.result.now c.loop-child.child-index c.child-item.result c.loop-child.reader.number
    c.loop-child.state c.is_true_constant-found.result c.loop-child.invariant.counted
    c.loop-child-test.true c.child-item.is c.loop-child.invariant.said
    c.is_true_constant-found.ensures.said in
    record {
      counted = counted-more (c.args.reader.now.number + 1) c.as_slice-children.result.now c.loop-child.child-index
          c.child-item.result c.loop-child.reader.number c.is_true_constant-found.new.reader.number
          c.loop-child.invariant.counted c.loop-child-test.true c.child-item.is
          c.is_true_constant-found.ensures.counted;
      said = elim c.if-state.branch [
        | then-state w ↦ taken c.loop-child.state c.is_true_constant-found.result c.if-state.state w.if-state.true
            w.state-is ∙ more
        | else-state w ↦ passed c.loop-child.state c.is_true_constant-found.result c.if-state.state
            w.if-state.false w.state-is ∙ more
      ];
    }

pub returns-clause-counted : goal.returns-clause-counted
returns-clause-counted c = counted-all c.args.reader.now.number c.args.element.now c.as_slice-children.result.now
    c.loop-child.child-index c.loop-child.reader.number c.as_slice-children.ensures c.loop-child-test.false
    c.loop-child.invariant.counted

pub returns-clause-said : goal.returns-clause-said
returns-clause-said c = c.loop-child.invariant.said ∙ ap state_in (inside-all (constant ∷ []) (around_of
    c.args.around.now) c.args.reader.now.number c.args.element.now c.as_slice-children.result.now
    c.loop-child.child-index c.as_slice-children.ensures c.loop-child-test.false)
