use Rattle.std.proofs.Common.{◌+◌, ◌++◌, arith, List, [], ◌∷◌, ap, sym, ◌∙◌}
use Rattle.std.specs.List.{flat_map}
use Rattle.std.specs.Option.{option_to_list}
use Rattle.psa_draft_parts.specs.Starts.{around_of}
use Rattle.psa_draft_parts.proofs.Passing.{next-fits, child-readable, counted-more, counted-all, inside-all}
use Rattle.psa_elements.specs.ElementTable.{factor}
use Rattle.psa_elements.specs.DraftReading.{Reading, factors_of}
use Rattle.psa_model.specs.declared.draft.DraftFactor.{DraftFactor}
use Rattle.psa_draft_parts.proofs.GroupSayings as says
use Rattle.psa_draft_parts.proofs.groups.factors.Goals as goal

pub overflow_add-reader : goal.overflow_add-reader
overflow_add-reader c =
    omega (arith, next-fits c.args.reader.now.number c.args.element.now c.requires)

pub factor_at-requires : goal.factor_at-requires
factor_at-requires c =
    child-readable c.args.reader.now.number c.args.element.now c.as_slice-children.result.now
    c.loop-child.child-index c.child-item.result c.loop-child.reader.number c.requires
    c.as_slice-children.ensures c.loop-child.invariant.counted c.loop-child-test.true c.child-item.is

pub loop-child-preserved : goal.loop-child-preserved
loop-child-preserved c =
    record {
      counted = counted-more (c.args.reader.now.number + 1) c.as_slice-children.result.now c.loop-child.child-index
          c.child-item.result c.loop-child.reader.number c.factor_at.new.reader.number
          c.loop-child.invariant.counted c.loop-child-test.true c.child-item.is c.in_ok-found.ensures.counted;
      said = c.in_ok-push_found.ensures ∙ ap (λ (xs : List DraftFactor). xs ++ option_to_list c.in_ok-found.found)
          c.loop-child.invariant.said ∙ says.factors-more (factor ∷ []) (around_of c.args.around.now)
          (c.args.reader.now.number + 1) c.as_slice-children.result.now c.loop-child.child-index
          c.child-item.result c.loop-child.reader.number c.args.all.now (option_to_list c.in_ok-found.found)
          c.loop-child.invariant.counted c.loop-child-test.true c.child-item.is c.in_ok-found.ensures.said;
    }

pub returns-clause-counted : goal.returns-clause-counted
returns-clause-counted c =
    counted-all c.args.reader.now.number c.args.element.now c.as_slice-children.result.now c.loop-child.child-index
    c.loop-child.reader.number c.as_slice-children.ensures c.loop-child-test.false
    c.loop-child.invariant.counted

pub returns-clause-said : goal.returns-clause-said
returns-clause-said c =
    c.loop-child.invariant.said ∙ ap (λ (rs : List Reading). c.args.all.now ++ flat_map factors_of rs) (inside-all
    (factor ∷ []) (around_of c.args.around.now) c.args.reader.now.number c.args.element.now
    c.as_slice-children.result.now c.loop-child.child-index c.as_slice-children.ensures
    c.loop-child-test.false) ∙ ap (λ (r : Reading). c.args.all.now ++ factors_of r) (sym (says.says-factors
    (around_of c.args.around.now) c.args.reader.now.number c.args.element.now))
