use Rattle.std.proofs.Common.{◌≡◌, List, map, drop, refl, sym, ap, ◌∙◌, subst, arith}
use Rattle.std.proofs.lemmas.List.{take_rest}
use Rattle.psa_model.specs.Drafts.{body_contents}
use Rattle.psa_model.specs.declared.draft.DraftDefinition.{DraftDefinition}
use Rattle.psa_names.specs.declared.found.Sense.{Sense}
use Rattle.psa_names.specs.Outlines.{entry_of}
use Rattle.psa_names.specs.Found.{meaning_of_sense, reference_meanings}
use Rattle.psa_cycles.proofs.RoomInside.{nesting-at}
use Rattle.psa_cycles.proofs.GraphRows.{enough, rows-more, nested-more, levels-more}
use Rattle.psa_cycles.proofs.graph.graph_of.Goals as goal

-- what was found, of the definitions and senses that were borrowed
found-in : (definitions slice : List DraftDefinition) (senses borrowed : List Sense) → slice ≡ definitions → borrowed ≡ senses → map (meaning_of_sense (map entry_of definitions)) senses ≡ reference_meanings (map entry_of definitions) → map (meaning_of_sense (map entry_of slice)) borrowed ≡ reference_meanings (map entry_of slice)
found-in definitions slice senses borrowed p q found =
    subst (λ ds. map (meaning_of_sense (map entry_of ds)) borrowed ≡ reference_meanings (map entry_of ds)) (sym p)
    (ap (map (meaning_of_sense (map entry_of definitions))) q ∙ found)

pub push_definition-requires : goal.push_definition-requires
push_definition-requires c =
    let inside = nesting-at (λ (d : DraftDefinition). body_contents d.body) c.as_slice-definitions.result.now c.args.draft.now.definitions c.loop-definition.definition-index c.definition-item.result c.as_slice-definitions.ensures c.loop-definition-test.true c.definition-item.is in
    omega (arith, c.requires.draft.shallow)

pub slice_bounds-row_of-end : goal.slice_bounds-row_of-end
slice_bounds-row_of-end c =
    enough c.as_slice-definitions.result.now c.as_slice-senses.result.now c.loop-definition.definition-index c.definition-item.result c.loop-definition.levels c.push_definition.new.levels c.len-first.result c.len-last.result
    (found-in c.args.draft.now.definitions c.as_slice-definitions.result.now c.args.found.now.references c.as_slice-senses.result.now c.as_slice-definitions.ensures c.as_slice-senses.ensures c.requires.found.references)
    c.loop-definition-test.true c.definition-item.is c.loop-definition.invariant.levels c.len-first.ensures c.in_ok-push_definition.ensures c.len-last.ensures

pub loop-definition-preserved : goal.loop-definition-preserved
loop-definition-preserved c =
    let found = found-in c.args.draft.now.definitions c.as_slice-definitions.result.now c.args.found.now.references c.as_slice-senses.result.now c.as_slice-definitions.ensures c.as_slice-senses.ensures c.requires.found.references in
    record {
      rows = rows-more c.as_slice-definitions.result.now c.as_slice-senses.result.now c.loop-definition.definition-index c.definition-item.result c.loop-definition.levels c.push_definition.new.levels c.len-first.result c.len-last.result
          found c.loop-definition-test.true c.definition-item.is c.loop-definition.invariant.levels c.len-first.ensures c.in_ok-push_definition.ensures c.len-last.ensures
          _ _ c.in_ok-row.row c.loop-definition.graph.rows c.push.new.self (take_rest c.as_slice.result.now c.len-first.result ∙ ap (drop c.len-first.result) c.as_slice.ensures) refl c.in_ok-row.ensures c.loop-definition.invariant.rows c.in_ok-push.ensures.ok;
      nested = nested-more c.as_slice-definitions.result.now c.as_slice-senses.result.now c.loop-definition.definition-index c.definition-item.result c.loop-definition.levels c.push_definition.new.levels c.len-first.result c.len-last.result
          found c.loop-definition-test.true c.definition-item.is c.loop-definition.invariant.levels c.len-first.ensures c.in_ok-push_definition.ensures c.len-last.ensures
          c.nesting_of.result c.loop-definition.graph.nested c.push-in-loop-definition.new.self c.nesting_of.ensures c.loop-definition.invariant.nested c.in_ok-push-2.ensures.ok;
      levels = levels-more c.as_slice-definitions.result.now c.as_slice-senses.result.now c.loop-definition.definition-index c.definition-item.result c.loop-definition.levels c.push_definition.new.levels c.len-first.result c.len-last.result
          found c.loop-definition-test.true c.definition-item.is c.loop-definition.invariant.levels c.len-first.ensures c.in_ok-push_definition.ensures c.len-last.ensures;
    }
