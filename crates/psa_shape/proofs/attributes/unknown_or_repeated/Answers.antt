use Rattle.std.proofs.Common.{List, map, sym, ap, ◌∙◌}
use Rattle.std.specs.List.{slice_get}
use Rattle.psa_model.specs.PathNames.{Text}
use Rattle.psa_shape.specs.TableRules.{seen_attribute}
use Rattle.psa_shape.proofs.AttributeLemmas.{unknown-first, repeated-first, known-next}
use Rattle.psa_shape.proofs.attributes.unknown_or_repeated.Goals as goal
use Rattle.psa_shape.proofs.attributes.unknown_or_repeated.Goals.{then-not-is_known-via-then-not-is_known, then-not-is_known-via-else-not-is_known+then-is_given}

pub returns-then-not-is_known : goal.returns-then-not-is_known
returns-then-not-is_known c = elim c.then-not-is_known.branch [
  | then-not-is_known-via-then-not-is_known w ↦
      unknown-first (map seen_attribute c.args.rules.now) c.args.given.now c.loop-place.place
      c.index-given-place.result c.loop-place-test.true c.index-given-place.is c.as_str-name.result.now
      c.as_str-name.ensures
      (sym c.is_known.ensures ∙ w.if-not-is_known.true)
      ∙ ap (λ (names : List Text). slice_get names 0) c.loop-place.invariant
  | then-not-is_known-via-else-not-is_known+then-is_given w ↦
      repeated-first (map seen_attribute c.args.rules.now) c.args.given.now c.loop-place.place
      c.index-given-place.result c.loop-place-test.true c.index-given-place.is c.as_str-name.result.now
      c.as_str-name.ensures
      (sym c.is_known.ensures ∙ w.if-not-is_known.false) (sym w.is_given.ensures ∙ w.if-is_given.true)
      ∙ ap (λ (names : List Text). slice_get names 0) c.loop-place.invariant
]

pub loop-place-preserved : goal.loop-place-preserved
loop-place-preserved c =
    sym (known-next (map seen_attribute c.args.rules.now) c.args.given.now c.loop-place.place
    c.index-given-place.result c.loop-place-test.true c.index-given-place.is c.as_str-name.result.now
    c.as_str-name.ensures
    (sym c.is_known.ensures ∙ c.if-not-is_known.false) (sym c.is_given.ensures ∙ c.if-is_given.false))
    ∙ c.loop-place.invariant
