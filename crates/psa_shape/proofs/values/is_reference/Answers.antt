use Rattle.std.proofs.Common.{sym, ap, ◌∙◌}
use Rattle.std.specs.List.{list_all}
use Rattle.psa_model.specs.PathNames.{Text, name_parts}
use Rattle.psa_elements.specs.ElementTable.{is_name}
use Rattle.psa_shape.proofs.ValueLemmas.{names-bad, names-next, names-last}
use Rattle.psa_shape.proofs.values.is_reference.Goals as goal

pub returns-then-not-is_name : goal.returns-then-not-is_name
returns-then-not-is_name c =
    sym (names-bad c.loop-place.rest.now c.in-Some.place (sym c.in-Some.ensures)
    (sym c.is_name.ensures ∙ c.if-not-is_name.true)) ∙ c.loop-place.invariant

pub loop-place-preserved : goal.loop-place-preserved
loop-place-preserved c =
    ap (λ (t : Text). list_all is_name (name_parts t)) c.behind-rest.ensures
    ∙ sym (names-next c.loop-place.rest.now c.in-Some.place (sym c.in-Some.ensures)
    (sym c.is_name.ensures ∙ c.if-not-is_name.false)) ∙ c.loop-place.invariant

pub returns : goal.returns
returns c = c.is_name-2.ensures ∙ sym (names-last c.loop-place.rest.now (sym c.in_default.ensures))
    ∙ c.loop-place.invariant
