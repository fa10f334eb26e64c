use Rattle.std.proofs.Common.{Some, None, ap, ◌∙◌, sym}
use Rattle.std.specs.List.{slice_get}
use Rattle.std.specs.Option.{option_map}
use Rattle.psa_names.specs.Ids.{basic_id}
use Rattle.psa_names.specs.Found.{meaning_of_sense}
use Rattle.psa_names.specs.Resolved.{event_formula}
use Rattle.psa_bodies.proofs.NumberedDefinitions.{entry-at, no-entry-at, event-missing, basic-of-group, event-of-group}
use Rattle.psa_bodies.proofs.numbers.event_of_sense.Goals as goal

pub returns-in-Some : goal.returns-in-Some
returns-in-Some c = λ entries are.
    c.event_of_definition.ensures entries c.in-Definition.place
    (entry-at entries c.args.numbers.now c.in-Definition.place c.in-Some.numbered.now are (c.in-Some.ensures ∙ ap (λ ds. slice_get ds c.in-Definition.place) c.as_slice.ensures))
    ∙ ap (λ s. event_formula entries (meaning_of_sense entries s)) (sym c.in-Definition.is)

pub returns-in-None : goal.returns-in-None
returns-in-None c = λ entries are.
    event-missing entries c.in-Definition.place (no-entry-at entries c.args.numbers.now c.in-Definition.place are (c.in-None.ensures ∙ ap (λ ds. slice_get ds c.in-Definition.place) c.as_slice.ensures))
    ∙ ap (λ s. event_formula entries (meaning_of_sense entries s)) (sym c.in-Definition.is)

pub returns-in-Some-at : goal.returns-in-Some-at
returns-in-Some-at c = λ entries are.
    event-of-group entries (meaning_of_sense entries c.args.sense) c.in-OfGroup.number (Some c.in-Some-at.id.now) (ap (meaning_of_sense entries) c.in-OfGroup.is)
    (basic-of-group entries c.args.numbers.now c.in-OfGroup.number (Some c.in-Some-at.id.now) are
    (c.in-Some-at.ensures ∙ ap (λ ids. slice_get ids c.in-OfGroup.number) c.as_slice-in-OfGroup.ensures)
    ∙ ap (λ s. option_map (basic_id entries) (meaning_of_sense entries s)) (sym c.in-OfGroup.is))

pub returns-in-None-at : goal.returns-in-None-at
returns-in-None-at c = λ entries are.
    event-of-group entries (meaning_of_sense entries c.args.sense) c.in-OfGroup.number None (ap (meaning_of_sense entries) c.in-OfGroup.is)
    (basic-of-group entries c.args.numbers.now c.in-OfGroup.number None are
    (c.in-None-at.ensures ∙ ap (λ ids. slice_get ids c.in-OfGroup.number) c.as_slice-in-OfGroup.ensures)
    ∙ ap (λ s. option_map (basic_id entries) (meaning_of_sense entries s)) (sym c.in-OfGroup.is))
