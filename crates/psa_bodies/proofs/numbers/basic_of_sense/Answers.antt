use Rattle.std.proofs.Common.{Some, ap, ◌∙◌, sym}
use Rattle.std.specs.List.{slice_get}
use Rattle.std.specs.Option.{option_map}
use Rattle.psa_names.specs.Found.{meaning_of_sense}
use Rattle.psa_names.specs.Ids.{basic_id}
use Rattle.psa_bodies.proofs.NumberedDefinitions.{entry-at, no-entry-at, basic-at, basic-missing, basic-of-group}
use Rattle.psa_bodies.proofs.numbers.basic_of_sense.Goals as goal

pub returns-in-Some : goal.returns-in-Some
returns-in-Some c = λ entries are.
    ap Some (c.basic_place.ensures ∙ basic-at entries c.in-Definition.place c.in-Some.numbered.now
    (entry-at entries c.args.numbers.now c.in-Definition.place c.in-Some.numbered.now are (c.in-Some.ensures ∙ ap (λ ds. slice_get ds c.in-Definition.place) c.as_slice.ensures)))
    ∙ ap (λ s. option_map (basic_id entries) (meaning_of_sense entries s)) (sym c.in-Definition.is)

pub returns-in-None : goal.returns-in-None
returns-in-None c = λ entries are.
    ap Some (basic-missing entries c.in-Definition.place (no-entry-at entries c.args.numbers.now c.in-Definition.place are (c.in-None.ensures ∙ ap (λ ds. slice_get ds c.in-Definition.place) c.as_slice.ensures)))
    ∙ ap (λ s. option_map (basic_id entries) (meaning_of_sense entries s)) (sym c.in-Definition.is)

pub returns-in-OfGroup : goal.returns-in-OfGroup
returns-in-OfGroup c = λ entries are.
    basic-of-group entries c.args.numbers.now c.in-OfGroup.number c.copied.result are
    (c.copied.ensures ∙ c.at-in-OfGroup.ensures ∙ ap (λ ids. slice_get ids c.in-OfGroup.number) c.as_slice-in-OfGroup.ensures)
    ∙ ap (λ s. option_map (basic_id entries) (meaning_of_sense entries s)) (sym c.in-OfGroup.is)
