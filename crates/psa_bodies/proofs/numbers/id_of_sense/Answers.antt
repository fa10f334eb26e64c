use Rattle.std.proofs.Common.{ap, ◌∙◌, sym}
use Rattle.std.specs.List.{slice_get}
use Rattle.psa_names.specs.Found.{meaning_of_sense}
use Rattle.psa_names.specs.Ids.{id_of_meaning}
use Rattle.psa_bodies.proofs.NumberedDefinitions.{entry-at, no-entry-at, id-found, id-of-other, id-missing}
use Rattle.psa_bodies.proofs.numbers.id_of_sense.Goals as goal

pub returns-then-same_kind : goal.returns-then-same_kind
returns-then-same_kind c = λ entries are.
    id-found entries c.in-Definition.place c.args.kind c.in-Some.numbered.now c.requires (sym c.same_kind.ensures ∙ c.if-same_kind.true)
    (entry-at entries c.args.numbers.now c.in-Definition.place c.in-Some.numbered.now are (c.in-Some.ensures ∙ ap (λ ds. slice_get ds c.in-Definition.place) c.as_slice.ensures))
    ∙ ap (λ s. id_of_meaning c.args.kind entries (meaning_of_sense entries s)) (sym c.in-Definition.is)

pub returns-else-same_kind : goal.returns-else-same_kind
returns-else-same_kind c = λ entries are.
    id-of-other entries c.in-Definition.place c.args.kind c.in-Some.numbered.now (sym c.same_kind.ensures ∙ c.if-same_kind.false)
    (entry-at entries c.args.numbers.now c.in-Definition.place c.in-Some.numbered.now are (c.in-Some.ensures ∙ ap (λ ds. slice_get ds c.in-Definition.place) c.as_slice.ensures))
    ∙ ap (λ s. id_of_meaning c.args.kind entries (meaning_of_sense entries s)) (sym c.in-Definition.is)

pub returns-in-None : goal.returns-in-None
returns-in-None c = λ entries are.
    id-missing entries c.in-Definition.place c.args.kind (no-entry-at entries c.args.numbers.now c.in-Definition.place are (c.in-None.ensures ∙ ap (λ ds. slice_get ds c.in-Definition.place) c.as_slice.ensures))
    ∙ ap (λ s. id_of_meaning c.args.kind entries (meaning_of_sense entries s)) (sym c.in-Definition.is)
