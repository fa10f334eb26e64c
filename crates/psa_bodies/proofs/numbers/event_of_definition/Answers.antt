use Rattle.std.proofs.Common.{sym, ◌∙◌}
use Rattle.psa_bodies.proofs.NumberedDefinitions.{event-gate, event-house, event-basic}
use Rattle.psa_bodies.proofs.numbers.event_of_definition.Goals as goal

pub returns-then-same_kind : goal.returns-then-same_kind
returns-then-same_kind c = λ entries place at. event-gate entries place c.args.numbered at (sym c.same_kind.ensures ∙ c.if-same_kind.true)

pub returns-then-same_kind-2 : goal.returns-then-same_kind-2
returns-then-same_kind-2 c = λ entries place at.
    event-house entries place c.args.numbered at (sym c.same_kind.ensures ∙ c.if-same_kind.false) (sym c.same_kind-else-same_kind.ensures ∙ c.if-same_kind-2.true)

pub returns-else-same_kind-2 : goal.returns-else-same_kind-2
returns-else-same_kind-2 c = λ entries place at.
    event-basic entries place c.args.numbered c.basic_place.result at (sym c.same_kind.ensures ∙ c.if-same_kind.false) (sym c.same_kind-else-same_kind.ensures ∙ c.if-same_kind-2.false) c.basic_place.ensures
