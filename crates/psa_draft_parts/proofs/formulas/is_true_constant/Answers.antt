use Rattle.std.proofs.Common.{sym, ◌∙◌}
use Rattle.psa_draft_parts.specs.Starts.{around_of}
use Rattle.psa_draft_parts.proofs.FormulaSayings.{constant-state, no-state}
use Rattle.psa_draft_parts.proofs.formulas.is_true_constant.Goals as goal

pub returns-then-eq-clause-said : goal.returns-then-eq-clause-said
returns-then-eq-clause-said c = c.has_value.ensures ∙ constant-state (around_of c.args.around.now)
    c.args.reader.now.number c.args.element.now c.as_str.result.now c.as_str.ensures (sym c.eq.ensures ∙
    c.if-eq.true)

pub returns-else-eq-clause-said : goal.returns-else-eq-clause-said
returns-else-eq-clause-said c = c.if-eq.false ∙ no-state (around_of c.args.around.now) c.args.reader.now.number
    c.args.element.now c.as_str.result.now c.as_str.ensures (sym c.eq.ensures ∙ c.if-eq.false)
