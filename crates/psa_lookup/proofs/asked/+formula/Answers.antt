use Rattle.std.proofs.Common.{◌≡◌, ◌++◌, List, flat_map, sym, ap, ◌∙◌}
use Rattle.psa_names.specs.Chains.{references_in}
use Rattle.psa_names.specs.Outlines.{Reference, formula_outline}
use Rattle.psa_lookup.specs.Asking.{asked_references}
use Rattle.psa_lookup.proofs.StateLemmas.{on-ok}
use Rattle.psa_lookup.proofs.AskedLemmas.{in-connective, more-added}
use Rattle.psa_lookup.proofs.asked.+formula.Goals as goal

pub push_formula-returns-in-Connective : goal.push_formula-returns-in-Connective
push_formula-returns-in-Connective t c =
    on-ok c.push_formulas.result
    (λ (made : asked_references c.push_formulas.new.asked.items ≡ asked_references c.args.asked.now.items ++ flat_map (λ one. references_in (formula_outline one)) c.as_slice.result.now).
    made ∙ ap (λ (l : List Reference). asked_references c.args.asked.now.items ++ l)
    (ap (flat_map (λ one. references_in (formula_outline one))) c.as_slice.ensures ∙ sym (in-connective _ _ _ c.in-Connective.arguments) ∙ ap (λ e. references_in (formula_outline e)) (sym c.in-Connective.is)))
    c.push_formulas.ensures

pub push_formulas-loop-formula-preserved : goal.push_formulas-loop-formula-preserved
push_formulas-loop-formula-preserved t c =
    more-added (λ one. references_in (formula_outline one)) _ _ _ c.args.formulas.now c.loop-formula.formula-index c.formula-item.result c.loop-formula-test.true c.formula-item.is c.loop-formula.invariant c.in_ok-push_formula.ensures
