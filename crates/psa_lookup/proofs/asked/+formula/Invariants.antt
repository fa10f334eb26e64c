use Rattle.std.proofs.Common.{◌≡◌, ◌++◌, flat_map, take}
use Rattle.psa_names.specs.Chains.{references_in}
use Rattle.psa_names.specs.Outlines.{formula_outline}
use Rattle.psa_lookup.specs.Asking.{asked_references}
use Rattle.psa_lookup.proofs.asked.+formula.Given as goal

abbrev pub invariant-push_formulas-loop-formula : goal.invariant-push_formulas-loop-formula
invariant-push_formulas-loop-formula l =
    asked_references l.asked.items ≡ asked_references l.fn.asked.items ++ flat_map (λ one. references_in (formula_outline one)) (take l.formula-index l.formulas)
