use Rattle.std.proofs.Common.{map, take}
use Rattle.std.specs.List.{flat_map}
use Rattle.psa_names.specs.Outlines.{formula_outline}
use Rattle.psa_names.specs.Chains.{references_in}
use Rattle.psa_names.specs.Resolved.{resolved_formula}
use Rattle.psa_bodies.specs.Reading.{Reads}
use Rattle.psa_bodies.proofs.formulas.+formula.Given as goal

abbrev pub invariant-resolve_formulas-loop-formula : goal.invariant-resolve_formulas-loop-formula
invariant-resolve_formulas-loop-formula l =
    Reads l.numbers l.initial.cursor l.cursor (flat_map (λ one. references_in (formula_outline one)) (take l.formula-index l.formulas))
    (λ entries from. map (resolved_formula entries from) (take l.formula-index l.formulas)) l.made
