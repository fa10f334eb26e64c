use Rattle.std.proofs.Common.{◌≡◌, ◌∷◌, map, take}
use Rattle.psa_names.specs.Outlines.{expression_outline, joined}
use Rattle.psa_cycles.specs.Levels.{with_outlines}
use Rattle.psa_cycles.proofs.bodies.push_group.Given as goal

abbrev pub invariant-loop-factor : goal.invariant-loop-factor
invariant-loop-factor l =
    l.levels ≡ with_outlines l.around (joined (expression_outline l.group.distribution ∷ map (λ factor. expression_outline factor.expression) (take l.factor-index l.factor-items))) l.fn.levels
