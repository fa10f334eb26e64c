use Rattle.std.proofs.Common.{◌≡◌, map}
use Rattle.std.specs.List.{range_with_len}
use Rattle.psa_expr.specs.declared.terms.Term.TheVariants.{Weighted}
use Rattle.psa_expr.proofs.groups.weighted_factors.Given as goal

abbrev pub invariant-loop-smaller : goal.invariant-loop-smaller
invariant-loop-smaller l = l.terms ≡ map (λ level. Weighted level) (range_with_len 1 l.smaller)
