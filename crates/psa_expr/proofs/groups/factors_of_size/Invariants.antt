use Rattle.std.proofs.Common.{◌≡◌, map}
use Rattle.std.specs.List.{range_with_len}
use Rattle.psa_expr.specs.declared.terms.Term.TheVariants.{Factor}
use Rattle.psa_expr.proofs.groups.factors_of_size.Given as goal

abbrev pub invariant-loop-more : goal.invariant-loop-more
invariant-loop-more l = l.terms ≡ map (λ level. Factor level) (range_with_len 2 l.more)
