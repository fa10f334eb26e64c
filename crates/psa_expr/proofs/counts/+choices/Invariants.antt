use Rattle.psa_expr.proofs.counts.+choices.Given as goal

abbrev pub decreases-choices : goal.decreases-choices
decreases-choices l = l.n
