use Rattle.std.proofs.Common.{◌-◌}
use Rattle.psa_ccf.proofs.subsets.+push_choices.Given as goal

abbrev pub decreases-push_choices : goal.decreases-push_choices
decreases-push_choices l = l.count - l.place
