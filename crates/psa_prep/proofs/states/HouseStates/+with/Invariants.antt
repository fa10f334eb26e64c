use Rattle.psa_prep.proofs.states.HouseStates.+with.Given as goal

abbrev pub decreases-with : goal.decreases-with
decreases-with l = l.bits
