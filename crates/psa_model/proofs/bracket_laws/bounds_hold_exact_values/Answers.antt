use Rattle.psa_model.proofs.HeldTotals.{bound-held, rare-event-held, min-cut-held}
use Rattle.psa_model.proofs.bracket_laws.bounds_hold_exact_values.Goals as goal

pub returns-clause-bound : goal.returns-clause-bound
returns-clause-bound c = bound-held

pub returns-clause-min_cut : goal.returns-clause-min_cut
returns-clause-min_cut c = min-cut-held

pub returns-clause-rare_event : goal.returns-clause-rare_event
returns-clause-rare_event c = rare-event-held
