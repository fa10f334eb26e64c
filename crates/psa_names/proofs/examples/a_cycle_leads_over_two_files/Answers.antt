use Rattle.psa_names.proofs.Computed.{cycle}
use Rattle.psa_names.proofs.examples.a_cycle_leads_over_two_files.Goals as goal

pub returns : goal.returns
returns c = cycle
