use Rattle.psa_names.proofs.Computed.{duplicate, one_gate, second_gate, wrong_kind}
use Rattle.psa_names.proofs.examples.a_gate_is_defined_elsewhere.Goals as goal

pub returns-clause-alone : goal.returns-clause-alone
returns-clause-alone c = one_gate

pub returns-clause-second : goal.returns-clause-second
returns-clause-second c = second_gate

pub returns-clause-repeated : goal.returns-clause-repeated
returns-clause-repeated c = duplicate

pub returns-clause-house : goal.returns-clause-house
returns-clause-house c = wrong_kind
