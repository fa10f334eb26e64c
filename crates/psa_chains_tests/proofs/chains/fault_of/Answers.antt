use Rattle.std.proofs.Common.{sym, ◌∙◌, subst}
use Rattle.psa_chains.specs.Chains.{AllStand}
use Rattle.psa_chains_tests.proofs.chains.fault_of.Goals as goal

pub chain_fault-requires-clause-stand : goal.chain_fault-requires-clause-stand
chain_fault-requires-clause-stand c = subst AllStand (c.as_slice.ensures ∙ sym c.as_slice-2.ensures) (c.stands.ensures c.if-not-stands.false)
