use Rattle.psa_names.proofs.ChainLemmas.{chain-leads, leads-chain}
use Rattle.psa_names.proofs.ShortChains.{enough-steps}
use Rattle.psa_names.proofs.laws.leads_is_a_chain.Goals as goal

pub returns-clause-chain : goal.returns-clause-chain
returns-clause-chain c = leads-chain

pub returns-clause-leads : goal.returns-clause-leads
returns-clause-leads c = chain-leads

pub returns-clause-enough : goal.returns-clause-enough
returns-clause-enough c = λ steps entries from to chain. enough-steps entries steps from to chain
