use Rattle.psa_text.proofs.OneOutcome.{decides_one, first_one, ends_one, no_tree_ends}
use Rattle.psa_text.proofs.laws.each_fault_is_one.Goals as goal

pub returns-clause-byte : goal.returns-clause-byte
returns-clause-byte c = decides_one

pub returns-clause-first : goal.returns-clause-first
returns-clause-first c = first_one

pub returns-clause-end : goal.returns-clause-end
returns-clause-end c = ends_one

pub returns-clause-treeless : goal.returns-clause-treeless
returns-clause-treeless c = no_tree_ends
