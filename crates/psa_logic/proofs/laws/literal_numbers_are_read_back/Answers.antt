use Rattle.psa_logic.proofs.LiteralLemmas.{rank-literal, positive-literal, literal-read}
use Rattle.psa_logic.proofs.laws.literal_numbers_are_read_back.Goals as goal

pub returns-clause-rank : goal.returns-clause-rank
returns-clause-rank c = rank-literal

pub returns-clause-sign : goal.returns-clause-sign
returns-clause-sign c = positive-literal

pub returns-clause-number : goal.returns-clause-number
returns-clause-number c = literal-read
