use Rattle.std.proofs.Common.{◌≤◌, arith}
use Rattle.psa_number.proofs.DigitLemmas.{power_small, power_some}
use Rattle.psa_number.proofs.scaling.divisor_of.Goals as goal

pub pow-requires : goal.pow-requires
pow-requires c = let small : c.from.result ≤ 36 = omega arith in power_small c.from.result small

pub returns-clause-some : goal.returns-clause-some
returns-clause-some c = rw c.pow.ensures (power_some c.from.result)
