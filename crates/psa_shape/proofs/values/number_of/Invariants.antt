use Rattle.psa_number.proofs.DigitLemmas.{IsReadSoFar}
use Rattle.psa_shape.proofs.values.number_of.Given as goal

abbrev pub invariant-loop-digit : goal.invariant-loop-digit
invariant-loop-digit l = IsReadSoFar 0 l.number l.digit-index l.digits
