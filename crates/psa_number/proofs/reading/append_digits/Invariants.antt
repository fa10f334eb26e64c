use Rattle.psa_number.proofs.DigitLemmas.{IsReadSoFar}
use Rattle.psa_number.proofs.reading.append_digits.Given as goal

abbrev pub invariant-loop-digit : goal.invariant-loop-digit
invariant-loop-digit l = IsReadSoFar l.start l.value l.digit-index l.digits
