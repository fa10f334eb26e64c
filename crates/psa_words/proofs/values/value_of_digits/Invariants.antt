use Rattle.psa_number.proofs.DigitLemmas.{IsReadSoFar}
use Rattle.psa_words.proofs.values.value_of_digits.Given as goal

abbrev pub invariant-loop-digit : goal.invariant-loop-digit
invariant-loop-digit l = IsReadSoFar 0 l.value l.digit-index l.digits
