use Rattle.std.proofs.Common.{sym, subst, rules}
use Rattle.psa_number.specs.Ends.{Ends}
use Rattle.psa_number.specs.Fraction.{Fraction, Holds, one_minus}
use Rattle.psa_number.proofs.BracketLemmas.{complement_held}
use Rattle.psa_number.proofs.unit.complement.Goals as goal

pub returns-clause-exact : goal.returns-clause-exact
returns-clause-exact c = search rules

pub returns-clause-bracket : goal.returns-clause-bracket
returns-clause-bracket c = λ (x : Fraction) (h : Holds c.args.a x). subst (λ (e : Ends). Holds e (one_minus x)) (sym (returns-clause-exact c)) (complement_held c.args.a x h)
