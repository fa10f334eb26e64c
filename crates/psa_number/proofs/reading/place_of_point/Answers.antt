use Rattle.std.proofs.Common.{ℕ, Option, unwrap_or, length, not, ap, ◌∙◌}
use Rattle.std.proofs.lemmas.List.Sums.{prefix_len-le-length}
use Rattle.psa_number.specs.DecimalText.{is_point}
use Rattle.psa_number.proofs.DigitLemmas.{place_is}
use Rattle.psa_number.proofs.reading.place_of_point.Goals as goal

pub returns-clause-place : goal.returns-clause-place
returns-clause-place c = c.unwrap_or.ensures ∙ ap (λ (o : Option ℕ). unwrap_or o (length c.args.text.now)) c.first_point.ensures ∙ place_is is_point c.args.text.now

pub returns-clause-within : goal.returns-clause-within
returns-clause-within c = rw (returns-clause-place c) (prefix_len-le-length (λ x. not (is_point x)) c.args.text.now)
