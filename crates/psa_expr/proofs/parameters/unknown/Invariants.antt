use Rattle.std.proofs.Common.{◌≡◌, ℕ, None}
use Rattle.psa_expr.specs.Answers.{recorded}
use Rattle.psa_expr.proofs.parameters.unknown.Given as goal

abbrev pub invariant-loop : goal.invariant-loop
invariant-loop l = (place : ℕ) → recorded l.known place ≡ None
