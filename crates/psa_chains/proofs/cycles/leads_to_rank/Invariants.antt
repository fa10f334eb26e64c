use Rattle.std.proofs.Common.{◌<◌, ℕ, get_or, ◌≡◌}
use Rattle.psa_chains.specs.Chains.{targets, rank_of}
use Rattle.psa_chains.proofs.cycles.leads_to_rank.Given as goal

abbrev pub invariant-loop-reference : goal.invariant-loop-reference
invariant-loop-reference l = (k : ℕ) → k < l.reference-index → rank_of l.ranks (get_or (targets l.references) k 0) ≡ l.rank → ⊥
