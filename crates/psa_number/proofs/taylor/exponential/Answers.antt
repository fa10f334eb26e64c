use Rattle.std.proofs.Common.{ℕ, ◌≡◌, ◌*◌, ◌≤◌, rules, arith, ap, ◌∙◌}
use Rattle.std.proofs.lemmas.Nat.{mul-le}
use Rattle.psa_number.specs.Ends.{Ends}
use Rattle.psa_number.specs.Fraction.{Fraction, Holds, exponential_at}
use Rattle.psa_number.specs.Exponential.{raised, last_term}
use Rattle.psa_number.proofs.TaylorSumLemmas.{ends_ordered, upper_end_at_most}
use Rattle.psa_number.proofs.SignedLemmas.{natural_ends, raised_grows, read_end}
use Rattle.psa_number.proofs.BracketLemmas.{held_if_exponential, exponential_held}
use Rattle.psa_number.proofs.taylor.exponential.Goals as goal

pub returns-clause-exact : goal.returns-clause-exact
returns-clause-exact c = search rules

pub invariant_of-result : goal.invariant_of-result
invariant_of-result c =
    let rate_lo : c.raise.result ≡ raised c.rate.inside.lo = c.raise.ensures ∙ ap raised (read_end c.rate.inside.lo (omega (arith, c.rate.invariant.lo_limited))) in
    let time_lo : c.raise-2.result ≡ raised c.time.inside.lo = c.raise-2.ensures ∙ ap raised (read_end c.time.inside.lo (omega (arith, c.time.invariant.lo_limited))) in
    let rate_hi : c.raise-3.result ≡ raised c.rate.inside.hi = c.raise-3.ensures ∙ ap raised (read_end c.rate.inside.hi (omega (arith, c.rate.invariant.hi_limited))) in
    let time_hi : c.raise-4.result ≡ raised c.time.inside.hi = c.raise-4.ensures ∙ ap raised (read_end c.time.inside.hi (omega (arith, c.time.invariant.hi_limited))) in
    let rate_grows : c.raise.result ≤ c.raise-3.result = rw (rate_lo, rate_hi) (raised_grows c.rate.inside.lo c.rate.inside.hi c.rate.invariant.ordered) in
    let time_grows : c.raise-2.result ≤ c.raise-4.result = rw (time_lo, time_hi) (raised_grows c.time.inside.lo c.time.inside.hi c.time.invariant.ordered) in
    let grows : c.raise.result * c.raise-2.result ≤ c.raise-3.result * c.raise-4.result = mul-le c.raise.result c.raise-2.result c.raise-3.result c.raise-4.result rate_grows time_grows in
    natural_ends c.lower_end_from-lo.result c.upper_end_from-hi.result
    (rw (c.lower_end_from-lo.ensures, c.upper_end_from-hi.ensures) (ends_ordered (c.raise.result * c.raise-2.result) (c.raise-3.result * c.raise-4.result) grows))
    (rw c.upper_end_from-hi.ensures (upper_end_at_most (c.raise-3.result * c.raise-4.result)))

pub returns-clause-bracket : goal.returns-clause-bracket
returns-clause-bracket c = held_if_exponential (λ (r : Ends). (n : ℕ) → last_term ≤ n → (x y : Fraction) → Holds c.args.rate x → Holds c.args.time y → Holds r (exponential_at n x y)) c.args.rate c.args.time _ (returns-clause-exact c)
    (λ (n : ℕ) (long : last_term ≤ n) (x y : Fraction) (h : Holds c.args.rate x) (g : Holds c.args.time y). exponential_held c.args.rate c.args.time n x y long h g)
