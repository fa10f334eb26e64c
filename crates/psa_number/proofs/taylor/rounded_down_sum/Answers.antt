use Rattle.std.proofs.Common.{ℕ, ◌≡◌, ◌+◌, ◌*◌, ◌/◌, ◌^◌, ◌≤◌, arith, ap, sym, ◌∙◌}
use Rattle.psa_number.specs.Units.{units}
use Rattle.psa_number.specs.Exponential.{lower_term, last_term, greatest_place}
use Rattle.psa_number.proofs.TaylorSumLemmas.{lower_term-next, lower_sum-next, lower-first, lower_term_small}
use Rattle.psa_number.proofs.taylor.rounded_down_sum.Invariants.{IsSoFar}
use Rattle.psa_number.proofs.taylor.rounded_down_sum.Goals as goal

next : (place k term sum : ℕ) → place ≤ greatest_place → k + 1 ≤ last_term → IsSoFar place k term sum → IsSoFar place (k + 1) (term * place / ((k + 1) * units)) (sum + term * place / ((k + 1) * units))
next place k term sum in_range more so_far =
    let term_is : term * place / ((k + 1) * units) ≡ lower_term place (k + 1) = ap (λ (t : ℕ). t * place / ((k + 1) * units)) so_far.term_is ∙ sym (lower_term-next place k) in
    let small : term * place / ((k + 1) * units) ≤ 10 ^ 24 = omega (arith, term_is, lower_term_small place (k + 1) in_range more) in
    record {
      term_is = term_is;
      sum_is = omega (arith, term_is, so_far.sum_is, lower_sum-next place k);
      small = small;
      fits = omega (arith, small, so_far.fits);
      some = omega (arith, so_far.some);
    }

pub loop-k-init : goal.loop-k-init
loop-k-init c = record {
  term_is = sym (lower-first c.args.place).0;
  sum_is = sym (lower-first c.args.place).1;
  small = omega arith;
  fits = omega arith;
  some = omega arith;
}

pub loop-k-preserved : goal.loop-k-preserved
loop-k-preserved c = let fits : c.loop-k.k + 1 ≤ last_term = omega arith in rw c.from.ensures (next c.args.place c.loop-k.k c.loop-k.term c.loop-k.sum c.requires fits c.loop-k.invariant)
