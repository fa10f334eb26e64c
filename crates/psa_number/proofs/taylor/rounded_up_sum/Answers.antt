use Rattle.std.proofs.Common.{ℕ, ◌≡◌, ◌+◌, ◌*◌, ◌^◌, ◌<◌, ◌≤◌, ◌⊎◌, inl, inr, ⊎_elim, false, arith, ap, ap₂, sym, refl, ◌∙◌}
use Rattle.std.specs.Int.{div_ceil}
use Rattle.psa_number.specs.Units.{units}
use Rattle.psa_number.specs.Exponential.{upper_term, upper_sum, last_term, last_place, may_end, closed_sum, greatest_place}
use Rattle.psa_number.proofs.TaylorSumLemmas.{upper_term-next, upper_sum-next, upper-first, upper_term_small, first-next, first-here, first-none, may_end-true, may_end-false}
use Rattle.psa_number.proofs.taylor.rounded_up_sum.Invariants.{IsSoFar}
use Rattle.psa_number.proofs.taylor.rounded_up_sum.Goals as goal

next : (place k term sum new : ℕ) → place ≤ greatest_place → k < last_term → may_end place k ≡ false → IsSoFar place k term sum
    → new ≡ div_ceil (term * place) ((k + 1) * units) → IsSoFar place (k + 1) new (sum + new)
next place k term sum new in_range more on so_far new_is =
    let term_is : new ≡ upper_term place (k + 1) = new_is ∙ ap (λ (t : ℕ). div_ceil (t * place) ((k + 1) * units)) so_far.term_is ∙ sym (upper_term-next place k) in
    let long : k + 1 ≤ last_term = omega arith in
    let small : new ≤ 10 ^ 24 = omega (arith, term_is, upper_term_small place (k + 1) in_range long) in
    record {
      term_is = term_is;
      sum_is = ap₂ (λ (s t : ℕ). s + t) so_far.sum_is term_is ∙ sym (upper_sum-next place k);
      last = sym (first-next (may_end place) k last_term more on) ∙ so_far.last;
      small = small;
      fits = omega (arith, small, so_far.fits);
      some = omega (arith, so_far.some);
    }

goes_on : (place k term sum : ℕ) → IsSoFar place k term sum → ((2 * place ≤ (k + 1) * units) × (1 < term)) ⊎ ((k + 1) * units < 2 * place) → may_end place k ≡ false
goes_on place k term sum so_far why = may_end-false place k (⊎_elim (λ (large : (2 * place ≤ (k + 1) * units) × (1 < term)). inr (omega (arith, large.1, so_far.term_is))) (λ (far : (k + 1) * units < 2 * place). inl far) why)

ended : (place k term sum : ℕ) → k ≡ last_place place → IsSoFar place k term sum → sum + term ≡ closed_sum place
ended place k term sum here so_far =
    ap₂ (λ (s t : ℕ). s + t) so_far.sum_is so_far.term_is ∙ ap (λ (j : ℕ). upper_sum place j + upper_term place j) here

ended_here : (place k term sum : ℕ) → k < last_term → 2 * place ≤ (k + 1) * units → term ≤ 1 → IsSoFar place k term sum → sum + term ≡ closed_sum place
ended_here place k term sum more half small so_far =
    let last_small : upper_term place k ≤ 1 = omega (arith, so_far.term_is) in
    ended place k term sum (sym (first-here (may_end place) k last_term more (may_end-true place k half last_small)) ∙ so_far.last) so_far

ended_last : (place k term sum : ℕ) → k ≡ last_term → IsSoFar place k term sum → sum + term ≡ closed_sum place
ended_last place k term sum here so_far = ended place k term sum (sym (first-none (may_end place) k last_term here) ∙ so_far.last) so_far

pub loop-k-init : goal.loop-k-init
loop-k-init c = record {
  term_is = sym (upper-first c.args.place).0;
  sum_is = sym (upper-first c.args.place).1;
  last = refl;
  small = omega arith;
  fits = omega arith;
  some = omega arith;
}

pub loop-k-preserved : goal.loop-k-preserved
loop-k-preserved c =
    let on = goes_on c.args.place c.loop-k.k c.loop-k.term c.loop-k.sum c.loop-k.invariant (rw c.from.ensures at c.else-place-divisor.either) in
    next c.args.place c.loop-k.k c.loop-k.term c.loop-k.sum c.div_ceil-term.result c.requires c.loop-k-test.true on c.loop-k.invariant (rw c.from.ensures at c.div_ceil-term.ensures)

pub returns-then-term-le1-clause-exact : goal.returns-then-term-le1-clause-exact
returns-then-term-le1-clause-exact c =
    ended_here c.args.place c.loop-k.k c.loop-k.term c.loop-k.sum c.loop-k-test.true (rw c.from.ensures at c.if-place-divisor.true) c.if-term-le1.true c.loop-k.invariant

pub returns-clause-exact : goal.returns-clause-exact
returns-clause-exact c = ended_last c.args.place c.loop-k.k c.loop-k.term c.loop-k.sum (omega arith) c.loop-k.invariant
