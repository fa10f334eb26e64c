use Rattle.std.proofs.Common.{◌≡◌, ◌<◌, ◌+◌, ℕ, List, length, get_or, sym, ap, ◌∙◌, eqb, cond, inl, inr, arith}
use Rattle.std.proofs.Math.ListN.{set}
use Rattle.std.proofs.lemmas.Bool.{cases_Bool, eqb-true, eq-eqb, false≢true}
use Rattle.std.proofs.lemmas.Grind.{get_or-set_at}
use Rattle.std.proofs.lemmas.List.{get_or-set_other, length-set}
use Rattle.psa_bodies.proofs.numbering.count_at.Goals as goal

counted-at : (xs : List ℕ) (at k : ℕ) → at < length xs → get_or (set xs at (get_or xs at 0 + 1)) k 0 ≡ get_or xs k 0 + cond (eqb at k) 1 0
counted-at xs at k inside = elim (cases_Bool (eqb at k)) [
  | inl is ↦
      rw is (get_or-set_at xs at k (get_or xs at 0 + 1) 0 (sym (eqb-true at k is)) inside ∙ ap (λ i. get_or xs i 0 + 1) (eqb-true at k is))
  | inr isnt ↦
      let other = get_or-set_other xs at k (get_or xs at 0 + 1) 0 (λ e. false≢true (sym isnt ∙ eq-eqb at k (sym e))) in
      rw isnt (omega (arith, other))
]

pub returns : goal.returns
returns c =
    let same = ap (λ (xs : List ℕ). get_or xs c.args.place 0) c.as_slice.ensures in
    let stored = c.set.ensures ∙ ap (λ n. set c.args.counts.now c.args.place (n + 1)) same in
    record {
      number = same;
      counted = record {
        kinds = ap length stored ∙ length-set c.args.counts.now c.args.place (get_or c.args.counts.now c.args.place 0 + 1);
        counts = λ k. ap (λ (xs : List ℕ). get_or xs k 0) stored ∙ counted-at c.args.counts.now c.args.place k c.requires.inside;
      };
    }
