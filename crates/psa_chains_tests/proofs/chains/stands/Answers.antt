use Rattle.std.proofs.Common.{◌≡◌, ◌<◌, ◌+◌, ℕ, List, length, get_or, inl, inr, sym, ap, ◌∙◌, subst, arith}
use Rattle.std.proofs.lemmas.Bool.{cases_eq}
use Rattle.std.proofs.lemmas.List.{length-map, get_or_default}
use Rattle.psa_chains.specs.declared.reference.Reference.{Reference}
use Rattle.psa_chains.specs.Chains.{RefersTo, row, targets}
use Rattle.psa_chains.proofs.Walks.{row-at, refers-within}
use Rattle.psa_chains_tests.proofs.chains.stands.Goals as goal

-- one more row stands
more : (g : List (List Reference)) (i : ℕ) (rs : List Reference) → rs ≡ row g i → ((k : ℕ) → k < length rs → get_or (targets rs) k 0 < length g) → ((from to : ℕ) → from < i → RefersTo g from to → to < length g) → (from to : ℕ) → from < i + 1 → RefersTo g from to → to < length g
more g i rs is here before from to low refers =
    elim (cases_eq from i) [
      | inl same ↦ (let there : RefersTo g i to = subst (λ x. RefersTo g x to) same refers in
          let size : length (targets (row g i)) ≡ length (row g i) = length-map (row g i) (λ r. r.target) in
          subst (λ x. x < length g) (get_or_default (targets (row g i)) there.0 0 to there.1 ∙ there.2)
          (subst (λ xs. (k : ℕ) → k < length xs → get_or (targets xs) k 0 < length g) is here there.0 (omega (arith, there.1))))
      | inr other ↦ before from to (omega arith) refers
    ]

pub loop-row-preserved : goal.loop-row-preserved
loop-row-preserved c =
    more c.args.graph.now c.loop-row.row-index c.as_slice.result.now (c.as_slice.ensures ∙ row-at c.args.graph.now c.loop-row.row-index c.row-item.result c.row-item.is c.loop-row-test.true)
    (c.row_stands.ensures c.if-not-row_stands.false) c.loop-row.invariant

pub returns : goal.returns
returns c = λ _ from to refers. c.loop-row.invariant from to (omega (arith, refers-within c.args.graph.now from to refers)) refers
