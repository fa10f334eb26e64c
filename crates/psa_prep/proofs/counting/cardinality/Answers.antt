use Rattle.std.proofs.Common.{◌+◌, true, subst, nat_le}
use Rattle.psa_model.specs.Formulas.{count_true}
use Rattle.psa_prep.specs.declared.pairs.Pair.{Pair}
use Rattle.psa_prep.specs.declared.pairs.Signs.{Signs}
use Rattle.psa_prep.specs.Connectives.{MakesOf}
use Rattle.psa_prep.specs.Sound.{JoinsPairs}
use Rattle.psa_prep.proofs.PlaceLemmas.{if-ok}
use Rattle.psa_prep.proofs.CountLemmas.{operands-grown, operands-any, cardinality-made}
use Rattle.psa_prep.proofs.counting.cardinality.Goals as goal

pub at_least-requires-2-clause-operands : goal.at_least-requires-2-clause-operands
at_least-requires-2-clause-operands c =
    operands-grown c.args.context.now c.args.operands.now (λ i. c.swapped.result) c.args.builder.now c.at_least.new.builder c.in_ok-low.ensures.grown (operands-any c.args.context.now c.args.operands.now c.swapped.result c.args.builder.now c.requires.operands)

pub returns : goal.returns
returns c =
    if-ok c.join_pair.result _ _
    (λ result made. cardinality-made c.args.context.now c.args.operands.now c.args.signs c.args.builder.now c.at_least.new.builder c.at_least-2.new.builder _ c.in_ok-low.low c.in_ok-high.high result c.requires.part c.in_ok-low.ensures
    (subst (λ (some : Signs). MakesOf c.args.context.now c.args.operands.now (λ values. nat_le (c.args.operands.now.max + 1) (count_true values)) some c.at_least.new.builder c.at_least-2.new.builder c.in_ok-high.high) c.swapped.ensures c.in_ok-high.ensures)
    (subst (λ (p : Pair). JoinsPairs c.args.signs true c.in_ok-low.low p c.at_least-2.new.builder c.join_pair.new.builder result) c.swapped-2.ensures made)) c.join_pair.ensures
