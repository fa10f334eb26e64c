use Rattle.std.proofs.Common.{sym, subst}
use Rattle.psa_prep.specs.declared.pairs.Signs.{Signs}
use Rattle.psa_prep.specs.Connectives.{AreOperands, MakesOf, gathers, truths}
use Rattle.psa_prep.specs.Lowering.{world_of}
use Rattle.psa_prep.proofs.SoundLemmas.{made-swapped}
use Rattle.psa_prep.proofs.connectives.none_of.Goals as goal

pub gather-requires-clause-operands : goal.gather-requires-clause-operands
gather-requires-clause-operands c = subst (λ (some : Signs). AreOperands c.args.context.now c.args.operands.now c.args.builder.now (λ i. some)) (sym c.swapped.ensures) c.requires.operands

pub returns : goal.returns
returns c =
    rw c.swapped-2.ensures
    (made-swapped (world_of c.args.context.now) c.args.signs (λ s. gathers c.args.both (truths c.args.context.now s c.args.operands.now.arguments.now)) c.args.builder.now c.gather.new.builder c.in_ok-pair.pair
    (subst (λ (some : Signs). MakesOf c.args.context.now c.args.operands.now (gathers c.args.both) some c.args.builder.now c.gather.new.builder c.in_ok-pair.pair) c.swapped.ensures c.in_ok-pair.ensures))
