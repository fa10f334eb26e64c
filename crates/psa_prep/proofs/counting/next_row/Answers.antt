use Rattle.std.proofs.Common.{◌≡◌, ◌+◌, ℕ, List, length, sym, subst, arith}
use Rattle.psa_prep.specs.declared.pairs.Pair.{Pair}
use Rattle.psa_prep.specs.Counting.{MakesRow}
use Rattle.psa_prep.proofs.CountLemmas.{row-more, row-grown, operands-grown}
use Rattle.psa_prep.proofs.counting.next_row.Goals as goal

pub next_count-requires-clause-operands : goal.next_count-requires-clause-operands
next_count-requires-clause-operands c = operands-grown c.args.context.now c.args.operands.now (λ i. c.args.signs) c.args.builder.now c.loop-count.builder c.loop-count.invariant.grown c.requires.operands

pub next_count-requires-clause-row : goal.next_count-requires-clause-row
next_count-requires-clause-row c = row-grown c.args.context.now c.args.operands.now c.args.signs (length c.args.row.now) (c.args.place + 1) c.args.builder.now c.loop-count.builder c.args.row.now c.loop-count.invariant.grown c.requires.row

pub loop-count-preserved : goal.loop-count-preserved
loop-count-preserved c =
    subst (λ (row : List Pair). MakesRow c.args.context.now c.args.operands.now c.args.signs (length c.args.row.now) c.args.place (c.loop-count.count + 1) c.args.builder.now c.next_count.new.builder row) (sym c.in_ok-push-2.ensures.items)
    (row-more c.args.context.now c.args.operands.now c.args.signs (length c.args.row.now) c.args.place c.loop-count.count c.args.builder.now c.loop-count.builder c.next_count.new.builder c.loop-count.next.items c.in_ok-here.here c.loop-count.invariant c.in_ok-here.ensures)

pub returns : goal.returns
returns c =
    let all : c.loop-count.count ≡ length c.args.row.now = omega (arith, c.requires.some) in
    subst (λ (n : ℕ). MakesRow c.args.context.now c.args.operands.now c.args.signs (length c.args.row.now) c.args.place n c.args.builder.now c.loop-count.builder c.loop-count.next.items) all c.loop-count.invariant
