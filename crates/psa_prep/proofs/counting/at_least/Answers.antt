use Rattle.std.specs.List.{slice_get}
use Rattle.std.proofs.Common.{◌≡◌, ◌≤◌, ◌+◌, ◌-◌, ℕ, List, suc, length, sym, ap, ◌∙◌, subst, arith}
use Rattle.psa_prep.specs.declared.pairs.Pair.{Pair}
use Rattle.psa_prep.specs.Counting.{IsRow, MakesRow}
use Rattle.psa_prep.proofs.CountLemmas.{first-row, row-then, row-end, operands-grown}
use Rattle.psa_prep.proofs.counting.at_least.Goals as goal

pub loop-place-init : goal.loop-place-init
loop-place-init c =
    let size = c.requires.operands.size in
    let past : length c.args.operands.now.arguments.now ≤ length c.args.operands.now.pairs.now = omega arith in
    first-row c.args.context.now c.args.operands.now c.args.signs (length c.args.operands.now.pairs.now) c.args.bound c.args.builder.now c.in_ok-row.row.items past c.requires.sound c.in_ok-row.ensures

pub next_row-requires-clause-operands : goal.next_row-requires-clause-operands
next_row-requires-clause-operands c = operands-grown c.args.context.now c.args.operands.now (λ i. c.args.signs) c.args.builder.now c.loop-place.builder c.loop-place.invariant.grown c.requires.operands

pub next_row-requires-clause-row : goal.next_row-requires-clause-row
next_row-requires-clause-row c =
    let next : c.loop-place.place ≡ c.loop-place.place - 1 + 1 = omega arith in
    let same : c.loop-place.row.items ≡ c.as_slice.result.now = sym c.as_slice.ensures.value in
    let size : suc c.args.bound ≡ length c.as_slice.result.now = sym c.loop-place.invariant.is_made ∙ ap length same in
    subst (λ (row : List Pair). IsRow c.args.context.now c.args.operands.now c.args.signs (length c.as_slice.result.now) (c.loop-place.place - 1 + 1) c.loop-place.builder row) same
    (subst (λ (n : ℕ). IsRow c.args.context.now c.args.operands.now c.args.signs n (c.loop-place.place - 1 + 1) c.loop-place.builder c.loop-place.row.items) size
    (subst (λ (n : ℕ). IsRow c.args.context.now c.args.operands.now c.args.signs (suc c.args.bound) n c.loop-place.builder c.loop-place.row.items) next c.loop-place.invariant.row_reads))

pub loop-place-preserved : goal.loop-place-preserved
loop-place-preserved c =
    let size : length c.as_slice.result.now ≡ suc c.args.bound = ap length c.as_slice.ensures.value ∙ c.loop-place.invariant.is_made in
    row-then c.args.context.now c.args.operands.now c.args.signs (suc c.args.bound) (c.loop-place.place - 1) c.args.builder.now c.loop-place.builder c.next_row.new.builder c.in_ok-row-2.row.items c.loop-place.invariant.grown
    (subst (λ (n : ℕ). MakesRow c.args.context.now c.args.operands.now c.args.signs n (c.loop-place.place - 1) n c.loop-place.builder c.next_row.new.builder c.in_ok-row-2.row.items) size c.in_ok-row-2.ensures)

pub returns : goal.returns
returns c =
    let none : c.loop-place.place ≡ 0 = omega arith in
    row-end c.args.context.now c.args.operands.now c.args.signs c.args.bound c.args.builder.now c.loop-place.builder c.loop-place.row.items _
    (subst (λ (n : ℕ). MakesRow c.args.context.now c.args.operands.now c.args.signs (suc c.args.bound) n (suc c.args.bound) c.args.builder.now c.loop-place.builder c.loop-place.row.items) none c.loop-place.invariant)
    (ap (λ r. slice_get r c.args.bound) (sym c.as_slice-2.ensures.value) ∙ sym c.in-Some.ensures)
