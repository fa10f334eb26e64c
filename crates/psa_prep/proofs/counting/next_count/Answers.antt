use Rattle.std.proofs.Common.{◌≡◌, ◌≤◌, ◌+◌, ◌-◌, length, get_or, slice_index_or, arith}
use Rattle.std.proofs.lemmas.List.{get_or_default}
use Rattle.psa_prep.specs.Nodes.{nodes_of}
use Rattle.psa_prep.proofs.PlaceLemmas.{if-ok, grown-self}
use Rattle.psa_prep.proofs.ConnectiveLemmas.{operand-stands, stands-grown}
use Rattle.psa_prep.proofs.CountLemmas.{less-read, same-read, count-with, count-made, count-kept}
use Rattle.psa_prep.proofs.counting.next_count.Goals as goal

pub returns-then-count-place : goal.returns-then-count-place
returns-then-count-place c = count-kept c.args.context.now c.args.operands.now c.args.signs (length c.args.row.now) c.args.place c.args.count c.args.builder.now _ c.requires.sound c.if-count-place.true

pub join_pair-requires-clause-left : goal.join_pair-requires-clause-left
join_pair-requires-clause-left c =
    let operand = slice_index_or c.args.operands.now.pairs.now c.args.place (record { yes = 0; no = 0 }) in
    let is : operand ≡ get_or c.args.operands.now.pairs.now c.args.place operand = get_or_default c.args.operands.now.pairs.now c.args.place _ operand c.requires.place in
    operand-stands c.args.context.now c.args.operands.now c.args.builder.now c.args.builder.now _ c.args.place operand c.requires.operands c.requires.place is (grown-self (nodes_of c.args.builder.now))

pub join_pair-requires-clause-right : goal.join_pair-requires-clause-right
join_pair-requires-clause-right c =
    let operand = slice_index_or c.args.operands.now.pairs.now c.args.place (record { yes = 0; no = 0 }) in
    let is : operand ≡ get_or c.args.operands.now.pairs.now c.args.place operand = get_or_default c.args.operands.now.pairs.now c.args.place _ operand c.requires.place in
    let wanted : length c.args.row.now ≤ c.args.count + c.args.place + 1 = omega arith in
    let reads_less = less-read c.args.context.now c.args.operands.now c.args.signs c.args.place c.args.count c.args.builder.now c.args.row.now c.requires.some c.requires.count wanted c.requires.row in
    let reads_same = same-read c.args.context.now c.args.operands.now c.args.signs c.args.place c.args.count c.args.builder.now c.args.row.now c.requires.count wanted c.requires.row in
    let less = slice_index_or c.args.row.now (c.args.count - 1) (record { yes = 0; no = 0 }) in
    let same = slice_index_or c.args.row.now c.args.count (record { yes = 0; no = 0 }) in
    reads_less.there

pub join_pair-requires-2-clause-built : goal.join_pair-requires-2-clause-built
join_pair-requires-2-clause-built c =
    let operand = slice_index_or c.args.operands.now.pairs.now c.args.place (record { yes = 0; no = 0 }) in
    let is : operand ≡ get_or c.args.operands.now.pairs.now c.args.place operand = get_or_default c.args.operands.now.pairs.now c.args.place _ operand c.requires.place in
    let wanted : length c.args.row.now ≤ c.args.count + c.args.place + 1 = omega arith in
    let reads_less = less-read c.args.context.now c.args.operands.now c.args.signs c.args.place c.args.count c.args.builder.now c.args.row.now c.requires.some c.requires.count wanted c.requires.row in
    let reads_same = same-read c.args.context.now c.args.operands.now c.args.signs c.args.place c.args.count c.args.builder.now c.args.row.now c.requires.count wanted c.requires.row in
    let less = slice_index_or c.args.row.now (c.args.count - 1) (record { yes = 0; no = 0 }) in
    let same = slice_index_or c.args.row.now c.args.count (record { yes = 0; no = 0 }) in
    let made = count-with c.args.context.now c.args.operands.now c.args.signs c.args.place c.args.count c.args.builder.now c.join_pair.new.builder operand less c.in_ok-with.with c.requires.operands c.requires.sound c.requires.place is reads_less c.in_ok-with.ensures in
    made.1.1.sound.built

pub join_pair-requires-2-clause-left : goal.join_pair-requires-2-clause-left
join_pair-requires-2-clause-left c =
    let operand = slice_index_or c.args.operands.now.pairs.now c.args.place (record { yes = 0; no = 0 }) in
    let is : operand ≡ get_or c.args.operands.now.pairs.now c.args.place operand = get_or_default c.args.operands.now.pairs.now c.args.place _ operand c.requires.place in
    let wanted : length c.args.row.now ≤ c.args.count + c.args.place + 1 = omega arith in
    let reads_less = less-read c.args.context.now c.args.operands.now c.args.signs c.args.place c.args.count c.args.builder.now c.args.row.now c.requires.some c.requires.count wanted c.requires.row in
    let reads_same = same-read c.args.context.now c.args.operands.now c.args.signs c.args.place c.args.count c.args.builder.now c.args.row.now c.requires.count wanted c.requires.row in
    let less = slice_index_or c.args.row.now (c.args.count - 1) (record { yes = 0; no = 0 }) in
    let same = slice_index_or c.args.row.now c.args.count (record { yes = 0; no = 0 }) in
    let made = count-with c.args.context.now c.args.operands.now c.args.signs c.args.place c.args.count c.args.builder.now c.join_pair.new.builder operand less c.in_ok-with.with c.requires.operands c.requires.sound c.requires.place is reads_less c.in_ok-with.ensures in
    made.1.1.reads.there

pub join_pair-requires-2-clause-right : goal.join_pair-requires-2-clause-right
join_pair-requires-2-clause-right c =
    let operand = slice_index_or c.args.operands.now.pairs.now c.args.place (record { yes = 0; no = 0 }) in
    let is : operand ≡ get_or c.args.operands.now.pairs.now c.args.place operand = get_or_default c.args.operands.now.pairs.now c.args.place _ operand c.requires.place in
    let wanted : length c.args.row.now ≤ c.args.count + c.args.place + 1 = omega arith in
    let reads_less = less-read c.args.context.now c.args.operands.now c.args.signs c.args.place c.args.count c.args.builder.now c.args.row.now c.requires.some c.requires.count wanted c.requires.row in
    let reads_same = same-read c.args.context.now c.args.operands.now c.args.signs c.args.place c.args.count c.args.builder.now c.args.row.now c.requires.count wanted c.requires.row in
    let less = slice_index_or c.args.row.now (c.args.count - 1) (record { yes = 0; no = 0 }) in
    let same = slice_index_or c.args.row.now c.args.count (record { yes = 0; no = 0 }) in
    let made = count-with c.args.context.now c.args.operands.now c.args.signs c.args.place c.args.count c.args.builder.now c.join_pair.new.builder operand less c.in_ok-with.with c.requires.operands c.requires.sound c.requires.place is reads_less c.in_ok-with.ensures in
    stands-grown (nodes_of c.args.builder.now) (nodes_of c.join_pair.new.builder) same made.1.1.grown reads_same.there

pub returns : goal.returns
returns c =
    let operand = slice_index_or c.args.operands.now.pairs.now c.args.place (record { yes = 0; no = 0 }) in
    let is : operand ≡ get_or c.args.operands.now.pairs.now c.args.place operand = get_or_default c.args.operands.now.pairs.now c.args.place _ operand c.requires.place in
    let wanted : length c.args.row.now ≤ c.args.count + c.args.place + 1 = omega arith in
    let reads_less = less-read c.args.context.now c.args.operands.now c.args.signs c.args.place c.args.count c.args.builder.now c.args.row.now c.requires.some c.requires.count wanted c.requires.row in
    let reads_same = same-read c.args.context.now c.args.operands.now c.args.signs c.args.place c.args.count c.args.builder.now c.args.row.now c.requires.count wanted c.requires.row in
    let less = slice_index_or c.args.row.now (c.args.count - 1) (record { yes = 0; no = 0 }) in
    let same = slice_index_or c.args.row.now c.args.count (record { yes = 0; no = 0 }) in
    if-ok c.join_pair-2.result _ _
    (λ result joined. count-made c.args.context.now c.args.operands.now c.args.signs (length c.args.row.now) c.args.place c.args.count c.args.builder.now c.join_pair.new.builder _ operand less same c.in_ok-with.with result c.requires.some c.requires.operands c.requires.sound c.requires.place is reads_less reads_same c.in_ok-with.ensures joined) c.join_pair-2.ensures
