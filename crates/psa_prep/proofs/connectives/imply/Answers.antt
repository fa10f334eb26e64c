use Rattle.std.proofs.Common.{◌≡◌, false, get_or, slice_index_or, subst, arith}
use Rattle.std.proofs.lemmas.List.{get_or_default}
use Rattle.psa_prep.specs.declared.pairs.Pair.{Pair}
use Rattle.psa_prep.specs.Nodes.{nodes_of}
use Rattle.psa_prep.specs.Sound.{JoinsPairs}
use Rattle.psa_prep.proofs.PlaceLemmas.{if-ok, grown-self}
use Rattle.psa_prep.proofs.ConnectiveLemmas.{operand-stands, stands-swapped, imply-made}
use Rattle.psa_prep.proofs.connectives.imply.Goals as goal

pub join_pair-requires-clause-left : goal.join_pair-requires-clause-left
join_pair-requires-clause-left c =
    let d : Pair = record { yes = 0; no = 0 } in
    let left = slice_index_or c.args.operands.now.pairs.now 0 d in
    let right = slice_index_or c.args.operands.now.pairs.now 1 d in
    let size = c.requires.operands.size in
    let first : left ≡ get_or c.args.operands.now.pairs.now 0 left = get_or_default c.args.operands.now.pairs.now 0 d left (omega arith) in
    let second : right ≡ get_or c.args.operands.now.pairs.now 1 right = get_or_default c.args.operands.now.pairs.now 1 d right (omega arith) in
    rw c.swapped.ensures (stands-swapped (nodes_of c.args.builder.now) left (operand-stands c.args.context.now c.args.operands.now c.args.builder.now c.args.builder.now _ 0 left c.requires.operands (omega arith) first (grown-self (nodes_of c.args.builder.now))))

pub join_pair-requires-clause-right : goal.join_pair-requires-clause-right
join_pair-requires-clause-right c =
    let d : Pair = record { yes = 0; no = 0 } in
    let left = slice_index_or c.args.operands.now.pairs.now 0 d in
    let right = slice_index_or c.args.operands.now.pairs.now 1 d in
    let size = c.requires.operands.size in
    let first : left ≡ get_or c.args.operands.now.pairs.now 0 left = get_or_default c.args.operands.now.pairs.now 0 d left (omega arith) in
    let second : right ≡ get_or c.args.operands.now.pairs.now 1 right = get_or_default c.args.operands.now.pairs.now 1 d right (omega arith) in
    (operand-stands c.args.context.now c.args.operands.now c.args.builder.now c.args.builder.now _ 1 right c.requires.operands (omega arith) second (grown-self (nodes_of c.args.builder.now)))

pub returns : goal.returns
returns c =
    let d : Pair = record { yes = 0; no = 0 } in
    let left = slice_index_or c.args.operands.now.pairs.now 0 d in
    let right = slice_index_or c.args.operands.now.pairs.now 1 d in
    let size = c.requires.operands.size in
    let first : left ≡ get_or c.args.operands.now.pairs.now 0 left = get_or_default c.args.operands.now.pairs.now 0 d left (omega arith) in
    let second : right ≡ get_or c.args.operands.now.pairs.now 1 right = get_or_default c.args.operands.now.pairs.now 1 d right (omega arith) in
    if-ok c.join_pair.result _ _
    (λ result made. imply-made c.args.context.now c.args.operands.now c.args.signs c.args.builder.now _ left right result c.requires.two first second c.requires.operands c.requires.part c.requires.sound
    (subst (λ (p : Pair). JoinsPairs c.args.signs false p right c.args.builder.now c.join_pair.new.builder result) c.swapped.ensures made)) c.join_pair.ensures
