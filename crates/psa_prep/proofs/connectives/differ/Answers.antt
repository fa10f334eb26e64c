use Rattle.std.proofs.Common.{◌≡◌, true, get_or, slice_index_or, subst, arith}
use Rattle.std.proofs.lemmas.List.{get_or_default}
use Rattle.psa_prep.specs.declared.pairs.Pair.{Pair}
use Rattle.psa_prep.specs.Nodes.{nodes_of}
use Rattle.psa_prep.specs.Sound.{JoinsPairs}
use Rattle.psa_prep.proofs.PlaceLemmas.{if-ok, grown-self}
use Rattle.psa_prep.proofs.ConnectiveLemmas.{operand-stands, stands-swapped, stands-grown, differ-one, differ-other, differ-made}
use Rattle.psa_prep.proofs.connectives.differ.Goals as goal

pub join_pair-requires-clause-left : goal.join_pair-requires-clause-left
join_pair-requires-clause-left c =
    let d : Pair = record { yes = 0; no = 0 } in
    let left = slice_index_or c.args.operands.now.pairs.now 0 d in
    let right = slice_index_or c.args.operands.now.pairs.now 1 d in
    let size = c.requires.operands.size in
    let first : left ≡ get_or c.args.operands.now.pairs.now 0 left = get_or_default c.args.operands.now.pairs.now 0 d left (omega arith) in
    let second : right ≡ get_or c.args.operands.now.pairs.now 1 right = get_or_default c.args.operands.now.pairs.now 1 d right (omega arith) in
    (operand-stands c.args.context.now c.args.operands.now c.args.builder.now c.args.builder.now _ 0 left c.requires.operands (omega arith) first (grown-self (nodes_of c.args.builder.now)))

pub join_pair-requires-clause-right : goal.join_pair-requires-clause-right
join_pair-requires-clause-right c =
    let d : Pair = record { yes = 0; no = 0 } in
    let left = slice_index_or c.args.operands.now.pairs.now 0 d in
    let right = slice_index_or c.args.operands.now.pairs.now 1 d in
    let size = c.requires.operands.size in
    let first : left ≡ get_or c.args.operands.now.pairs.now 0 left = get_or_default c.args.operands.now.pairs.now 0 d left (omega arith) in
    let second : right ≡ get_or c.args.operands.now.pairs.now 1 right = get_or_default c.args.operands.now.pairs.now 1 d right (omega arith) in
    rw c.swapped.ensures (stands-swapped (nodes_of c.args.builder.now) right (operand-stands c.args.context.now c.args.operands.now c.args.builder.now c.args.builder.now _ 1 right c.requires.operands (omega arith) second (grown-self (nodes_of c.args.builder.now))))

pub join_pair-requires-in-len2-clause-built : goal.join_pair-requires-in-len2-clause-built
join_pair-requires-in-len2-clause-built c =
    let d : Pair = record { yes = 0; no = 0 } in
    let left = slice_index_or c.args.operands.now.pairs.now 0 d in
    let right = slice_index_or c.args.operands.now.pairs.now 1 d in
    let size = c.requires.operands.size in
    let first : left ≡ get_or c.args.operands.now.pairs.now 0 left = get_or_default c.args.operands.now.pairs.now 0 d left (omega arith) in
    let second : right ≡ get_or c.args.operands.now.pairs.now 1 right = get_or_default c.args.operands.now.pairs.now 1 d right (omega arith) in
    let join_one = subst (λ (p : Pair). JoinsPairs c.args.signs true left p c.args.builder.now c.join_pair.new.builder c.in_ok-first-in-len2.first) c.swapped.ensures c.in_ok-first-in-len2.ensures in
    let one = differ-one c.args.context.now c.args.operands.now c.args.signs c.args.builder.now c.join_pair.new.builder left right c.in_ok-first-in-len2.first c.requires.two first second c.requires.operands c.requires.sound join_one in
    one.1.sound.built

pub join_pair-requires-in-len2-clause-left : goal.join_pair-requires-in-len2-clause-left
join_pair-requires-in-len2-clause-left c =
    let d : Pair = record { yes = 0; no = 0 } in
    let left = slice_index_or c.args.operands.now.pairs.now 0 d in
    let right = slice_index_or c.args.operands.now.pairs.now 1 d in
    let size = c.requires.operands.size in
    let first : left ≡ get_or c.args.operands.now.pairs.now 0 left = get_or_default c.args.operands.now.pairs.now 0 d left (omega arith) in
    let second : right ≡ get_or c.args.operands.now.pairs.now 1 right = get_or_default c.args.operands.now.pairs.now 1 d right (omega arith) in
    let join_one = subst (λ (p : Pair). JoinsPairs c.args.signs true left p c.args.builder.now c.join_pair.new.builder c.in_ok-first-in-len2.first) c.swapped.ensures c.in_ok-first-in-len2.ensures in
    let one = differ-one c.args.context.now c.args.operands.now c.args.signs c.args.builder.now c.join_pair.new.builder left right c.in_ok-first-in-len2.first c.requires.two first second c.requires.operands c.requires.sound join_one in
    rw c.swapped-in-len2.ensures (stands-swapped (nodes_of c.join_pair.new.builder) left (operand-stands c.args.context.now c.args.operands.now c.args.builder.now c.join_pair.new.builder _ 0 left c.requires.operands (omega arith) first one.1.grown))

pub join_pair-requires-in-len2-clause-right : goal.join_pair-requires-in-len2-clause-right
join_pair-requires-in-len2-clause-right c =
    let d : Pair = record { yes = 0; no = 0 } in
    let left = slice_index_or c.args.operands.now.pairs.now 0 d in
    let right = slice_index_or c.args.operands.now.pairs.now 1 d in
    let size = c.requires.operands.size in
    let first : left ≡ get_or c.args.operands.now.pairs.now 0 left = get_or_default c.args.operands.now.pairs.now 0 d left (omega arith) in
    let second : right ≡ get_or c.args.operands.now.pairs.now 1 right = get_or_default c.args.operands.now.pairs.now 1 d right (omega arith) in
    let join_one = subst (λ (p : Pair). JoinsPairs c.args.signs true left p c.args.builder.now c.join_pair.new.builder c.in_ok-first-in-len2.first) c.swapped.ensures c.in_ok-first-in-len2.ensures in
    let one = differ-one c.args.context.now c.args.operands.now c.args.signs c.args.builder.now c.join_pair.new.builder left right c.in_ok-first-in-len2.first c.requires.two first second c.requires.operands c.requires.sound join_one in
    (operand-stands c.args.context.now c.args.operands.now c.args.builder.now c.join_pair.new.builder _ 1 right c.requires.operands (omega arith) second one.1.grown)

pub join_pair-requires-in-len2-2-clause-built : goal.join_pair-requires-in-len2-2-clause-built
join_pair-requires-in-len2-2-clause-built c =
    let d : Pair = record { yes = 0; no = 0 } in
    let left = slice_index_or c.args.operands.now.pairs.now 0 d in
    let right = slice_index_or c.args.operands.now.pairs.now 1 d in
    let size = c.requires.operands.size in
    let first : left ≡ get_or c.args.operands.now.pairs.now 0 left = get_or_default c.args.operands.now.pairs.now 0 d left (omega arith) in
    let second : right ≡ get_or c.args.operands.now.pairs.now 1 right = get_or_default c.args.operands.now.pairs.now 1 d right (omega arith) in
    let join_one = subst (λ (p : Pair). JoinsPairs c.args.signs true left p c.args.builder.now c.join_pair.new.builder c.in_ok-first-in-len2.first) c.swapped.ensures c.in_ok-first-in-len2.ensures in
    let one = differ-one c.args.context.now c.args.operands.now c.args.signs c.args.builder.now c.join_pair.new.builder left right c.in_ok-first-in-len2.first c.requires.two first second c.requires.operands c.requires.sound join_one in
    let join_other = subst (λ (p : Pair). JoinsPairs c.args.signs true p right c.join_pair.new.builder c.join_pair-in-len2.new.builder c.in_ok-second-in-len2.second) c.swapped-in-len2.ensures c.in_ok-second-in-len2.ensures in
    let other = differ-other c.args.context.now c.args.operands.now c.args.signs c.args.builder.now c.join_pair.new.builder c.join_pair-in-len2.new.builder left right c.in_ok-first-in-len2.first c.in_ok-second-in-len2.second c.requires.two first second c.requires.operands c.requires.sound join_one join_other in
    other.1.sound.built

pub join_pair-requires-in-len2-2-clause-left : goal.join_pair-requires-in-len2-2-clause-left
join_pair-requires-in-len2-2-clause-left c =
    let d : Pair = record { yes = 0; no = 0 } in
    let left = slice_index_or c.args.operands.now.pairs.now 0 d in
    let right = slice_index_or c.args.operands.now.pairs.now 1 d in
    let size = c.requires.operands.size in
    let first : left ≡ get_or c.args.operands.now.pairs.now 0 left = get_or_default c.args.operands.now.pairs.now 0 d left (omega arith) in
    let second : right ≡ get_or c.args.operands.now.pairs.now 1 right = get_or_default c.args.operands.now.pairs.now 1 d right (omega arith) in
    let join_one = subst (λ (p : Pair). JoinsPairs c.args.signs true left p c.args.builder.now c.join_pair.new.builder c.in_ok-first-in-len2.first) c.swapped.ensures c.in_ok-first-in-len2.ensures in
    let one = differ-one c.args.context.now c.args.operands.now c.args.signs c.args.builder.now c.join_pair.new.builder left right c.in_ok-first-in-len2.first c.requires.two first second c.requires.operands c.requires.sound join_one in
    let join_other = subst (λ (p : Pair). JoinsPairs c.args.signs true p right c.join_pair.new.builder c.join_pair-in-len2.new.builder c.in_ok-second-in-len2.second) c.swapped-in-len2.ensures c.in_ok-second-in-len2.ensures in
    let other = differ-other c.args.context.now c.args.operands.now c.args.signs c.args.builder.now c.join_pair.new.builder c.join_pair-in-len2.new.builder left right c.in_ok-first-in-len2.first c.in_ok-second-in-len2.second c.requires.two first second c.requires.operands c.requires.sound join_one join_other in
    stands-grown (nodes_of c.join_pair.new.builder) (nodes_of c.join_pair-in-len2.new.builder) c.in_ok-first-in-len2.first other.1.grown one.1.reads.there

pub join_pair-requires-in-len2-2-clause-right : goal.join_pair-requires-in-len2-2-clause-right
join_pair-requires-in-len2-2-clause-right c =
    let d : Pair = record { yes = 0; no = 0 } in
    let left = slice_index_or c.args.operands.now.pairs.now 0 d in
    let right = slice_index_or c.args.operands.now.pairs.now 1 d in
    let size = c.requires.operands.size in
    let first : left ≡ get_or c.args.operands.now.pairs.now 0 left = get_or_default c.args.operands.now.pairs.now 0 d left (omega arith) in
    let second : right ≡ get_or c.args.operands.now.pairs.now 1 right = get_or_default c.args.operands.now.pairs.now 1 d right (omega arith) in
    let join_one = subst (λ (p : Pair). JoinsPairs c.args.signs true left p c.args.builder.now c.join_pair.new.builder c.in_ok-first-in-len2.first) c.swapped.ensures c.in_ok-first-in-len2.ensures in
    let one = differ-one c.args.context.now c.args.operands.now c.args.signs c.args.builder.now c.join_pair.new.builder left right c.in_ok-first-in-len2.first c.requires.two first second c.requires.operands c.requires.sound join_one in
    let join_other = subst (λ (p : Pair). JoinsPairs c.args.signs true p right c.join_pair.new.builder c.join_pair-in-len2.new.builder c.in_ok-second-in-len2.second) c.swapped-in-len2.ensures c.in_ok-second-in-len2.ensures in
    let other = differ-other c.args.context.now c.args.operands.now c.args.signs c.args.builder.now c.join_pair.new.builder c.join_pair-in-len2.new.builder left right c.in_ok-first-in-len2.first c.in_ok-second-in-len2.second c.requires.two first second c.requires.operands c.requires.sound join_one join_other in
    other.1.reads.there

pub returns : goal.returns
returns c =
    let d : Pair = record { yes = 0; no = 0 } in
    let left = slice_index_or c.args.operands.now.pairs.now 0 d in
    let right = slice_index_or c.args.operands.now.pairs.now 1 d in
    let size = c.requires.operands.size in
    let first : left ≡ get_or c.args.operands.now.pairs.now 0 left = get_or_default c.args.operands.now.pairs.now 0 d left (omega arith) in
    let second : right ≡ get_or c.args.operands.now.pairs.now 1 right = get_or_default c.args.operands.now.pairs.now 1 d right (omega arith) in
    let join_one = subst (λ (p : Pair). JoinsPairs c.args.signs true left p c.args.builder.now c.join_pair.new.builder c.in_ok-first-in-len2.first) c.swapped.ensures c.in_ok-first-in-len2.ensures in
    let one = differ-one c.args.context.now c.args.operands.now c.args.signs c.args.builder.now c.join_pair.new.builder left right c.in_ok-first-in-len2.first c.requires.two first second c.requires.operands c.requires.sound join_one in
    let join_other = subst (λ (p : Pair). JoinsPairs c.args.signs true p right c.join_pair.new.builder c.join_pair-in-len2.new.builder c.in_ok-second-in-len2.second) c.swapped-in-len2.ensures c.in_ok-second-in-len2.ensures in
    let other = differ-other c.args.context.now c.args.operands.now c.args.signs c.args.builder.now c.join_pair.new.builder c.join_pair-in-len2.new.builder left right c.in_ok-first-in-len2.first c.in_ok-second-in-len2.second c.requires.two first second c.requires.operands c.requires.sound join_one join_other in
    if-ok c.join_pair-in-len2-2.result _ _
    (λ result made. differ-made c.args.context.now c.args.operands.now c.args.signs c.args.builder.now c.join_pair.new.builder c.join_pair-in-len2.new.builder _ left right c.in_ok-first-in-len2.first c.in_ok-second-in-len2.second result c.requires.two first second c.requires.operands c.requires.part c.requires.sound join_one join_other made) c.join_pair-in-len2-2.ensures
