use Rattle.std.proofs.Common.{Err, arith}
use Rattle.std.proofs.lemmas.Result.{err_from_is_err_and}
use Rattle.psa_nodes.proofs.CallerLemmas.{call-same, grown-own}
use Rattle.psa_nodes.specs.Progress.{pair_level}
use Rattle.psa_families.proofs.LevelLemmas.{falls}
use Rattle.psa_nodes.proofs.CallerLemmas.{remembered-result}
use Rattle.psa_families.proofs.SubsetRemovalSteps.{without_key, past_hi, past_lo, past_both, high_operands, low_operands, both_operands, grown_two, first-exit, second-exit, third-exit, ready, absent, whole-call}
use Rattle.psa_families.proofs.subset_removal.+without.Goals as goal

pub returns-in-Some-clause-call : goal.returns-in-Some-clause-call
returns-in-Some-clause-call g t c = call-same c.args.table.now c.in-Some.id c.check.ensures

pub returns-in-Some-remembered-clause-remaining : goal.returns-in-Some-remembered-clause-remaining
returns-in-Some-remembered-clause-remaining g t c =
    let a = c.args in
    remembered-result a.table.now.nodes (without_key a.left a.right) c.in-Some-remembered.id c.check.ensures.fit c.in-Some-remembered.ensures.right

pub without-requires : goal.without-requires
without-requires g t c κs within =
    let a = c.args in
    let old = a.table.now in
    let s = c.split-sides.result in
    let e = c.split-sides.ensures.sides in
    let operands = high_operands old a.left a.right s e old (grown-own old.nodes) c.check.ensures.fit in
    let past = past_hi old a.left a.right s e old (grown-own old.nodes) c.check.ensures.fit in
    let less = falls (pair_level old.nodes a.left.0 a.right.0) (pair_level old.nodes s.left_hi.0 s.right_hi.0) s.var e.least e.bound past in
    (omega (arith, less), (within, (operands.0, (operands.1, c.requires.bounded))))

pub returns-in_err-both-clause-call : goal.returns-in_err-both-clause-call
returns-in_err-both-clause-call g t c =
    let a = c.args in
    let p = err_from_is_err_and c.from_residual.result c.from_residual.ensures.1 in
    rw (p.1, p.2) (first-exit a.table.now a.left a.right c.split-sides.result c.split-sides.ensures.sides c.check.ensures.fit
    c.without.new.table (Err c.in_err-both.field-0.0) c.in_err-both.ensures.call)

pub without-requires-2 : goal.without-requires-2
without-requires-2 g t c κs within =
    let a = c.args in
    let old = a.table.now in
    let one = c.without.new.table in
    let s = c.split-sides.result in
    let e = c.split-sides.ensures.sides in
    let both = c.in_ok-both.both in
    let p = c.in_ok-both.ensures.call.progress in
    let operands = both_operands old a.left a.right s e one p.nodes p.table.fit both.0 c.in_ok-both.ensures.remaining in
    let past = past_both old a.left a.right s e one p.nodes p.table.fit both.0 c.in_ok-both.ensures.remaining in
    let less = falls (pair_level old.nodes a.left.0 a.right.0) (pair_level one.nodes both.0 s.right_lo.0) s.var e.least e.bound past in
    (omega (arith, less), (within, (operands.0, (operands.1, p.bounded c.requires.bounded))))

pub returns-in_err-hi-clause-call : goal.returns-in_err-hi-clause-call
returns-in_err-hi-clause-call g t c =
    let a = c.args in
    let p = err_from_is_err_and c.from_residual-in_err-hi.result c.from_residual-in_err-hi.ensures.1 in
    rw (p.1, p.2) (second-exit a.table.now a.left a.right c.split-sides.result c.split-sides.ensures.sides c.check.ensures.fit
    c.without.new.table c.in_ok-both.both c.in_ok-both.ensures.call c.in_ok-both.ensures.remaining
    c.without-2.new.table (Err c.in_err-hi.field-0.0) c.in_err-hi.ensures.call)

pub without-requires-3 : goal.without-requires-3
without-requires-3 g t c κs within =
    let a = c.args in
    let old = a.table.now in
    let two = c.without-2.new.table in
    let s = c.split-sides.result in
    let e = c.split-sides.ensures.sides in
    let p = c.in_ok-hi.ensures.call.progress in
    let grown = grown_two old a.left a.right s e c.check.ensures.fit c.without.new.table c.in_ok-both.both c.in_ok-both.ensures.call c.in_ok-both.ensures.remaining two c.in_ok-hi.hi c.in_ok-hi.ensures.call c.in_ok-hi.ensures.remaining in
    let operands = low_operands old a.left a.right s e two grown p.table.fit in
    let past = past_lo old a.left a.right s e two grown p.table.fit in
    let less = falls (pair_level old.nodes a.left.0 a.right.0) (pair_level two.nodes s.left_lo.0 s.right_lo.0) s.var e.least e.bound past in
    (omega (arith, less), (within, (operands.0, (operands.1, p.bounded (c.in_ok-both.ensures.call.progress.bounded c.requires.bounded)))))

pub returns-in_err-lo-clause-call : goal.returns-in_err-lo-clause-call
returns-in_err-lo-clause-call g t c =
    let a = c.args in
    let p = err_from_is_err_and c.from_residual-in_err-lo.result c.from_residual-in_err-lo.ensures.1 in
    rw (p.1, p.2) (third-exit a.table.now a.left a.right c.split-sides.result c.split-sides.ensures.sides c.check.ensures.fit
    c.without.new.table c.in_ok-both.both c.in_ok-both.ensures.call c.in_ok-both.ensures.remaining
    c.without-2.new.table c.in_ok-hi.hi c.in_ok-hi.ensures.call c.in_ok-hi.ensures.remaining
    c.without-3.new.table (Err c.in_err-lo.field-0.0) c.in_err-lo.ensures.call)

pub remember_family-requires-clause-ready : goal.remember_family-requires-clause-ready
remember_family-requires-clause-ready g t c =
    let a = c.args in
    ready a.table.now a.left a.right c.split-sides.result c.split-sides.ensures.sides c.check.ensures.fit
    c.without.new.table c.in_ok-both.both c.in_ok-both.ensures.call c.in_ok-both.ensures.remaining
    c.without-2.new.table c.in_ok-hi.hi c.in_ok-hi.ensures.call c.in_ok-hi.ensures.remaining
    c.without-3.new.table c.in_ok-lo.lo c.in_ok-lo.ensures.call c.in_ok-lo.ensures.remaining

pub remember_family-requires-clause-absent : goal.remember_family-requires-clause-absent
remember_family-requires-clause-absent g t c =
    let a = c.args in
    absent a.table.now a.left a.right c.split-sides.result c.split-sides.ensures.sides c.check.ensures.fit
    c.without.new.table c.in_ok-both.both c.in_ok-both.ensures.call c.in_ok-both.ensures.remaining
    c.without-2.new.table c.in_ok-hi.hi c.in_ok-hi.ensures.call c.in_ok-hi.ensures.remaining
    c.without-3.new.table c.in_ok-lo.lo c.in_ok-lo.ensures.call c.in_ok-lo.ensures.remaining
    c.in_default-remembered.ensures.absent

pub returns-clause-call : goal.returns-clause-call
returns-clause-call g t c =
    let a = c.args in
    whole-call a.table.now a.left a.right c.split-sides.result c.split-sides.ensures.sides c.check.ensures.fit
    c.without.new.table c.in_ok-both.both c.in_ok-both.ensures.call c.in_ok-both.ensures.remaining
    c.without-2.new.table c.in_ok-hi.hi c.in_ok-hi.ensures.call c.in_ok-hi.ensures.remaining
    c.without-3.new.table c.in_ok-lo.lo c.in_ok-lo.ensures.call c.in_ok-lo.ensures.remaining
    c.remember_family.new.table c.remember_family.result c.remember_family.ensures.call
