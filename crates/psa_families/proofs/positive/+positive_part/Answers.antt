use Rattle.std.proofs.Common.{Err, arith}
use Rattle.std.proofs.lemmas.Result.{err_from_is_err_and}
use Rattle.psa_nodes.specs.declared.node.Kind.TheVariants.{Zbdd}
use Rattle.psa_nodes.specs.declared.node.Operation.TheVariants.{Positive}
use Rattle.psa_nodes.specs.Readings.{level}
use Rattle.psa_nodes.proofs.CallerLemmas.{bounded-at, inner-from, grown-own, some-inner}
use Rattle.psa_families.proofs.LevelLemmas.{falls}
use Rattle.psa_nodes.proofs.CallerLemmas.{remembered-result}
use Rattle.psa_families.proofs.NodeSidesLemmas.{family_key, old_level, past_hi, past_lo, hi_zero, lo_zero}
use Rattle.psa_families.proofs.PositivePartSteps.{terminal-positive, low-exit, high-exit, operands, even-ready, even-absent, even-call, either-exit, odd-ready, odd-absent, odd-call}
use Rattle.psa_families.proofs.positive.+positive_part.Goals as goal

pub returns-then-is_terminal-clause-positive : goal.returns-then-is_terminal-clause-positive
returns-then-is_terminal-clause-positive g t c = terminal-positive c.args.table.now.nodes c.check.ensures.fit c.args.root.0 (c.is_terminal.ensures.0 c.if-is_terminal.true)

pub returns-in-Some-clause-positive : goal.returns-in-Some-clause-positive
returns-in-Some-clause-positive g t c =
    remembered-result c.args.table.now.nodes (family_key Positive c.args.root) c.in-Some.id c.check.ensures.fit c.in-Some.ensures.right

pub node-node-requires : goal.node-node-requires
node-node-requires g t c = some-inner Zbdd 0 c.args.table.now.nodes c.args.root.0 c.requires.root (inner-from c.args.root.0 c.is_terminal.result c.is_terminal.ensures c.if-is_terminal.false)

pub positive_part-requires : goal.positive_part-requires
positive_part-requires g t c κs within =
    let a = c.args in
    let old = a.table.now in
    let n = c.node-node.result in
    let there = c.node-node.ensures.node in
    let small = bounded-at Zbdd old.nodes c.requires.bounded a.root.0 n c.requires.root there in
    let fit = c.check.ensures.fit in
    let less = falls (level old.nodes a.root.0) (level old.nodes n.lo.0) n.var (old_level old a.root n c.requires.root there small) small
    (past_lo old a.root n c.requires.root there small old (grown-own old.nodes) fit) in
    (omega (arith, less), (within, (lo_zero old a.root n c.requires.root there small old (grown-own old.nodes) fit, c.requires.bounded)))

pub returns-in_err-lo-clause-call : goal.returns-in_err-lo-clause-call
returns-in_err-lo-clause-call g t c =
    let a = c.args in
    let n = c.node-node.result in
    let there = c.node-node.ensures.node in
    let small = bounded-at Zbdd a.table.now.nodes c.requires.bounded a.root.0 n c.requires.root there in
    let p = err_from_is_err_and c.from_residual.result c.from_residual.ensures.1 in
    rw (p.1, p.2) (low-exit a.table.now a.root n c.requires.root there small c.check.ensures.fit
    c.positive_part.new.table (Err c.in_err-lo.field-0.0) c.in_err-lo.ensures.call)

pub positive_part-requires-2 : goal.positive_part-requires-2
positive_part-requires-2 g t c κs within =
    let a = c.args in
    let old = a.table.now in
    let one = c.positive_part.new.table in
    let n = c.node-node.result in
    let there = c.node-node.ensures.node in
    let small = bounded-at Zbdd old.nodes c.requires.bounded a.root.0 n c.requires.root there in
    let p = c.in_ok-lo.ensures.call.progress in
    let less = falls (level old.nodes a.root.0) (level one.nodes n.hi.0) n.var (old_level old a.root n c.requires.root there small) small
    (past_hi old a.root n c.requires.root there small one p.nodes p.table.fit) in
    (omega (arith, less), (within, (hi_zero old a.root n c.requires.root there small one p.nodes p.table.fit, p.bounded c.requires.bounded)))

pub returns-in_err-hi-clause-call : goal.returns-in_err-hi-clause-call
returns-in_err-hi-clause-call g t c =
    let a = c.args in
    let n = c.node-node.result in
    let there = c.node-node.ensures.node in
    let small = bounded-at Zbdd a.table.now.nodes c.requires.bounded a.root.0 n c.requires.root there in
    let p = err_from_is_err_and c.from_residual-in_err-hi.result c.from_residual-in_err-hi.ensures.1 in
    rw (p.1, p.2) (high-exit a.table.now a.root n c.requires.root there small c.check.ensures.fit
    c.positive_part.new.table c.in_ok-lo.lo c.in_ok-lo.ensures.call c.in_ok-lo.ensures.positive
    c.positive_part-2.new.table (Err c.in_err-hi.field-0.0) c.in_err-hi.ensures.call)

pub union-requires-clause-right : goal.union-requires-clause-right
union-requires-clause-right g t c =
    let a = c.args in
    let n = c.node-node.result in
    let there = c.node-node.ensures.node in
    let small = bounded-at Zbdd a.table.now.nodes c.requires.bounded a.root.0 n c.requires.root there in
    (operands a.table.now a.root n c.requires.root there small c.check.ensures.fit
    c.positive_part.new.table c.in_ok-lo.lo c.in_ok-lo.ensures.call c.in_ok-lo.ensures.positive
    c.positive_part-2.new.table c.in_ok-hi.hi c.in_ok-hi.ensures.call c.in_ok-hi.ensures.positive).1

pub returns-in_err-either-clause-call : goal.returns-in_err-either-clause-call
returns-in_err-either-clause-call g t c =
    let a = c.args in
    let n = c.node-node.result in
    let there = c.node-node.ensures.node in
    let small = bounded-at Zbdd a.table.now.nodes c.requires.bounded a.root.0 n c.requires.root there in
    let p = err_from_is_err_and c.from_residual-in_err-either.result c.from_residual-in_err-either.ensures.1 in
    rw (p.1, p.2) (either-exit a.table.now a.root n c.requires.root there small c.check.ensures.fit
    c.positive_part.new.table c.in_ok-lo.lo c.in_ok-lo.ensures.call c.in_ok-lo.ensures.positive
    c.positive_part-2.new.table c.in_ok-hi.hi c.in_ok-hi.ensures.call c.in_ok-hi.ensures.positive
    c.union.new.table (Err c.in_err-either.field-0.0) c.in_err-either.ensures.call)

pub remember_family-requires-clause-ready : goal.remember_family-requires-clause-ready
remember_family-requires-clause-ready g t c =
    let a = c.args in
    let n = c.node-node.result in
    let there = c.node-node.ensures.node in
    let small = bounded-at Zbdd a.table.now.nodes c.requires.bounded a.root.0 n c.requires.root there in
    odd-ready a.table.now a.root n c.requires.root there small c.check.ensures.fit
    c.positive_part.new.table c.in_ok-lo.lo c.in_ok-lo.ensures.call c.in_ok-lo.ensures.positive
    c.positive_part-2.new.table c.in_ok-hi.hi c.in_ok-hi.ensures.call c.in_ok-hi.ensures.positive
    c.union.new.table c.in_ok-either.either c.in_ok-either.ensures.call c.in_ok-either.ensures.union c.if-node-eq1.true

pub remember_family-requires-clause-absent : goal.remember_family-requires-clause-absent
remember_family-requires-clause-absent g t c =
    let a = c.args in
    let n = c.node-node.result in
    let there = c.node-node.ensures.node in
    let small = bounded-at Zbdd a.table.now.nodes c.requires.bounded a.root.0 n c.requires.root there in
    odd-absent a.table.now a.root n c.requires.root there small c.check.ensures.fit
    c.positive_part.new.table c.in_ok-lo.lo c.in_ok-lo.ensures.call c.in_ok-lo.ensures.positive
    c.positive_part-2.new.table c.in_ok-hi.hi c.in_ok-hi.ensures.call c.in_ok-hi.ensures.positive
    c.union.new.table c.in_ok-either.either c.in_ok-either.ensures.call c.in_ok-either.ensures.union c.if-node-eq1.true c.in_default.ensures.absent

pub returns-then-node-eq1-clause-call : goal.returns-then-node-eq1-clause-call
returns-then-node-eq1-clause-call g t c =
    let a = c.args in
    let n = c.node-node.result in
    let there = c.node-node.ensures.node in
    let small = bounded-at Zbdd a.table.now.nodes c.requires.bounded a.root.0 n c.requires.root there in
    odd-call a.table.now a.root n c.requires.root there small c.check.ensures.fit
    c.positive_part.new.table c.in_ok-lo.lo c.in_ok-lo.ensures.call c.in_ok-lo.ensures.positive
    c.positive_part-2.new.table c.in_ok-hi.hi c.in_ok-hi.ensures.call c.in_ok-hi.ensures.positive
    c.union.new.table c.in_ok-either.either c.in_ok-either.ensures.call c.in_ok-either.ensures.union c.if-node-eq1.true
    c.remember_family.new.table c.remember_family.result c.remember_family.ensures.call

pub remember_family-requires-2-clause-ready : goal.remember_family-requires-2-clause-ready
remember_family-requires-2-clause-ready g t c =
    let a = c.args in
    let n = c.node-node.result in
    let there = c.node-node.ensures.node in
    let small = bounded-at Zbdd a.table.now.nodes c.requires.bounded a.root.0 n c.requires.root there in
    even-ready a.table.now a.root n c.requires.root there small c.check.ensures.fit
    c.positive_part.new.table c.in_ok-lo.lo c.in_ok-lo.ensures.call c.in_ok-lo.ensures.positive
    c.positive_part-2.new.table c.in_ok-hi.hi c.in_ok-hi.ensures.call c.in_ok-hi.ensures.positive c.if-node-eq1.false

pub remember_family-requires-2-clause-absent : goal.remember_family-requires-2-clause-absent
remember_family-requires-2-clause-absent g t c =
    let a = c.args in
    let n = c.node-node.result in
    let there = c.node-node.ensures.node in
    let small = bounded-at Zbdd a.table.now.nodes c.requires.bounded a.root.0 n c.requires.root there in
    even-absent a.table.now a.root n c.requires.root there small c.check.ensures.fit
    c.positive_part.new.table c.in_ok-lo.lo c.in_ok-lo.ensures.call c.in_ok-lo.ensures.positive
    c.positive_part-2.new.table c.in_ok-hi.hi c.in_ok-hi.ensures.call c.in_ok-hi.ensures.positive c.in_default.ensures.absent

pub returns-clause-call : goal.returns-clause-call
returns-clause-call g t c =
    let a = c.args in
    let n = c.node-node.result in
    let there = c.node-node.ensures.node in
    let small = bounded-at Zbdd a.table.now.nodes c.requires.bounded a.root.0 n c.requires.root there in
    even-call a.table.now a.root n c.requires.root there small c.check.ensures.fit
    c.positive_part.new.table c.in_ok-lo.lo c.in_ok-lo.ensures.call c.in_ok-lo.ensures.positive
    c.positive_part-2.new.table c.in_ok-hi.hi c.in_ok-hi.ensures.call c.in_ok-hi.ensures.positive c.if-node-eq1.false
    c.remember_family-2.new.table c.remember_family-2.result c.remember_family-2.ensures.call
