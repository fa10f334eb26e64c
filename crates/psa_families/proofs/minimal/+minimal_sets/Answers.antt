use Rattle.std.proofs.Common.{Err, arith}
use Rattle.std.proofs.lemmas.Result.{err_from_is_err_and}
use Rattle.psa_nodes.specs.declared.node.Kind.TheVariants.{Zbdd}
use Rattle.psa_nodes.specs.declared.node.Operation.TheVariants.{MinimalSets}
use Rattle.psa_nodes.specs.Readings.{level}
use Rattle.psa_nodes.proofs.CallerLemmas.{bounded-at, inner-from, grown-own, some-inner}
use Rattle.psa_families.proofs.LevelLemmas.{falls}
use Rattle.psa_nodes.proofs.CallerLemmas.{remembered-result}
use Rattle.psa_families.proofs.NodeSidesLemmas.{family_key, old_level, past_hi, past_lo, hi_zero, lo_zero}
use Rattle.psa_families.proofs.MinimalSetsSteps.{terminal-minimal, low-exit, high-exit, less-exit, less_operands, ready, absent, whole-call}
use Rattle.psa_families.proofs.minimal.+minimal_sets.Goals as goal

pub returns-then-is_terminal-clause-minimal : goal.returns-then-is_terminal-clause-minimal
returns-then-is_terminal-clause-minimal g t c = terminal-minimal c.args.table.now.nodes c.check.ensures.fit c.args.root.0 (c.is_terminal.ensures.0 c.if-is_terminal.true)

pub returns-in-Some-clause-minimal : goal.returns-in-Some-clause-minimal
returns-in-Some-clause-minimal g t c =
    remembered-result c.args.table.now.nodes (family_key MinimalSets c.args.root) c.in-Some.id c.check.ensures.fit c.in-Some.ensures.right

pub node-node-requires : goal.node-node-requires
node-node-requires g t c = some-inner Zbdd 0 c.args.table.now.nodes c.args.root.0 c.requires.root (inner-from c.args.root.0 c.is_terminal.result c.is_terminal.ensures c.if-is_terminal.false)

pub minimal_sets-requires : goal.minimal_sets-requires
minimal_sets-requires g t c κs within =
    let a = c.args in
    let old = a.table.now in
    let n = c.node-node.result in
    let there = c.node-node.ensures.node in
    let small = bounded-at Zbdd old.nodes c.requires.bounded a.root.0 n c.requires.root there in
    let fit = c.check.ensures.fit in
    let less = falls (level old.nodes a.root.0) (level old.nodes n.lo.0) n.var (old_level old a.root n c.requires.root there small) small
    (past_lo old a.root n c.requires.root there small old (grown-own old.nodes) fit) in
    (omega (arith, less), (within, (lo_zero old a.root n c.requires.root there small old (grown-own old.nodes) fit, c.requires.bounded)))

pub returns-in_err-lo-clause-call : goal.returns-in_err-lo-clause-call
returns-in_err-lo-clause-call g t c =
    let a = c.args in
    let n = c.node-node.result in
    let there = c.node-node.ensures.node in
    let small = bounded-at Zbdd a.table.now.nodes c.requires.bounded a.root.0 n c.requires.root there in
    let p = err_from_is_err_and c.from_residual.result c.from_residual.ensures.1 in
    rw (p.1, p.2) (low-exit a.table.now a.root n c.requires.root there small c.check.ensures.fit
    c.minimal_sets.new.table (Err c.in_err-lo.field-0.0) c.in_err-lo.ensures.call)

pub minimal_sets-requires-2 : goal.minimal_sets-requires-2
minimal_sets-requires-2 g t c κs within =
    let a = c.args in
    let old = a.table.now in
    let one = c.minimal_sets.new.table in
    let n = c.node-node.result in
    let there = c.node-node.ensures.node in
    let small = bounded-at Zbdd old.nodes c.requires.bounded a.root.0 n c.requires.root there in
    let p = c.in_ok-lo.ensures.call.progress in
    let less = falls (level old.nodes a.root.0) (level one.nodes n.hi.0) n.var (old_level old a.root n c.requires.root there small) small
    (past_hi old a.root n c.requires.root there small one p.nodes p.table.fit) in
    (omega (arith, less), (within, (hi_zero old a.root n c.requires.root there small one p.nodes p.table.fit, p.bounded c.requires.bounded)))

pub returns-in_err-high-clause-call : goal.returns-in_err-high-clause-call
returns-in_err-high-clause-call g t c =
    let a = c.args in
    let n = c.node-node.result in
    let there = c.node-node.ensures.node in
    let small = bounded-at Zbdd a.table.now.nodes c.requires.bounded a.root.0 n c.requires.root there in
    let p = err_from_is_err_and c.from_residual-in_err-high.result c.from_residual-in_err-high.ensures.1 in
    rw (p.1, p.2) (high-exit a.table.now a.root n c.requires.root there small c.check.ensures.fit
    c.minimal_sets.new.table c.in_ok-lo.lo c.in_ok-lo.ensures.call c.in_ok-lo.ensures.minimal
    c.minimal_sets-2.new.table (Err c.in_err-high.field-0.0) c.in_err-high.ensures.call)

pub without-requires-clause-right : goal.without-requires-clause-right
without-requires-clause-right g t c =
    let a = c.args in
    let n = c.node-node.result in
    let there = c.node-node.ensures.node in
    let small = bounded-at Zbdd a.table.now.nodes c.requires.bounded a.root.0 n c.requires.root there in
    (less_operands a.table.now a.root n c.requires.root there small c.check.ensures.fit
    c.minimal_sets.new.table c.in_ok-lo.lo c.in_ok-lo.ensures.call c.in_ok-lo.ensures.minimal
    c.minimal_sets-2.new.table c.in_ok-high.high c.in_ok-high.ensures.call c.in_ok-high.ensures.minimal).1

pub returns-in_err-hi-clause-call : goal.returns-in_err-hi-clause-call
returns-in_err-hi-clause-call g t c =
    let a = c.args in
    let n = c.node-node.result in
    let there = c.node-node.ensures.node in
    let small = bounded-at Zbdd a.table.now.nodes c.requires.bounded a.root.0 n c.requires.root there in
    let p = err_from_is_err_and c.from_residual-in_err-hi.result c.from_residual-in_err-hi.ensures.1 in
    rw (p.1, p.2) (less-exit a.table.now a.root n c.requires.root there small c.check.ensures.fit
    c.minimal_sets.new.table c.in_ok-lo.lo c.in_ok-lo.ensures.call c.in_ok-lo.ensures.minimal
    c.minimal_sets-2.new.table c.in_ok-high.high c.in_ok-high.ensures.call c.in_ok-high.ensures.minimal
    c.without.new.table (Err c.in_err-hi.field-0.0) c.in_err-hi.ensures.call)

pub remember_family-requires-clause-ready : goal.remember_family-requires-clause-ready
remember_family-requires-clause-ready g t c =
    let a = c.args in
    let n = c.node-node.result in
    let there = c.node-node.ensures.node in
    let small = bounded-at Zbdd a.table.now.nodes c.requires.bounded a.root.0 n c.requires.root there in
    ready a.table.now a.root n c.requires.root there small c.check.ensures.fit
    c.minimal_sets.new.table c.in_ok-lo.lo c.in_ok-lo.ensures.call c.in_ok-lo.ensures.minimal
    c.minimal_sets-2.new.table c.in_ok-high.high c.in_ok-high.ensures.call c.in_ok-high.ensures.minimal
    c.without.new.table c.in_ok-hi.hi c.in_ok-hi.ensures.call c.in_ok-hi.ensures.remaining

pub remember_family-requires-clause-absent : goal.remember_family-requires-clause-absent
remember_family-requires-clause-absent g t c =
    let a = c.args in
    let n = c.node-node.result in
    let there = c.node-node.ensures.node in
    let small = bounded-at Zbdd a.table.now.nodes c.requires.bounded a.root.0 n c.requires.root there in
    absent a.table.now a.root n c.requires.root there small c.check.ensures.fit
    c.minimal_sets.new.table c.in_ok-lo.lo c.in_ok-lo.ensures.call c.in_ok-lo.ensures.minimal
    c.minimal_sets-2.new.table c.in_ok-high.high c.in_ok-high.ensures.call c.in_ok-high.ensures.minimal
    c.without.new.table c.in_ok-hi.hi c.in_ok-hi.ensures.call c.in_ok-hi.ensures.remaining c.in_default.ensures.absent

pub returns-clause-call : goal.returns-clause-call
returns-clause-call g t c =
    let a = c.args in
    let n = c.node-node.result in
    let there = c.node-node.ensures.node in
    let small = bounded-at Zbdd a.table.now.nodes c.requires.bounded a.root.0 n c.requires.root there in
    whole-call a.table.now a.root n c.requires.root there small c.check.ensures.fit
    c.minimal_sets.new.table c.in_ok-lo.lo c.in_ok-lo.ensures.call c.in_ok-lo.ensures.minimal
    c.minimal_sets-2.new.table c.in_ok-high.high c.in_ok-high.ensures.call c.in_ok-high.ensures.minimal
    c.without.new.table c.in_ok-hi.hi c.in_ok-hi.ensures.call c.in_ok-hi.ensures.remaining
    c.remember_family.new.table c.remember_family.result c.remember_family.ensures.call
