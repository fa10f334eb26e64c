use Rattle.std.proofs.Common.{◌≡◌, ◌<◌, true, Some, Err, arith}
use Rattle.std.proofs.lemmas.Result.{err_from_is_err_and}
use Rattle.psa_nodes.specs.declared.node.Kind.TheVariants.{Zbdd}
use Rattle.psa_nodes.specs.declared.node.Node.{Node}
use Rattle.psa_nodes.specs.declared.node.NodeId.{NodeId}
use Rattle.psa_nodes.specs.declared.node.TheConstants.{MAX_LITERAL_NUMBERS}
use Rattle.psa_nodes.specs.Readings.{node_at, stands, level}
use Rattle.psa_nodes.specs.Nodes.{IsBounded}
use Rattle.psa_nodes.specs.Table.{Table}
use Rattle.psa_nodes.proofs.CallerLemmas.{bounded-at, inner-from, grown-own, some-inner}
use Rattle.psa_families.proofs.LevelLemmas.{falls}
use Rattle.psa_nodes.proofs.CallerLemmas.{remembered-result}
use Rattle.psa_families.proofs.ShortMemberLemmas.{terminal-short}
use Rattle.psa_families.proofs.ShortMemberSteps.{short_key, old_level, past_hi, past_lo, hi_zero, lo_zero, hi_positive, lo_positive, low-exit, low-ready, low-absent, low-call, high-exit, ready, absent, whole-call}
use Rattle.psa_families.proofs.short_members.+within.Goals as goal

-- the variable of the family's node is below the bound
small_of : (t : Table) → IsBounded t.nodes → (family : NodeId) → stands Zbdd 0 t.nodes family.0 ≡ true → (n : Node) → node_at t.nodes family.0 ≡ Some n → n.var < MAX_LITERAL_NUMBERS
small_of t bounded family st n there = bounded-at Zbdd t.nodes bounded family.0 n st there

pub returns-then-is_terminal-clause-short : goal.returns-then-is_terminal-clause-short
returns-then-is_terminal-clause-short g t c =
    let a = c.args in
    terminal-short a.table.now.nodes c.check.ensures.fit a.family.0 a.limit c.requires.family c.requires.positive (c.is_terminal.ensures.0 c.if-is_terminal.true)

pub returns-in-Some-clause-short : goal.returns-in-Some-clause-short
returns-in-Some-clause-short g t c =
    let a = c.args in
    remembered-result a.table.now.nodes (short_key a.family a.limit) c.in-Some.id c.check.ensures.fit c.in-Some.ensures.right

pub node-node-requires : goal.node-node-requires
node-node-requires g t c = some-inner Zbdd 0 c.args.table.now.nodes c.args.family.0 c.requires.family (inner-from c.args.family.0 c.is_terminal.result c.is_terminal.ensures c.if-is_terminal.false)

pub within-requires : goal.within-requires
within-requires g t c κs within =
    let a = c.args in
    let old = a.table.now in
    let n = c.node-node.result in
    let there = c.node-node.ensures.node in
    let small = small_of old c.requires.bounded a.family c.requires.family n there in
    let fit = c.check.ensures.fit in
    let e = old_level old a.family a.limit n c.requires.family there small c.requires.positive in
    let past = past_lo old a.family a.limit n c.requires.family there small c.requires.positive old (grown-own old.nodes) fit in
    let less = falls (level old.nodes a.family.0) (level old.nodes n.lo.0) n.var e small past in (
      omega (arith, less),
      (
        within,
        (
          lo_zero old a.family a.limit n c.requires.family there small c.requires.positive old (grown-own old.nodes) fit,
          (lo_positive old a.family a.limit n c.requires.family there small c.requires.positive old (grown-own old.nodes) fit, c.requires.bounded),
        ),
      ),
    )

pub returns-in_err-lo-clause-call : goal.returns-in_err-lo-clause-call
returns-in_err-lo-clause-call g t c =
    let a = c.args in
    let p = err_from_is_err_and c.from_residual.result c.from_residual.ensures.1 in
    rw (p.1, p.2) (low-exit a.table.now a.family a.limit c.node-node.result c.requires.family c.node-node.ensures.node (small_of c.args.table.now c.requires.bounded c.args.family c.requires.family c.node-node.result c.node-node.ensures.node) c.requires.positive c.check.ensures.fit
    c.within.new.table (Err c.in_err-lo.field-0.0) c.in_err-lo.ensures.call)

pub remember_family-requires-clause-ready : goal.remember_family-requires-clause-ready
remember_family-requires-clause-ready g t c =
    let a = c.args in
    low-ready a.table.now a.family a.limit c.node-node.result c.requires.family c.node-node.ensures.node (small_of c.args.table.now c.requires.bounded c.args.family c.requires.family c.node-node.result c.node-node.ensures.node) c.requires.positive c.check.ensures.fit
    c.within.new.table c.in_ok-lo.lo c.in_ok-lo.ensures.call c.in_ok-lo.ensures.short c.if-limit-eq0.true

pub remember_family-requires-clause-absent : goal.remember_family-requires-clause-absent
remember_family-requires-clause-absent g t c =
    let a = c.args in
    low-absent a.table.now a.family a.limit c.node-node.result c.requires.family c.node-node.ensures.node (small_of c.args.table.now c.requires.bounded c.args.family c.requires.family c.node-node.result c.node-node.ensures.node) c.requires.positive c.check.ensures.fit
    c.within.new.table c.in_ok-lo.lo c.in_ok-lo.ensures.call c.in_ok-lo.ensures.short c.in_default.ensures.absent

pub returns-then-limit-eq0-clause-call : goal.returns-then-limit-eq0-clause-call
returns-then-limit-eq0-clause-call g t c =
    let a = c.args in
    low-call a.table.now a.family a.limit c.node-node.result c.requires.family c.node-node.ensures.node (small_of c.args.table.now c.requires.bounded c.args.family c.requires.family c.node-node.result c.node-node.ensures.node) c.requires.positive c.check.ensures.fit
    c.within.new.table c.in_ok-lo.lo c.in_ok-lo.ensures.call c.in_ok-lo.ensures.short c.if-limit-eq0.true
    c.remember_family.new.table c.remember_family.result c.remember_family.ensures.call

pub within-requires-2 : goal.within-requires-2
within-requires-2 g t c κs within =
    let a = c.args in
    let old = a.table.now in
    let one = c.within.new.table in
    let n = c.node-node.result in
    let there = c.node-node.ensures.node in
    let small = small_of old c.requires.bounded a.family c.requires.family n there in
    let p = c.in_ok-lo.ensures.call.progress in
    let e = old_level old a.family a.limit n c.requires.family there small c.requires.positive in
    let past = past_hi old a.family a.limit n c.requires.family there small c.requires.positive one p.nodes p.table.fit in
    let less = falls (level old.nodes a.family.0) (level one.nodes n.hi.0) n.var e small past in (
      omega (arith, less),
      (
        within,
        (
          hi_zero old a.family a.limit n c.requires.family there small c.requires.positive one p.nodes p.table.fit,
          (hi_positive old a.family a.limit n c.requires.family there small c.requires.positive one p.nodes p.table.fit, p.bounded c.requires.bounded),
        ),
      ),
    )

pub returns-in_err-hi-clause-call : goal.returns-in_err-hi-clause-call
returns-in_err-hi-clause-call g t c =
    let a = c.args in
    let p = err_from_is_err_and c.from_residual-in_err-hi.result c.from_residual-in_err-hi.ensures.1 in
    rw (p.1, p.2) (high-exit a.table.now a.family a.limit c.node-node.result c.requires.family c.node-node.ensures.node (small_of c.args.table.now c.requires.bounded c.args.family c.requires.family c.node-node.result c.node-node.ensures.node) c.requires.positive c.check.ensures.fit
    c.within.new.table c.in_ok-lo.lo c.in_ok-lo.ensures.call c.in_ok-lo.ensures.short
    c.within-2.new.table (Err c.in_err-hi.field-0.0) c.in_err-hi.ensures.call)

pub remember_family-requires-2-clause-ready : goal.remember_family-requires-2-clause-ready
remember_family-requires-2-clause-ready g t c =
    let a = c.args in
    ready a.table.now a.family a.limit c.node-node.result c.requires.family c.node-node.ensures.node (small_of c.args.table.now c.requires.bounded c.args.family c.requires.family c.node-node.result c.node-node.ensures.node) c.requires.positive c.check.ensures.fit
    c.within.new.table c.in_ok-lo.lo c.in_ok-lo.ensures.call c.in_ok-lo.ensures.short
    c.within-2.new.table c.in_ok-hi.hi c.in_ok-hi.ensures.call c.in_ok-hi.ensures.short (omega (arith, c.if-limit-eq0.false))

pub remember_family-requires-2-clause-absent : goal.remember_family-requires-2-clause-absent
remember_family-requires-2-clause-absent g t c =
    let a = c.args in
    absent a.table.now a.family a.limit c.node-node.result c.requires.family c.node-node.ensures.node (small_of c.args.table.now c.requires.bounded c.args.family c.requires.family c.node-node.result c.node-node.ensures.node) c.requires.positive c.check.ensures.fit
    c.within.new.table c.in_ok-lo.lo c.in_ok-lo.ensures.call c.in_ok-lo.ensures.short
    c.within-2.new.table c.in_ok-hi.hi c.in_ok-hi.ensures.call c.in_ok-hi.ensures.short (omega (arith, c.if-limit-eq0.false)) c.in_default.ensures.absent

pub returns-clause-call : goal.returns-clause-call
returns-clause-call g t c =
    let a = c.args in
    whole-call a.table.now a.family a.limit c.node-node.result c.requires.family c.node-node.ensures.node (small_of c.args.table.now c.requires.bounded c.args.family c.requires.family c.node-node.result c.node-node.ensures.node) c.requires.positive c.check.ensures.fit
    c.within.new.table c.in_ok-lo.lo c.in_ok-lo.ensures.call c.in_ok-lo.ensures.short
    c.within-2.new.table c.in_ok-hi.hi c.in_ok-hi.ensures.call c.in_ok-hi.ensures.short (omega (arith, c.if-limit-eq0.false))
    c.remember_family-2.new.table c.remember_family-2.result c.remember_family-2.ensures.call
