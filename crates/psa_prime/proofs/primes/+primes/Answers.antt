use Rattle.std.proofs.Common.{◌≡◌, ◌-◌, ◌+◌, ◌*◌, ◌^◌, ◌<◌, ◌≤◌, ℕ, Err, sym, eqb-true, arith}
use Rattle.std.proofs.lemmas.Result.{err_from_is_err_and, IfOk-weaker}
use Rattle.psa_nodes.specs.declared.node.Kind.TheVariants.{Bdd}
use Rattle.psa_nodes.specs.declared.node.TheConstants.{MAX_RANKS}
use Rattle.psa_nodes.specs.declared.node.Operation.TheVariants.{Without}
use Rattle.psa_nodes.specs.Readings.{level}
use Rattle.psa_nodes.specs.Progress.{IsResult}
use Rattle.psa_nodes.proofs.CallerLemmas.{bounded-at, grown-own, inner-from, some-inner}
use Rattle.psa_prime.specs.Primes.{AreSidePrimes, prime_key}
use Rattle.psa_nodes.proofs.CallerLemmas.{remembered-result}
use Rattle.psa_prime.proofs.TerminalPrimeLemmas.{terminal-primes, no-primes}
use Rattle.psa_prime.proofs.SidePrimeSteps.{side_zero, past_side, none-left, first-step, operands_apart, rest_apart, rest_stands, whole-side-call, left}
use Rattle.psa_prime.proofs.PrimeSteps.{IsDecision, old_level, hi_zero, lo_zero, both-exit, one_stands, one_past, rest-exit, event_sides, event-exit, three_rest, opposite_sides, opposite-exit, past_sides, past-exit, ready, absent, whole-call}
use Rattle.psa_prime.proofs.primes.+primes.Goals as goal

-- the measures fall
to-rest : (before now var : ℕ) → before ≡ 2 * var → var < MAX_RANKS → 2 * var + 2 ≤ now → 2 * (2 ^ 33 - now) < 2 * (2 ^ 33 - before)
to-rest before now var e lt le = omega arith

to-side : (before var : ℕ) → before ≡ 2 * var → var < MAX_RANKS → 2 * (2 ^ 33 - (2 * var + 2)) + 1 < 2 * (2 ^ 33 - before)
to-side before var e lt = omega arith

from-side : (now var : ℕ) → 2 * var + 2 ≤ now → 2 * (2 ^ 33 - now) < 2 * (2 ^ 33 - (2 * var + 2)) + 1
from-side now var le = omega arith

pub prime_sets-returns-then-is_terminal-clause-primes : goal.prime_sets-returns-then-is_terminal-clause-primes
prime_sets-returns-then-is_terminal-clause-primes g t c =
    terminal-primes c.args.table.now.nodes c.args.root.0 c.args.limit (c.is_terminal.ensures.0 c.if-is_terminal.true) c.check.ensures.fit

pub prime_sets-returns-then-limit-eq0-clause-primes : goal.prime_sets-returns-then-limit-eq0-clause-primes
prime_sets-returns-then-limit-eq0-clause-primes g t c =
    let inner = inner-from c.args.root.0 c.is_terminal.result c.is_terminal.ensures c.if-is_terminal.false in
    rw c.if-limit-eq0.true (no-primes c.args.table.now.nodes c.check.ensures.fit c.args.root.0 inner c.requires.root)

pub prime_sets-returns-in-Some-clause-primes : goal.prime_sets-returns-in-Some-clause-primes
prime_sets-returns-in-Some-clause-primes g t c =
    let a = c.args in
    remembered-result a.table.now.nodes (prime_key a.root a.limit) c.in-Some.id c.check.ensures.fit (rw c.key_of-key.ensures at c.in-Some.ensures.right)

pub prime_sets-node-node-requires : goal.prime_sets-node-node-requires
prime_sets-node-node-requires g t c =
    some-inner Bdd 0 c.args.table.now.nodes c.args.root.0 c.requires.root (inner-from c.args.root.0 c.is_terminal.result c.is_terminal.ensures c.if-is_terminal.false)

pub prime_sets-and-requires-clause-left : goal.prime_sets-and-requires-clause-left
prime_sets-and-requires-clause-left g t c =
    let a = c.args in
    let n = c.node-node.result in
    let d : IsDecision a.table.now a.root a.limit n = record { fit = c.check.ensures.fit; some = omega (arith, c.if-limit-eq0.false); root_stands = c.requires.root; there = c.node-node.ensures.node; bound = bounded-at Bdd a.table.now.nodes c.requires.bounded a.root.0 n c.requires.root c.node-node.ensures.node } in
    hi_zero a.table.now a.root a.limit n d a.table.now (grown-own a.table.now.nodes) c.check.ensures.fit

pub prime_sets-and-requires-clause-right : goal.prime_sets-and-requires-clause-right
prime_sets-and-requires-clause-right g t c =
    let a = c.args in
    let n = c.node-node.result in
    let d : IsDecision a.table.now a.root a.limit n = record { fit = c.check.ensures.fit; some = omega (arith, c.if-limit-eq0.false); root_stands = c.requires.root; there = c.node-node.ensures.node; bound = bounded-at Bdd a.table.now.nodes c.requires.bounded a.root.0 n c.requires.root c.node-node.ensures.node } in
    lo_zero a.table.now a.root a.limit n d a.table.now (grown-own a.table.now.nodes) c.check.ensures.fit

pub prime_sets-returns-in_err-both-clause-call : goal.prime_sets-returns-in_err-both-clause-call
prime_sets-returns-in_err-both-clause-call g t c =
    let a = c.args in
    let n = c.node-node.result in
    let d : IsDecision a.table.now a.root a.limit n = record { fit = c.check.ensures.fit; some = omega (arith, c.if-limit-eq0.false); root_stands = c.requires.root; there = c.node-node.ensures.node; bound = bounded-at Bdd a.table.now.nodes c.requires.bounded a.root.0 n c.requires.root c.node-node.ensures.node } in
    let p = err_from_is_err_and c.from_residual.result c.from_residual.ensures.1 in
    rw (p.1, p.2) (both-exit a.table.now a.root a.limit n d
    c.and.new.table (Err c.in_err-both.field-0.0) c.in_err-both.ensures.call)

pub prime_sets-prime_sets-requires : goal.prime_sets-prime_sets-requires
prime_sets-prime_sets-requires g t c κs within =
    let a = c.args in
    let n = c.node-node.result in
    let d : IsDecision a.table.now a.root a.limit n = record { fit = c.check.ensures.fit; some = omega (arith, c.if-limit-eq0.false); root_stands = c.requires.root; there = c.node-node.ensures.node; bound = bounded-at Bdd a.table.now.nodes c.requires.bounded a.root.0 n c.requires.root c.node-node.ensures.node } in
    let past = one_past a.table.now a.root a.limit n d
    c.and.new.table c.in_ok-both.both c.in_ok-both.ensures.call c.in_ok-both.ensures.conjunction in
    let less = to-rest (level a.table.now.nodes a.root.0) (level c.and.new.table.nodes c.in_ok-both.both.0) n.var (old_level a.table.now a.root a.limit n d) d.bound past in (
      omega (arith, less),
      (
        within,
        (
          one_stands a.table.now a.root a.limit n d
              c.and.new.table c.in_ok-both.both c.in_ok-both.ensures.call c.in_ok-both.ensures.conjunction,
          c.in_ok-both.ensures.call.progress.bounded c.requires.bounded,
        ),
      ),
    )

pub prime_sets-returns-in_err-rest-clause-call : goal.prime_sets-returns-in_err-rest-clause-call
prime_sets-returns-in_err-rest-clause-call g t c =
    let a = c.args in
    let n = c.node-node.result in
    let d : IsDecision a.table.now a.root a.limit n = record { fit = c.check.ensures.fit; some = omega (arith, c.if-limit-eq0.false); root_stands = c.requires.root; there = c.node-node.ensures.node; bound = bounded-at Bdd a.table.now.nodes c.requires.bounded a.root.0 n c.requires.root c.node-node.ensures.node } in
    let p = err_from_is_err_and c.from_residual-in_err-rest.result c.from_residual-in_err-rest.ensures.1 in
    rw (p.1, p.2) (rest-exit a.table.now a.root a.limit n d
    c.and.new.table c.in_ok-both.both c.in_ok-both.ensures.call c.in_ok-both.ensures.conjunction
    c.prime_sets.new.table (Err c.in_err-rest.field-0.0) c.in_err-rest.ensures.call)

pub prime_sets-side_primes-requires : goal.prime_sets-side_primes-requires
prime_sets-side_primes-requires g t c κs within =
    let a = c.args in
    let n = c.node-node.result in
    let d : IsDecision a.table.now a.root a.limit n = record { fit = c.check.ensures.fit; some = omega (arith, c.if-limit-eq0.false); root_stands = c.requires.root; there = c.node-node.ensures.node; bound = bounded-at Bdd a.table.now.nodes c.requires.bounded a.root.0 n c.requires.root c.node-node.ensures.node } in
    let less = to-side (level a.table.now.nodes a.root.0) n.var (old_level a.table.now a.root a.limit n d) d.bound in
    let s = event_sides a.table.now a.root a.limit n d
    c.and.new.table c.in_ok-both.both c.in_ok-both.ensures.call c.in_ok-both.ensures.conjunction
    c.prime_sets.new.table c.in_ok-rest.rest c.in_ok-rest.ensures.call c.in_ok-rest.ensures.primes in
    (omega (arith, less), (within, (d.bound, (d.some, (c.in_ok-rest.ensures.call.progress.bounded (c.in_ok-both.ensures.call.progress.bounded c.requires.bounded), (s.0, (s.1, (s.2, c.in_ok-rest.ensures.primes))))))))

pub prime_sets-returns-in_err-event-clause-call : goal.prime_sets-returns-in_err-event-clause-call
prime_sets-returns-in_err-event-clause-call g t c =
    let a = c.args in
    let n = c.node-node.result in
    let d : IsDecision a.table.now a.root a.limit n = record { fit = c.check.ensures.fit; some = omega (arith, c.if-limit-eq0.false); root_stands = c.requires.root; there = c.node-node.ensures.node; bound = bounded-at Bdd a.table.now.nodes c.requires.bounded a.root.0 n c.requires.root c.node-node.ensures.node } in
    let p = err_from_is_err_and c.from_residual-in_err-event.result c.from_residual-in_err-event.ensures.1 in
    rw (p.1, p.2) (event-exit a.table.now a.root a.limit n d
    c.and.new.table c.in_ok-both.both c.in_ok-both.ensures.call c.in_ok-both.ensures.conjunction
    c.prime_sets.new.table c.in_ok-rest.rest c.in_ok-rest.ensures.call c.in_ok-rest.ensures.primes
    c.side_primes.new.table (Err c.in_err-event.field-0.0) c.in_err-event.ensures.call)

pub prime_sets-side_primes-requires-2 : goal.prime_sets-side_primes-requires-2
prime_sets-side_primes-requires-2 g t c κs within =
    let a = c.args in
    let n = c.node-node.result in
    let d : IsDecision a.table.now a.root a.limit n = record { fit = c.check.ensures.fit; some = omega (arith, c.if-limit-eq0.false); root_stands = c.requires.root; there = c.node-node.ensures.node; bound = bounded-at Bdd a.table.now.nodes c.requires.bounded a.root.0 n c.requires.root c.node-node.ensures.node } in
    let less = to-side (level a.table.now.nodes a.root.0) n.var (old_level a.table.now a.root a.limit n d) d.bound in
    let s = opposite_sides a.table.now a.root a.limit n d
    c.and.new.table c.in_ok-both.both c.in_ok-both.ensures.call c.in_ok-both.ensures.conjunction
    c.prime_sets.new.table c.in_ok-rest.rest c.in_ok-rest.ensures.call c.in_ok-rest.ensures.primes
    c.side_primes.new.table c.in_ok-event.event c.in_ok-event.ensures.call c.in_ok-event.ensures.primes in (
      omega (arith, less),
      (
        within,
        (
          d.bound,
          (
            d.some,
            (
              c.in_ok-event.ensures.call.progress.bounded (c.in_ok-rest.ensures.call.progress.bounded (c.in_ok-both.ensures.call.progress.bounded c.requires.bounded)),
              (
                s.0,
                (
                  s.1,
                  (
                    s.2,
                    three_rest a.table.now a.root a.limit n d
                        c.and.new.table c.in_ok-both.both c.in_ok-both.ensures.call c.in_ok-both.ensures.conjunction
                        c.prime_sets.new.table c.in_ok-rest.rest c.in_ok-rest.ensures.call c.in_ok-rest.ensures.primes
                        c.side_primes.new.table c.in_ok-event.event c.in_ok-event.ensures.call c.in_ok-event.ensures.primes,
                  ),
                ),
              ),
            ),
          ),
        ),
      ),
    )

pub prime_sets-returns-in_err-opposite-clause-call : goal.prime_sets-returns-in_err-opposite-clause-call
prime_sets-returns-in_err-opposite-clause-call g t c =
    let a = c.args in
    let n = c.node-node.result in
    let d : IsDecision a.table.now a.root a.limit n = record { fit = c.check.ensures.fit; some = omega (arith, c.if-limit-eq0.false); root_stands = c.requires.root; there = c.node-node.ensures.node; bound = bounded-at Bdd a.table.now.nodes c.requires.bounded a.root.0 n c.requires.root c.node-node.ensures.node } in
    let p = err_from_is_err_and c.from_residual-in_err-opposite.result c.from_residual-in_err-opposite.ensures.1 in
    rw (p.1, p.2) (opposite-exit a.table.now a.root a.limit n d
    c.and.new.table c.in_ok-both.both c.in_ok-both.ensures.call c.in_ok-both.ensures.conjunction
    c.prime_sets.new.table c.in_ok-rest.rest c.in_ok-rest.ensures.call c.in_ok-rest.ensures.primes
    c.side_primes.new.table c.in_ok-event.event c.in_ok-event.ensures.call c.in_ok-event.ensures.primes
    c.side_primes-2.new.table (Err c.in_err-opposite.field-0.0) c.in_err-opposite.ensures.call)

pub prime_sets-overflow_mul-node : goal.prime_sets-overflow_mul-node
prime_sets-overflow_mul-node g t c =
    let a = c.args in
    let n = c.node-node.result in
    let d : IsDecision a.table.now a.root a.limit n = record { fit = c.check.ensures.fit; some = omega (arith, c.if-limit-eq0.false); root_stands = c.requires.root; there = c.node-node.ensures.node; bound = bounded-at Bdd a.table.now.nodes c.requires.bounded a.root.0 n c.requires.root c.node-node.ensures.node } in
    let small : n.var < MAX_RANKS = d.bound in
    omega (arith, small)

pub prime_sets-overflow_add-node : goal.prime_sets-overflow_add-node
prime_sets-overflow_add-node g t c =
    let a = c.args in
    let n = c.node-node.result in
    let d : IsDecision a.table.now a.root a.limit n = record { fit = c.check.ensures.fit; some = omega (arith, c.if-limit-eq0.false); root_stands = c.requires.root; there = c.node-node.ensures.node; bound = bounded-at Bdd a.table.now.nodes c.requires.bounded a.root.0 n c.requires.root c.node-node.ensures.node } in
    let small : n.var < MAX_RANKS = d.bound in
    omega (arith, small)

pub prime_sets-overflow_mul-node-2 : goal.prime_sets-overflow_mul-node-2
prime_sets-overflow_mul-node-2 g t c =
    let a = c.args in
    let n = c.node-node.result in
    let d : IsDecision a.table.now a.root a.limit n = record { fit = c.check.ensures.fit; some = omega (arith, c.if-limit-eq0.false); root_stands = c.requires.root; there = c.node-node.ensures.node; bound = bounded-at Bdd a.table.now.nodes c.requires.bounded a.root.0 n c.requires.root c.node-node.ensures.node } in
    let small : n.var < MAX_RANKS = d.bound in
    omega (arith, small)

pub prime_sets-zbdd_node-requires-clause-hi : goal.prime_sets-zbdd_node-requires-clause-hi
prime_sets-zbdd_node-requires-clause-hi g t c =
    let a = c.args in
    let n = c.node-node.result in
    let d : IsDecision a.table.now a.root a.limit n = record { fit = c.check.ensures.fit; some = omega (arith, c.if-limit-eq0.false); root_stands = c.requires.root; there = c.node-node.ensures.node; bound = bounded-at Bdd a.table.now.nodes c.requires.bounded a.root.0 n c.requires.root c.node-node.ensures.node } in
    (past_sides a.table.now a.root a.limit n d
    c.and.new.table c.in_ok-both.both c.in_ok-both.ensures.call c.in_ok-both.ensures.conjunction
    c.prime_sets.new.table c.in_ok-rest.rest c.in_ok-rest.ensures.call c.in_ok-rest.ensures.primes
    c.side_primes.new.table c.in_ok-event.event c.in_ok-event.ensures.call c.in_ok-event.ensures.primes
    c.side_primes-2.new.table c.in_ok-opposite.opposite c.in_ok-opposite.ensures.call c.in_ok-opposite.ensures.primes).0

pub prime_sets-zbdd_node-requires-clause-lo : goal.prime_sets-zbdd_node-requires-clause-lo
prime_sets-zbdd_node-requires-clause-lo g t c =
    let a = c.args in
    let n = c.node-node.result in
    let d : IsDecision a.table.now a.root a.limit n = record { fit = c.check.ensures.fit; some = omega (arith, c.if-limit-eq0.false); root_stands = c.requires.root; there = c.node-node.ensures.node; bound = bounded-at Bdd a.table.now.nodes c.requires.bounded a.root.0 n c.requires.root c.node-node.ensures.node } in
    (past_sides a.table.now a.root a.limit n d
    c.and.new.table c.in_ok-both.both c.in_ok-both.ensures.call c.in_ok-both.ensures.conjunction
    c.prime_sets.new.table c.in_ok-rest.rest c.in_ok-rest.ensures.call c.in_ok-rest.ensures.primes
    c.side_primes.new.table c.in_ok-event.event c.in_ok-event.ensures.call c.in_ok-event.ensures.primes
    c.side_primes-2.new.table c.in_ok-opposite.opposite c.in_ok-opposite.ensures.call c.in_ok-opposite.ensures.primes).1

pub prime_sets-returns-in_err-past-clause-call : goal.prime_sets-returns-in_err-past-clause-call
prime_sets-returns-in_err-past-clause-call g t c =
    let a = c.args in
    let n = c.node-node.result in
    let d : IsDecision a.table.now a.root a.limit n = record { fit = c.check.ensures.fit; some = omega (arith, c.if-limit-eq0.false); root_stands = c.requires.root; there = c.node-node.ensures.node; bound = bounded-at Bdd a.table.now.nodes c.requires.bounded a.root.0 n c.requires.root c.node-node.ensures.node } in
    let p = err_from_is_err_and c.from_residual-in_err-past.result c.from_residual-in_err-past.ensures.1 in
    rw (p.1, p.2) (past-exit a.table.now a.root a.limit n d
    c.and.new.table c.in_ok-both.both c.in_ok-both.ensures.call c.in_ok-both.ensures.conjunction
    c.prime_sets.new.table c.in_ok-rest.rest c.in_ok-rest.ensures.call c.in_ok-rest.ensures.primes
    c.side_primes.new.table c.in_ok-event.event c.in_ok-event.ensures.call c.in_ok-event.ensures.primes
    c.side_primes-2.new.table c.in_ok-opposite.opposite c.in_ok-opposite.ensures.call c.in_ok-opposite.ensures.primes
    c.zbdd_node.new.self (Err c.in_err-past.field-0.0) c.in_err-past.ensures.table c.in_err-past.ensures.made)

pub prime_sets-remember_family-requires-clause-ready : goal.prime_sets-remember_family-requires-clause-ready
prime_sets-remember_family-requires-clause-ready g t c =
    let a = c.args in
    let n = c.node-node.result in
    let d : IsDecision a.table.now a.root a.limit n = record { fit = c.check.ensures.fit; some = omega (arith, c.if-limit-eq0.false); root_stands = c.requires.root; there = c.node-node.ensures.node; bound = bounded-at Bdd a.table.now.nodes c.requires.bounded a.root.0 n c.requires.root c.node-node.ensures.node } in
    rw c.key_of-key.ensures (ready a.table.now a.root a.limit n d
    c.and.new.table c.in_ok-both.both c.in_ok-both.ensures.call c.in_ok-both.ensures.conjunction
    c.prime_sets.new.table c.in_ok-rest.rest c.in_ok-rest.ensures.call c.in_ok-rest.ensures.primes
    c.side_primes.new.table c.in_ok-event.event c.in_ok-event.ensures.call c.in_ok-event.ensures.primes
    c.side_primes-2.new.table c.in_ok-opposite.opposite c.in_ok-opposite.ensures.call c.in_ok-opposite.ensures.primes
    c.zbdd_node.new.self c.in_ok-past.past c.in_ok-past.ensures.table c.in_ok-past.ensures.made)

pub prime_sets-remember_family-requires-clause-absent : goal.prime_sets-remember_family-requires-clause-absent
prime_sets-remember_family-requires-clause-absent g t c =
    let a = c.args in
    let n = c.node-node.result in
    let d : IsDecision a.table.now a.root a.limit n = record { fit = c.check.ensures.fit; some = omega (arith, c.if-limit-eq0.false); root_stands = c.requires.root; there = c.node-node.ensures.node; bound = bounded-at Bdd a.table.now.nodes c.requires.bounded a.root.0 n c.requires.root c.node-node.ensures.node } in
    rw c.key_of-key.ensures (absent a.table.now a.root a.limit n d
    c.and.new.table c.in_ok-both.both c.in_ok-both.ensures.call c.in_ok-both.ensures.conjunction
    c.prime_sets.new.table c.in_ok-rest.rest c.in_ok-rest.ensures.call c.in_ok-rest.ensures.primes
    c.side_primes.new.table c.in_ok-event.event c.in_ok-event.ensures.call c.in_ok-event.ensures.primes
    c.side_primes-2.new.table c.in_ok-opposite.opposite c.in_ok-opposite.ensures.call c.in_ok-opposite.ensures.primes
    c.zbdd_node.new.self c.in_ok-past.past c.in_ok-past.ensures.table c.in_ok-past.ensures.made
    (rw c.key_of-key.ensures at c.in_default.ensures.absent))

pub prime_sets-returns-clause-call : goal.prime_sets-returns-clause-call
prime_sets-returns-clause-call g t c =
    let a = c.args in
    let n = c.node-node.result in
    let d : IsDecision a.table.now a.root a.limit n = record { fit = c.check.ensures.fit; some = omega (arith, c.if-limit-eq0.false); root_stands = c.requires.root; there = c.node-node.ensures.node; bound = bounded-at Bdd a.table.now.nodes c.requires.bounded a.root.0 n c.requires.root c.node-node.ensures.node } in
    whole-call a.table.now a.root a.limit n d
    c.and.new.table c.in_ok-both.both c.in_ok-both.ensures.call c.in_ok-both.ensures.conjunction
    c.prime_sets.new.table c.in_ok-rest.rest c.in_ok-rest.ensures.call c.in_ok-rest.ensures.primes
    c.side_primes.new.table c.in_ok-event.event c.in_ok-event.ensures.call c.in_ok-event.ensures.primes
    c.side_primes-2.new.table c.in_ok-opposite.opposite c.in_ok-opposite.ensures.call c.in_ok-opposite.ensures.primes
    c.zbdd_node.new.self c.in_ok-past.past c.in_ok-past.ensures.table c.in_ok-past.ensures.made
    c.remember_family.new.table c.remember_family.result c.remember_family.ensures.call

pub side_primes-returns-then-eq-clause-primes : goal.side_primes-returns-then-eq-clause-primes
side_primes-returns-then-eq-clause-primes g t c =
    none-left c.args.table.now c.check.ensures.fit c.args.var c.args.side.0 c.args.both.0 c.args.rest.0 (c.args.limit - 1) c.args.limit (omega arith)
    c.requires.var c.requires.side c.requires.both c.requires.weaker c.requires.rest (eqb-true c.args.side.0 c.args.both.0 (sym c.if-eq.ensures))

pub side_primes-prime_sets-requires : goal.side_primes-prime_sets-requires
side_primes-prime_sets-requires g t c κs within =
    let a = c.args in
    let le : a.limit - 1 ≤ a.limit = omega arith in
    let less = from-side (level a.table.now.nodes a.side.0) a.var (past_side a.table.now c.check.ensures.fit a.var a.side.0 a.both.0 a.rest.0 (a.limit - 1) a.limit le c.requires.var c.requires.side c.requires.both c.requires.weaker c.requires.rest) in
    (omega (arith, less), (within, (side_zero a.table.now c.check.ensures.fit a.var a.side.0 a.both.0 a.rest.0 (a.limit - 1) a.limit le c.requires.var c.requires.side c.requires.both c.requires.weaker c.requires.rest, c.requires.bounded)))

pub side_primes-returns-in_err-primes-clause-call : goal.side_primes-returns-in_err-primes-clause-call
side_primes-returns-in_err-primes-clause-call g t c =
    let a = c.args in
    let le : a.limit - 1 ≤ a.limit = omega arith in
    let p = err_from_is_err_and c.from_residual.result c.from_residual.ensures.1 in
    rw (p.1, p.2) (first-step a.table.now c.check.ensures.fit a.var a.side.0 a.both.0 a.rest.0 (a.limit - 1) a.limit le c.requires.var c.requires.side c.requires.both c.requires.weaker c.requires.rest
    c.prime_sets.new.table (Err c.in_err-primes.field-0.0) c.in_err-primes.ensures.call)

pub side_primes-difference-requires-clause-right : goal.side_primes-difference-requires-clause-right
side_primes-difference-requires-clause-right g t c =
    let a = c.args in
    let le : a.limit - 1 ≤ a.limit = omega arith in
    rest_stands a.table.now c.check.ensures.fit a.var a.side.0 a.both.0 a.rest.0 (a.limit - 1) a.limit le c.requires.var c.requires.side c.requires.both c.requires.weaker c.requires.rest
    c.prime_sets.new.table c.in_ok-primes.primes c.in_ok-primes.ensures.call c.in_ok-primes.ensures.primes

pub side_primes-difference-requires-clause-apart : goal.side_primes-difference-requires-clause-apart
side_primes-difference-requires-clause-apart g t c =
    let a = c.args in
    let le : a.limit - 1 ≤ a.limit = omega arith in
    operands_apart a.table.now c.check.ensures.fit a.var a.side.0 a.both.0 a.rest.0 (a.limit - 1) a.limit le c.requires.var c.requires.side c.requires.both c.requires.weaker c.requires.rest
    c.prime_sets.new.table c.in_ok-primes.primes c.in_ok-primes.ensures.call c.in_ok-primes.ensures.primes

pub side_primes-difference-requires-clause-own : goal.side_primes-difference-requires-clause-own
side_primes-difference-requires-clause-own g t c =
    let a = c.args in
    let le : a.limit - 1 ≤ a.limit = omega arith in
    rest_apart a.table.now c.check.ensures.fit a.var a.side.0 a.both.0 a.rest.0 (a.limit - 1) a.limit le c.requires.var c.requires.side c.requires.both c.requires.weaker c.requires.rest
    c.prime_sets.new.table c.in_ok-primes.primes c.in_ok-primes.ensures.call c.in_ok-primes.ensures.primes

pub side_primes-returns-clause-primes : goal.side_primes-returns-clause-primes
side_primes-returns-clause-primes g t c =
    let a = c.args in
    let le : a.limit - 1 ≤ a.limit = omega arith in
    let p = c.difference.ensures.call.progress in
    IfOk-weaker c.difference.result (λ id. IsResult Without 0 c.difference.new.table.nodes c.in_ok-primes.primes.0 a.rest.0 id.0) (λ id. AreSidePrimes c.difference.new.table.nodes a.side.0 a.both.0 (a.limit - 1) id.0)
    (λ id r. left a.table.now c.check.ensures.fit a.var a.side.0 a.both.0 a.rest.0 (a.limit - 1) a.limit le c.requires.var c.requires.side c.requires.both c.requires.weaker c.requires.rest
    c.prime_sets.new.table c.in_ok-primes.primes c.in_ok-primes.ensures.call c.in_ok-primes.ensures.primes
    c.difference.new.table p.nodes p.table.fit id.0 r)
    c.difference.ensures.difference

pub side_primes-returns-clause-call : goal.side_primes-returns-clause-call
side_primes-returns-clause-call g t c =
    let a = c.args in
    let le : a.limit - 1 ≤ a.limit = omega arith in
    whole-side-call a.table.now c.check.ensures.fit a.var a.side.0 a.both.0 a.rest.0 (a.limit - 1) a.limit le c.requires.var c.requires.side c.requires.both c.requires.weaker c.requires.rest
    c.prime_sets.new.table c.in_ok-primes.primes c.in_ok-primes.ensures.call c.in_ok-primes.ensures.primes
    c.difference.new.table c.difference.result c.difference.ensures.call
