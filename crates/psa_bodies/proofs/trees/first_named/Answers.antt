use Rattle.std.proofs.Common.{sym, ◌∙◌, arith}
use Rattle.psa_bodies.specs.Trees.{place_has_name}
use Rattle.psa_bodies.proofs.NamedTrees.{first-at, first-none}
use Rattle.psa_bodies.proofs.trees.first_named.Goals as goal

pub returns-then-is_named : goal.returns-then-is_named
returns-then-is_named c =
    sym (first-at (place_has_name c.args.draft.now.definitions c.args.name.now) c.args.trees.now c.loop-number.number (sym c.is_named.ensures ∙ c.if-is_named.true) c.loop-number.invariant)

pub returns : goal.returns
returns c =
    first-none (place_has_name c.args.draft.now.definitions c.args.name.now) c.args.trees.now (λ j l. c.loop-number.invariant j (omega arith))
