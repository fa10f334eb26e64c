use Rattle.std.proofs.Common.{◌-ℤ◌}
use Rattle.psa_number.specs.Ends.{Ends}
use Rattle.psa_number.specs.Operations.{difference_ends}
use Rattle.psa_number.specs.Fraction.{Fraction, Holds, difference}
use Rattle.psa_number.proofs.SignedLemmas.{read, difference_read}
use Rattle.psa_number.proofs.BracketLemmas.{limited_same, held_if_limited, difference_held}
use Rattle.psa_number.proofs.arithmetic.sub.Goals as goal

pub returns-clause-exact : goal.returns-clause-exact
returns-clause-exact c =
    rw (← c.a.view_is, ← c.b.view_is)
    (limited_same c.limited.result (read (read c.a.inside.lo -ℤ read c.b.inside.hi)) (read (read c.a.inside.hi -ℤ read c.b.inside.lo)) (c.a.inside.lo -ℤ c.b.inside.hi) (c.a.inside.hi -ℤ c.b.inside.lo) c.limited.ensures
    (difference_read c.a.inside.lo c.b.inside.hi c.a.invariant.lo_limited c.b.invariant.hi_limited)
    (difference_read c.a.inside.hi c.b.inside.lo c.a.invariant.hi_limited c.b.invariant.lo_limited))

pub returns-clause-bracket : goal.returns-clause-bracket
returns-clause-bracket c =
    held_if_limited (λ (r : Ends). (x y : Fraction) → Holds c.args.a x → Holds c.args.b y → Holds r (difference x y)) c.limited.result (difference_ends c.args.a c.args.b) (returns-clause-exact c)
    (difference_held c.args.a c.args.b)
