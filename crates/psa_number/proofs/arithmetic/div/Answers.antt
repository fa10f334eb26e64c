use Rattle.std.proofs.Common.{false, ◌≡◌, ◌≤ℤ◌, rules, ◌∙◌}
use Rattle.psa_number.specs.Ends.{Ends}
use Rattle.psa_number.specs.Operations.{has_zero, quotient_ends}
use Rattle.psa_number.specs.Fraction.{Fraction, Holds, quotient}
use Rattle.psa_number.proofs.SignedLemmas.{read, read_back}
use Rattle.psa_number.proofs.BracketLemmas.{limited_same, held_if_limited, nonzero, quotient_ordered, quotient_held, not_refused}
use Rattle.psa_number.proofs.arithmetic.div.Goals as goal

pub limited-requires : goal.limited-requires
limited-requires c =
    let clear : has_zero c.args.b ≡ false = search rules in
    let ordered : c.args.b.lo ≤ℤ c.args.b.hi = rw (← c.b.view_is) c.b.invariant.ordered in
    let some = nonzero c.args.b clear ordered in
    rw (read_back c.least_quotient.result c.least_quotient.type_inv, read_back c.greatest_quotient.result c.greatest_quotient.type_inv, c.least_quotient.ensures, c.greatest_quotient.ensures)
    (quotient_ordered c.args.a c.args.b some.0)

pub returns-clause-exact : goal.returns-clause-exact
returns-clause-exact c =
    let clear : has_zero c.args.b ≡ false = search rules in
    not_refused c.limited.result c.args.a c.args.b clear
    (limited_same c.limited.result (read c.least_quotient.result) (read c.greatest_quotient.result) (quotient_ends c.args.a c.args.b).lo (quotient_ends c.args.a c.args.b).hi c.limited.ensures
    (read_back c.least_quotient.result c.least_quotient.type_inv ∙ c.least_quotient.ensures)
    (read_back c.greatest_quotient.result c.greatest_quotient.type_inv ∙ c.greatest_quotient.ensures))

pub returns-clause-bracket : goal.returns-clause-bracket
returns-clause-bracket c =
    let clear : has_zero c.args.b ≡ false = search rules in
    let ordered : c.args.b.lo ≤ℤ c.args.b.hi = rw (← c.b.view_is) c.b.invariant.ordered in
    held_if_limited (λ (r : Ends). (x y : Fraction) → Holds c.args.a x → Holds c.args.b y → Holds r (quotient x y)) c.limited.result (quotient_ends c.args.a c.args.b)
    (limited_same c.limited.result (read c.least_quotient.result) (read c.greatest_quotient.result) (quotient_ends c.args.a c.args.b).lo (quotient_ends c.args.a c.args.b).hi c.limited.ensures
    (read_back c.least_quotient.result c.least_quotient.type_inv ∙ c.least_quotient.ensures)
    (read_back c.greatest_quotient.result c.greatest_quotient.type_inv ∙ c.greatest_quotient.ensures))
    (λ (x y : Fraction) (h : Holds c.args.a x) (g : Holds c.args.b y). quotient_held c.args.a c.args.b x y clear ordered h g)
