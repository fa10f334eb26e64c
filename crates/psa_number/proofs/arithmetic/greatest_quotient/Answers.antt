use Rattle.std.proofs.Common.{◌∙◌}
use Rattle.psa_number.specs.Operations.{quotient_above}
use Rattle.psa_number.proofs.SignedLemmas.{read_back, two_read, greatest_read, greatest_four}
use Rattle.psa_number.proofs.arithmetic.greatest_quotient.Goals as goal

pub returns : goal.returns
returns c =
    rw (← c.a.view_is, ← c.b.view_is)
    (read_back c.greatest_of.result c.greatest_of.type_inv ∙ greatest_read c.greatest_of.result c.quotient_ceil.result c.quotient_ceil-2.result c.quotient_ceil-3.result c.quotient_ceil-4.result c.greatest_of.ensures c.quotient_ceil.type_inv c.quotient_ceil-2.type_inv c.quotient_ceil-3.type_inv c.quotient_ceil-4.type_inv
    ∙ greatest_four c.quotient_ceil.result (quotient_above c.a.inside.lo c.b.inside.lo) c.quotient_ceil-2.result (quotient_above c.a.inside.lo c.b.inside.hi) c.quotient_ceil-3.result (quotient_above c.a.inside.hi c.b.inside.lo) c.quotient_ceil-4.result (quotient_above c.a.inside.hi c.b.inside.hi)
    (two_read quotient_above c.quotient_ceil.result c.a.inside.lo c.b.inside.lo c.quotient_ceil.ensures c.a.invariant.lo_limited c.b.invariant.lo_limited)
    (two_read quotient_above c.quotient_ceil-2.result c.a.inside.lo c.b.inside.hi c.quotient_ceil-2.ensures c.a.invariant.lo_limited c.b.invariant.hi_limited)
    (two_read quotient_above c.quotient_ceil-3.result c.a.inside.hi c.b.inside.lo c.quotient_ceil-3.ensures c.a.invariant.hi_limited c.b.invariant.lo_limited)
    (two_read quotient_above c.quotient_ceil-4.result c.a.inside.hi c.b.inside.hi c.quotient_ceil-4.ensures c.a.invariant.hi_limited c.b.invariant.hi_limited))
