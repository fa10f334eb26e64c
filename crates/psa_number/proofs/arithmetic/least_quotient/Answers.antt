use Rattle.std.proofs.Common.{◌∙◌}
use Rattle.psa_number.specs.Operations.{quotient_below}
use Rattle.psa_number.proofs.SignedLemmas.{read_back, two_read, least_read, least_four}
use Rattle.psa_number.proofs.arithmetic.least_quotient.Goals as goal

pub returns : goal.returns
returns c =
    rw (← c.a.view_is, ← c.b.view_is)
    (read_back c.least_of.result c.least_of.type_inv ∙ least_read c.least_of.result c.quotient_floor.result c.quotient_floor-2.result c.quotient_floor-3.result c.quotient_floor-4.result c.least_of.ensures c.quotient_floor.type_inv c.quotient_floor-2.type_inv c.quotient_floor-3.type_inv c.quotient_floor-4.type_inv
    ∙ least_four c.quotient_floor.result (quotient_below c.a.inside.lo c.b.inside.lo) c.quotient_floor-2.result (quotient_below c.a.inside.lo c.b.inside.hi) c.quotient_floor-3.result (quotient_below c.a.inside.hi c.b.inside.lo) c.quotient_floor-4.result (quotient_below c.a.inside.hi c.b.inside.hi)
    (two_read quotient_below c.quotient_floor.result c.a.inside.lo c.b.inside.lo c.quotient_floor.ensures c.a.invariant.lo_limited c.b.invariant.lo_limited)
    (two_read quotient_below c.quotient_floor-2.result c.a.inside.lo c.b.inside.hi c.quotient_floor-2.ensures c.a.invariant.lo_limited c.b.invariant.hi_limited)
    (two_read quotient_below c.quotient_floor-3.result c.a.inside.hi c.b.inside.lo c.quotient_floor-3.ensures c.a.invariant.hi_limited c.b.invariant.lo_limited)
    (two_read quotient_below c.quotient_floor-4.result c.a.inside.hi c.b.inside.hi c.quotient_floor-4.ensures c.a.invariant.hi_limited c.b.invariant.hi_limited))
