use Rattle.std.proofs.Common.{ℤ, ◌≡◌, ◌^◌, ◌*ℤ◌, ◌≤◌, ◌≤ℤ◌, unsigned_abs, ap, ◌∙◌}
use Rattle.psa_number.specs.Units.{least, greatest, floor_units, ceil_units}
use Rattle.psa_number.specs.Ends.{Ends}
use Rattle.psa_number.specs.Operations.{product_ends}
use Rattle.psa_number.specs.Fraction.{Fraction, Holds, times}
use Rattle.psa_number.proofs.SignedLemmas.{read_back, product_read, least_read, greatest_read, greatest_keeps, least_within, greatest_within, floor_ceil, le_then, least_four, greatest_four}
use Rattle.psa_number.proofs.BracketLemmas.{limited_same, held_if_limited, product_held}
use Rattle.psa_number.proofs.arithmetic.mul.Goals as goal

least_at_most_greatest : (a b c d : ℤ) → least a b c d ≤ℤ greatest a b c d
least_at_most_greatest a b c d = le_then (least a b c d) a (greatest a b c d) (least_within a b c d).first (greatest_within a b c d).first

pub ceil_of-hi-requires : goal.ceil_of-hi-requires
ceil_of-hi-requires c =
    let small : unsigned_abs (greatest c.product-low_low.result c.product-low_high.result c.product-high_low.result c.product-high_high.result) ≤ 10 ^ 36 =
    greatest_keeps (λ (z : ℤ). unsigned_abs z ≤ 10 ^ 36) c.product-low_low.result c.product-low_high.result c.product-high_low.result c.product-high_high.result c.product-low_low.ensures.small c.product-low_high.ensures.small c.product-high_low.ensures.small c.product-high_high.ensures.small in
    rw (read_back c.greatest_of.result c.greatest_of.type_inv, greatest_read c.greatest_of.result c.product-low_low.result c.product-low_high.result c.product-high_low.result c.product-high_high.result c.greatest_of.ensures c.product-low_low.type_inv c.product-low_high.type_inv c.product-high_low.type_inv c.product-high_high.type_inv) small

pub limited-requires : goal.limited-requires
limited-requires c =
    let lo : c.floor_of-lo.result ≡ floor_units (least c.product-low_low.result c.product-low_high.result c.product-high_low.result c.product-high_high.result) =
    c.floor_of-lo.ensures ∙ ap floor_units (read_back c.least_of.result c.least_of.type_inv ∙ least_read c.least_of.result c.product-low_low.result c.product-low_high.result c.product-high_low.result c.product-high_high.result c.least_of.ensures c.product-low_low.type_inv c.product-low_high.type_inv c.product-high_low.type_inv c.product-high_high.type_inv) in
    let hi : c.ceil_of-hi.result ≡ ceil_units (greatest c.product-low_low.result c.product-low_high.result c.product-high_low.result c.product-high_high.result) =
    c.ceil_of-hi.ensures ∙ ap ceil_units (read_back c.greatest_of.result c.greatest_of.type_inv ∙ greatest_read c.greatest_of.result c.product-low_low.result c.product-low_high.result c.product-high_low.result c.product-high_high.result c.greatest_of.ensures c.product-low_low.type_inv c.product-low_high.type_inv c.product-high_low.type_inv c.product-high_high.type_inv) in
    rw (read_back c.floor_of-lo.result c.floor_of-lo.type_inv, read_back c.ceil_of-hi.result c.ceil_of-hi.type_inv, lo, hi)
    (floor_ceil (least c.product-low_low.result c.product-low_high.result c.product-high_low.result c.product-high_high.result) (greatest c.product-low_low.result c.product-low_high.result c.product-high_low.result c.product-high_high.result) (least_at_most_greatest c.product-low_low.result c.product-low_high.result c.product-high_low.result c.product-high_high.result))

pub returns-clause-exact : goal.returns-clause-exact
returns-clause-exact c =
    let lo : c.floor_of-lo.result ≡ floor_units (least c.product-low_low.result c.product-low_high.result c.product-high_low.result c.product-high_high.result) =
    c.floor_of-lo.ensures ∙ ap floor_units (read_back c.least_of.result c.least_of.type_inv ∙ least_read c.least_of.result c.product-low_low.result c.product-low_high.result c.product-high_low.result c.product-high_high.result c.least_of.ensures c.product-low_low.type_inv c.product-low_high.type_inv c.product-high_low.type_inv c.product-high_high.type_inv) in
    let hi : c.ceil_of-hi.result ≡ ceil_units (greatest c.product-low_low.result c.product-low_high.result c.product-high_low.result c.product-high_high.result) =
    c.ceil_of-hi.ensures ∙ ap ceil_units (read_back c.greatest_of.result c.greatest_of.type_inv ∙ greatest_read c.greatest_of.result c.product-low_low.result c.product-low_high.result c.product-high_low.result c.product-high_high.result c.greatest_of.ensures c.product-low_low.type_inv c.product-low_high.type_inv c.product-high_low.type_inv c.product-high_high.type_inv) in
    let low_low : c.product-low_low.result ≡ (c.a.inside.lo *ℤ c.b.inside.lo) = product_read c.product-low_low.result c.a.inside.lo c.b.inside.lo c.product-low_low.ensures.exact c.a.invariant.lo_limited c.b.invariant.lo_limited in
    let low_high : c.product-low_high.result ≡ (c.a.inside.lo *ℤ c.b.inside.hi) = product_read c.product-low_high.result c.a.inside.lo c.b.inside.hi c.product-low_high.ensures.exact c.a.invariant.lo_limited c.b.invariant.hi_limited in
    let high_low : c.product-high_low.result ≡ (c.a.inside.hi *ℤ c.b.inside.lo) = product_read c.product-high_low.result c.a.inside.hi c.b.inside.lo c.product-high_low.ensures.exact c.a.invariant.hi_limited c.b.invariant.lo_limited in
    let high_high : c.product-high_high.result ≡ (c.a.inside.hi *ℤ c.b.inside.hi) = product_read c.product-high_high.result c.a.inside.hi c.b.inside.hi c.product-high_high.ensures.exact c.a.invariant.hi_limited c.b.invariant.hi_limited in
    rw (← c.a.view_is, ← c.b.view_is) (limited_same c.limited.result _ _ _ _ c.limited.ensures
    (read_back c.floor_of-lo.result c.floor_of-lo.type_inv ∙ lo ∙ ap floor_units (least_four c.product-low_low.result (c.a.inside.lo *ℤ c.b.inside.lo) c.product-low_high.result (c.a.inside.lo *ℤ c.b.inside.hi) c.product-high_low.result (c.a.inside.hi *ℤ c.b.inside.lo) c.product-high_high.result (c.a.inside.hi *ℤ c.b.inside.hi) low_low low_high high_low high_high))
    (read_back c.ceil_of-hi.result c.ceil_of-hi.type_inv ∙ hi ∙ ap ceil_units (greatest_four c.product-low_low.result (c.a.inside.lo *ℤ c.b.inside.lo) c.product-low_high.result (c.a.inside.lo *ℤ c.b.inside.hi) c.product-high_low.result (c.a.inside.hi *ℤ c.b.inside.lo) c.product-high_high.result (c.a.inside.hi *ℤ c.b.inside.hi) low_low low_high high_low high_high)))

pub returns-clause-bracket : goal.returns-clause-bracket
returns-clause-bracket c =
    held_if_limited (λ (r : Ends). (x y : Fraction) → Holds c.args.a x → Holds c.args.b y → Holds r (times x y)) c.limited.result (product_ends c.args.a c.args.b) (returns-clause-exact c)
    (product_held c.args.a c.args.b)
