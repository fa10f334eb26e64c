use Rattle.std.proofs.Common.{List, IfSome, subst, sym}
use Rattle.std.specs.List.{All}
use Rattle.psa_number.specs.Ends.{Ends}
use Rattle.psa_number.specs.Operations.{IsInUnit}
use Rattle.psa_model.specs.declared.product.Literal.{Literal}
use Rattle.psa_model.specs.Quantities.{at_rank, zero_ends}
use Rattle.psa_products.specs.PartialBounds.{Valuation}
use Rattle.psa_listing_tests.proofs.IntervalLemmas.{events-in_unit}
use Rattle.psa_listing_tests.proofs.listings.expect_bounds.Goals as goal

pub bound-together-requires : goal.bound-together-requires
bound-together-requires g c =
    let items = c.product_with-product.result.items in
    subst (λ (v : Valuation). IfSome v.values (λ (some : List Ends). All (λ (literal : Literal). IsInUnit (at_rank zero_ends some v.ranks literal.rank)) items)) (sym c.loop-round.invariant)
    (events-in_unit c.args.values.now c.args.ranks.now items c.requires)
