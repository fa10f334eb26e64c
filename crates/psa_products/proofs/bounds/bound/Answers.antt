use Rattle.std.proofs.Common.{◌≡◌, length, take, sym, ap, subst, ◌∙◌, arith}
use Rattle.std.specs.List.{fold}
use Rattle.std.proofs.Math.Seq.{take-length}
use Rattle.psa_number.specs.Ends.{Ends}
use Rattle.psa_number.specs.Fraction.{Holds}
use Rattle.psa_model.specs.ExactQuantities.{exact_bound}
use Rattle.psa_model.specs.Literals.{literals_of}
use Rattle.psa_model.specs.Quantities.{bound_of, one_ends}
use Rattle.psa_model.specs.Values.{quantities_of}
use Rattle.psa_model.proofs.HeldTotals.{bound-held}
use Rattle.psa_products.specs.PartialBounds.{bound_step}
use Rattle.psa_products.proofs.BoundLemmas.{bound-fold}
use Rattle.psa_products.proofs.bounds.bound.Goals as goal

pub returns-clause-holds : goal.returns-clause-holds
returns-clause-holds c = λ terms long mission expanded is.
    let end : c.loop-literal.literal-index ≡ length c.as_slice-literal-items.result.now =
    omega (arith, c.loop-literal-test.false, c.loop-literal.auto.literal-index-end) in
    let whole : take c.loop-literal.literal-index c.as_slice-literal-items.result.now ≡ c.args.product.now.items =
    ap (λ n. take n c.as_slice-literal-items.result.now) end ∙ take-length c.as_slice-literal-items.result.now ∙ c.as_slice-literal-items.ensures.value in
    let exact : c.loop-literal.bound ≡ bound_of c.args.values.now c.args.ranks.now (literals_of c.args.product.now.items) =
    c.loop-literal.invariant.exact
    ∙ ap (fold (bound_step c.args.values.now c.args.ranks.now) one_ends) whole
    ∙ bound-fold c.args.values.now c.args.ranks.now c.args.product.now.items in
    subst (λ (bound : Ends). Holds bound (exact_bound (quantities_of terms mission expanded) c.args.ranks.now (literals_of c.args.product.now.items))) (sym exact)
    (bound-held terms long mission expanded c.args.values.now is c.args.ranks.now (literals_of c.args.product.now.items))
