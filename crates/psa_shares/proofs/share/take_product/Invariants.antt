use Rattle.std.proofs.Common.{drop}
use Rattle.psa_shares.proofs.EventShareLemmas.{IsTaking}
use Rattle.psa_shares.proofs.share.take_product.Given as goal

-- the literals before the place were taken
abbrev pub invariant-loop-literal : goal.invariant-loop-literal
invariant-loop-literal l =
    IsTaking l.bound l.product (drop l.literal-index l.product) l.fn.shares l.shares
