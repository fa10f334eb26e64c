use Rattle.std.proofs.Common.{◌+◌, arith}
use Rattle.psa_expr.specs.Terms.{own_levels}
use Rattle.psa_expr.proofs.Quantities.{beta-expression, beta-small}
use Rattle.psa_expr.proofs.Settling.{settled-same, settled-later, if-ok}
use Rattle.psa_expr.proofs.groups.beta_value.Goals as goal

pub operation_value-requires-clause-small : goal.operation_value-requires-clause-small
operation_value-requires-clause-small c = beta-small c.args.count c.args.size c.beta_share-share.result c.beta_share-share.ensures

pub returns : goal.returns
returns c =
    if-ok _ _
    (λ r settled.
    settled-later c.args.setting.now.mission c.args.setting.now.model.now (own_levels + 2) (own_levels + 4) _ c.operation_value.new.known r (omega arith)
    (settled-same c.args.setting.now.mission c.args.setting.now.model.now (own_levels + 2) _ _ c.operation_value.new.known r
    (beta-expression c.args.group.now c.args.count c.args.size c.beta_share-share.result c.beta_share-share.ensures) settled))
    c.operation_value.result c.operation_value.ensures
