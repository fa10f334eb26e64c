use Rattle.std.proofs.Common.{sym, arith}
use Rattle.psa_expr.specs.Terms.{own_levels}
use Rattle.psa_expr.proofs.Settling.{settled-valued, settled-same, settled-whole, factor-found, factor-missing, factor-within, if-ok}
use Rattle.psa_expr.proofs.terms.factor_value.Goals as goal

pub expression_value-requires-clause-within : goal.expression_value-requires-clause-within
expression_value-requires-clause-within c =
    factor-within c.args.setting.now.model.now c.args.group.now c.args.level c.in-Some.factor.now c.in-Some.ensures c.requires.values

pub returns-in-Some : goal.returns-in-Some
returns-in-Some c =
    if-ok _ _
    (λ r valued.
    settled-same c.args.setting.now.mission c.args.setting.now.model.now own_levels c.in-Some.factor.now.expression _ c.expression_value.new.known r
    (sym (factor-found c.args.group.now c.args.level c.in-Some.factor.now c.in-Some.ensures))
    (settled-valued c.args.setting.now.mission c.args.setting.now.model.now own_levels c.in-Some.factor.now.expression c.expression_value.new.known r
    (factor-within c.args.setting.now.model.now c.args.group.now c.args.level c.in-Some.factor.now c.in-Some.ensures c.requires.values) valued))
    c.expression_value.result c.expression_value.ensures

pub returns-in-None : goal.returns-in-None
returns-in-None c =
    settled-same c.args.setting.now.mission c.args.setting.now.model.now own_levels _ _ c.args.known.now _
    (sym (factor-missing c.args.group.now c.args.level c.in-None.ensures))
    (settled-whole c.args.setting.now.mission c.args.setting.now.model.now own_levels 0 c.args.known.now _ (omega arith) c.requires.right c.whole.ensures)
