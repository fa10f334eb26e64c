use Rattle.std.proofs.Common.{◌≡◌, ◌%◌, arith}
use Rattle.psa_zbdd.proofs.SetUnionLemmas.{weight-odd, weight-even}
use Rattle.psa_zbdd.proofs.products.limit_after.Goals as goal

pub returns-then-var-eq1-clause-rest : goal.returns-then-var-eq1-clause-rest
returns-then-var-eq1-clause-rest c = let w = weight-odd c.args.var c.if-var-eq1.true in omega (arith, w)

pub returns-then-limit-eq0-clause-none : goal.returns-then-limit-eq0-clause-none
returns-then-limit-eq0-clause-none c =
    let odd = c.if-var-eq1.false in
    let even : c.args.var % 2 ≡ 0 = omega (arith, odd) in
    ((weight-even c.args.var even).0, c.if-limit-eq0.true)

pub returns-clause-rest : goal.returns-clause-rest
returns-clause-rest c =
    let odd = c.if-var-eq1.false in
    let even : c.args.var % 2 ≡ 0 = omega (arith, odd) in
    let w = (weight-even c.args.var even).1 in
    let some = c.if-limit-eq0.false in
    omega (arith, w, some)
