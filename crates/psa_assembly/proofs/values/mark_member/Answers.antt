use Rattle.std.proofs.Common.{get_or, false, ap, ◌∙◌, eqb, ◌||◌, arith}
use Rattle.psa_assembly.proofs.Marks.{get-pushed, get-marked}
use Rattle.psa_assembly.proofs.values.mark_member.Goals as goal

pub loop-marks-preserved : goal.loop-marks-preserved
loop-marks-preserved c = λ id.
    ap (λ ms. get_or ms id false) c.in_ok-push.ensures.ok ∙ get-pushed c.loop-marks.marks id ∙ c.loop-marks.invariant id

pub returns : goal.returns
returns c = λ id.
    ap (λ ms. get_or ms id false) c.set.ensures
    ∙ get-marked c.loop-marks.marks c.args.member.0 id (let n = c.len.ensures in let t = c.loop-marks-test.false in omega (arith, n, t))
    ∙ ap (λ b. b || eqb c.args.member.0 id) (c.loop-marks.invariant id)
