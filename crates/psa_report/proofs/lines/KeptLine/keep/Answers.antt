use Rattle.std.proofs.Common.{ap, ◌∙◌, take, arith}
use Rattle.psa_report.specs.declared.lines.KeptLine.{KeptLine}
use Rattle.psa_report.proofs.LineLemmas.{exact-cut, kept-fewer}
use Rattle.psa_report.proofs.lines.KeptLine.keep.Goals as goal

pub returns-clause-exact : goal.returns-clause-exact
returns-clause-exact c = λ naming is_kept.
    let fewer : KeptLine = record c.args.self.now { count = c.common_length-self.result } in
    let less = kept-fewer naming c.args.self.now is_kept c.common_length-self.result (omega (arith, c.common_length-self.ensures.left, c.split_at.ensures.front_len)) in
    exact-cut naming fewer less c.truncate.new.self (c.truncate.ensures ∙ ap (λ n. take n c.args.self.now.line.text.items) (c.end-end.ensures naming less))
