use Rattle.std.proofs.Common.{◌-◌, arith}
use Rattle.psa_report.proofs.LineLemmas.{made-end}
use Rattle.psa_report.proofs.lines.KeptLine.end.Goals as goal

pub returns : goal.returns
returns c = λ naming is_kept. made-end naming c.args.self.now is_kept (c.args.self.now.count - 1) (omega (arith, c.if-self-eq0.false)) 0
