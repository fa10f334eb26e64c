use Rattle.psa_text.proofs.scanner.SpansInFront.{before_place, no_place}
use Rattle.psa_text.proofs.scanner.spans.from_first.Goals as goal

pub returns-in-Some : goal.returns-in-Some
returns-in-Some c = before_place c.args.stop c.args.bytes.now c.in-Some.place c.split_at.result.1.now c.in-Some.ensures c.split_at.ensures.back

pub returns-in-None : goal.returns-in-None
returns-in-None c = no_place c.args.stop c.args.bytes.now c.in-None.ensures
