use Rattle.std.proofs.Common.{arith}
use Rattle.psa_ccf.proofs.Choices.{events-step}
use Rattle.psa_ccf.proofs.Joined.{joined, on-ok}
use Rattle.psa_ccf.proofs.subsets.+push_choices.Goals as goal

pub returns : goal.returns
returns t c =
    on-ok c.push_choices-2.result
    (λ grown.
    joined c.args.events.now _ _ _ c.push_choices.new.events c.push_choices-2.new.events c.in_ok-push_choices.ensures grown
    (events-step c.args.id c.args.chosen c.args.size c.args.place c.args.count c.bit_of.result c.bit_of.ensures (omega arith) (omega arith)))
    c.push_choices-2.ensures
