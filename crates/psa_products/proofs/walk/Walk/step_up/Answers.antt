use Rattle.psa_products.proofs.StepLemmas.{up-pop}
use Rattle.psa_products.proofs.walk.Walk.step_up.Goals as goal

pub returns-in-Some-clause-walk : goal.returns-in-Some-clause-walk
returns-in-Some-clause-walk c =
    (up-pop c.args.self.now c.requires.walk c.requires.none c.pop.new.self c.in-Some.node c.in-Some.ensures.items c.pop-in-Some.new.self c.pop-in-Some.ensures.rest).walk

pub returns-in-Some-clause-same : goal.returns-in-Some-clause-same
returns-in-Some-clause-same c =
    (up-pop c.args.self.now c.requires.walk c.requires.none c.pop.new.self c.in-Some.node c.in-Some.ensures.items c.pop-in-Some.new.self c.pop-in-Some.ensures.rest).same
