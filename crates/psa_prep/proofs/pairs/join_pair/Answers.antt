use Rattle.psa_prep.proofs.SoundLemmas.{pair-joined}
use Rattle.psa_prep.proofs.pairs.join_pair.Goals as goal

pub returns : goal.returns
returns c = pair-joined c.args.signs c.args.both c.args.left c.args.right c.args.builder.now _ _ _ _ c.in_ok-yes.ensures c.in_ok-no.ensures
