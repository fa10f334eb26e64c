use Rattle.std.proofs.Common.{append_assoc}
use Rattle.psa_load.proofs.sample.push_event.Goals as goal

pub returns : goal.returns
returns c = simp append_assoc c.write.ensures.bytes
