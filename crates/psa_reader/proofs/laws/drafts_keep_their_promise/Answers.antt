use Rattle.psa_reader.proofs.DraftPromise.{draft-promised}
use Rattle.psa_reader.proofs.laws.drafts_keep_their_promise.Goals as goal

pub returns : goal.returns
returns c = draft-promised
