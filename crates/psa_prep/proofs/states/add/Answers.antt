use Rattle.std.proofs.Common.{arith}
use Rattle.psa_prep.proofs.StateLemmas.{changes_eq, changes-exact, changes-same}
use Rattle.psa_prep.proofs.PlaceLemmas.{added, added-fresh}
use Rattle.psa_prep.proofs.states.add.Goals as goal

pub returns : goal.returns
returns c =
    let s = c.in_ok-index.ensures.stored in (
      c.in_ok-index.index,
      omega arith,
      added changes_eq changes-exact c.args.changes.now.keys c.insert_full.new.self.keys c.args.parts s.0 c.in_ok-index.index c.in_ok-index.ensures.keys s.1 s.2,
      λ other new there. added-fresh changes_eq changes-same c.args.changes.now.keys c.insert_full.new.self.keys c.args.parts other c.in_ok-index.ensures.keys new there,
    )
