use Rattle.std.proofs.Common.{take}
use Rattle.psa_prep.specs.Ranking.{RanksMore}
use Rattle.psa_prep.proofs.ranking.rank_events.Given as goal

abbrev pub invariant-loop-event : goal.invariant-loop-event
invariant-loop-event l = RanksMore (take l.event-index l.events) l.fn.ranking l.ranking
