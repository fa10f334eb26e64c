use Rattle.std.proofs.Common.{ap, map}
use Rattle.psa_model.specs.declared.ids.EventNumber.{EventNumber}
use Rattle.psa_prep.proofs.WalkLemmas.{sound-empty, ranks-answer, many-answer}
use Rattle.psa_prep.proofs.ranking.rank_by_index.Goals as goal

pub rank_target-requires-clause-sound : goal.rank_target-requires-clause-sound
rank_target-requires-clause-sound c = sound-empty c.args.expanded.now _ c.new.ensures c.new-2.ensures.empty c.new-3.ensures.empty c.new-4.ensures.empty

pub fault-requires-clause-many : goal.fault-requires-clause-many
fault-requires-clause-many c = many-answer c.args.expanded.now c.args.target.now (record { ranks = c.new.result; seen = c.new-2.result; entered = c.new-3.result; collected = c.new-4.result }) (ap (map (λ (event : EventNumber). event.0)) c.new.ensures) (rw c.in-Err-TooManyEvents.field-0-is at c.in-Err-TooManyEvents.ensures)

pub returns-in-Ok-clause-ranks : goal.returns-in-Ok-clause-ranks
returns-in-Ok-clause-ranks c = ranks-answer c.args.expanded.now c.args.target.now (record { ranks = c.new.result; seen = c.new-2.result; entered = c.new-3.result; collected = c.new-4.result }) _ (ap (map (λ (event : EventNumber). event.0)) c.new.ensures) c.in-Ok.ensures

pub returns-in-Ok-clause-few : goal.returns-in-Ok-clause-few
returns-in-Ok-clause-few c = c.in-Ok.ensures.sound.agrees.few
