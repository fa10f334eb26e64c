use Rattle.psa_bodies.proofs.MadeDefinitions.{link-some}
use Rattle.psa_bodies.proofs.definitions.make_link.Goals as goal

pub returns-in-Some : goal.returns-in-Some
returns-in-Some c = link-some c.args.context.now.numbers.now c.args.cursor.now c.next_id.new.cursor c.args.link.now c.in-Some.field-0 c.next_id.result c.in-Some.is c.next_id.ensures
