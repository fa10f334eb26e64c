use Rattle.psa_bodies.proofs.MadeDefinitions.{basic-made}
use Rattle.psa_bodies.proofs.definitions.make_basic_event.Goals as goal

pub returns : goal.returns
returns c =
    basic-made c.args.context.now.numbers.now c.args.context.now.draft.now c.args.definition.now c.args.cursor.now c.make_value.new.cursor c.args.value.now c.in_ok-name.name c.in_ok-expression.expression
    c.requires.context.numbers c.requires.kind c.requires.body c.in_ok-name.ensures c.in_ok-expression.ensures
