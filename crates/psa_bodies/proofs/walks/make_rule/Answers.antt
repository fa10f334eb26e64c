use Rattle.std.proofs.Common.{◌∙◌}
use Rattle.psa_bodies.proofs.WalkForms.{rule-made}
use Rattle.psa_bodies.proofs.walks.make_rule.Goals as goal

pub returns : goal.returns
returns c =
    rule-made c.args.context.now.numbers.now c.args.context.now.draft.now c.args.definition.now c.args.cursor.now c.resolve_instructions.new.cursor c.args.collected.now c.resolve_instructions.new.collected c.args.instructions.now c.as_slice-steps.result.now c.in_ok-name.name c.in_ok-instructions.instructions
    c.requires.context.numbers c.requires.kind c.requires.body c.as_slice-steps.ensures (c.in_ok-name.ensures ∙ c.as_str.ensures) c.in_ok-instructions.ensures
