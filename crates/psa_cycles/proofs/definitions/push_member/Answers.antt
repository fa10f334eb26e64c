use Rattle.std.proofs.Common.{◌∙◌, sym, ap}
use Rattle.psa_model.specs.PathNames.{is_path}
use Rattle.psa_cycles.proofs.AddedElements.{on-ok}
use Rattle.psa_cycles.proofs.BodyForms.{member-path, member-plain}
use Rattle.psa_cycles.proofs.definitions.push_member.Goals as goal

pub returns-then-is_path : goal.returns-then-is_path
returns-then-is_path c =
    on-ok c.push_naming.result _ _ (λ h. member-path c.args.member.now c.args.levels.now _ (ap is_path (sym c.as_bytes.ensures) ∙ sym c.is_path.ensures ∙ c.if-is_path.true) h) c.push_naming.ensures

pub returns-else-is_path : goal.returns-else-is_path
returns-else-is_path c = member-plain c.args.member.now c.args.levels.now (ap is_path (sym c.as_bytes.ensures) ∙ sym c.is_path.ensures ∙ c.if-is_path.false)
