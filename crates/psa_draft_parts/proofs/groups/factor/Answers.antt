use Rattle.std.proofs.Common.{Option, [], ◌∷◌, ap, sym, ◌∙◌}
use Rattle.psa_draft_parts.specs.Sayings.{start_tag}
use Rattle.psa_draft_parts.specs.Starts.{around_of}
use Rattle.psa_draft_parts.proofs.Passing.{short-level}
use Rattle.psa_elements.specs.DraftReading.{level_in, some_factors}
use Rattle.psa_model.specs.declared.draft.DraftExpression.{DraftExpression}
use Rattle.psa_draft_parts.proofs.GroupSayings as says
use Rattle.std.proofs.Common.{ℕ}
use Rattle.psa_draft_parts.proofs.groups.factor.Goals as goal

pub level_in-level-requires : goal.level_in-level-requires
level_in-level-requires c =
    short-level c.args.reader.now.number c.args.element.now c.requires

pub returns-clause-said : goal.returns-clause-said
returns-clause-said c =
    ap (λ (o : Option ℕ). some_factors (record { level = o; expression = c.in_ok-expression_in.field-0 } ∷ []))
    c.level_in-level.ensures
    ∙ ap (λ (x : DraftExpression). some_factors (record {
      level = level_in (start_tag (around_of c.args.around.now)
          c.args.reader.now.number c.args.element.now);
      expression = x;
    } ∷ [])) c.in_ok-expression_in.ensures.said
    ∙ sym (says.says-factor (around_of c.args.around.now) c.args.reader.now.number c.args.element.now)
