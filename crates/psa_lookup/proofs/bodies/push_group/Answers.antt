use Rattle.std.proofs.Common.{◌≡◌, ◌++◌, flat_map, ap, ◌∙◌}
use Rattle.psa_names.specs.Chains.{references_in}
use Rattle.psa_names.specs.Outlines.{expression_outline, group_outlines}
use Rattle.psa_lookup.specs.Asking.{asked_references, factor_references}
use Rattle.psa_lookup.proofs.StateLemmas.{on-ok}
use Rattle.psa_lookup.proofs.AskedLemmas.{two-added, group-references}
use Rattle.psa_lookup.proofs.bodies.push_group.Goals as goal

pub returns : goal.returns
returns c =
    on-ok c.push_factors.result
    (λ (made : asked_references c.push_factors.new.asked.items ≡ asked_references c.push_expression.new.asked.items ++ factor_references c.as_slice.result.now).
    two-added (asked_references c.args.asked.now.items) (asked_references c.push_expression.new.asked.items) (asked_references c.push_factors.new.asked.items)
    (references_in (expression_outline c.args.group.now.distribution)) (factor_references c.args.group.now.factors) (flat_map references_in (group_outlines c.args.group.now))
    c.in_ok-push_expression.ensures (made ∙ ap (λ fs. asked_references c.push_expression.new.asked.items ++ factor_references fs) c.as_slice.ensures) (group-references c.args.group.now))
    c.push_factors.ensures
