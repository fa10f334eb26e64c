use Rattle.std.proofs.Common.{◌&&◌, ℕ, sym, ap, ◌∙◌}
use Rattle.std.specs.Prelude.{nat_le}
use Rattle.psa_elements.specs.ShapeFaults.{is_at_most}
use Rattle.psa_shape.specs.TableRules.{seen_part}
use Rattle.psa_shape.proofs.ContentLemmas.{count_by-counted}
use Rattle.psa_shape.proofs.contents.has_number.Goals as goal

pub returns : goal.returns
returns c =
    let part = c.args.part in
    c.is_allowed.ensures ∙ ap (λ (n : ℕ). nat_le part.least n && is_at_most n part.most)
    (c.count_in.ensures ∙ sym (count_by-counted (seen_part part) c.args.children.now))
