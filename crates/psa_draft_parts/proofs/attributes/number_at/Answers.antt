use Rattle.psa_text.specs.declared.tree.Element.TheViews.{out-Element}
use Rattle.psa_elements.specs.ShapeFaults.{value_in}
use Rattle.std.proofs.Common.{List, ℕ, subst, ◌∙◌}
use Rattle.std.specs.Str.Parse.{ParsesUnsigned}
use Rattle.psa_draft_parts.proofs.NumberSayings.{short-number}
use Rattle.psa_draft_parts.proofs.attributes.number_at.Goals as goal

pub returns : goal.returns
returns c =
    let o = value_in (out-Element c.args.start.now.element.now).attributes c.args.name.now in
    let P : List ℕ → Type 0 = λ text. ParsesUnsigned 32 10 text c.parse.result in
    c.unwrap_or.ensures ∙ short-number o c.parse.result c.requires (subst P c.text_at.ensures c.parse.ensures.value.0)
