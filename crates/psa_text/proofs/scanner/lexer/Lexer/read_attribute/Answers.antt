use Rattle.std.proofs.Common.{◌∙◌, ap, arith, length}
use Rattle.psa_text.specs.scanner.View.{Held}
use Rattle.psa_text.proofs.scanner.TagsRead.{attribute_held}
use Rattle.psa_text.proofs.scanner.lexer.Lexer.read_attribute.Goals as goal

pub returns-in-Ok-end_attribute : goal.returns-in-Ok-end_attribute
returns-in-Ok-end_attribute c =
    attribute_held c.args.self.now c.end_attribute.new.self _ c.in_ok-quote.quote c.args.bytes.now
    c.in_ok-name.name.now c.in_ok-name.behind.now c.in_ok-opened.opened.now c.in_ok-quote.inside.now
    c.in_ok-value.value.now c.in_ok-value.rest.now
    c.requires c.in-Ok-end_attribute.ensures.ok c.in-Ok.ensures.0 (c.in-Ok-text_of.ensures.0 ∙ c.trimmed.ensures)
    (omega (
      arith,
      c.if-len-ge-MAX_ATTRIBUTES.false,
      c.len.ensures,
      ap (λ (h : Held). length h.tag.attributes)
          c.self.view_is,
    )) c.in_ok-name.ensures c.in_ok-opened.ensures c.in_ok-quote.ensures.0 c.in_ok-quote.ensures.1
    c.in_ok-value.ensures
    c.in-Ok.ensures.1 (rw c.trimmed.ensures at c.in-Ok-text_of.ensures.1)
