use Rattle.std.proofs.Common.{refl, sym, ap, subst, false}
use Rattle.psa_text.specs.declared.tag.Tag.{Tag}
use Rattle.psa_text.specs.scanner.Machine.{Gap, Slash}
use Rattle.psa_text.specs.scanner.Spans.{ReadsWithin}
use Rattle.psa_text.specs.scanner.View.{Held, lex_of}
use Rattle.psa_text.proofs.scanner.TagsRead.{blanks_behind, further, further_blank, further_slash}
use Rattle.psa_text.proofs.scanner.lexer.Lexer.read_attributes.Goals as goal

pub returns-in_default : goal.returns-in_default
returns-in_default c =
    rw c.in_default.ensures
    (blanks_behind c.loop.self (lex_of c.args.self.now) c.args.bytes.now c.loop.bytes.now
    c.behind_blanks-bytes.result.now c.loop.invariant.0 c.loop.invariant.1 c.behind_blanks-bytes.ensures)

pub returns-in-Some-behind_byte : goal.returns-in-Some-behind_byte
returns-in-Some-behind_byte c =
    let from = lex_of c.args.self.now in
    let all = c.args.bytes.now in
    let now = c.read_attribute.new.self in
    let rest = c.in-Some.rest.now in
    let more = c.in-Some-behind_byte.more.now in
    let read = further c.loop.self now from all c.loop.bytes.now c.behind_blanks-bytes.result.now rest
    c.loop.invariant.0 c.loop.invariant.1 c.behind_blanks-bytes.ensures c.in-Some.ensures.1 in
    subst (λ (t : Tag). ReadsWithin false from all (Slash t) more) (sym (ap (λ (h : Held). h.tag) c.self.view_is))
    (further_slash now from all rest more c.in-Some.ensures.0 read c.in-Some-behind_byte.ensures)

pub returns-in_default-behind_blank : goal.returns-in_default-behind_blank
returns-in_default-behind_blank c =
    further c.loop.self c.read_attribute.new.self (lex_of c.args.self.now) c.args.bytes.now c.loop.bytes.now
    c.behind_blanks-bytes.result.now c.in-Some.rest.now c.loop.invariant.0 c.loop.invariant.1
    c.behind_blanks-bytes.ensures c.in-Some.ensures.1

pub loop-preserved : goal.loop-preserved
loop-preserved c =
    let from = lex_of c.args.self.now in
    let all = c.args.bytes.now in
    let now = c.read_attribute.new.self in
    let rest = c.in-Some.rest.now in
    let more = c.in-Some-behind_blank.more.now in
    let read = further c.loop.self now from all c.loop.bytes.now c.behind_blanks-bytes.result.now rest
    c.loop.invariant.0 c.loop.invariant.1 c.behind_blanks-bytes.ensures c.in-Some.ensures.1 in (
      refl,
      subst (λ (t : Tag). ReadsWithin false from all (Gap t) more) (sym (ap (λ (h : Held). h.tag) c.self.view_is))
          (further_blank now from all rest more c.in-Some.ensures.0 read c.in-Some-behind_blank.ensures),
    )
