use Rattle.std.proofs.Common.{◌∙◌, sym, ap}
use Rattle.psa_text.specs.declared.tag.Tag.{Tag}
use Rattle.psa_text.specs.scanner.Machine.{Name, Gap}
use Rattle.psa_text.specs.scanner.View.{Held, On, lex_of}
use Rattle.psa_text.proofs.scanner.TagsRead.{name_blank, within_first}
use Rattle.psa_text.proofs.scanner.lexer.Lexer.read_behind_name.Goals as goal

pub returns-in-Some : goal.returns-in-Some
returns-in-Some c = c.read_slash.ensures

pub returns-in-Some-behind_blank : goal.returns-in-Some-behind_blank
returns-in-Some-behind_blank c =
    let name = c.args.self.now.name in
    let blank = c.in-Some-behind_blank.ensures in
    let begun = c.if-begin_tag.ensures in
    let held = ap (λ (h : Held). h.tag) (c.self.view_is ∙ begun.1) in
    rw c.requires
    (within_first (Name name) (Gap c.self.inside.tag) (lex_of c.read_attributes.new.self) blank.byte c.args.bytes.now
    c.in-Some-behind_blank.rest.now c.read_attributes.result.now blank.joined
    (name_blank name blank.byte begun.0 blank.blank ∙ ap (λ (t : Tag). On (Gap t)) (sym held))
    c.read_attributes.ensures)
