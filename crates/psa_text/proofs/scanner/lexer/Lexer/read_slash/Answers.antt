use Rattle.std.proofs.Common.{◌∙◌, ap, false, []}
use Rattle.psa_text.specs.scanner.Machine.{Name, Slash}
use Rattle.psa_text.specs.scanner.View.{Held}
use Rattle.psa_text.proofs.scanner.SpansRead.{within_none}
use Rattle.psa_text.proofs.scanner.TagsRead.{name_slash, within_first}
use Rattle.psa_text.proofs.scanner.lexer.Lexer.read_slash.Goals as goal

pub returns : goal.returns
returns c =
    let name = c.args.self.now.name in
    let rest = c.args.rest.now in
    let begun = c.if-not-begin_tag.ensures in
    let end = Slash (record { name = name; attributes = [] }) in
    rw (c.requires.place, ap (λ (h : Held). h.tag) (c.self.view_is ∙ begun.1))
    (within_first (Name name) end end 47 c.args.bytes.now rest rest c.requires.slash (name_slash name begun.0)
    (within_none false end rest))
