use Rattle.std.proofs.Common.{refl}
use Rattle.psa_text.specs.scanner.Machine.{Between, Opened}
use Rattle.psa_text.specs.scanner.View.{lex_of}
use Rattle.psa_text.proofs.scanner.TagsRead.{within_first}
use Rattle.psa_text.proofs.scanner.lexer.Lexer.read_tag.Goals as goal

pub returns : goal.returns
returns c =
    rw c.requires (within_first Between Opened (lex_of c.read_opened.new.self) 60 c.args.bytes.now c.in-Some.rest.now
    c.read_opened.result.now c.in-Some.ensures refl c.read_opened.ensures)
