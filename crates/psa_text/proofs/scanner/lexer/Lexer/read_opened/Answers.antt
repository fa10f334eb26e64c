use Rattle.std.proofs.Common.{refl}
use Rattle.psa_text.specs.scanner.Machine.{Opened, EndOpened}
use Rattle.psa_text.specs.scanner.View.{lex_of}
use Rattle.psa_text.proofs.scanner.TagsRead.{within_first}
use Rattle.psa_text.proofs.scanner.lexer.Lexer.read_opened.Goals as goal

pub returns-in-Some : goal.returns-in-Some
returns-in-Some c =
    rw c.requires (within_first Opened EndOpened (lex_of c.read_end_name.new.self) 47 c.args.bytes.now
    c.in-Some.rest.now c.read_end_name.result.now c.in-Some.ensures refl c.read_end_name.ensures)
