use Rattle.std.proofs.Common.{◌≡◌, ◌∙◌, ap, ℕ, List, ◌++◌, false}
use Rattle.psa_text.specs.scanner.Machine.{Opened, Name}
use Rattle.psa_text.specs.scanner.View.{lex_of}
use Rattle.psa_text.proofs.scanner.SpansRead.{within_then}
use Rattle.psa_text.proofs.scanner.TagsRead.{start_name}
use Rattle.psa_text.proofs.scanner.lexer.Lexer.read_start.Goals as goal

pub returns-in-Ok : goal.returns-in-Ok
returns-in-Ok c =
    let name = c.in-Some.name.now in
    let items = c.try_extend_from_slice.new.self.items in
    let same : items ≡ name = c.in-Ok.ensures.ok ∙ ap (λ (xs : List ℕ). xs ++ name) c.clear.ensures in
    rw c.requires
    (within_then false Opened (Name items) (lex_of c.read_behind_name.new.self) c.args.bytes.now c.in-Some.rest.now
    c.read_behind_name.result.now
    (rw same (start_name c.args.bytes.now name c.in-Some.rest.now c.in-Some.ensures)) c.read_behind_name.ensures)
