use Rattle.std.proofs.Common.{◌≡◌, ◌∙◌, ap, ℕ, List, ◌++◌}
use Rattle.psa_text.proofs.scanner.TagsRead.{end_name}
use Rattle.psa_text.proofs.scanner.lexer.Lexer.read_end_name.Goals as goal

pub returns-in-Ok : goal.returns-in-Ok
returns-in-Ok c =
    let name = c.in-Some.name.now in
    let same : c.try_extend_from_slice.new.self.items ≡ name = c.in-Ok.ensures.ok ∙ ap (λ (xs : List ℕ). xs ++ name)
    c.clear.ensures in
    rw (c.requires, same) (end_name c.args.bytes.now name c.in-Some.rest.now c.in-Some.ensures)
