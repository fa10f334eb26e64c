use Rattle.std.proofs.Common.{◌≡◌, ◌≢◌, ◌==◌, ◌∙◌, ℕ, true, false, arith}
use Rattle.std.proofs.lemmas.Bool.Decides.{nat_tests}
use Rattle.psa_text.specs.scanner.Nesting.{state_of}
use Rattle.psa_text.specs.scanner.View.{lex_of}
use Rattle.psa_text.proofs.scanner.SpansRead.{front_is, span_within}
use Rattle.psa_text.proofs.scanner.Scanner.read_tag.Goals as goal

other : (n : ℕ) → n ≢ 1000000 → (n == 1000000) ≡ true → false ≡ true
other n h e = grind (arith, nat_tests, h, e)

pub returns-clause-read : goal.returns-clause-read
returns-clause-read c =
    let old = c.args.self.now in
    let rest = c.read_tag-rest in
    let same = c.split_at.ensures.front ∙ front_is c.args.bytes.now rest.ensures.span rest.result.now
    rest.ensures.joined in
    rw (c.count_bytes.ensures.scan, same)
    (span_within old.mark c.requires.mark old.count old.line old.start old.elements (state_of old.builder) false
    (other old.elements c.requires.few) (lex_of old.lexer) (lex_of rest.new.self) c.args.bytes.now rest.result.now
    c.requires.room rest.ensures)
