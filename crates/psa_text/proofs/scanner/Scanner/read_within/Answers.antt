use Rattle.std.proofs.Common.{◌∙◌, refl, true}
use Rattle.psa_text.specs.scanner.Nesting.{state_of}
use Rattle.psa_text.specs.scanner.View.{lex_of}
use Rattle.psa_text.proofs.scanner.SpansRead.{front_is, span_within}
use Rattle.psa_text.proofs.scanner.Scanner.read_within.Goals as goal

pub returns-clause-read : goal.returns-clause-read
returns-clause-read c =
    let old = c.args.self.now in
    let rest = c.read_span-rest in
    let same = c.split_at.ensures.front ∙ front_is c.args.bytes.now rest.ensures.span rest.result.now rest.ensures.joined in
    rw (c.count_bytes.ensures.scan, same)
    (span_within old.mark c.requires.mark old.count old.line old.start old.elements (state_of old.builder) true (λ e. refl) (lex_of old.lexer) (lex_of rest.new.self) c.args.bytes.now rest.result.now c.requires.room rest.ensures)
