use Rattle.std.proofs.Common.{◌≡◌, false}
use Rattle.psa_text.specs.declared.scanner.place.Place.TheVariants as place
use Rattle.psa_text.specs.scanner.Spans.{ReadsWithin}
use Rattle.psa_text.specs.scanner.View.{lex_of}
use Rattle.psa_text.proofs.scanner.lexer.Lexer.read_attributes.Given as goal

abbrev pub invariant-loop : goal.invariant-loop
invariant-loop l = (l.self.place ≡ place.Gap) × ReadsWithin false (lex_of l.fn.self) l.fn.bytes (lex_of l.self) l.bytes
