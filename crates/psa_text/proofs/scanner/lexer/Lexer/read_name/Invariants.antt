use Rattle.std.proofs.Common.{length, true}
use Rattle.psa_text.specs.scanner.View.{IsInName, lex_of}
use Rattle.psa_text.specs.scanner.Spans.{ReadsWithin}
use Rattle.psa_text.proofs.scanner.lexer.Lexer.read_name.Given as goal

abbrev pub invariant-loop-bytes : goal.invariant-loop-bytes
invariant-loop-bytes l = IsInName l.self.place × ReadsWithin true (lex_of l.fn.self) l.fn.bytes (lex_of l.self) l.bytes

abbrev pub decreases-loop-bytes : goal.decreases-loop-bytes
decreases-loop-bytes l = length l.bytes
