use Rattle.std.proofs.Common.{true}
use Rattle.psa_text.specs.scanner.Machine.{InInstruction, InComment}
use Rattle.psa_text.specs.scanner.Spans.{is_other}
use Rattle.psa_text.proofs.scanner.SpansRead.{behind_same, other_in_comment, other_in_instruction}
use Rattle.psa_text.proofs.scanner.lexer.Lexer.read_span.Goals as goal

pub returns-in-Comment : goal.returns-in-Comment
returns-in-Comment c = rw (← c.self.view_is, c.in-Comment.is)
    (behind_same true InComment (is_other 45) c.args.bytes.now c.from_first.result.now other_in_comment
    c.from_first.ensures)

pub returns-in-Instruction : goal.returns-in-Instruction
returns-in-Instruction c = rw (← c.self.view_is, c.in-Instruction.is)
    (behind_same true InInstruction (is_other 63) c.args.bytes.now c.from_first-in-Instruction.result.now
    other_in_instruction c.from_first-in-Instruction.ensures)
