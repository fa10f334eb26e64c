use Rattle.std.proofs.Common.{◌∙◌, sym}
use Rattle.psa_text.proofs.scanner.Scanner.behind_texts.Goals as goal

pub returns-then-is_in_label : goal.returns-then-is_in_label
returns-then-is_in_label c = rw (sym c.is_in_label.ensures ∙ c.if-is_in_label.true) c.from_first.ensures

pub returns-else-is_in_label : goal.returns-else-is_in_label
returns-else-is_in_label c = rw (sym c.is_in_label.ensures ∙ c.if-is_in_label.false) c.behind_blanks.ensures
