use denote.Shadow.{shadow}
use denote.Text.{Utf8}
use Rattle.psa_reader_tests.proofs.rows.wrong_rows.Given as goal

abbrev pub invariant-loop-row : goal.invariant-loop-row
invariant-loop-row l = shadow (Utf8 l.front) × shadow (Utf8 l.back)
