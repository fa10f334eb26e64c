use Rattle.std.proofs.Common.{sym, subst, true}
use Rattle.psa_text.specs.scanner.View.{IsInName, lex_of}
use Rattle.psa_text.proofs.scanner.SpansInFront.{first_and_rest}
use Rattle.psa_text.proofs.scanner.SpansRead.{within_none, within_more}
use Rattle.psa_text.proofs.scanner.lexer.Lexer.read_name.Goals as goal

pub loop-bytes-init : goal.loop-bytes-init
loop-bytes-init c = (c.requires, within_none true (lex_of c.args.self.now) c.args.bytes.now)

pub loop-bytes-preserved : goal.loop-bytes-preserved
loop-bytes-preserved c =
    let bytes = c.loop-bytes.bytes.now in
    let stays = c.if-not-takes_into_name.ensures in (
      subst IsInName (sym stays.2) c.loop-bytes.invariant.0,
      within_more _ (lex_of c.loop-bytes.self)
          (lex_of c.takes_into_name.new.self) _ bytes _ _ c.loop-bytes.invariant.1
          (first_and_rest bytes c.in-len1-up.len_at_least) stays.0 stays.1,
    )
