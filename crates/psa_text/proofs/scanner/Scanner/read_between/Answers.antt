use Rattle.psa_text.specs.scanner.State.{scan_of}
use Rattle.psa_text.proofs.scanner.PiecesRead.{span_then}
use Rattle.psa_text.proofs.scanner.Scanner.read_between.Goals as goal

pub returns-clause-read : goal.returns-clause-read
returns-clause-read c =
    span_then (scan_of c.args.self.now) (scan_of c.read_texts-rest.new.self) (scan_of c.read_tag.new.self)
    c.args.bytes.now c.read_texts-rest.result.now c.read_tag.result.now c.read_texts-rest.ensures.read
    c.read_tag.ensures.read
