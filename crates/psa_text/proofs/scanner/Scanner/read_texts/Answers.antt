use Rattle.std.proofs.Common.{◌∙◌, refl, sym, ap, subst}
use Rattle.psa_text.specs.scanner.Nesting.{state_of, in_label}
use Rattle.psa_text.specs.scanner.State.{Scan, scan_of}
use Rattle.psa_text.specs.scanner.Spans.{ReadsSpan}
use Rattle.psa_text.proofs.scanner.SpansRead.{front_is, span_texts, not_none}
use Rattle.psa_text.proofs.scanner.Scanner.read_texts.Goals as goal

pub returns-then-not-is_empty-clause-read : goal.returns-then-not-is_empty-clause-read
returns-then-not-is_empty-clause-read c =
    let old = c.args.self.now in
    let rest = c.behind_texts-rest in
    let same = c.split_at.ensures.front ∙ front_is c.args.bytes.now rest.ensures.span rest.result.now rest.ensures.joined in
    subst (λ (s : Scan). ReadsSpan (scan_of old) c.args.bytes.now s rest.result.now) (sym (ap (λ (s : Scan). record s { start = s.line }) c.count_bytes.ensures.scan))
    (rw (c.requires.between, same)
    (span_texts old.mark c.requires.mark old.count old.line old.start old.elements (state_of old.builder) (in_label (state_of old.builder).open_elements) refl c.args.bytes.now rest.result.now c.requires.room rest.ensures
    (λ e. not_none c.split_at.result.0.now c.if-not-is_empty.ensures (same ∙ e))))
