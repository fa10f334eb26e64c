-- Over the bytes of a piece.
use Rattle.std.specs.Prelude.{◌≡◌, ℕ, ◌<◌, List, [], ◌∷◌, ◌++◌, length, Result, Ok, Err}
use Rattle.std.proofs.Common.{refl, sym, ◌∙◌, ap, arith, append_assoc, append-nil}
use Rattle.psa_text.specs.declared.scanner.Scanner.{Scanner}
use Rattle.psa_text.specs.declared.scanner.error.TextFault.{TextFault}
use Rattle.psa_text.specs.declared.scanner.error.TextError.{TextError}
use Rattle.psa_text.specs.declared.scanner.error.TextError.TheVariants.{Fault, Memory}
use Rattle.psa_text.specs.scanner.State.{Scan, start_scan, scan_after, and_then, scan_after_bytes, Steps, Answers}
use Rattle.psa_text.specs.scanner.Spans.{ReadsSpan}
use Rattle.psa_text.proofs.scanner.FirstFaults.{reads_then, first_fault}

and_ok : (o : Result Scan TextFault) → and_then o (λ t. Ok t) ≡ o
and_ok (Ok s) = refl
and_ok (Err found) = refl

-- spans one behind the other
pub span_then : (s t u : Scan) (bytes rest more : List ℕ) → ReadsSpan s bytes t rest → ReadsSpan t rest u more → ReadsSpan s bytes u more
span_then s t u bytes rest more h k = record {
  span = h.span ++ k.span;
  joined = h.joined ∙ ap (λ xs. h.span ++ xs) k.joined ∙ sym (append_assoc h.span k.span more);
  read = reads_then s t h.span k.span (Ok u) h.read k.read;
}

-- one more byte
pub span_byte : (s t : Scan) (b : ℕ) (rest more : List ℕ) → rest ≡ b ∷ more → scan_after s b ≡ Ok t → ReadsSpan s rest t more
span_byte s t b rest more is step = record {
  span = b ∷ [];
  joined = is;
  read = and_ok (scan_after s b) ∙ step;
}

no_more : (rest : List ℕ) → length rest < 1 → rest ≡ []
no_more [] few = refl
no_more (b ∷ bs) few = absurd (omega (arith, few))

-- the whole piece
pub piece_read : (h piece rest : List ℕ) (s t : Scan) → length rest < 1 → scan_after_bytes start_scan h ≡ Ok s → ReadsSpan s piece t rest → scan_after_bytes start_scan (h ++ piece) ≡ Ok t
piece_read h piece rest s t few read went =
    ap (λ xs. scan_after_bytes start_scan (h ++ xs)) (went.joined ∙ ap (λ xs. went.span ++ xs) (no_more rest few) ∙ append-nil went.span) ∙ reads_then start_scan s h went.span (Ok t) read went.read

-- the error of a piece
pub feed_error : (h piece rest more : List ℕ) (b : ℕ) (s t : Scan) (now : Scanner) (error : TextError) → scan_after_bytes start_scan h ≡ Ok s → ReadsSpan s piece t rest → rest ≡ b ∷ more → Steps (scan_after t b) now (Err error) → (last : Scanner) → Answers (h ++ piece) last (Err error)
feed_error h piece rest more b s t now (Fault found) read went is e last =
    first_fault (h ++ went.span) t b more (h ++ piece) found (reads_then start_scan s h went.span (Ok t) read went.read) e
    (ap (λ xs. h ++ xs) (went.joined ∙ ap (λ xs. went.span ++ xs) is) ∙ sym (append_assoc h went.span (b ∷ more)))
feed_error h piece rest more b s t now Memory read went is e last = tt
