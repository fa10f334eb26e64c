-- Steps of the reading of a file in pieces.
use Rattle.std.proofs.Common.{◌≡◌, ℕ, suc, ◌+◌, ◌<◌, ◌≤◌, List, [], ◌∷◌, ◌++◌, Option, Some, None, Result, Ok, Err, IsSomeAnd, MatchOption, length, take, drop, get_or, sym, ap, subst, ◌∙◌, refl, inl, inr, append_assoc, append-nil, take-append-drop, drop-cons, length-take-le, length-append, arith, le_of_lt, IsErrAnd}
use Rattle.std.specs.Prelude.{⊤}
use Rattle.std.proofs.lemmas.Bool.{false≢true}
use Rattle.std.proofs.lemmas.Bool.{cases_lt}
use Rattle.std.specs.Io.KnownBytes.{Consumes, Keeps, IsAtEnd}
use Rattle.psa_text.specs.declared.limits.TheConstants.{MAX_FILE_BYTES}
use Rattle.psa_text.specs.declared.scanner.Scanner.{Scanner}
use Rattle.psa_text.specs.declared.scanner.error.TextError.{TextError}
use Rattle.psa_text.specs.declared.scanner.error.TextError.TheVariants.{Fault, Memory}
use Rattle.psa_text.specs.declared.scanner.error.TextFault.{TextFault}
use Rattle.psa_text.specs.declared.scanner.error.TextKind.TheVariants.{LongFile}
use Rattle.psa_text.specs.declared.tree.Document.{Document}
use Rattle.psa_text.specs.declared.tree.Element.{Element}
use Rattle.psa_text.specs.scanner.State.{HasRead, Answers, Ends}
use Rattle.psa_text.specs.TextBytes.{line_after}
use Rattle.psa_text.specs.TextFaults.{NoFault, FirstFault, long_file, fault}
use Rattle.psa_text.specs.TextOutcome.{IsRead, tree, inside, at_end}
use Rattle.psa_ports.specs.Folder.{text_of, Opens}
use Rattle.psa_outcome.specs.Causes.{LeavesRest}
use Rattle.psa_outcome.specs.Inputs.{Told, ReadsAs}
use Rattle.psa_load.specs.declared.document.DocumentError.{DocumentError}
use Rattle.psa_load.specs.declared.document.DocumentError.TheVariants as error
use Rattle.psa_load.specs.Documents.{DocumentAnswers, Reads, HasGot, text_error}

-- ---- texts without a fault

-- no byte decides nothing
pub no-byte : NoFault []
no-byte before b rest found e decides = none before e
  where
    none : (before : List ℕ) → [] ≡ before ++ (b ∷ rest) → ⊥
    none [] e = absurd (cc)
    none (x ∷ more) e = absurd (cc)

-- bytes split at a place within them
split-at : (n : ℕ) (bytes : List ℕ) → n < length bytes → bytes ≡ take n bytes ++ (get_or bytes n 0 ∷ drop (suc n) bytes)
split-at n bytes within = sym (take-append-drop n bytes) ∙ ap (λ rest. take n bytes ++ rest) (drop-cons bytes n 0 within)

-- more bytes than a text may have are no text without a fault
too-long : (n : ℕ) → n ≡ MAX_FILE_BYTES → (bytes : List ℕ) → NoFault bytes → n < length bytes → ⊥
too-long n is bytes sound longer =
    sound (take n bytes) (get_or bytes n 0) (drop (suc n) bytes) (fault LongFile (line_after (take n bytes)))
    (split-at n bytes longer)
    (long_file (take n bytes) (get_or bytes n 0) (length-take-le n bytes (le_of_lt longer) ∙ is))

-- a text without a fault has at most so many bytes
sound-fits : (bytes : List ℕ) → NoFault bytes → length bytes ≤ MAX_FILE_BYTES
sound-fits bytes sound = elim (cases_lt MAX_FILE_BYTES (length bytes)) [
  | inl longer ↦ absurd (too-long MAX_FILE_BYTES refl bytes sound longer)
  | inr fits ↦ fits
]

-- the first fault of a front is that of the whole
first-longer : (bytes more : List ℕ) (found : TextFault) → FirstFault bytes found → FirstFault (bytes ++ more) found
first-longer bytes more found f = record {
  before = f.before;
  byte = f.byte;
  rest = f.rest ++ more;
  joined = ap (λ xs. xs ++ more) f.joined ∙ append_assoc f.before (f.byte ∷ f.rest) more;
  decides = f.decides;
  first = f.first;
}

pub reads-as : (told : Told) (name text : List ℕ) (outcome : Result Element TextFault) → text_of name told ≡ Some text → IsRead text outcome → ReadsAs told outcome name
reads-as told name text outcome e read = subst (λ o. IsSomeAnd o (λ bytes. IsRead bytes outcome)) (sym e) read

-- ---- steps

module _ (name : List ℕ) where
  -- what is opened is to be read whole
  pub opened-reads : (texts : Option Told) (rest : Option (List ℕ)) → Opens texts name rest → Reads texts name [] rest
  opened-reads None rest opens = tt
  opened-reads (Some told) None opens = absurd (false≢true opens.1)
  opened-reads (Some told) (Some left) opens = opens.0

  -- a piece more was got
  reads-more : (texts : Option Told) (got : List ℕ) (old now : Option (List ℕ)) (piece : List ℕ) → Reads texts name got old → Consumes old now piece → Reads texts name (got ++ piece) now
  reads-more None got old now piece reads consumed = tt
  reads-more (Some told) got None now piece reads consumed = absurd reads
  reads-more (Some told) got (Some xs) None piece reads consumed = absurd consumed
  reads-more (Some told) got (Some xs) (Some ys) piece reads consumed =
      reads ∙ ap (λ left. Some (got ++ left)) consumed ∙ ap Some (sym (append_assoc got piece ys))

  -- a scanner that was fed a piece has got it
  pub got-more : (texts : Option Told) (old now : Option (List ℕ)) (turns : ℕ) (before after : Scanner) (n : ℕ) (room piece : List ℕ) → HasGot texts name old turns before → Consumes old now (take n room) → 0 < n → n ≤ length room → piece ≡ take n room → ((h : List ℕ) → HasRead before h → Answers (h ++ piece) after (Ok tt)) → HasGot texts name now (turns + 1) after
  got-more texts old now turns before after n room piece got consumed some most front fed = record {
    bytes = got.bytes ++ piece;
    read = (fed got.bytes got.read).0;
    sound = (fed got.bytes got.read).1;
    turned = omega (arith, length-append got.bytes piece, some, got.turned, ap length front, length-take-le n room most);
    reads = reads-more texts got.bytes old now piece got.reads (subst (λ p. Consumes old now p) (sym front) consumed);
  }

  -- a fault of the bytes so far is that of the file
  fault-told : (told : Told) (bytes : List ℕ) (rest : Option (List ℕ)) (found : TextFault) → Reads (Some told) name bytes rest → FirstFault bytes found → ReadsAs told (Err found) name
  fault-told told bytes None found reads first = absurd reads
  fault-told told bytes (Some left) found reads first =
      reads-as told name (bytes ++ left) (Err found) reads (inside found (first-longer bytes left found first))

  -- the error of a piece is answered
  pub fed-error : (texts : Option Told) (old now : Option (List ℕ)) (turns : ℕ) (before after : Scanner) (n : ℕ) (room piece : List ℕ) (failed : TextError) → HasGot texts name old turns before → Consumes old now (take n room) → piece ≡ take n room → ((h : List ℕ) → HasRead before h → Answers (h ++ piece) after (Err failed)) → MatchOption texts ⊤ (λ told. DocumentAnswers told name now (Err (text_error failed)))
  fed-error None old now turns before after n room piece failed got consumed front fed = tt
  fed-error (Some told) old now turns before after n room piece (Fault found) got consumed front fed =
      fault-told told (got.bytes ++ piece) now found
      (reads-more (Some told) got.bytes old now piece got.reads (subst (λ p. Consumes old now p) (sym front) consumed))
      (fed got.bytes got.read)
  fed-error (Some told) old now turns before after n room piece Memory got consumed front fed = tt

  -- where nothing is left, the bytes that were got are the file's
  whole-told : (told : Told) (bytes : List ℕ) (rest : Option (List ℕ)) → Reads (Some told) name bytes rest → IsAtEnd rest → text_of name told ≡ Some bytes
  whole-told told bytes None reads end = absurd reads
  whole-told told bytes (Some left) reads end = reads ∙ ap (λ xs. Some (bytes ++ xs)) end ∙ ap Some (append-nil bytes)

  -- a read that gave nothing consumed nothing
  none-consumed : (old now : Option (List ℕ)) (n : ℕ) (room : List ℕ) → n ≡ 0 → Consumes old now (take n room) → Consumes old now []
  none-consumed old now n room none consumed = subst (λ m. Consumes old now (take m room)) none consumed

  -- the tree at the end is answered
  pub ended-tree : (texts : Option Told) (old now : Option (List ℕ)) (turns : ℕ) (scanner : Scanner) (n : ℕ) (room : List ℕ) (document : Document) → HasGot texts name old turns scanner → n ≡ 0 → Consumes old now (take n room) → IsAtEnd now → ((h : List ℕ) → HasRead scanner h → Ends h (Ok document)) → MatchOption texts ⊤ (λ told. DocumentAnswers told name now (Ok document))
  ended-tree None old now turns scanner n room document got none consumed end ends = tt
  ended-tree (Some told) old now turns scanner n room document got none consumed end ends =
      let ended = ends got.bytes got.read in
      reads-as told name (got.bytes ++ []) (Ok document.root)
      (whole-told told (got.bytes ++ []) now (reads-more (Some told) got.bytes old now [] got.reads (none-consumed old now n room none consumed)) end)
      (subst (λ bytes. IsRead bytes (Ok document.root)) (sym (append-nil got.bytes)) (tree document.root ended.0 ended.1))

  -- the error at the end is answered
  pub ended-error : (texts : Option Told) (old now : Option (List ℕ)) (turns : ℕ) (scanner : Scanner) (n : ℕ) (room : List ℕ) (failed : TextError) → HasGot texts name old turns scanner → n ≡ 0 → Consumes old now (take n room) → IsAtEnd now → ((h : List ℕ) → HasRead scanner h → Ends h (Err failed)) → MatchOption texts ⊤ (λ told. DocumentAnswers told name now (Err (text_error failed)))
  ended-error None old now turns scanner n room failed got none consumed end ends = tt
  ended-error (Some told) old now turns scanner n room (Fault found) got none consumed end ends =
      let ended = ends got.bytes got.read in
      reads-as told name (got.bytes ++ []) (Err found)
      (whole-told told (got.bytes ++ []) now (reads-more (Some told) got.bytes old now [] got.reads (none-consumed old now n room none consumed)) end)
      (subst (λ bytes. IsRead bytes (Err found)) (sym (append-nil got.bytes)) (at_end found ended.0 ended.1))
  ended-error (Some told) old now turns scanner n room Memory got none consumed end ends = absurd (ends got.bytes got.read)

  -- an error that was passed on
  pub passed-on : (texts : Option Told) (now : Option (List ℕ)) (failed : DocumentError) (result : Result Document DocumentError) → IsErrAnd result (λ e. e ≡ failed) → MatchOption texts ⊤ (λ told. DocumentAnswers told name now (Err failed)) → MatchOption texts ⊤ (λ told. DocumentAnswers told name now result)
  passed-on texts now failed (Ok document) is answers = absurd is
  passed-on texts now failed (Err e) is answers =
      subst (λ x. MatchOption texts ⊤ (λ told. DocumentAnswers told name now (Err x))) (sym is) answers

  -- a scanner gets no more bytes than a text may have
  pub no-more-turns : (texts : Option Told) (rest : Option (List ℕ)) (turns : ℕ) (scanner : Scanner) → HasGot texts name rest turns scanner → 67108865 ≤ turns → ⊥
  no-more-turns texts rest turns scanner got many =
      let fits = sound-fits got.bytes got.sound in omega (arith, fits, got.turned, many)

  -- where a read failed, what is left is the file's end, and no byte before it decides a fault
  leaves : (told : Told) (bytes : List ℕ) (old now : Option (List ℕ)) → NoFault bytes → Reads (Some told) name bytes old → Keeps old now → LeavesRest told name now
  leaves told bytes None now sound reads keeps = absurd reads
  leaves told bytes (Some xs) None sound reads keeps = tt
  leaves told bytes (Some xs) (Some []) sound reads keeps = tt
  leaves told bytes (Some xs) (Some (b ∷ left)) sound reads keeps =
      subst (λ o. IsSomeAnd o (λ text. (front : List ℕ) × (text ≡ front ++ b ∷ left) × NoFault front))
      (sym (reads ∙ ap (λ left. Some (bytes ++ left)) (sym keeps))) (bytes, refl, sound)

  pub failed-leaves : (texts : Option Told) (old now : Option (List ℕ)) (turns : ℕ) (scanner : Scanner) → HasGot texts name old turns scanner → Keeps old now → MatchOption texts ⊤ (λ told. DocumentAnswers told name now (Err error.Read))
  failed-leaves None old now turns scanner got keeps = tt
  failed-leaves (Some told) old now turns scanner got keeps = leaves told got.bytes old now got.sound got.reads keeps

  -- where a file could not be opened, nothing is left
  shut : (told : Told) (now : Option (List ℕ)) → IsAtEnd now → LeavesRest told name now
  shut told None end = tt
  shut told (Some []) end = tt
  shut told (Some (b ∷ left)) end = absurd (cc)

  pub shut-leaves : (texts : Option Told) (now : Option (List ℕ)) → IsAtEnd now → MatchOption texts ⊤ (λ told. DocumentAnswers told name now (Err error.Read))
  shut-leaves None now end = tt
  shut-leaves (Some told) now end = shut told now end
