-- Spans are read as byte by byte.
use Rattle.std.specs.Prelude.{◌≡◌, ◌≢◌, ℕ, ◌+◌, ◌≤◌, ◌<◌, Bool, true, false, if◌then◌else◌, not, ◌&&◌, ◌||◌, ◌==◌, List, [], ◌∷◌, ◌++◌, length, take, ◌-◌, count_by, Some, None, Ok}
use Rattle.std.proofs.Common.{refl, sym, ◌∙◌, ap, arith, add-zero, append_assoc, length-append}
use Rattle.std.proofs.lemmas.Bool.Decides.{nat_tests}
use Rattle.std.proofs.Math.Seq.{take-append_seam}
use Rattle.std.proofs.lemmas.List.Sums.{sum_by-cons}
use Rattle.psa_text.specs.declared.scanner.mark.Mark.{Mark}
use Rattle.psa_text.specs.declared.scanner.mark.Mark.TheVariants.{Passed}
use Rattle.psa_text.specs.scanner.Nesting.{State, in_label}
use Rattle.psa_text.specs.TextBytes.{AllPass, is_blank}
use Rattle.psa_text.specs.scanner.Machine.{Lex, Between, InInstruction, InComment, begins_tag}
use Rattle.psa_text.specs.scanner.View.{Judged, IsBad, IsLong, On, Done, judgement}
use Rattle.psa_text.specs.scanner.State.{Scan, scan_after, line_after_byte, scan_after_bytes}
use Rattle.psa_text.specs.scanner.Spans.{IsBehind, ReadsSpan, ReadsWithin, and_within, state_after_within, is_other, is_quiet, line_after_bytes}

and_false : (t : Bool) → (t && false) ≡ false
and_false true = refl
and_false false = refl

not_it : (t : Bool) → not t ≡ true → t ≡ false
not_it true h = absurd (cc)
not_it false h = refl

few : (count : ℕ) → count < 67108864 → (count == 67108864) ≡ false
few count h = grind (arith, nat_tests, h)

-- what holds of two tests where one tells the other
not_both : (m full t : Bool) → (m ≡ true → full ≡ true) → (full && t) ≡ false → (m && t) ≡ false
not_both false full t known h = refl
not_both true true t known h = h
not_both true false t known h = absurd (let e = known refl in cc)

blank_no_tag : (b : ℕ) → is_blank b ≡ true → (b == 60) ≡ false
blank_no_tag b h = grind (arith, nat_tests, h)

some_same : (p q : Lex) → Some p ≡ Some q → p ≡ q
some_same p q h = cc

-- the lines after one more byte
lines_then : (line b : ℕ) (bs : List ℕ) → line_after_bytes (line_after_byte line b) bs ≡ line_after_bytes line (b ∷ bs)
lines_then line b bs = rw (sum_by-cons _ b bs) (on (b == 10) (count_by (λ c. c == 10) bs))
  where
    on : (t : Bool) (n : ℕ) → (if t then line + 1 else line) + n ≡ line + ((if t then 1 else 0) + n)
    on true n = omega arith
    on false n = omega arith

one_line : (line b : ℕ) → line_after_byte line b ≡ line_after_bytes line (b ∷ [])
one_line line b = sym (add-zero (line_after_byte line b)) ∙ lines_then line b []

module _ (elements : ℕ) (nest : State) where
  abbrev at : ℕ → ℕ → ℕ → Lex → Scan
  at count line start lex = record { mark = Passed; count = count; line = line; start = start; elements = elements; lex = lex; nesting = nest }

  -- a text that changes nothing but the counts
  text_read : (count line start : ℕ) (b : ℕ) → count < 67108864 → (b == 60) ≡ false → (in_label nest.open_elements || is_blank b) ≡ true
      → scan_after (at count line start Between) b ≡ Ok (at (count + 1) (line_after_byte line b) (line_after_byte line b) Between)
  text_read count line start b short other passed = rw (few count short, and_false (elements == 1000000), other, passed, add-zero) refl

  quiet_read : (count line start : ℕ) (b : ℕ) (t : Bool) → in_label nest.open_elements ≡ t → count < 67108864 → is_quiet t b ≡ true
      → scan_after (at count line start Between) b ≡ Ok (at (count + 1) (line_after_byte line b) (line_after_byte line b) Between)
  quiet_read count line start b true e short h = text_read count line start b short (not_it (b == 60) h) (rw e refl)
  quiet_read count line start b false e short h = text_read count line start b short (blank_no_tag b h) (rw (e, h) refl)

  -- the same over texts, at least one
  texts_read : (t : Bool) → in_label nest.open_elements ≡ t → (span : List ℕ) → span ≢ [] → (count line start : ℕ) → AllPass (is_quiet t) span → count + length span ≤ 67108864
      → scan_after_bytes (at count line start Between) span ≡ Ok (at (count + length span) (line_after_bytes line span) (line_after_bytes line span) Between)
  texts_read t e [] some count line start passes room = absurd (some refl)
  texts_read t e (b ∷ []) some count line start passes room =
      rw (quiet_read count line start b t e (omega (arith, room)) passes.0) (rw (one_line line b) refl)
  texts_read t e (b ∷ c ∷ cs) some count line start passes room =
      rw (quiet_read count line start b t e (omega (arith, room)) passes.0)
      (rw (← lines_then line b (c ∷ cs), ← more) (texts_read t e (c ∷ cs) (λ h. cc) (count + 1) (line_after_byte line b) (line_after_byte line b) passes.1 (omega (arith, room))))
    where
      more : count + 1 + length (c ∷ cs) ≡ count + length (b ∷ c ∷ cs)
      more = omega arith

  -- a byte that stays within the item under way, and begins no element where the text is full of them
  judged_read : (full : Bool) → ((elements == 1000000) ≡ true → full ≡ true) → (count line start : ℕ) (p q : Lex) (b : ℕ) → count < 67108864 → (full && begins_tag p b) ≡ false → judgement p b ≡ On q
      → scan_after (at count line start p) b ≡ Ok (at (count + 1) (line_after_byte line b) start q)
  judged_read full known count line start p q b short other goes = rw (few count short, not_both (elements == 1000000) full (begins_tag p b) known other, goes) refl

  -- the same over bytes
  within_read : (full : Bool) → ((elements == 1000000) ≡ true → full ≡ true) → (span : List ℕ) (count line start : ℕ) (p q : Lex) → state_after_within full p span ≡ Some q → count + length span ≤ 67108864
      → scan_after_bytes (at count line start p) span ≡ Ok (at (count + length span) (line_after_bytes line span) start q)
  within_read full known [] count line start p q leads room = rw (add-zero count, add-zero line, some_same p q leads) refl
  within_read full known (b ∷ bs) count line start p q leads room =
      on (full && begins_tag p b) (judgement p b) refl refl leads (λ r h. rw (← lines_then line b bs, ← more) (within_read full known bs (count + 1) (line_after_byte line b) start r q h (omega (arith, room))))
    where
      more : count + 1 + length bs ≡ count + length (b ∷ bs)
      more = omega arith

      on : (t : Bool) (goes : Judged) → (full && begins_tag p b) ≡ t → judgement p b ≡ goes → (if t then None else and_within goes (λ r. state_after_within full r bs)) ≡ Some q
          → ((r : Lex) → state_after_within full r bs ≡ Some q → scan_after_bytes (at (count + 1) (line_after_byte line b) start r) bs ≡ Ok (at (count + length (b ∷ bs)) (line_after_bytes line (b ∷ bs)) start q))
          → scan_after_bytes (at count line start p) (b ∷ bs) ≡ Ok (at (count + length (b ∷ bs)) (line_after_bytes line (b ∷ bs)) start q)
      on true goes e g h rest = absurd (cc)
      on false IsBad e g h rest = absurd (cc)
      on false IsLong e g h rest = absurd (cc)
      on false (Done item) e g h rest = absurd (cc)
      on false (On r) e g h rest = rw (judged_read full known count line start p r b (omega (arith, room)) e g) (rest r h)

-- spans one behind the other
pub within-append : (full : Bool) (u v : List ℕ) (p q r : Lex) → state_after_within full p u ≡ Some q → state_after_within full q v ≡ Some r → state_after_within full p (u ++ v) ≡ Some r
within-append full [] v p q r h k = rw (some_same p q h) k
within-append full (b ∷ bs) v p q r h k = on (full && begins_tag p b) (judgement p b) h (λ s e. within-append full bs v s q r e k)
  where
    on : (t : Bool) (goes : Judged) → (if t then None else and_within goes (λ s. state_after_within full s bs)) ≡ Some q → ((s : Lex) → state_after_within full s bs ≡ Some q → state_after_within full s (bs ++ v) ≡ Some r)
        → (if t then None else and_within goes (λ s. state_after_within full s (bs ++ v))) ≡ Some r
    on true goes h rest = absurd (cc)
    on false IsBad h rest = absurd (cc)
    on false IsLong h rest = absurd (cc)
    on false (Done item) h rest = absurd (cc)
    on false (On s) h rest = rest s h

-- no byte keeps the state
pub within_none : (full : Bool) (p : Lex) (bytes : List ℕ) → ReadsWithin full p bytes p bytes
within_none full p bytes = record { span = []; joined = refl; leads = refl }

-- one more byte that stays within the item
pub within_more : (p q r : Lex) (bytes rest more : List ℕ) (b : ℕ) → ReadsWithin true p bytes q rest → rest ≡ b ∷ more → begins_tag q b ≡ false → judgement q b ≡ On r → ReadsWithin true p bytes r more
within_more p q r bytes rest more b h is other goes = record {
  span = h.span ++ (b ∷ []);
  joined = h.joined ∙ ap (λ xs. h.span ++ xs) is ∙ sym (append_assoc h.span (b ∷ []) more);
  leads = within-append true h.span (b ∷ []) p q r h.leads (rw (other, goes) refl);
}

-- what is read one behind the other
pub within_then : (full : Bool) (p q r : Lex) (bytes rest more : List ℕ) → ReadsWithin full p bytes q rest → ReadsWithin full q rest r more → ReadsWithin full p bytes r more
within_then full p q r bytes rest more h k = record {
  span = h.span ++ k.span;
  joined = h.joined ∙ ap (λ xs. h.span ++ xs) k.joined ∙ sym (append_assoc h.span k.span more);
  leads = within-append full h.span k.span p q r h.leads k.leads;
}

-- bytes that leave the machine where it is
within_same : (full : Bool) (p : Lex) (test : ℕ → Bool) → ((b : ℕ) → test b ≡ true → (begins_tag p b ≡ false) × (judgement p b ≡ On p)) → (span : List ℕ) → AllPass test span → state_after_within full p span ≡ Some p
within_same full p test stays [] passes = refl
within_same full p test stays (b ∷ bs) passes = rw ((stays b passes.0).0, and_false full, (stays b passes.0).1) (within_same full p test stays bs passes.1)

-- a comment goes on at any byte but a hyphen
pub other_in_comment : (b : ℕ) → is_other 45 b ≡ true → (begins_tag InComment b ≡ false) × (judgement InComment b ≡ On InComment)
other_in_comment b h = (refl, rw (not_it (b == 45) h) refl)

-- an instruction goes on at any byte but a question mark
pub other_in_instruction : (b : ℕ) → is_other 63 b ≡ true → (begins_tag InInstruction b ≡ false) × (judgement InInstruction b ≡ On InInstruction)
other_in_instruction b h = (refl, rw (not_it (b == 63) h) refl)

-- bytes at which an item goes on in the same state
pub behind_same : (full : Bool) (p : Lex) (test : ℕ → Bool) (bytes rest : List ℕ) → ((b : ℕ) → test b ≡ true → (begins_tag p b ≡ false) × (judgement p b ≡ On p)) → IsBehind test bytes rest → ReadsWithin full p bytes p rest
behind_same full p test bytes rest stays h = record { span = h.span; joined = h.joined; leads = within_same full p test stays h.span h.passes }

short : (span rest bytes : List ℕ) (n : ℕ) → bytes ≡ span ++ rest → n + length bytes ≤ 67108864 → n + length span ≤ 67108864
short span rest bytes n e room = let lengths = ap length e ∙ length-append span rest in omega (arith, lengths, room)

-- what is read in front of a rest
module _ (mark : Mark) (passed : mark ≡ Passed) (count line start elements : ℕ) (nest : State) where
  abbrev before : Lex → Scan
  before lex = record { mark = mark; count = count; line = line; start = start; elements = elements; lex = lex; nesting = nest }

  -- bytes within an item are read in one go
  pub span_within : (full : Bool) → ((elements == 1000000) ≡ true → full ≡ true) → (p q : Lex) (bytes rest : List ℕ) → count + length bytes ≤ 67108864 → (h : ReadsWithin full p bytes q rest)
      → ReadsSpan (before p) bytes (record (before p) { count = count + length h.span; line = line_after_bytes line h.span; lex = q }) rest
  span_within full known p q bytes rest room h = record {
    span = h.span;
    joined = h.joined;
    read = rw passed (within_read elements nest full known h.span count line start p q h.leads (short h.span rest bytes count h.joined room));
  }

  -- texts that change nothing but the counts are read in one go
  pub span_texts : (t : Bool) → in_label nest.open_elements ≡ t → (bytes rest : List ℕ) → count + length bytes ≤ 67108864 → (h : IsBehind (is_quiet t) bytes rest) → h.span ≢ []
      → ReadsSpan (before Between) bytes (record (before Between) { count = count + length h.span; line = line_after_bytes line h.span; start = line_after_bytes line h.span }) rest
  span_texts t e bytes rest room h some = record {
    span = h.span;
    joined = h.joined;
    read = rw passed (texts_read elements nest t e h.span some count line start h.passes (short h.span rest bytes count h.joined room));
  }

-- a list whose length is not 0 has an item
pub not_none : (xs : List ℕ) → false ≡ (length xs == 0) → xs ≢ []
not_none [] h = absurd (cc)
not_none (x ∷ xs) h = λ e. cc

-- the front of a list whose end is known
pub front_is : (bytes span rest : List ℕ) → bytes ≡ span ++ rest → take (length bytes - length rest) bytes ≡ span
front_is bytes span rest e = ap (λ n. take n bytes) amount ∙ ap (take (length span)) e ∙ take-append_seam span rest
  where
    lengths : length bytes ≡ length span + length rest
    lengths = ap length e ∙ length-append span rest

    amount : length bytes - length rest ≡ length span
    amount = omega (arith, lengths)
