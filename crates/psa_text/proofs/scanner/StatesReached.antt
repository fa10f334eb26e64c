-- What the machine's states say of the bytes so far, kept by each byte.
use Rattle.std.specs.Prelude.{◌≡◌, ◌≢◌, ℕ, ◌+◌, ◌*◌, ◌≤◌, Bool, true, false, if◌then◌else◌, ◌&&◌, ◌==◌, nat_lt, List, [], ◌∷◌, ◌++◌, length}
use Rattle.std.proofs.Common.{refl, sym, ◌∙◌, arith, append_assoc, append-nil}
use Rattle.std.proofs.lemmas.Bool.Decides.{nat_tests}
use Rattle.std.proofs.lemmas.List.{length-append}
use Rattle.psa_text.specs.declared.tag.Tag.{Tag}
use Rattle.psa_text.specs.TextBytes.{AllPass, is_blank, AreBlanks, IsName, is_name_start, is_name_byte, is_quote, is_doctype_byte, is_value_byte, is_digit_of, digit_of, spaced, number_behind}
use Rattle.psa_text.specs.TextItems.{IsReference, is_less, is_greater, is_ampersand, is_quotation, is_apostrophe, is_decimal, is_hexadecimal, IsRaw, no_byte, and_byte, and_reference, bytes_of_reference, IsOpening, with_attribute, IsHead, head_name, head_more, behind_first, IsItem, is_text, is_instruction, is_comment, is_doctype, is_start, is_empty, is_end}
use Rattle.psa_text.specs.scanner.Machine.{Inside, Reference, Ampersand, LetterA, Named, NumberSign, Digits, Lex, Between, Opened, InInstruction, Question, Bang, BangDash, InComment, Dash, DashDash, Word, InDoctype, Name, Gap, Slash, AttributeName, AttributeGap, Equals, Value, Refer, Behind, EndOpened, EndName, EndGap, Next, Broken, Within, Whole, doctype_letters, next_in_tag, next_behind_name, next_behind_end, with_bytes, next_reference, next_in_reference, next}

-- the end marks of an instruction and of a comment
abbrev pub instruction_end : List ℕ
instruction_end = 63 ∷ 62 ∷ []

-- the end of a comment
abbrev pub comment_end : List ℕ
comment_end = 45 ∷ 45 ∷ 62 ∷ []

-- the bytes of a reference under way
pub data InReference : Reference → List ℕ → Type 0 where
  ref_ampersand : InReference Ampersand (38 ∷ [])
  ref_letter : InReference LetterA (38 ∷ 97 ∷ [])
  ref_named : (rest : List ℕ) (code : ℕ) (part : List ℕ) → IsReference (part ++ (rest ++ (59 ∷ []))) code → InReference (Named rest code) part
  ref_number : InReference NumberSign (38 ∷ 35 ∷ [])
  ref_decimal : (digits : List ℕ) (count number : ℕ) → digits ≢ [] → count ≤ 8 → count ≡ length digits → number ≡ number_behind 10 0 digits → AllPass (is_digit_of 10) digits → InReference (Digits 10 count number) (38 ∷ 35 ∷ digits)
  ref_hexadecimal : (digits : List ℕ) (count number : ℕ) → count ≤ 8 → count ≡ length digits → number ≡ number_behind 16 0 digits → AllPass (is_digit_of 16) digits → InReference (Digits 16 count number) (38 ∷ 35 ∷ 120 ∷ digits)

-- the bytes of the item under way
pub data Reached : Lex → List ℕ → Type 0 where
  at_between : Reached Between []
  at_opened : Reached Opened (60 ∷ [])
  at_instruction : (body : List ℕ) → ((rest : List ℕ) → behind_first instruction_end (body ++ rest) ≡ behind_first instruction_end rest) → Reached InInstruction (60 ∷ 63 ∷ body)
  at_question : (body : List ℕ) → ((rest : List ℕ) → behind_first instruction_end (body ++ rest) ≡ behind_first instruction_end (63 ∷ rest)) → Reached Question (60 ∷ 63 ∷ body)
  at_bang : Reached Bang (60 ∷ 33 ∷ [])
  at_bang_dash : Reached BangDash (60 ∷ 33 ∷ 45 ∷ [])
  at_comment : (body : List ℕ) → ((rest : List ℕ) → behind_first comment_end (body ++ rest) ≡ behind_first comment_end rest) → Reached InComment (60 ∷ 33 ∷ 45 ∷ 45 ∷ body)
  at_dash : (body : List ℕ) → ((rest : List ℕ) → behind_first comment_end (body ++ rest) ≡ behind_first comment_end (45 ∷ rest)) → Reached Dash (60 ∷ 33 ∷ 45 ∷ 45 ∷ body)
  at_dashes : (body : List ℕ) → ((rest : List ℕ) → behind_first comment_end (body ++ rest) ≡ behind_first comment_end (45 ∷ 45 ∷ rest)) → Reached DashDash (60 ∷ 33 ∷ 45 ∷ 45 ∷ body)
  at_word : (read rest : List ℕ) → read ++ rest ≡ doctype_letters → Reached (Word rest) (60 ∷ 33 ∷ 68 ∷ read)
  at_doctype : (blank : ℕ) (body : List ℕ) → is_blank blank ≡ true → AllPass is_doctype_byte body → Reached InDoctype (60 ∷ 33 ∷ 68 ∷ 79 ∷ 67 ∷ 84 ∷ 89 ∷ 80 ∷ 69 ∷ blank ∷ body)
  at_name : (n : List ℕ) → IsName n → Reached (Name n) (60 ∷ n)
  at_gap : (head : List ℕ) (tag : Tag) (blanks : List ℕ) → IsHead head tag → blanks ≢ [] → AreBlanks blanks → Reached (Gap tag) (head ++ blanks)
  at_slash : (head : List ℕ) (tag : Tag) (blanks : List ℕ) → IsHead head tag → AreBlanks blanks → Reached (Slash tag) (head ++ (blanks ++ (47 ∷ [])))
  at_attribute : (head : List ℕ) (tag : Tag) (blanks name : List ℕ) → IsHead head tag → blanks ≢ [] → AreBlanks blanks → IsName name → Reached (AttributeName tag name) (head ++ (blanks ++ name))
  at_attribute_gap : (head : List ℕ) (tag : Tag) (blanks name before : List ℕ) → IsHead head tag → blanks ≢ [] → AreBlanks blanks → IsName name → AreBlanks before → Reached (AttributeGap tag name) (head ++ (blanks ++ name ++ before))
  at_equals : (head : List ℕ) (tag : Tag) (blanks name before after : List ℕ) → IsHead head tag → blanks ≢ [] → AreBlanks blanks → IsName name → AreBlanks before → AreBlanks after → Reached (Equals tag name) (head ++ (blanks ++ name ++ before ++ (61 ∷ after)))
  at_value : (head : List ℕ) (tag : Tag) (quote : ℕ) (name opening raw value : List ℕ) (count : ℕ) → IsHead head tag → IsOpening quote name opening → IsRaw quote raw value → count ≡ length raw → Reached (Value (record { tag = tag; name = name; quote = quote; count = count; value = value })) (head ++ (opening ++ raw))
  at_refer : (head : List ℕ) (tag : Tag) (quote : ℕ) (name opening raw value part : List ℕ) (count : ℕ) (r : Reference) → IsHead head tag → IsOpening quote name opening → IsRaw quote raw value → InReference r part → count ≡ length (raw ++ part) → Reached (Refer (record { tag = tag; name = name; quote = quote; count = count; value = value }) r) (head ++ (opening ++ (raw ++ part)))
  at_behind : (head : List ℕ) (tag : Tag) → IsHead head tag → Reached (Behind tag) head
  at_end_opened : Reached EndOpened (60 ∷ 47 ∷ [])
  at_end_name : (n : List ℕ) → IsName n → Reached (EndName n) (60 ∷ 47 ∷ n)
  at_end_gap : (n blanks : List ℕ) → IsName n → AreBlanks blanks → Reached (EndGap n) (60 ∷ 47 ∷ (n ++ blanks))

-- what is known behind one more byte
abbrev pub Went : List ℕ → Next → Type 0
Went w Broken = Unit {0}
Went w (Within q) = Reached q w
Went w (Whole item) = IsItem item w

-- a test, by its two cases
pub choose : {A : Type 0} (P : A → Type 0) (t : Bool) (x y : A) → (t ≡ true → P x) → (t ≡ false → P y) → P (if t then x else y)
choose P true x y f g = f refl
choose P false x y f g = g refl

-- bytes that test equal are equal
pub equal : (a b : ℕ) → (a == b) ≡ true → a ≡ b
equal a b h = grind (arith, nat_tests, h)

-- both tests of a conjunction hold
pub and_true : (a b : Bool) → (a && b) ≡ true → (a ≡ true) × (b ≡ true)
and_true true b h = (refl, h)
and_true false b h = absurd (cc)

-- one more that passes
pub all_push : (test : ℕ → Bool) (xs : List ℕ) (b : ℕ) → AllPass test xs → test b ≡ true → AllPass test (xs ++ (b ∷ []))
all_push test [] b h k = (k, tt)
all_push test (x ∷ xs) b h k = (h.0, all_push test xs b h.1 k)

-- a list with one more item is not empty
pub some_push : (xs : List ℕ) (b : ℕ) → (xs ++ (b ∷ [])) ≢ []
some_push [] b = λ h. cc
some_push (x ∷ xs) b = λ h. cc

-- one more byte of a name
pub name_push : (n : List ℕ) (b : ℕ) → IsName n → is_name_byte b ≡ true → IsName (n ++ (b ∷ []))
name_push [] b h k = absurd h
name_push (x ∷ xs) b h k = (h.0, all_push is_name_byte xs b h.1 k)

-- the length with one more item
pub length-push : (xs : List ℕ) (b : ℕ) → length (xs ++ (b ∷ [])) ≡ length xs + 1
length-push xs b = simp length-append

-- the number with one more digit
pub spelled-push : (base number : ℕ) (digits : List ℕ) (b : ℕ) → number_behind base number (digits ++ (b ∷ [])) ≡ base * number_behind base number digits + digit_of b
spelled-push base number [] b = refl
spelled-push base number (d ∷ ds) b = spelled-push base (base * number + digit_of d) ds b

-- Behind whole attributes and blanks, what `tag_on` does.
tag_on_went : (head : List ℕ) (tag : Tag) (blanks : List ℕ) (b : ℕ) → IsHead head tag → AreBlanks blanks → Went (head ++ (blanks ++ (b ∷ []))) (next_in_tag tag b)
tag_on_went head tag blanks b is are =
    choose (Went (head ++ (blanks ++ (b ∷ [])))) (b == 62) _ _
    (λ e. rw (equal b 62 e) (is_start head tag blanks is are))
    (λ _. choose (Went (head ++ (blanks ++ (b ∷ [])))) (b == 47) _ _
    (λ e. rw (equal b 47 e) (at_slash head tag blanks is are))
    (λ _. choose (Went (head ++ (blanks ++ (b ∷ [])))) (is_blank b) _ _
    (λ e. at_gap head tag (blanks ++ (b ∷ [])) is (some_push blanks b) (all_push is_blank blanks b are e))
    (λ _. tt)))

name_on_went : (head : List ℕ) (tag : Tag) (blanks name before : List ℕ) (b : ℕ) → IsHead head tag → blanks ≢ [] → AreBlanks blanks → IsName name → AreBlanks before → Went (head ++ (blanks ++ name ++ (before ++ (b ∷ [])))) (next_behind_name tag name b)
name_on_went head tag blanks name before b is some are named befores =
    choose (Went (head ++ (blanks ++ name ++ (before ++ (b ∷ []))))) (is_blank b) _ _
    (λ e. at_attribute_gap head tag blanks name (before ++ (b ∷ [])) is some are named (all_push is_blank before b befores e))
    (λ _. choose (Went (head ++ (blanks ++ name ++ (before ++ (b ∷ []))))) (b == 61) _ _
    (λ e. rw (equal b 61 e, ← append_assoc (blanks ++ name) before (61 ∷ [])) (at_equals head tag blanks name before [] is some are named befores tt))
    (λ _. tt))

end_on_went : (n blanks : List ℕ) (b : ℕ) → IsName n → AreBlanks blanks → Went (60 ∷ 47 ∷ (n ++ (blanks ++ (b ∷ [])))) (next_behind_end n b)
end_on_went n blanks b named are =
    choose (Went (60 ∷ 47 ∷ (n ++ (blanks ++ (b ∷ []))))) (is_blank b) _ _
    (λ e. at_end_gap n (blanks ++ (b ∷ [])) named (all_push is_blank blanks b are e))
    (λ _. choose (Went (60 ∷ 47 ∷ (n ++ (blanks ++ (b ∷ []))))) (b == 62) _ _
    (λ e. rw (equal b 62 e) (is_end n blanks named are))
    (λ _. tt))

-- one more byte of a reference
module _ (head : List ℕ) (tag : Tag) (quote : ℕ) (name opening raw value : List ℕ) (count : ℕ) (is : IsHead head tag) (opens : IsOpening quote name opening) (raws : IsRaw quote raw value) where
  -- the value under way
  abbrev pub inside : Inside
  inside = record { tag = tag; name = name; quote = quote; count = count; value = value }

  -- what a byte of a reference leads to
  abbrev pub Refers : List ℕ → ℕ → Next → Type 0
  Refers part b = Went (head ++ (opening ++ (raw ++ (part ++ (b ∷ [])))))

  goes : (part : List ℕ) (b : ℕ) (r : Reference) → InReference r (part ++ (b ∷ [])) → count ≡ length (raw ++ part) → Refers part b (next_reference inside r)
  goes part b r now counts = at_refer head tag quote name opening raw value (part ++ (b ∷ [])) (count + 1) r is opens raws now (rw (← append_assoc raw part (b ∷ []), length-push (raw ++ part) b, counts) refl)

  ends : (part : List ℕ) (b : ℕ) (code : ℕ) → IsReference (part ++ (b ∷ [])) code → count ≡ length (raw ++ part) → Refers part b (Within (Value (with_bytes inside (bytes_of_reference code))))
  ends part b code now counts = at_value head tag quote name opening (raw ++ (part ++ (b ∷ []))) (value ++ bytes_of_reference code) (count + 1) is opens (and_reference quote raw value (part ++ (b ∷ [])) code raws now) (rw (← append_assoc raw part (b ∷ []), length-push (raw ++ part) b, counts) refl)

  refer_went : (part : List ℕ) (r : Reference) (b : ℕ) → InReference r part → count ≡ length (raw ++ part) → Refers part b (next_in_reference inside r b)
  refer_went _ _ b ref_ampersand counts =
      choose (Refers (38 ∷ []) b) (b == 35) _ _ (λ e. goes (38 ∷ []) b NumberSign (rw (equal b 35 e) ref_number) counts)
      (λ _. choose (Refers (38 ∷ []) b) (b == 108) _ _ (λ e. goes (38 ∷ []) b (Named (116 ∷ []) 60) (rw (equal b 108 e) (ref_named (116 ∷ []) 60 (38 ∷ 108 ∷ []) is_less)) counts)
      (λ _. choose (Refers (38 ∷ []) b) (b == 103) _ _ (λ e. goes (38 ∷ []) b (Named (116 ∷ []) 62) (rw (equal b 103 e) (ref_named (116 ∷ []) 62 (38 ∷ 103 ∷ []) is_greater)) counts)
      (λ _. choose (Refers (38 ∷ []) b) (b == 113) _ _ (λ e. goes (38 ∷ []) b (Named (117 ∷ 111 ∷ 116 ∷ []) 34) (rw (equal b 113 e) (ref_named (117 ∷ 111 ∷ 116 ∷ []) 34 (38 ∷ 113 ∷ []) is_quotation)) counts)
      (λ _. choose (Refers (38 ∷ []) b) (b == 97) _ _ (λ e. goes (38 ∷ []) b LetterA (rw (equal b 97 e) ref_letter) counts)
      (λ _. tt)))))
  refer_went _ _ b ref_letter counts =
      choose (Refers (38 ∷ 97 ∷ []) b) (b == 109) _ _ (λ e. goes (38 ∷ 97 ∷ []) b (Named (112 ∷ []) 38) (rw (equal b 109 e) (ref_named (112 ∷ []) 38 (38 ∷ 97 ∷ 109 ∷ []) is_ampersand)) counts)
      (λ _. choose (Refers (38 ∷ 97 ∷ []) b) (b == 112) _ _ (λ e. goes (38 ∷ 97 ∷ []) b (Named (111 ∷ 115 ∷ []) 39) (rw (equal b 112 e) (ref_named (111 ∷ 115 ∷ []) 39 (38 ∷ 97 ∷ 112 ∷ []) is_apostrophe)) counts)
      (λ _. tt))
  refer_went part _ b (ref_named [] code _ is_ref) counts =
      choose (Refers part b) (b == 59) _ _ (λ e. ends part b code (rw (equal b 59 e) is_ref) counts) (λ _. tt)
  refer_went part _ b (ref_named (c ∷ rest) code _ is_ref) counts =
      choose (Refers part b) (b == c) _ _ (λ e. goes part b (Named rest code) (rw (equal b c e) (ref_named rest code (part ++ (c ∷ [])) (rw (append_assoc part (c ∷ []) (rest ++ (59 ∷ []))) is_ref))) counts) (λ _. tt)
  refer_went _ _ b ref_number counts =
      choose (Refers (38 ∷ 35 ∷ []) b) (b == 120) _ _ (λ e. goes (38 ∷ 35 ∷ []) b (Digits 16 0 0) (rw (equal b 120 e) (ref_hexadecimal [] 0 0 (omega arith) refl refl tt)) counts)
      (λ _. choose (Refers (38 ∷ 35 ∷ []) b) (is_digit_of 10 b) _ _ (λ e. goes (38 ∷ 35 ∷ []) b (Digits 10 1 (10 * 0 + digit_of b)) (ref_decimal (b ∷ []) 1 (10 * 0 + digit_of b) (λ h. cc) (omega arith) refl refl (e, tt)) counts)
      (λ _. tt))
  refer_went _ _ b (ref_decimal digits n number some small counting spelled are) counts =
      choose (Refers (38 ∷ 35 ∷ digits) b) (is_digit_of 10 b && nat_lt n 8) _ _
      (λ e. let t = and_true (is_digit_of 10 b) (nat_lt n 8) e in goes (38 ∷ 35 ∷ digits) b (Digits 10 (n + 1) (10 * number + digit_of b)) (ref_decimal (digits ++ (b ∷ [])) (n + 1) (10 * number + digit_of b) (some_push digits b) (grind (arith, nat_tests, t.1)) (rw (length-push digits b, counting) refl) (rw (spelled-push 10 0 digits b, spelled) refl) (all_push (is_digit_of 10) digits b are t.0)) counts)
      (λ _. choose (Refers (38 ∷ 35 ∷ digits) b) ((b == 59) && nat_lt 0 n) _ _
      (λ e. let t = and_true (b == 59) (nat_lt 0 n) e in ends (38 ∷ 35 ∷ digits) b number (rw (equal b 59 t.0, spelled) (is_decimal digits some (rw (← counting) small) are)) counts)
      (λ _. tt))
  refer_went _ _ b (ref_hexadecimal digits n number small counting spelled are) counts =
      choose (Refers (38 ∷ 35 ∷ 120 ∷ digits) b) (is_digit_of 16 b && nat_lt n 8) _ _
      (λ e. let t = and_true (is_digit_of 16 b) (nat_lt n 8) e in goes (38 ∷ 35 ∷ 120 ∷ digits) b (Digits 16 (n + 1) (16 * number + digit_of b)) (ref_hexadecimal (digits ++ (b ∷ [])) (n + 1) (16 * number + digit_of b) (grind (arith, nat_tests, t.1)) (rw (length-push digits b, counting) refl) (rw (spelled-push 16 0 digits b, spelled) refl) (all_push (is_digit_of 16) digits b are t.0)) counts)
      (λ _. choose (Refers (38 ∷ 35 ∷ 120 ∷ digits) b) ((b == 59) && nat_lt 0 n) _ _
      (λ e. let t = and_true (b == 59) (nat_lt 0 n) e in ends (38 ∷ 35 ∷ 120 ∷ digits) b number (rw (equal b 59 t.0, spelled) (is_hexadecimal digits (some_of digits n counting t.1) (rw (← counting) small) are)) counts)
      (λ _. tt))
    where
      some_of : (digits : List ℕ) (n : ℕ) → n ≡ length digits → nat_lt 0 n ≡ true → digits ≢ []
      some_of [] n e t = absurd (grind (arith, nat_tests, e, t))
      some_of (d ∷ ds) n e t = λ h. cc

value_byte : (b quote : ℕ) → (b == quote) ≡ false → (b == 38) ≡ false → (b == 60) ≡ false → is_value_byte quote b ≡ true
value_byte b quote x y z = rw (x, y, z) refl

-- Each byte keeps what the states say.
pub item_step : {p : Lex} {w : List ℕ} (b : ℕ) → Reached p w → Went (w ++ (b ∷ [])) (next p b)
item_step b at_between = choose (Went (b ∷ [])) (b == 60) _ _ (λ e. rw (equal b 60 e) at_opened) (λ e. is_text b e)
item_step b at_opened =
    choose (Went (60 ∷ b ∷ [])) (is_name_start b) _ _ (λ e. at_name (b ∷ []) (e, tt))
    (λ _. choose (Went (60 ∷ b ∷ [])) (b == 47) _ _ (λ e. rw (equal b 47 e) at_end_opened)
    (λ _. choose (Went (60 ∷ b ∷ [])) (b == 33) _ _ (λ e. rw (equal b 33 e) at_bang)
    (λ _. choose (Went (60 ∷ b ∷ [])) (b == 63) _ _ (λ e. rw (equal b 63 e) (at_instruction [] (λ rest. refl)))
    (λ _. tt))))
item_step b (at_instruction body up) =
    choose (Went (60 ∷ 63 ∷ (body ++ (b ∷ [])))) (b == 63) _ _
    (λ e. at_question (body ++ (b ∷ [])) (λ rest. rw (append_assoc body (b ∷ []) rest, up (b ∷ rest), equal b 63 e) refl))
    (λ e. at_instruction (body ++ (b ∷ [])) (λ rest. rw (append_assoc body (b ∷ []) rest, up (b ∷ rest), e) refl))
item_step b (at_question body up) =
    choose (Went (60 ∷ 63 ∷ (body ++ (b ∷ [])))) (b == 62) _ _
    (λ e. is_instruction (body ++ (b ∷ [])) (up (b ∷ []) ∙ rw (equal b 62 e) refl))
    (λ n. choose (Went (60 ∷ 63 ∷ (body ++ (b ∷ [])))) (b == 63) _ _
    (λ e. at_question (body ++ (b ∷ [])) (λ rest. rw (append_assoc body (b ∷ []) rest, up (b ∷ rest), equal b 63 e) refl))
    (λ e. at_instruction (body ++ (b ∷ [])) (λ rest. rw (append_assoc body (b ∷ []) rest, up (b ∷ rest), n, e) refl)))
item_step b at_bang =
    choose (Went (60 ∷ 33 ∷ b ∷ [])) (b == 45) _ _ (λ e. rw (equal b 45 e) at_bang_dash)
    (λ _. choose (Went (60 ∷ 33 ∷ b ∷ [])) (b == 68) _ _ (λ e. rw (equal b 68 e) (at_word [] doctype_letters refl)) (λ _. tt))
item_step b at_bang_dash = choose (Went (60 ∷ 33 ∷ 45 ∷ b ∷ [])) (b == 45) _ _ (λ e. rw (equal b 45 e) (at_comment [] (λ rest. refl))) (λ _. tt)
item_step b (at_comment body up) =
    choose (Went (60 ∷ 33 ∷ 45 ∷ 45 ∷ (body ++ (b ∷ [])))) (b == 45) _ _
    (λ e. at_dash (body ++ (b ∷ [])) (λ rest. rw (append_assoc body (b ∷ []) rest, up (b ∷ rest), equal b 45 e) refl))
    (λ e. at_comment (body ++ (b ∷ [])) (λ rest. rw (append_assoc body (b ∷ []) rest, up (b ∷ rest), e) refl))
item_step b (at_dash body up) =
    choose (Went (60 ∷ 33 ∷ 45 ∷ 45 ∷ (body ++ (b ∷ [])))) (b == 45) _ _
    (λ e. at_dashes (body ++ (b ∷ [])) (λ rest. rw (append_assoc body (b ∷ []) rest, up (b ∷ rest), equal b 45 e) refl))
    (λ e. at_comment (body ++ (b ∷ [])) (λ rest. rw (append_assoc body (b ∷ []) rest, up (b ∷ rest), e) refl))
item_step b (at_dashes body up) =
    choose (Went (60 ∷ 33 ∷ 45 ∷ 45 ∷ (body ++ (b ∷ [])))) (b == 62) _ _
    (λ e. is_comment (body ++ (b ∷ [])) (up (b ∷ []) ∙ rw (equal b 62 e) refl))
    (λ n. choose (Went (60 ∷ 33 ∷ 45 ∷ 45 ∷ (body ++ (b ∷ [])))) (b == 45) _ _
    (λ e. at_dashes (body ++ (b ∷ [])) (λ rest. rw (append_assoc body (b ∷ []) rest, up (b ∷ rest), equal b 45 e) refl))
    (λ e. at_comment (body ++ (b ∷ [])) (λ rest. rw (append_assoc body (b ∷ []) rest, up (b ∷ rest), n, e) refl)))
item_step b (at_word read [] is) =
    choose (Went (60 ∷ 33 ∷ 68 ∷ (read ++ (b ∷ [])))) (is_blank b) _ _
    (λ e. let whole : read ≡ doctype_letters = sym (append-nil read) ∙ is in rw whole (at_doctype b [] e tt))
    (λ _. tt)
item_step b (at_word read (c ∷ rest) is) =
    choose (Went (60 ∷ 33 ∷ 68 ∷ (read ++ (b ∷ [])))) (b == c) _ _
    (λ e. at_word (read ++ (b ∷ [])) rest (rw (append_assoc read (b ∷ []) rest, equal b c e) is))
    (λ _. tt)
item_step b (at_doctype blank body is are) =
    choose (Went (60 ∷ 33 ∷ 68 ∷ 79 ∷ 67 ∷ 84 ∷ 89 ∷ 80 ∷ 69 ∷ blank ∷ (body ++ (b ∷ [])))) (b == 62) _ _
    (λ e. rw (equal b 62 e) (is_doctype blank body is are))
    (λ _. choose (Went (60 ∷ 33 ∷ 68 ∷ 79 ∷ 67 ∷ 84 ∷ 89 ∷ 80 ∷ 69 ∷ blank ∷ (body ++ (b ∷ [])))) (is_doctype_byte b) _ _
    (λ e. at_doctype blank (body ++ (b ∷ [])) is (all_push is_doctype_byte body b are e))
    (λ _. tt))
item_step b (at_name n is) =
    choose (Went (60 ∷ (n ++ (b ∷ [])))) (is_name_byte b) _ _
    (λ e. at_name (n ++ (b ∷ [])) (name_push n b is e))
    (λ _. tag_on_went (60 ∷ n) (record { name = n; attributes = [] }) [] b (head_name n is) tt)
item_step b (at_gap head tag blanks is some are) =
    rw (append_assoc head blanks (b ∷ [])) (choose (Went (head ++ (blanks ++ (b ∷ [])))) (is_name_start b) _ _
    (λ e. at_attribute head tag blanks (b ∷ []) is some are (e, tt))
    (λ _. tag_on_went head tag blanks b is are))
item_step b (at_slash head tag blanks is are) =
    rw (append_assoc head (blanks ++ (47 ∷ [])) (b ∷ []), append_assoc blanks (47 ∷ []) (b ∷ [])) (choose (Went (head ++ (blanks ++ (47 ∷ b ∷ [])))) (b == 62) _ _
    (λ e. rw (equal b 62 e) (is_empty head tag blanks is are))
    (λ _. tt))
item_step b (at_attribute head tag blanks name is some are named) =
    rw (append_assoc head (blanks ++ name) (b ∷ [])) (choose (Went (head ++ (blanks ++ name ++ (b ∷ [])))) (is_name_byte b) _ _
    (λ e. rw (append_assoc blanks name (b ∷ [])) (at_attribute head tag blanks (name ++ (b ∷ [])) is some are (name_push name b named e)))
    (λ _. name_on_went head tag blanks name [] b is some are named tt))
item_step b (at_attribute_gap head tag blanks name before is some are named befores) =
    rw (append_assoc head (blanks ++ name ++ before) (b ∷ []), append_assoc (blanks ++ name) before (b ∷ [])) (name_on_went head tag blanks name before b is some are named befores)
item_step b (at_equals head tag blanks name before after is some are named befores afters) =
    rw (append_assoc head (blanks ++ name ++ before ++ (61 ∷ after)) (b ∷ [])) (choose (Went (head ++ (blanks ++ name ++ before ++ (61 ∷ after) ++ (b ∷ [])))) (is_blank b) _ _
    (λ e. rw (append_assoc (blanks ++ name ++ before) (61 ∷ after) (b ∷ [])) (at_equals head tag blanks name before (after ++ (b ∷ [])) is some are named befores (all_push is_blank after b afters e)))
    (λ _. choose (Went (head ++ (blanks ++ name ++ before ++ (61 ∷ after) ++ (b ∷ [])))) (is_quote b) _ _
    (λ e. rw (← append-nil (blanks ++ name ++ before ++ (61 ∷ after) ++ (b ∷ []))) (at_value head tag b name (blanks ++ name ++ before ++ (61 ∷ after) ++ (b ∷ [])) [] [] 0 is (record { blanks = blanks; before = before; after = after; some = some; are_blanks = are; is_name = named; are_before = befores; are_after = afters; is_quote = e; spelled = refl }) (no_byte b) refl))
    (λ _. tt)))
item_step b (at_value head tag quote name opening raw value count is opens raws counts) =
    rw (append_assoc head (opening ++ raw) (b ∷ [])) (choose (Went (head ++ (opening ++ raw ++ (b ∷ [])))) (b == quote) _ _
    (λ e. rw (equal b quote e) (at_behind (head ++ (opening ++ raw ++ (quote ∷ []))) (with_attribute tag name value) (head_more head tag quote name opening raw value is opens raws)))
    (λ other. rw (append_assoc opening raw (b ∷ [])) (choose (Went (head ++ (opening ++ (raw ++ (b ∷ []))))) (b == 38) _ _
    (λ e. at_refer head tag quote name opening raw value (b ∷ []) (count + 1) Ampersand is opens raws (rw (equal b 38 e) ref_ampersand) (rw (length-push raw b, counts) refl))
    (λ plain. choose (Went (head ++ (opening ++ (raw ++ (b ∷ []))))) (b == 60) _ _
    (λ _. tt)
    (λ open_. at_value head tag quote name opening (raw ++ (b ∷ [])) (value ++ (spaced b ∷ [])) (count + 1) is opens (and_byte quote raw value b raws (value_byte b quote other plain open_)) (rw (length-push raw b, counts) refl))))))
item_step b (at_refer head tag quote name opening raw value part count r is opens raws ref counts) =
    rw (append_assoc head (opening ++ (raw ++ part)) (b ∷ []), append_assoc opening (raw ++ part) (b ∷ []), append_assoc raw part (b ∷ [])) (refer_went head tag quote name opening raw value count is opens raws part r b ref counts)
item_step b (at_behind head tag is) = tag_on_went head tag [] b is tt
item_step b at_end_opened = choose (Went (60 ∷ 47 ∷ b ∷ [])) (is_name_start b) _ _ (λ e. at_end_name (b ∷ []) (e, tt)) (λ _. tt)
item_step b (at_end_name n is) =
    choose (Went (60 ∷ 47 ∷ (n ++ (b ∷ [])))) (is_name_byte b) _ _
    (λ e. at_end_name (n ++ (b ∷ [])) (name_push n b is e))
    (λ _. end_on_went n [] b is tt)
item_step b (at_end_gap n blanks is are) = rw (append_assoc n blanks (b ∷ [])) (end_on_went n blanks b is are)
