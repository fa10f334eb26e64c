-- The machine runs over every item of the grammar.
use Rattle.std.specs.Prelude.{◌≡◌, ◌≢◌, ℕ, ◌+◌, ◌*◌, ◌≤◌, Bool, true, false, ◌==◌, nat_lt, List, [], ◌∷◌, ◌++◌, length, Some}
use Rattle.std.proofs.Common.{refl, ◌∙◌, ap, arith, append_assoc, append-nil}
use Rattle.std.proofs.lemmas.Bool.Decides.{nat_tests}
use Rattle.std.proofs.lemmas.List.{length-append}
use Rattle.psa_text.specs.declared.tag.Tag.{Tag}
use Rattle.psa_text.specs.declared.scanner.item.Item.{Item}
use Rattle.psa_text.specs.declared.scanner.item.Item.TheVariants.{Start, End, Doctype, Text, Comment, Instruction}
use Rattle.psa_text.specs.TextBytes.{AllPass, is_blank, AreBlanks, IsName, is_name_start, is_name_byte, is_quote, is_doctype_byte, is_value_byte, is_digit_of, digit_of, spaced, number_behind}
use Rattle.psa_text.specs.TextItems.{IsReference, is_less, is_greater, is_ampersand, is_quotation, is_apostrophe, is_decimal, is_hexadecimal, IsRaw, no_byte, and_byte, and_reference, bytes_of_reference, IsOpening, with_attribute, IsHead, head_name, head_more, behind_first, IsItem, is_text, is_instruction, is_comment, is_doctype, is_start, is_empty, is_end}
use Rattle.psa_text.specs.scanner.Machine.{Inside, Ampersand, NumberSign, Digits, Lex, Between, Opened, InInstruction, Question, InComment, Dash, DashDash, Word, InDoctype, Name, Gap, Slash, AttributeName, AttributeGap, Equals, Value, Refer, Behind, EndOpened, EndName, EndGap, Next, Broken, Within, Whole, next_in_tag, with_byte_counted, with_bytes, next}
use Rattle.psa_text.proofs.scanner.StatesReached.{instruction_end, comment_end, length-push, equal}

-- the machine over bytes of one item
abbrev pub ended : Item → List ℕ → Next
ended item [] = Whole item
ended item (b ∷ bs) = Broken

-- where the machine stands behind these bytes
abbrev pub run : Lex → List ℕ → Next
run p [] = Within p
run p (b ∷ bs) = elim (next p b) [ Broken ↦ Broken | Within q ↦ run q bs | Whole item ↦ ended item bs ]

-- the same, from what a first byte did
abbrev pub onward : List ℕ → Next → Next
onward bs n = elim n [ Broken ↦ Broken | Within q ↦ run q bs | Whole item ↦ ended item bs ]

-- one byte, and then the rest
pub then_run : (p q : Lex) (b : ℕ) (bs : List ℕ) (n : Next) → next p b ≡ Within q → run q bs ≡ n → run p (b ∷ bs) ≡ n
then_run p q b bs n e h = ap (onward bs) e ∙ h

-- the last byte of an item
pub last_run : (p : Lex) (item : Item) (b : ℕ) → next p b ≡ Whole item → run p (b ∷ []) ≡ Whole item
last_run p item b e = ap (onward []) e

-- no byte stands behind the last of an item
pub over : (item : Item) (u : List ℕ) (q : Lex) → ended item u ≡ Within q → ⊥
over item [] q h = cc
over item (c ∷ u) q h = cc

chain_on : (n : Next) (q : Lex) (u v : List ℕ) → ((r : Lex) → run r u ≡ Within q → run r (u ++ v) ≡ run q v) → onward u n ≡ Within q → onward (u ++ v) n ≡ run q v
chain_on Broken q u v on h = absurd (cc)
chain_on (Within r) q u v on h = on r h
chain_on (Whole item) q u v on h = absurd (over item u q h)

-- one run behind another
pub chain : (p q : Lex) (u v : List ℕ) → run p u ≡ Within q → run p (u ++ v) ≡ run q v
chain p q [] v h = let e : p ≡ q = cc in rw e refl
chain p q (b ∷ u) v h = chain_on (next p b) q u v (λ r k. chain r q u v k) h

-- the same, with its result
pub chained : (p q : Lex) (u v : List ℕ) (n : Next) → run p u ≡ Within q → run q v ≡ n → run p (u ++ v) ≡ n
chained p q u v n h k = chain p q u v h ∙ k

-- classes of bytes
blank_no_name : (b : ℕ) → is_blank b ≡ true → is_name_byte b ≡ false
blank_no_name b e = grind (arith, nat_tests, e)

blank_no_start : (b : ℕ) → is_blank b ≡ true → is_name_start b ≡ false
blank_no_start b e = grind (arith, nat_tests, e)

blank_no_mark : (b : ℕ) → is_blank b ≡ true → ((b == 62) ≡ false) × ((b == 47) ≡ false)
blank_no_mark b e = (grind (arith, nat_tests, e), grind (arith, nat_tests, e))

quote_no_blank : (b : ℕ) → is_quote b ≡ true → is_blank b ≡ false
quote_no_blank b e = grind (arith, nat_tests, e)

-- a quote is no ampersand
pub quote_no_ampersand : (b : ℕ) → is_quote b ≡ true → (38 == b) ≡ false
quote_no_ampersand b e = grind (arith, nat_tests, e)

-- a decimal digit is no `x`
pub digit_no_x : (b : ℕ) → is_digit_of 10 b ≡ true → (b == 120) ≡ false
digit_no_x b e = grind (arith, nat_tests, e)

doctype_no_end : (b : ℕ) → is_doctype_byte b ≡ true → (b == 62) ≡ false
doctype_no_end b e = grind (arith, nat_tests, e)

value_no_quote : (quote b : ℕ) → is_value_byte quote b ≡ true → ((b == quote) ≡ false) × ((b == 38) ≡ false) × ((b == 60) ≡ false)
value_no_quote quote b e = (grind (arith, nat_tests, e), grind (arith, nat_tests, e), grind (arith, nat_tests, e))

-- a byte is equal to itself
pub same : (b : ℕ) → (b == b) ≡ true
same b = grind (arith, nat_tests)

-- runs of one class
names_run : (make : List ℕ → Lex) → ((n : List ℕ) (b : ℕ) → is_name_byte b ≡ true → next (make n) b ≡ Within (make (n ++ (b ∷ [])))) → (n bs : List ℕ) → AllPass is_name_byte bs → run (make n) bs ≡ Within (make (n ++ bs))
names_run make step n [] are = rw append-nil refl
names_run make step n (b ∷ bs) are = then_run (make n) (make (n ++ (b ∷ []))) b bs _ (step n b are.0) (names_run make step (n ++ (b ∷ [])) bs are.1 ∙ rw (append_assoc n (b ∷ []) bs) refl)

blanks_run : (p : Lex) → ((b : ℕ) → is_blank b ≡ true → next p b ≡ Within p) → (bs : List ℕ) → AreBlanks bs → run p bs ≡ Within p
blanks_run p step [] are = refl
blanks_run p step (b ∷ bs) are = then_run p p b bs _ (step b are.0) (blanks_run p step bs are.1)

-- over the further bytes of a tag's name
pub tag_name_run : (n bs : List ℕ) → AllPass is_name_byte bs → run (Name n) bs ≡ Within (Name (n ++ bs))
tag_name_run n bs are = names_run Name (λ n b e. rw e refl) n bs are

-- over the further bytes of an end tag's name
pub end_name_run : (n bs : List ℕ) → AllPass is_name_byte bs → run (EndName n) bs ≡ Within (EndName (n ++ bs))
end_name_run n bs are = names_run EndName (λ n b e. rw e refl) n bs are

attribute_name_run : (tag : Tag) (n bs : List ℕ) → AllPass is_name_byte bs → run (AttributeName tag n) bs ≡ Within (AttributeName tag (n ++ bs))
attribute_name_run tag n bs are = names_run (AttributeName tag) (λ n b e. rw e refl) n bs are

-- a state behind whole attributes, or behind the tag's name or a blank
pub record TagState (tag : Tag) (p : Lex) : Type 0 where
  pub on : (b : ℕ) → is_name_byte b ≡ false → next p b ≡ next_in_tag tag b

gap_on : (tag : Tag) (b : ℕ) → is_blank b ≡ true → next (Gap tag) b ≡ Within (Gap tag)
gap_on tag b e = rw (blank_no_start b e, (blank_no_mark b e).0, (blank_no_mark b e).1, e) refl

no_start : (b : ℕ) → is_name_byte b ≡ false → is_name_start b ≡ false
no_start b e = grind (arith, nat_tests, e)

gap_state : (tag : Tag) → TagState tag (Gap tag)
gap_state tag = record { on = λ b e. rw (no_start b e) refl }

-- over the blanks in a tag
pub gap_run : (tag : Tag) (p : Lex) (bs : List ℕ) → TagState tag p → bs ≢ [] → AreBlanks bs → run p bs ≡ Within (Gap tag)
gap_run tag p [] state some are = absurd (some refl)
gap_run tag p (b ∷ bs) state some are = then_run p (Gap tag) b bs _ (state.on b (blank_no_name b are.0) ∙ rw ((blank_no_mark b are.0).0, (blank_no_mark b are.0).1, are.0) refl) (blanks_run (Gap tag) (gap_on tag) bs are.1)

-- the machine runs over a tag up to a state behind whole attributes
pub record RanTo (tag : Tag) (p : Lex) (w : List ℕ) : Type 0 where
  pub state : Lex
  pub ran : run p w ≡ Within state
  pub tagged : TagState tag state

blanks_ran : (tag : Tag) (p : Lex) (bs : List ℕ) → TagState tag p → AreBlanks bs → RanTo tag p bs
blanks_ran tag p [] state are = record { state = p; ran = refl; tagged = state }
blanks_ran tag p (b ∷ bs) state are = record { state = Gap tag; ran = gap_run tag p (b ∷ bs) state (λ h. cc) are; tagged = gap_state tag }

-- references
pub digits_run : (base : ℕ) (v : Inside) (count number : ℕ) (digits : List ℕ) → count + length digits ≤ 8 → AllPass (is_digit_of base) digits → run (Refer v (Digits base count number)) digits ≡ Within (Refer (record v { count = v.count + length digits }) (Digits base (count + length digits) (number_behind base number digits)))
digits_run base v count number [] fits are = ap (λ k. Within (Refer (record v { count = k }) (Digits base count number))) (omega arith) ∙ ap (λ k. Within (Refer (record v { count = v.count + 0 }) (Digits base k number))) (omega arith)
digits_run base v count number (d ∷ ds) fits are =
    let t : nat_lt count 8 ≡ true = grind (arith, nat_tests, fits) in
    then_run (Refer v (Digits base count number)) (Refer (with_byte_counted v) (Digits base (count + 1) (base * number + digit_of d))) d ds _ (rw (are.0, t) refl) (digits_run base (with_byte_counted v) (count + 1) (base * number + digit_of d) ds (omega (arith, fits)) are.1
    ∙ ap (λ k. Within (Refer (record v { count = k }) (Digits base (count + 1 + length ds) (number_behind base (base * number + digit_of d) ds)))) (omega arith)
    ∙ ap (λ k. Within (Refer (record v { count = v.count + length (d ∷ ds) }) (Digits base k (number_behind base (base * number + digit_of d) ds)))) (omega arith))

recount : (v : Inside) (value : List ℕ) (m n : ℕ) → m ≡ n → ◌≡◌ {A = Next} (Within (Value (record v { count = m; value = value }))) (Within (Value (record v { count = n; value = value })))
recount v value m n e = ap (λ k. Within (Value (record v { count = k; value = value }))) e

some_digits : (digits : List ℕ) → digits ≢ [] → nat_lt 0 (0 + length digits) ≡ true
some_digits [] some = absurd (some refl)
some_digits (d ∷ ds) some = grind (arith, nat_tests)

number_ends : (base : ℕ) (v : Inside) (count number : ℕ) → is_digit_of base 59 ≡ false → nat_lt 0 count ≡ true → run (Refer v (Digits base count number)) (59 ∷ []) ≡ Within (Value (with_bytes v (bytes_of_reference number)))
number_ends base v count number other some = then_run (Refer v (Digits base count number)) (Value (with_bytes v (bytes_of_reference number))) 59 [] _ (rw (other, some) refl) refl

-- over a reference
pub reference_run : {r : List ℕ} {code : ℕ} (v : Inside) → (38 == v.quote) ≡ false → IsReference r code → run (Value v) r ≡ Within (Value (record v { count = v.count + length r; value = v.value ++ bytes_of_reference code }))
reference_run v e is_less = then_run (Value v) (Refer (with_byte_counted v) Ampersand) 38 (108 ∷ 116 ∷ 59 ∷ []) _ (rw e refl) (recount v (v.value ++ bytes_of_reference 60) (v.count + 1 + 1 + 1 + 1) (v.count + 4) (omega arith))
reference_run v e is_greater = then_run (Value v) (Refer (with_byte_counted v) Ampersand) 38 (103 ∷ 116 ∷ 59 ∷ []) _ (rw e refl) (recount v (v.value ++ bytes_of_reference 62) (v.count + 1 + 1 + 1 + 1) (v.count + 4) (omega arith))
reference_run v e is_ampersand = then_run (Value v) (Refer (with_byte_counted v) Ampersand) 38 (97 ∷ 109 ∷ 112 ∷ 59 ∷ []) _ (rw e refl) (recount v (v.value ++ bytes_of_reference 38) (v.count + 1 + 1 + 1 + 1 + 1) (v.count + 5) (omega arith))
reference_run v e is_quotation = then_run (Value v) (Refer (with_byte_counted v) Ampersand) 38 (113 ∷ 117 ∷ 111 ∷ 116 ∷ 59 ∷ []) _ (rw e refl) (recount v (v.value ++ bytes_of_reference 34) (v.count + 1 + 1 + 1 + 1 + 1 + 1) (v.count + 6) (omega arith))
reference_run v e is_apostrophe = then_run (Value v) (Refer (with_byte_counted v) Ampersand) 38 (97 ∷ 112 ∷ 111 ∷ 115 ∷ 59 ∷ []) _ (rw e refl) (recount v (v.value ++ bytes_of_reference 39) (v.count + 1 + 1 + 1 + 1 + 1 + 1) (v.count + 6) (omega arith))
reference_run v e (is_decimal [] some small are) = absurd (some refl)
reference_run v e (is_decimal (d ∷ ds) some small are) =
    let inner = with_byte_counted (with_byte_counted (with_byte_counted v)) in
    let fits : 1 + length ds ≤ 8 = omega (arith, small) in
    then_run (Value v) (Refer (with_byte_counted v) Ampersand) 38 (35 ∷ d ∷ (ds ++ (59 ∷ []))) _ (rw e refl) (then_run (Refer (with_byte_counted (with_byte_counted v)) NumberSign) (Refer inner (Digits 10 1 (10 * 0 + digit_of d))) d (ds ++ (59 ∷ [])) _ (rw (digit_no_x d are.0, are.0) refl) (chained (Refer inner (Digits 10 1 (10 * 0 + digit_of d))) (Refer (record inner { count = inner.count + length ds }) (Digits 10 (1 + length ds) (number_behind 10 0 (d ∷ ds)))) ds (59 ∷ []) _
    (digits_run 10 inner 1 (10 * 0 + digit_of d) ds fits are.1)
    (number_ends 10 (record inner { count = inner.count + length ds }) (1 + length ds) (number_behind 10 0 (d ∷ ds)) refl (grind (arith, nat_tests))
    ∙ recount v (v.value ++ bytes_of_reference (number_behind 10 0 (d ∷ ds))) (v.count + 1 + 1 + 1 + length ds + 1) (v.count + length (38 ∷ 35 ∷ d ∷ (ds ++ (59 ∷ [])))) (omega (arith, length-push ds 59)))))
reference_run v e (is_hexadecimal digits some small are) =
    let inner = with_byte_counted (with_byte_counted (with_byte_counted v)) in
    let fits : 0 + length digits ≤ 8 = omega (arith, small) in
    then_run (Value v) (Refer (with_byte_counted v) Ampersand) 38 (35 ∷ 120 ∷ (digits ++ (59 ∷ []))) _ (rw e refl) (chained (Refer inner (Digits 16 0 0)) (Refer (record inner { count = inner.count + length digits }) (Digits 16 (0 + length digits) (number_behind 16 0 digits))) digits (59 ∷ []) _
    (digits_run 16 inner 0 0 digits fits are)
    (number_ends 16 (record inner { count = inner.count + length digits }) (0 + length digits) (number_behind 16 0 digits) refl (some_digits digits some)
    ∙ recount v (v.value ++ bytes_of_reference (number_behind 16 0 digits)) (v.count + 1 + 1 + 1 + length digits + 1) (v.count + length (38 ∷ 35 ∷ 120 ∷ (digits ++ (59 ∷ [])))) (omega (arith, length-push digits 59))))

-- values
abbrev pub value_at : Tag → List ℕ → ℕ → ℕ → List ℕ → Lex
value_at tag name quote count value = Value (record { tag = tag; name = name; quote = quote; count = count; value = value })

-- over the bytes of a value
pub raw_run : {quote : ℕ} {raw value : List ℕ} (tag : Tag) (name : List ℕ) → is_quote quote ≡ true → IsRaw quote raw value → run (value_at tag name quote 0 []) raw ≡ Within (value_at tag name quote (length raw) value)
raw_run tag name q (no_byte quote) = refl
raw_run tag name q (and_byte quote raw value b is plain) =
    let t = value_no_quote quote b plain in
    chained (value_at tag name quote 0 []) (value_at tag name quote (length raw) value) raw (b ∷ []) _ (raw_run tag name q is)
    (then_run (value_at tag name quote (length raw) value) (value_at tag name quote (length raw + 1) (value ++ (spaced b ∷ []))) b [] _ (rw (t.0, t.1, t.2) refl) (rw (length-push raw b) refl))
raw_run tag name q (and_reference quote raw value r code is ref) =
    chained (value_at tag name quote 0 []) (value_at tag name quote (length raw) value) raw r _ (raw_run tag name q is)
    (reference_run (record { tag = tag; name = name; quote = quote; count = length raw; value = value }) (quote_no_ampersand quote q) ref
    ∙ rw (length-append raw r) refl)

equals_on : (tag : Tag) (name : List ℕ) (b : ℕ) → is_blank b ≡ true → next (Equals tag name) b ≡ Within (Equals tag name)
equals_on tag name b e = rw e refl

gap_name_on : (tag : Tag) (name : List ℕ) (b : ℕ) → is_blank b ≡ true → next (AttributeGap tag name) b ≡ Within (AttributeGap tag name)
gap_name_on tag name b e = rw e refl

equals_run : (tag : Tag) (name before after : List ℕ) → AreBlanks before → AreBlanks after → run (AttributeName tag name) (before ++ (61 ∷ after)) ≡ Within (Equals tag name)
equals_run tag name [] after befores afters = blanks_run (Equals tag name) (equals_on tag name) after afters
equals_run tag name (b ∷ before) after befores afters =
    then_run (AttributeName tag name) (AttributeGap tag name) b (before ++ (61 ∷ after)) _ (rw (blank_no_name b befores.0, befores.0) refl) (chained (AttributeGap tag name) (AttributeGap tag name) before (61 ∷ after) _
    (blanks_run (AttributeGap tag name) (gap_name_on tag name) before befores.1)
    (blanks_run (Equals tag name) (equals_on tag name) after afters))

-- over the name of an attribute
pub attribute_run : (tag : Tag) (name : List ℕ) → IsName name → run (Gap tag) name ≡ Within (AttributeName tag name)
attribute_run tag [] is = absurd is
attribute_run tag (b ∷ bs) is = then_run (Gap tag) (AttributeName tag (b ∷ [])) b bs _ (rw is.0 refl) (attribute_name_run tag (b ∷ []) bs is.1)

-- over what stands before a value
pub opening_run : (tag : Tag) (p : Lex) (quote : ℕ) (name w : List ℕ) → TagState tag p → IsOpening quote name w → run p w ≡ Within (value_at tag name quote 0 [])
opening_run tag p quote name w state is =
    rw (is.spelled, append_assoc (is.blanks ++ name) is.before (61 ∷ is.after))
    (chained p (Equals tag name) (is.blanks ++ name ++ (is.before ++ (61 ∷ is.after))) (quote ∷ []) _
    (chained p (AttributeName tag name) (is.blanks ++ name) (is.before ++ (61 ∷ is.after)) _
    (chained p (Gap tag) is.blanks name _ (gap_run tag p is.blanks state is.some is.are_blanks) (attribute_run tag name is.is_name))
    (equals_run tag name is.before is.after is.are_before is.are_after))
    (then_run (Equals tag name) (value_at tag name quote 0 []) quote [] _ (rw (quote_no_blank quote is.is_quote, is.is_quote) refl) refl))

-- over a tag with its whole attributes
pub head_run : {w : List ℕ} {tag : Tag} → IsHead w tag → RanTo tag Between w
head_run (head_name [] is) = absurd is
head_run (head_name (b ∷ bs) is) = record { state = Name (b ∷ bs); ran = then_run Opened (Name (b ∷ [])) b bs _ (rw is.0 refl) (tag_name_run (b ∷ []) bs is.1); tagged = record { on = λ b e. rw e refl } }
head_run (head_more head tag quote name opening raw value is opens raws) =
    let ran = head_run is in
    record {
      state = Behind (with_attribute tag name value);
      ran = chained Between ran.state head (opening ++ raw ++ (quote ∷ [])) _ ran.ran
          (chained ran.state (value_at tag name quote (length raw) value) (opening ++ raw) (quote ∷ []) _
          (chained ran.state (value_at tag name quote 0 []) opening raw _ (opening_run tag ran.state quote name opening ran.tagged opens) (raw_run tag name opens.is_quote raws))
          (then_run (value_at tag name quote (length raw) value) (Behind (with_attribute tag name value)) quote [] _ (rw (same quote) refl) refl));
      tagged = record { on = λ b e. refl };
    }

-- comments, instructions and doctypes
some_same : {A : Type 0} (x y : A) → Some x ≡ Some y → x ≡ y
some_same x y h = cc

-- for each state in the item: where the end mark's front has been read, what is behind its first place is nothing
abbrev pub Ends : Lex → Item → List ℕ → List ℕ → List ℕ → Type 0
Ends p item mark read bs = behind_first mark (read ++ bs) ≡ Some [] → run p bs ≡ Whole item

question_step : (b : ℕ) (bs : List ℕ) (t u : Bool) → (b == 62) ≡ t → (b == 63) ≡ u → Ends InInstruction Instruction instruction_end [] bs → Ends Question Instruction instruction_end (63 ∷ []) bs → Ends Question Instruction instruction_end (63 ∷ []) (b ∷ bs)
question_step b bs true u e f x y h = let nil : bs ≡ [] = some_same bs [] (rw e at h) in rw nil (last_run Question Instruction b (rw e refl))
question_step b bs false true e f x y h = then_run Question Question b bs _ (rw (e, f) refl) (y (rw (equal b 63 f) at h))
question_step b bs false false e f x y h = then_run Question InInstruction b bs _ (rw (e, f) refl) (x (rw f at (rw e at h)))

instruction_step : (b : ℕ) (bs : List ℕ) (t : Bool) → (b == 63) ≡ t → Ends InInstruction Instruction instruction_end [] bs → Ends Question Instruction instruction_end (63 ∷ []) bs → Ends InInstruction Instruction instruction_end [] (b ∷ bs)
instruction_step b bs true e x y h = then_run InInstruction Question b bs _ (rw e refl) (y (rw (equal b 63 e) at h))
instruction_step b bs false e x y h = then_run InInstruction InInstruction b bs _ (rw e refl) (x (rw e at h))

instruction_run : (bs : List ℕ) → Ends InInstruction Instruction instruction_end [] bs × Ends Question Instruction instruction_end (63 ∷ []) bs
instruction_run [] = (λ h. absurd (cc), λ h. absurd (cc))
instruction_run (b ∷ bs) = let on = instruction_run bs in (instruction_step b bs (b == 63) refl on.0 on.1, question_step b bs (b == 62) (b == 63) refl refl on.0 on.1)

comment_step : (b : ℕ) (bs : List ℕ) (t : Bool) → (b == 45) ≡ t → Ends InComment Comment comment_end [] bs → Ends Dash Comment comment_end (45 ∷ []) bs → Ends InComment Comment comment_end [] (b ∷ bs)
comment_step b bs true e x y h = then_run InComment Dash b bs _ (rw e refl) (y (rw (equal b 45 e) at h))
comment_step b bs false e x y h = then_run InComment InComment b bs _ (rw e refl) (x (rw e at h))

dash_step : (b : ℕ) (bs : List ℕ) (t : Bool) → (b == 45) ≡ t → Ends InComment Comment comment_end [] bs → Ends DashDash Comment comment_end (45 ∷ 45 ∷ []) bs → Ends Dash Comment comment_end (45 ∷ []) (b ∷ bs)
dash_step b bs true e x y h = then_run Dash DashDash b bs _ (rw e refl) (y (rw (equal b 45 e) at h))
dash_step b bs false e x y h = then_run Dash InComment b bs _ (rw e refl) (x (rw e at h))

dashes_step : (b : ℕ) (bs : List ℕ) (t u : Bool) → (b == 62) ≡ t → (b == 45) ≡ u → Ends InComment Comment comment_end [] bs → Ends DashDash Comment comment_end (45 ∷ 45 ∷ []) bs → Ends DashDash Comment comment_end (45 ∷ 45 ∷ []) (b ∷ bs)
dashes_step b bs true u e f x y h = let nil : bs ≡ [] = some_same bs [] (rw e at h) in rw nil (last_run DashDash Comment b (rw e refl))
dashes_step b bs false true e f x y h = then_run DashDash DashDash b bs _ (rw (e, f) refl) (y (rw (equal b 45 f) at h))
dashes_step b bs false false e f x y h = then_run DashDash InComment b bs _ (rw (e, f) refl) (x (rw f at (rw e at h)))

comment_run : (bs : List ℕ) → Ends InComment Comment comment_end [] bs × Ends Dash Comment comment_end (45 ∷ []) bs × Ends DashDash Comment comment_end (45 ∷ 45 ∷ []) bs
comment_run [] = (λ h. absurd (cc), λ h. absurd (cc), λ h. absurd (cc))
comment_run (b ∷ bs) = let on = comment_run bs in (comment_step b bs (b == 45) refl on.0 on.1, dash_step b bs (b == 45) refl on.0 on.2, dashes_step b bs (b == 62) (b == 45) refl refl on.0 on.2)

doctype_run : (body : List ℕ) → AllPass is_doctype_byte body → run InDoctype (body ++ (62 ∷ [])) ≡ Whole Doctype
doctype_run [] are = refl
doctype_run (b ∷ body) are = then_run InDoctype InDoctype b (body ++ (62 ∷ [])) _ (rw (are.0, doctype_no_end b are.0) refl) (doctype_run body are.1)

end_gap_on : (name : List ℕ) (b : ℕ) → is_blank b ≡ true → next (EndGap name) b ≡ Within (EndGap name)
end_gap_on name b e = rw e refl

end_blanks_run : (name blanks : List ℕ) → AreBlanks blanks → run (EndName name) (blanks ++ (62 ∷ [])) ≡ Whole (End name)
end_blanks_run name [] are = refl
end_blanks_run name (b ∷ blanks) are = then_run (EndName name) (EndGap name) b (blanks ++ (62 ∷ [])) _ (rw (blank_no_name b are.0, are.0) refl) (chained (EndGap name) (EndGap name) blanks (62 ∷ []) _ (blanks_run (EndGap name) (end_gap_on name) blanks are.1) refl)

end_run : (name blanks : List ℕ) → IsName name → AreBlanks blanks → run EndOpened (name ++ (blanks ++ (62 ∷ []))) ≡ Whole (End name)
end_run [] blanks is are = absurd is
end_run (b ∷ bs) blanks is are = then_run EndOpened (EndName (b ∷ [])) b (bs ++ (blanks ++ (62 ∷ []))) _ (rw is.0 refl) (chained (EndName (b ∷ [])) (EndName (b ∷ bs)) bs (blanks ++ (62 ∷ [])) _ (end_name_run (b ∷ []) bs is.1) (end_blanks_run (b ∷ bs) blanks are))

-- The machine runs over each item.
pub item_run : {item : Item} {w : List ℕ} → IsItem item w → run Between w ≡ Whole item
item_run (is_text b plain) = last_run Between (Text b) b (rw plain refl)
item_run (is_instruction body up) = (instruction_run body).0 up
item_run (is_comment body up) = (comment_run body).0 up
item_run (is_doctype blank body is are) = then_run (Word []) InDoctype blank (body ++ (62 ∷ [])) _ (rw is refl) (doctype_run body are)
item_run (is_start head tag blanks is are) =
    let ran = head_run is in
    let gap = blanks_ran tag ran.state blanks ran.tagged are in
    chained Between ran.state head (blanks ++ (62 ∷ [])) _ ran.ran (chained ran.state gap.state blanks (62 ∷ []) _ gap.ran (last_run gap.state (Start tag) 62 (gap.tagged.on 62 refl)))
item_run (is_empty head tag blanks is are) =
    let ran = head_run is in
    let gap = blanks_ran tag ran.state blanks ran.tagged are in
    chained Between ran.state head (blanks ++ (47 ∷ 62 ∷ [])) _ ran.ran (chained ran.state gap.state blanks (47 ∷ 62 ∷ []) _ gap.ran (then_run gap.state (Slash tag) 47 (62 ∷ []) _ (gap.tagged.on 47 refl) refl))
item_run (is_end name blanks is are) = end_run name blanks is are
