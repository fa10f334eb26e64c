-- From each state some bytes end the item under way.
use Rattle.std.specs.Prelude.{◌≡◌, ◌≢◌, ℕ, ◌+◌, ◌*◌, ◌<◌, Bool, true, false, if◌then◌else◌, ◌==◌, nat_lt, List, [], ◌∷◌, ◌++◌, length}
use Rattle.std.proofs.Common.{refl, subst, arith, append_assoc}
use Rattle.std.proofs.lemmas.Bool.Decides.{nat_tests}
use Rattle.psa_text.specs.declared.tag.Tag.{Tag}
use Rattle.psa_text.specs.declared.scanner.item.Item.{Item}
use Rattle.psa_text.specs.declared.scanner.item.Item.TheVariants.{Start, Empty, End, Doctype, Text, Comment, Instruction}
use Rattle.psa_text.specs.TextBytes.{digit_of}
use Rattle.psa_text.specs.TextItems.{IsItem, bytes_of_reference, with_attribute}
use Rattle.psa_text.specs.scanner.Machine.{Inside, Reference, Ampersand, LetterA, Named, NumberSign, Digits, Lex, Opened, InInstruction, Question, Bang, BangDash, InComment, Dash, DashDash, Word, InDoctype, Name, Gap, Slash, AttributeName, AttributeGap, Equals, Value, Refer, Behind, EndOpened, EndName, EndGap, Next, Within, Whole, with_byte_counted, with_bytes, next}
use Rattle.psa_text.proofs.scanner.StatesReached.{Reached, at_between, Went, item_step, InReference, ref_ampersand, ref_letter, ref_named, ref_number, ref_decimal, ref_hexadecimal, at_opened, at_instruction, at_question, at_bang, at_bang_dash, at_comment, at_dash, at_dashes, at_word, at_doctype, at_name, at_gap, at_slash, at_attribute, at_attribute_gap, at_equals, at_value, at_refer, at_behind, at_end_opened, at_end_name, at_end_gap}

-- some bytes, at least one, make these an item
pub record Closes (w : List ℕ) : Type 0 where
  pub item : Item
  pub byte : ℕ
  pub more : List ℕ
  pub is_item : IsItem item (w ++ (byte ∷ more))

last : (p : Lex) (w : List ℕ) (b : ℕ) (item : Item) → next p b ≡ Whole item → Reached p w → Closes w
last p w b item e r = record { item = item; byte = b; more = []; is_item = subst (Went (w ++ (b ∷ []))) e (item_step b r) }

via : (p : Lex) (w : List ℕ) (b : ℕ) (q : Lex) → next p b ≡ Within q → ((v : List ℕ) → Reached q v → Closes v) → Reached p w → Closes w
via p w b q e on r =
    let closed = on (w ++ (b ∷ [])) (subst (Went (w ++ (b ∷ []))) e (item_step b r)) in
    record { item = closed.item; byte = b; more = closed.byte ∷ closed.more; is_item = rw append_assoc at closed.is_item }

same : (b : ℕ) → (b == b) ≡ true
same b = grind (arith, nat_tests)

same_byte : (c : ℕ) (x y : Next) → (if c == c then x else y) ≡ x
same_byte c x y = rw (same c) refl

closes_behind : (tag : Tag) (w : List ℕ) → Reached (Behind tag) w → Closes w
closes_behind tag w r = last (Behind tag) w 62 (Start tag) refl r

closes_value : (v : Inside) (w : List ℕ) → Reached (Value v) w → Closes w
closes_value v w r = via (Value v) w v.quote (Behind (with_attribute v.tag v.name v.value)) (same_byte v.quote _ _) (closes_behind (with_attribute v.tag v.name v.value)) r

closes_named : (v : Inside) (rest : List ℕ) (code : ℕ) (w : List ℕ) → Reached (Refer v (Named rest code)) w → Closes w
closes_named v [] code w r = via (Refer v (Named [] code)) w 59 (Value (with_bytes v (bytes_of_reference code))) refl (closes_value (with_bytes v (bytes_of_reference code))) r
closes_named v (c ∷ rest) code w r = via (Refer v (Named (c ∷ rest) code)) w c (Refer (with_byte_counted v) (Named rest code)) (same_byte c _ _) (closes_named (with_byte_counted v) rest code) r

closes_decimal : (v : Inside) (count number : ℕ) → 0 < count → (w : List ℕ) → Reached (Refer v (Digits 10 count number)) w → Closes w
closes_decimal v count number some w r =
    let t : nat_lt 0 count ≡ true = grind (arith, nat_tests, some) in
    via (Refer v (Digits 10 count number)) w 59 (Value (with_bytes v (bytes_of_reference number))) (rw t refl) (closes_value (with_bytes v (bytes_of_reference number))) r

closes_hexadecimal : (v : Inside) (count number : ℕ) (t : Bool) → nat_lt 0 count ≡ t → (w : List ℕ) → Reached (Refer v (Digits 16 count number)) w → Closes w
closes_hexadecimal v count number true t w r = via (Refer v (Digits 16 count number)) w 59 (Value (with_bytes v (bytes_of_reference number))) (rw t refl) (closes_value (with_bytes v (bytes_of_reference number))) r
closes_hexadecimal v count number false t w r =
    let small : nat_lt count 8 ≡ true = grind (arith, nat_tests, t) in
    let some : nat_lt 0 (count + 1) ≡ true = grind (arith, nat_tests) in
    via (Refer v (Digits 16 count number)) w 48 (Refer (with_byte_counted v) (Digits 16 (count + 1) (16 * number + digit_of 48))) (rw small refl)
    (λ u q. via (Refer (with_byte_counted v) (Digits 16 (count + 1) (16 * number + digit_of 48))) u 59 (Value (with_bytes (with_byte_counted v) (bytes_of_reference (16 * number + digit_of 48)))) (rw some refl) (closes_value (with_bytes (with_byte_counted v) (bytes_of_reference (16 * number + digit_of 48)))) q) r

digits_some : (digits : List ℕ) (count : ℕ) → digits ≢ [] → count ≡ length digits → 0 < count
digits_some [] count some is = absurd (some refl)
digits_some (d ∷ ds) count some is = rw is (omega arith)

closes_refer : (v : Inside) {r : Reference} {part : List ℕ} → InReference r part → (w : List ℕ) → Reached (Refer v r) w → Closes w
closes_refer v ref_ampersand w r = via (Refer v Ampersand) w 108 (Refer (with_byte_counted v) (Named (116 ∷ []) 60)) refl (closes_named (with_byte_counted v) (116 ∷ []) 60) r
closes_refer v ref_letter w r = via (Refer v LetterA) w 109 (Refer (with_byte_counted v) (Named (112 ∷ []) 38)) refl (closes_named (with_byte_counted v) (112 ∷ []) 38) r
closes_refer v (ref_named rest code part is) w r = closes_named v rest code w r
closes_refer v ref_number w r = via (Refer v NumberSign) w 48 (Refer (with_byte_counted v) (Digits 10 1 (10 * 0 + digit_of 48))) refl (closes_decimal (with_byte_counted v) 1 (10 * 0 + digit_of 48) (omega arith)) r
closes_refer v (ref_decimal digits count number some small counts spelled are) w r = closes_decimal v count number (digits_some digits count some counts) w r
closes_refer v (ref_hexadecimal digits count number small counts spelled are) w r = closes_hexadecimal v count number (nat_lt 0 count) refl w r

closes_equals : (tag : Tag) (name w : List ℕ) → Reached (Equals tag name) w → Closes w
closes_equals tag name w r = via (Equals tag name) w 34 (Value (record { tag = tag; name = name; quote = 34; count = 0; value = [] })) refl (closes_value (record { tag = tag; name = name; quote = 34; count = 0; value = [] })) r

closes_dashes : (w : List ℕ) → Reached DashDash w → Closes w
closes_dashes w r = last DashDash w 62 Comment refl r

closes_dash : (w : List ℕ) → Reached Dash w → Closes w
closes_dash w r = via Dash w 45 DashDash refl closes_dashes r

closes_comment : (w : List ℕ) → Reached InComment w → Closes w
closes_comment w r = via InComment w 45 Dash refl closes_dash r

closes_doctype : (w : List ℕ) → Reached InDoctype w → Closes w
closes_doctype w r = last InDoctype w 62 Doctype refl r

closes_word : (rest w : List ℕ) → Reached (Word rest) w → Closes w
closes_word [] w r = via (Word []) w 32 InDoctype refl closes_doctype r
closes_word (c ∷ rest) w r = via (Word (c ∷ rest)) w c (Word rest) (same_byte c _ _) (closes_word rest) r

closes_end_name : (n w : List ℕ) → Reached (EndName n) w → Closes w
closes_end_name n w r = last (EndName n) w 62 (End n) refl r

closes_name : (n w : List ℕ) → Reached (Name n) w → Closes w
closes_name n w r = last (Name n) w 62 (Start (record { name = n; attributes = [] })) refl r

-- each state that is reached is behind the part of an item
pub closes : {p : Lex} {w : List ℕ} → Reached p w → Closes w
closes at_between = record { item = Text 32; byte = 32; more = []; is_item = item_step 32 at_between }
closes at_opened = via Opened (60 ∷ []) 97 (Name (97 ∷ [])) refl (closes_name (97 ∷ [])) at_opened
closes (at_instruction body up) = via InInstruction _ 63 Question refl (λ v r. last Question v 62 Instruction refl r) (at_instruction body up)
closes (at_question body up) = last Question _ 62 Instruction refl (at_question body up)
closes at_bang = via Bang _ 45 BangDash refl (λ v r. via BangDash v 45 InComment refl closes_comment r) at_bang
closes at_bang_dash = via BangDash _ 45 InComment refl closes_comment at_bang_dash
closes (at_comment body up) = closes_comment _ (at_comment body up)
closes (at_dash body up) = closes_dash _ (at_dash body up)
closes (at_dashes body up) = closes_dashes _ (at_dashes body up)
closes (at_word read rest is) = closes_word rest _ (at_word read rest is)
closes (at_doctype blank body is are) = closes_doctype _ (at_doctype blank body is are)
closes (at_name n is) = closes_name n _ (at_name n is)
closes (at_gap head tag blanks is some are) = last (Gap tag) _ 62 (Start tag) refl (at_gap head tag blanks is some are)
closes (at_slash head tag blanks is are) = last (Slash tag) _ 62 (Empty tag) refl (at_slash head tag blanks is are)
closes (at_attribute head tag blanks name is some are named) = via (AttributeName tag name) _ 61 (Equals tag name) refl (closes_equals tag name) (at_attribute head tag blanks name is some are named)
closes (at_attribute_gap head tag blanks name before is some are named befores) = via (AttributeGap tag name) _ 61 (Equals tag name) refl (closes_equals tag name) (at_attribute_gap head tag blanks name before is some are named befores)
closes (at_equals head tag blanks name before after is some are named befores afters) = closes_equals tag name _ (at_equals head tag blanks name before after is some are named befores afters)
closes (at_value head tag quote name opening raw value count is opens raws counts) = closes_value _ _ (at_value head tag quote name opening raw value count is opens raws counts)
closes (at_refer head tag quote name opening raw value part count r is opens raws ref counts) = closes_refer _ ref _ (at_refer head tag quote name opening raw value part count r is opens raws ref counts)
closes (at_behind head tag is) = closes_behind tag _ (at_behind head tag is)
closes at_end_opened = via EndOpened _ 97 (EndName (97 ∷ [])) refl (closes_end_name (97 ∷ [])) at_end_opened
closes (at_end_name n is) = closes_end_name n _ (at_end_name n is)
closes (at_end_gap n blanks is are) = last (EndGap n) _ 62 (End n) refl (at_end_gap n blanks is are)
