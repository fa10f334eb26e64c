-- The faults within the item under way: each test of the machine finds exactly what the definition names.
use Rattle.std.specs.Prelude.{◌≡◌, ◌≢◌, ℕ, ◌+◌, ◌*◌, ◌≤◌, ◌<◌, Bool, true, false, not, ◌&&◌, ◌||◌, ◌==◌, nat_lt, nat_le, List, [], ◌∷◌, ◌++◌, length}
use Rattle.std.specs.Str.{is_utf8}
use Rattle.std.proofs.Common.{refl, ◌∙◌, ap, arith, append_assoc}
use Rattle.std.proofs.lemmas.Bool.Decides.{nat_tests}
use Rattle.psa_text.specs.declared.tag.Tag.{Tag}
use Rattle.psa_text.specs.TextBytes.{AllPass, AreBlanks, IsName, is_name_byte, is_quote, is_digit_of, digit_of, number_behind, trimmed, is_character}
use Rattle.psa_text.specs.TextItems.{IsReference, is_less, is_greater, is_ampersand, is_quotation, is_apostrophe, is_decimal, is_hexadecimal, IsRaw, no_byte, and_byte, and_reference, IsOpening, IsHead}
use Rattle.psa_text.specs.TextFaults.{EndsInName, in_tag, in_end_tag, in_attribute, IsLong, long_name, many_attributes, long_value, IsBadEnd, bad_name, bad_value, bad_reference}
use Rattle.psa_text.specs.scanner.Machine.{Inside, Reference, Ampersand, NumberSign, Digits, Lex, Between, Opened, Name, Gap, AttributeName, Value, Refer, EndOpened, EndName, Next, Within, with_byte_counted, is_long, is_bad_end, is_bad_reference}
use Rattle.psa_text.proofs.scanner.StatesReached.{equal, and_true, InReference, ref_ampersand, ref_letter, ref_named, ref_number, ref_decimal, ref_hexadecimal, Reached, at_name, at_attribute, at_value, at_refer, at_end_name}
use Rattle.psa_text.proofs.scanner.ValuesUtf8.{value_utf8}
use Rattle.psa_text.proofs.scanner.ItemsRun.{run, then_run, chained, head_run, gap_run, attribute_run, opening_run, raw_run, value_at, tag_name_run, end_name_run, digits_run, digit_no_x, quote_no_ampersand, same}

not_true : (t : Bool) → not t ≡ true → t ≡ false
not_true true h = cc
not_true false h = refl

some_digits : (digits : List ℕ) (n : ℕ) → n ≡ length digits → nat_lt 0 n ≡ true → digits ≢ []
some_digits [] n e t = absurd (grind (arith, nat_tests, e, t))
some_digits (d ∷ ds) n e t = λ h. cc

-- Sound: a byte that the machine finds to end badly does.
bad_number : (head : List ℕ) (tag : Tag) (quote : ℕ) (name opening raw value : List ℕ) (part reference : List ℕ) (code b : ℕ) → IsHead head tag → IsOpening quote name opening → IsRaw quote raw value → IsReference reference code → is_character code ≡ false → reference ≡ part ++ (b ∷ []) → IsBadEnd (head ++ (opening ++ (raw ++ part))) b
bad_number head tag quote name opening raw value part reference code b is opens raws ref other spelled =
    bad_reference head tag quote name opening raw value (head ++ (opening ++ (raw ++ part))) reference code b is opens raws ref other
    (append_assoc head (opening ++ (raw ++ part)) (b ∷ []) ∙ ap (λ x. head ++ x) (append_assoc opening (raw ++ part) (b ∷ []) ∙ ap (λ x. opening ++ x) (append_assoc raw part (b ∷ []) ∙ rw spelled refl)))

-- what the machine finds to end badly does
pub bad_sound : {p : Lex} {w : List ℕ} (b : ℕ) → Reached p w → is_bad_end p b ≡ true → IsBadEnd w b
bad_sound b (at_name n is) h =
    let t = and_true (not (is_name_byte b)) (not (is_utf8 n)) h in
    bad_name (60 ∷ n) n b (in_tag n is) (not_true (is_name_byte b) t.0) (not_true (is_utf8 n) t.1)
bad_sound b (at_end_name n is) h =
    let t = and_true (not (is_name_byte b)) (not (is_utf8 n)) h in
    bad_name (60 ∷ 47 ∷ n) n b (in_end_tag n is) (not_true (is_name_byte b) t.0) (not_true (is_utf8 n) t.1)
bad_sound b (at_attribute head tag blanks name is some are named) h =
    let t = and_true (not (is_name_byte b)) (not (is_utf8 name)) h in
    bad_name (head ++ (blanks ++ name)) name b (in_attribute head tag blanks name is some are named) (not_true (is_name_byte b) t.0) (not_true (is_utf8 name) t.1)
bad_sound b (at_value head tag quote name opening raw value count is opens raws counts) h =
    let t = and_true (b == quote) (not (is_utf8 (trimmed value))) h in
    rw (equal b quote t.0) (bad_value head tag quote name opening raw value is opens raws (value_utf8 raws ∙ not_true (is_utf8 (trimmed value)) t.1))
bad_sound b (at_refer head tag quote name opening raw value _ count _ is opens raws (ref_decimal digits n number some small counts spelled are) counted') h =
    let t = and_true ((b == 59) && nat_lt 0 n) (not (is_character number)) h in
    let u = and_true (b == 59) (nat_lt 0 n) t.0 in
    bad_number head tag quote name opening raw value (38 ∷ 35 ∷ digits) (38 ∷ 35 ∷ (digits ++ (59 ∷ []))) (number_behind 10 0 digits) b is opens raws (is_decimal digits some (rw (← counts) small) are) (rw (spelled) at (not_true (is_character number) t.1)) (rw (equal b 59 u.0) refl)
bad_sound b (at_refer head tag quote name opening raw value _ count _ is opens raws (ref_hexadecimal digits n number small counts spelled are) counted') h =
    let t = and_true ((b == 59) && nat_lt 0 n) (not (is_character number)) h in
    let u = and_true (b == 59) (nat_lt 0 n) t.0 in
    bad_number head tag quote name opening raw value (38 ∷ 35 ∷ 120 ∷ digits) (38 ∷ 35 ∷ 120 ∷ (digits ++ (59 ∷ []))) (number_behind 16 0 digits) b is opens raws (is_hexadecimal digits (some_digits digits n counts u.1) (rw (← counts) small) are) (rw (spelled) at (not_true (is_character number) t.1)) (rw (equal b 59 u.0) refl)
bad_sound b (at_refer head tag quote name opening raw value _ count _ is opens raws ref_ampersand counted') h = absurd (cc)
bad_sound b (at_refer head tag quote name opening raw value _ count _ is opens raws ref_letter counted') h = absurd (cc)
bad_sound b (at_refer head tag quote name opening raw value _ count _ is opens raws (ref_named rest code part ref) counted') h = absurd (cc)
bad_sound b (at_refer head tag quote name opening raw value _ count _ is opens raws ref_number counted') h = absurd (cc)
bad_sound b _ h = absurd (cc)

-- no quote stands in a value
either_quote : (quote : ℕ) → is_quote quote ≡ true → (quote == 34) ≡ false → quote ≡ 39
either_quote quote q e = equal quote 39 (rw e at q)

-- no byte is the quote
abbrev pub NoQuote : ℕ → List ℕ → Type 0
NoQuote quote bytes = AllPass (λ b. not (b == quote)) bytes

all_front : (test : ℕ → Bool) (xs ys : List ℕ) → AllPass test (xs ++ ys) → AllPass test xs
all_front test [] ys h = tt
all_front test (x ∷ xs) ys h = (h.0, all_front test xs ys h.1)

all_join : (test : ℕ → Bool) (xs ys : List ℕ) → AllPass test xs → AllPass test ys → AllPass test (xs ++ ys)
all_join test [] ys h k = k
all_join test (x ∷ xs) ys h k = (h.0, all_join test xs ys h.1 k)

all_weaker : (p q : ℕ → Bool) → ((b : ℕ) → p b ≡ true → q b ≡ true) → (xs : List ℕ) → AllPass p xs → AllPass q xs
all_weaker p q on [] h = tt
all_weaker p q on (x ∷ xs) h = (on x h.0, all_weaker p q on xs h.1)

digit_no_34 : (b : ℕ) → is_digit_of 16 b ≡ true → not (b == 34) ≡ true
digit_no_34 b e = grind (arith, nat_tests, e)

digit_no_39 : (b : ℕ) → is_digit_of 16 b ≡ true → not (b == 39) ≡ true
digit_no_39 b e = grind (arith, nat_tests, e)

ten_of_34 : (b : ℕ) → is_digit_of 10 b ≡ true → not (b == 34) ≡ true
ten_of_34 b e = grind (arith, nat_tests, e)

ten_of_39 : (b : ℕ) → is_digit_of 10 b ≡ true → not (b == 39) ≡ true
ten_of_39 b e = grind (arith, nat_tests, e)

reference_no_34 : {r : List ℕ} {code : ℕ} → IsReference r code → NoQuote 34 r
reference_no_34 is_less = (refl, (refl, (refl, (refl, tt))))
reference_no_34 is_greater = (refl, (refl, (refl, (refl, tt))))
reference_no_34 is_ampersand = (refl, (refl, (refl, (refl, (refl, tt)))))
reference_no_34 is_quotation = (refl, (refl, (refl, (refl, (refl, (refl, tt))))))
reference_no_34 is_apostrophe = (refl, (refl, (refl, (refl, (refl, (refl, tt))))))
reference_no_34 (is_decimal digits some small are) = (refl, (refl, all_join (λ b. not (b == 34)) digits (59 ∷ []) (all_weaker (is_digit_of 10) (λ b. not (b == 34)) ten_of_34 digits are) (refl, tt)))
reference_no_34 (is_hexadecimal digits some small are) = (refl, (refl, (refl, all_join (λ b. not (b == 34)) digits (59 ∷ []) (all_weaker (is_digit_of 16) (λ b. not (b == 34)) digit_no_34 digits are) (refl, tt))))

reference_no_39 : {r : List ℕ} {code : ℕ} → IsReference r code → NoQuote 39 r
reference_no_39 is_less = (refl, (refl, (refl, (refl, tt))))
reference_no_39 is_greater = (refl, (refl, (refl, (refl, tt))))
reference_no_39 is_ampersand = (refl, (refl, (refl, (refl, (refl, tt)))))
reference_no_39 is_quotation = (refl, (refl, (refl, (refl, (refl, (refl, tt))))))
reference_no_39 is_apostrophe = (refl, (refl, (refl, (refl, (refl, (refl, tt))))))
reference_no_39 (is_decimal digits some small are) = (refl, (refl, all_join (λ b. not (b == 39)) digits (59 ∷ []) (all_weaker (is_digit_of 10) (λ b. not (b == 39)) ten_of_39 digits are) (refl, tt)))
reference_no_39 (is_hexadecimal digits some small are) = (refl, (refl, (refl, all_join (λ b. not (b == 39)) digits (59 ∷ []) (all_weaker (is_digit_of 16) (λ b. not (b == 39)) digit_no_39 digits are) (refl, tt))))

by_quote : (bytes : List ℕ) (quote : ℕ) → is_quote quote ≡ true → NoQuote 34 bytes → NoQuote 39 bytes → NoQuote quote bytes
by_quote bytes quote q x y = on (quote == 34) refl
  where
    on : (t : Bool) → (quote == 34) ≡ t → NoQuote quote bytes
    on true e = rw (equal quote 34 e) x
    on false e = rw (either_quote quote q e) y

value_byte_other : (quote b : ℕ) → ((b == quote) || (b == 38) || (b == 60)) ≡ false → not (b == quote) ≡ true
value_byte_other quote b e = on (b == quote) refl
  where
    on : (t : Bool) → (b == quote) ≡ t → not t ≡ true
    on true f = absurd (let g = rw f at e in cc)
    on false f = refl

raw_no_quote : {quote : ℕ} {raw value : List ℕ} → is_quote quote ≡ true → IsRaw quote raw value → NoQuote quote raw
raw_no_quote q (no_byte quote) = tt
raw_no_quote q (and_byte quote raw value b is plain) = all_join (λ c. not (c == quote)) raw (b ∷ []) (raw_no_quote q is) (value_byte_other quote b (not_true ((b == quote) || (b == 38) || (b == 60)) plain), tt)
raw_no_quote q (and_reference quote raw value r code is ref) = all_join (λ c. not (c == quote)) raw r (raw_no_quote q is) (by_quote r quote q (reference_no_34 ref) (reference_no_39 ref))

part_no_quote : {r : Reference} {part : List ℕ} (quote : ℕ) → is_quote quote ≡ true → InReference r part → NoQuote quote part
part_no_quote quote q ref_ampersand = by_quote (38 ∷ []) quote q (refl, tt) (refl, tt)
part_no_quote quote q ref_letter = by_quote (38 ∷ 97 ∷ []) quote q (refl, (refl, tt)) (refl, (refl, tt))
part_no_quote quote q (ref_named rest code part is) = all_front (λ b. not (b == quote)) part (rest ++ (59 ∷ [])) (by_quote (part ++ (rest ++ (59 ∷ []))) quote q (reference_no_34 is) (reference_no_39 is))
part_no_quote quote q ref_number = by_quote (38 ∷ 35 ∷ []) quote q (refl, (refl, tt)) (refl, (refl, tt))
part_no_quote quote q (ref_decimal digits n number some small counts spelled are) = by_quote (38 ∷ 35 ∷ digits) quote q (refl, (refl, all_weaker (is_digit_of 10) (λ b. not (b == 34)) ten_of_34 digits are)) (refl, (refl, all_weaker (is_digit_of 10) (λ b. not (b == 39)) ten_of_39 digits are))
part_no_quote quote q (ref_hexadecimal digits n number small counts spelled are) = by_quote (38 ∷ 35 ∷ 120 ∷ digits) quote q (refl, (refl, (refl, all_weaker (is_digit_of 16) (λ b. not (b == 34)) digit_no_34 digits are))) (refl, (refl, (refl, all_weaker (is_digit_of 16) (λ b. not (b == 39)) digit_no_39 digits are)))

-- Sound: a state that the machine finds too long is.
above : (n m : ℕ) → nat_lt n m ≡ true → n < m
above n m h = grind (arith, nat_tests, h)

at_least : (n m : ℕ) → nat_le n m ≡ true → n ≤ m
at_least n m h = grind (arith, nat_tests, h)

long_attribute : (head : List ℕ) (tag : Tag) (blanks name : List ℕ) (t : Bool) → nat_lt 64 (length name) ≡ t → IsHead head tag → blanks ≢ [] → AreBlanks blanks → IsName name → (t || nat_le 32 (length tag.attributes)) ≡ true → IsLong (head ++ (blanks ++ name))
long_attribute head tag blanks name true e is some are named h = long_name (head ++ (blanks ++ name)) name (in_attribute head tag blanks name is some are named) (above 64 (length name) e)
long_attribute head tag blanks name false e is some are named h = many_attributes head tag blanks name is (at_least 32 (length tag.attributes) h) some are named

-- what the machine finds too long is
pub long_sound : {p : Lex} {w : List ℕ} → Reached p w → is_long p ≡ true → IsLong w
long_sound (at_name n is) h = long_name (60 ∷ n) n (in_tag n is) (above 64 (length n) h)
long_sound (at_end_name n is) h = long_name (60 ∷ 47 ∷ n) n (in_end_tag n is) (above 64 (length n) h)
long_sound (at_attribute head tag blanks name is some are named) h = long_attribute head tag blanks name (nat_lt 64 (length name)) refl is some are named h
long_sound (at_value head tag quote name opening raw value count is opens raws counts) h =
    long_value head tag quote name opening raw is opens (raw_no_quote opens.is_quote raws) (rw (← counts) (above 512 count h))
long_sound (at_refer head tag quote name opening raw value part count r is opens raws ref counts) h =
    long_value head tag quote name opening (raw ++ part) is opens (all_join (λ b. not (b == quote)) raw part (raw_no_quote opens.is_quote raws) (part_no_quote quote opens.is_quote ref)) (rw (← counts) (above 512 count h))
long_sound _ h = absurd (cc)

-- Complete: what the definition names, the machine finds.
pub record EndsBadly (part : List ℕ) (b : ℕ) : Type 0 where
  pub state : Lex
  pub ran : run Between part ≡ Within state
  pub bad : is_bad_end state b ≡ true

-- the machine stands in a name, which it judges as the definition does
pub record NameRun (part name : List ℕ) : Type 0 where
  pub state : Lex
  pub ran : run Between part ≡ Within state
  pub bad : (b : ℕ) → is_name_byte b ≡ false → is_utf8 name ≡ false → is_bad_end state b ≡ true
  pub long : 64 < length name → is_long state ≡ true

is_above : (n m : ℕ) → n < m → nat_lt n m ≡ true
is_above n m h = grind (arith, nat_tests, h)

is_at_least : (n m : ℕ) → n ≤ m → nat_le n m ≡ true
is_at_least n m h = grind (arith, nat_tests, h)

or_true : (t : Bool) → (t || true) ≡ true
or_true true = refl
or_true false = refl

-- the machine runs over a tag up to the name of an attribute
pub attribute_part_run : (head : List ℕ) (tag : Tag) (blanks name : List ℕ) → IsHead head tag → blanks ≢ [] → AreBlanks blanks → IsName name → run Between (head ++ (blanks ++ name)) ≡ Within (AttributeName tag name)
attribute_part_run head tag blanks name is some are named =
    let ran = head_run is in
    chained Between ran.state head (blanks ++ name) _ ran.ran (chained ran.state (Gap tag) blanks name _ (gap_run tag ran.state blanks ran.tagged some are) (attribute_run tag name named))

-- the machine runs over a part that ends in a name
pub name_run : {part name : List ℕ} → EndsInName part name → NameRun part name
name_run (in_tag [] is) = absurd is
name_run (in_tag (c ∷ cs) is) = record { state = Name (c ∷ cs); ran = then_run Opened (Name (c ∷ [])) c cs _ (rw is.0 refl) (tag_name_run (c ∷ []) cs is.1); bad = λ b e f. rw (e, f) refl; long = λ h. is_above 64 (length (c ∷ cs)) h }
name_run (in_end_tag [] is) = absurd is
name_run (in_end_tag (c ∷ cs) is) = record { state = EndName (c ∷ cs); ran = then_run EndOpened (EndName (c ∷ [])) c cs _ (rw is.0 refl) (end_name_run (c ∷ []) cs is.1); bad = λ b e f. rw (e, f) refl; long = λ h. is_above 64 (length (c ∷ cs)) h }
name_run (in_attribute head tag blanks name is some are named) = record { state = AttributeName tag name; ran = attribute_part_run head tag blanks name is some are named; bad = λ b e f. rw (e, f) refl; long = λ h. rw (is_above 64 (length name) h) refl }

-- the machine runs over a tag up to the quote of a value, and on
pub opened_run : (head : List ℕ) (tag : Tag) (quote : ℕ) (name opening rest : List ℕ) (n : Next) → IsHead head tag → IsOpening quote name opening → run (value_at tag name quote 0 []) rest ≡ n → run Between (head ++ (opening ++ rest)) ≡ n
opened_run head tag quote name opening rest n is opens h =
    let ran = head_run is in
    chained Between ran.state head (opening ++ rest) n ran.ran (chained ran.state (value_at tag name quote 0 []) opening rest n (opening_run tag ran.state quote name opening ran.tagged opens) h)

-- equal lists have equal last items
pub push_same : (xs ys : List ℕ) (a b : ℕ) → xs ++ (a ∷ []) ≡ ys ++ (b ∷ []) → (xs ≡ ys) × (a ≡ b)
push_same [] [] a b h = (refl, cc)
push_same [] (y ∷ ys) a b h = absurd (nil_push ys (cc))
  where
    nil_push : (ys : List ℕ) → [] ≡ ys ++ (b ∷ []) → ⊥
    nil_push [] h = cc
    nil_push (z ∷ ys) h = cc
push_same (x ∷ xs) [] a b h = absurd (nil_push xs (cc))
  where
    nil_push : (xs : List ℕ) → xs ++ (a ∷ []) ≡ [] → ⊥
    nil_push [] h = cc
    nil_push (z ∷ xs) h = cc
push_same (x ∷ xs) (y ∷ ys) a b h =
    let head : x ≡ y = cc in
    let rest = push_same xs ys a b (cc) in
    (rw (head, rest.0) refl, rest.1)

bad_number_run : (head : List ℕ) (tag : Tag) (quote : ℕ) (name opening raw value digits : List ℕ) (mark : List ℕ) (part : List ℕ) (b : ℕ) (r : Reference) (v : Inside) → IsHead head tag → IsOpening quote name opening → IsRaw quote raw value → run (value_at tag name quote (length raw) value) (mark ++ digits) ≡ Within (Refer v r) → is_bad_reference r 59 ≡ true → part ++ (b ∷ []) ≡ head ++ (opening ++ (raw ++ (mark ++ (digits ++ (59 ∷ []))))) → EndsBadly part b
bad_number_run head tag quote name opening raw value digits mark part b r v is opens raws ran bad spelled =
    let joined : part ++ (b ∷ []) ≡ (head ++ (opening ++ (raw ++ (mark ++ digits)))) ++ (59 ∷ []) =
    spelled ∙ rw (append_assoc head (opening ++ (raw ++ (mark ++ digits))) (59 ∷ []), append_assoc opening (raw ++ (mark ++ digits)) (59 ∷ []), append_assoc raw (mark ++ digits) (59 ∷ []), append_assoc mark digits (59 ∷ [])) refl in
    let same = push_same part (head ++ (opening ++ (raw ++ (mark ++ digits)))) b 59 joined in
    record {
      state = Refer v r;
      ran = rw (same.0) (opened_run head tag quote name opening (raw ++ (mark ++ digits)) _ is opens (chained (value_at tag name quote 0 []) (value_at tag name quote (length raw) value) raw (mark ++ digits) _ (raw_run tag name opens.is_quote raws) ran));
      bad = rw (same.1) bad;
    }

decimal_run : (v : Inside) (d : ℕ) (ds : List ℕ) → (38 == v.quote) ≡ false → AllPass (is_digit_of 10) (d ∷ ds) → length (d ∷ ds) ≤ 8 → run (Value v) (38 ∷ 35 ∷ d ∷ ds) ≡ Within (Refer (record v { count = v.count + 1 + 1 + 1 + length ds }) (Digits 10 (1 + length ds) (number_behind 10 0 (d ∷ ds))))
decimal_run v d ds e are small =
    let inner = with_byte_counted (with_byte_counted (with_byte_counted v)) in
    let fits : 1 + length ds ≤ 8 = omega (arith, small) in
    then_run (Value v) (Refer (with_byte_counted v) Ampersand) 38 (35 ∷ d ∷ ds) _ (rw e refl) (then_run (Refer (with_byte_counted (with_byte_counted v)) NumberSign) (Refer inner (Digits 10 1 (10 * 0 + digit_of d))) d ds _ (rw (digit_no_x d are.0, are.0) refl) (digits_run 10 inner 1 (10 * 0 + digit_of d) ds fits are.1))

hexadecimal_run : (v : Inside) (digits : List ℕ) → (38 == v.quote) ≡ false → AllPass (is_digit_of 16) digits → length digits ≤ 8 → run (Value v) (38 ∷ 35 ∷ 120 ∷ digits) ≡ Within (Refer (record v { count = v.count + 1 + 1 + 1 + length digits }) (Digits 16 (0 + length digits) (number_behind 16 0 digits)))
hexadecimal_run v digits e are small =
    let inner = with_byte_counted (with_byte_counted (with_byte_counted v)) in
    let fits : 0 + length digits ≤ 8 = omega (arith, small) in
    then_run (Value v) (Refer (with_byte_counted v) Ampersand) 38 (35 ∷ 120 ∷ digits) _ (rw e refl) (digits_run 16 inner 0 0 digits fits are)

some_length : (digits : List ℕ) → digits ≢ [] → nat_lt 0 (0 + length digits) ≡ true
some_length [] some = absurd (some refl)
some_length (d ∷ ds) some = grind (arith, nat_tests)

-- what ends badly, the machine finds
pub bad_complete : {part : List ℕ} {b : ℕ} → IsBadEnd part b → EndsBadly part b
bad_complete (bad_name part name b ends other bad) = let n = name_run ends in record { state = n.state; ran = n.ran; bad = n.bad b other bad }
bad_complete (bad_value head tag quote name opening raw value is opens raws bad) = record {
  state = value_at tag name quote (length raw) value;
  ran = opened_run head tag quote name opening raw _ is opens (raw_run tag name opens.is_quote raws);
  bad = rw (same quote, ← value_utf8 raws, bad) refl;
}
bad_complete (bad_reference head tag quote name opening raw value part _ _ b is opens raws is_less other spelled) = absurd (cc)
bad_complete (bad_reference head tag quote name opening raw value part _ _ b is opens raws is_greater other spelled) = absurd (cc)
bad_complete (bad_reference head tag quote name opening raw value part _ _ b is opens raws is_ampersand other spelled) = absurd (cc)
bad_complete (bad_reference head tag quote name opening raw value part _ _ b is opens raws is_quotation other spelled) = absurd (cc)
bad_complete (bad_reference head tag quote name opening raw value part _ _ b is opens raws is_apostrophe other spelled) = absurd (cc)
bad_complete (bad_reference head tag quote name opening raw value part _ _ b is opens raws (is_decimal [] some small are) other spelled) = absurd (some refl)
bad_complete (bad_reference head tag quote name opening raw value part _ _ b is opens raws (is_decimal (d ∷ ds) some small are) other spelled) =
    bad_number_run head tag quote name opening raw value (d ∷ ds) (38 ∷ 35 ∷ []) part b _ _ is opens raws
    (decimal_run (record { tag = tag; name = name; quote = quote; count = length raw; value = value }) d ds (quote_no_ampersand quote opens.is_quote) are small)
    (rw (is_above 0 (1 + length ds) (omega arith), other) refl) spelled
bad_complete (bad_reference head tag quote name opening raw value part _ _ b is opens raws (is_hexadecimal digits some small are) other spelled) =
    bad_number_run head tag quote name opening raw value digits (38 ∷ 35 ∷ 120 ∷ []) part b _ _ is opens raws
    (hexadecimal_run (record { tag = tag; name = name; quote = quote; count = length raw; value = value }) digits (quote_no_ampersand quote opens.is_quote) are small)
    (rw (some_length digits some, other) refl) spelled
