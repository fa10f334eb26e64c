-- The bytes between the quotes are UTF-8 exactly where what they stand for, without the spaces at both ends, is. A text
-- may be cut before and behind a whole character; references, blanks and what they stand for are whole characters.
use Rattle.std.specs.Prelude.{◌≡◌, ℕ, ◌+◌, ◌<◌, Bool, true, false, if◌then◌else◌, ◌&&◌, ◌==◌, List, [], ◌∷◌, ◌++◌, length, reverse, slice_index, encode_utf8}
use Rattle.std.specs.Char.{IsScalar, is_ascii}
use Rattle.std.specs.Str.{IsUtf8, IsCharBoundary, is_utf8}
use Rattle.std.specs.Cmp.{both_ways}
use Rattle.std.proofs.Common.{refl, sym, ◌∙◌, ap, subst, arith, append_assoc, append-nil, length-append}
use Rattle.std.proofs.lemmas.Bool.{and_parts, and_from}
use Rattle.std.proofs.lemmas.Bool.Decides.{nat_tests}
use Rattle.std.proofs.lemmas.List.{take_at, drop_at, get_or-append-add, get_or_append_left, reverse-append, reverse-reverse}
use Rattle.std.proofs.lemmas.Str.{IsUtf8-from_is_utf8, is_utf8-from_IsUtf8, IsUtf8-nil, IsUtf8-append, IsUtf8-encode, IsUtf8-take, IsUtf8-drop, IsUtf8-past_char, IsCharBoundary-start, encode_ascii, length-encode, len_utf8_bounds}
use Rattle.psa_text.specs.TextBytes.{AllPass, is_blank, is_character, is_digit_of, spaced, trimmed_front, trimmed}
use Rattle.psa_text.specs.TextItems.{IsReference, is_less, is_greater, is_ampersand, is_quotation, is_apostrophe, is_decimal, is_hexadecimal, IsRaw, no_byte, and_byte, and_reference, bytes_of_reference}

-- a text may be cut before a character
cut_before : (front back : List ℕ) (c : ℕ) → IsScalar c → IsCharBoundary (front ++ (encode_utf8 c ++ back)) (length front)
cut_before front back c is =
    let some : 0 < length (encode_utf8 c) = omega (arith, length-encode c, (len_utf8_bounds c).0) in
    let whole = length-append front (encode_utf8 c ++ back) in
    let zero_on : length front + 0 ≡ length front = omega arith in
    let byte : slice_index (front ++ (encode_utf8 c ++ back)) (length front) ≡ slice_index (encode_utf8 c) 0 =
    ap (slice_index (front ++ (encode_utf8 c ++ back))) (sym zero_on) ∙ get_or-append-add front (encode_utf8 c ++ back) 0 0 ∙ get_or_append_left (encode_utf8 c) back 0 0 some in
    let start = (IsCharBoundary-start (encode_utf8 c) (IsUtf8-encode c is)).1 some in
    (omega (arith, whole), λ _ high. omega (arith, byte, start (omega (arith, byte))))

sides : (front back : List ℕ) (c : ℕ) → IsScalar c → IsUtf8 (front ++ (encode_utf8 c ++ back)) → IsUtf8 front × IsUtf8 back
sides front back c is text =
    let bytes = front ++ (encode_utf8 c ++ back) in
    let cut = cut_before front back c is in (
      subst IsUtf8 (take_at front (encode_utf8 c ++ back) (length front) refl) (IsUtf8-take bytes (length front) text cut),
      IsUtf8-past_char (encode_utf8 c ++ back) back c (subst IsUtf8 (drop_at front (encode_utf8 c ++ back) (length front) refl) (IsUtf8-drop bytes (length front) text cut)) refl,
    )

-- bytes with a character among them are UTF-8 exactly where the bytes on both sides are
around : (front back : List ℕ) (c : ℕ) → IsScalar c → is_utf8 (front ++ (encode_utf8 c ++ back)) ≡ (is_utf8 front && is_utf8 back)
around front back c is = both_ways _ _
    (λ h. let s = sides front back c is (IsUtf8-from_is_utf8 _ h) in and_from _ _ (is_utf8-from_IsUtf8 front s.0) (is_utf8-from_IsUtf8 back s.1))
    (λ h. let s = and_parts (is_utf8 front) (is_utf8 back) h in
    is_utf8-from_IsUtf8 _ (IsUtf8-append front (encode_utf8 c ++ back) (IsUtf8-from_is_utf8 front s.0) (IsUtf8-append (encode_utf8 c) back (IsUtf8-encode c is) (IsUtf8-from_is_utf8 back s.1))))

around_ascii : (front back : List ℕ) (b : ℕ) → is_ascii b ≡ true → is_utf8 (front ++ (b ∷ back)) ≡ (is_utf8 front && is_utf8 back)
around_ascii front back b is =
    let low : b < 128 = grind (arith, nat_tests, is) in
    let scalar : IsScalar b = grind (arith, nat_tests, low) in
    ap (λ bytes. is_utf8 (front ++ (bytes ++ back))) (sym (encode_ascii b low)) ∙ around front back b scalar

nil_utf8 : is_utf8 [] ≡ true
nil_utf8 = is_utf8-from_IsUtf8 [] IsUtf8-nil

past : (b : ℕ) (back : List ℕ) → is_ascii b ≡ true → is_utf8 (b ∷ back) ≡ is_utf8 back
past b back is = around_ascii [] back b is ∙ ap (λ t. t && is_utf8 back) nil_utf8

past_all : (bytes back : List ℕ) → AllPass is_ascii bytes → is_utf8 (bytes ++ back) ≡ is_utf8 back
past_all [] back are = refl
past_all (b ∷ bytes) back are = past b (bytes ++ back) are.0 ∙ past_all bytes back are.1

-- references are ASCII
digit_ascii : (base b : ℕ) → is_digit_of base b ≡ true → is_ascii b ≡ true
digit_ascii base b is = grind (arith, nat_tests, is)

digits_ascii : (base : ℕ) (digits : List ℕ) → AllPass (is_digit_of base) digits → AllPass is_ascii (digits ++ (59 ∷ []))
digits_ascii base [] are = (refl, tt)
digits_ascii base (d ∷ digits) are = (digit_ascii base d are.0, digits_ascii base digits are.1)

around_all : (front back : List ℕ) (b : ℕ) (bytes : List ℕ) → is_ascii b ≡ true → AllPass is_ascii bytes → is_utf8 (front ++ ((b ∷ bytes) ++ back)) ≡ (is_utf8 front && is_utf8 back)
around_all front back b bytes is are = around_ascii front (bytes ++ back) b is ∙ ap (λ t. is_utf8 front && t) (past_all bytes back are)

around_reference : {reference : List ℕ} {code : ℕ} (front back : List ℕ) → IsReference reference code → is_utf8 (front ++ (reference ++ back)) ≡ (is_utf8 front && is_utf8 back)
around_reference front back is_less = around_all front back 38 (108 ∷ 116 ∷ 59 ∷ []) refl (refl, (refl, (refl, tt)))
around_reference front back is_greater = around_all front back 38 (103 ∷ 116 ∷ 59 ∷ []) refl (refl, (refl, (refl, tt)))
around_reference front back is_ampersand = around_all front back 38 (97 ∷ 109 ∷ 112 ∷ 59 ∷ []) refl (refl, (refl, (refl, (refl, tt))))
around_reference front back is_quotation = around_all front back 38 (113 ∷ 117 ∷ 111 ∷ 116 ∷ 59 ∷ []) refl (refl, (refl, (refl, (refl, (refl, tt)))))
around_reference front back is_apostrophe = around_all front back 38 (97 ∷ 112 ∷ 111 ∷ 115 ∷ 59 ∷ []) refl (refl, (refl, (refl, (refl, (refl, tt)))))
around_reference front back (is_decimal digits some small are) = around_all front back 38 (35 ∷ (digits ++ (59 ∷ []))) refl (refl, digits_ascii 10 digits are)
around_reference front back (is_hexadecimal digits some small are) = around_all front back 38 (35 ∷ 120 ∷ (digits ++ (59 ∷ []))) refl (refl, (refl, digits_ascii 16 digits are))

-- what a reference stands for is a character
referred_scalar : (code : ℕ) → IsScalar (if is_character code then code else 0xFFFD)
referred_scalar code = on (is_character code) refl
  where
    on : (t : Bool) → is_character code ≡ t → IsScalar (if t then code else 0xFFFD)
    on true e = grind (arith, nat_tests, e)
    on false e = refl

around_referred : (front back : List ℕ) (code : ℕ) → is_utf8 (front ++ (bytes_of_reference code ++ back)) ≡ (is_utf8 front && is_utf8 back)
around_referred front back code = around front back _ (referred_scalar code)

-- a blank, and the space that it is turned into
around_spaced : (front back : List ℕ) (b : ℕ) → is_utf8 (front ++ (b ∷ back)) ≡ is_utf8 (front ++ (spaced b ∷ back))
around_spaced front back b = on (is_blank b) refl
  where
    blank_ascii : is_blank b ≡ true → is_ascii b ≡ true
    blank_ascii e = grind (arith, nat_tests, e)

    on : (t : Bool) → is_blank b ≡ t → is_utf8 (front ++ (b ∷ back)) ≡ is_utf8 (front ++ ((if t then 32 else b) ∷ back))
    on true e = around_ascii front back b (blank_ascii e) ∙ sym (around_ascii front back 32 refl)
    on false e = refl

-- whatever stands behind them, the bytes and what they stand for are UTF-8 together
raw_utf8 : {quote : ℕ} {raw value : List ℕ} (back : List ℕ) → IsRaw quote raw value → is_utf8 (raw ++ back) ≡ is_utf8 (value ++ back)
raw_utf8 back (no_byte quote) = refl
raw_utf8 back (and_byte quote raw value b is plain) =
    ap is_utf8 (append_assoc raw (b ∷ []) back) ∙ raw_utf8 (b ∷ back) is ∙ around_spaced value back b ∙ ap is_utf8 (sym (append_assoc value (spaced b ∷ []) back))
raw_utf8 back (and_reference quote raw value reference code is stands) =
    ap is_utf8 (append_assoc raw reference back) ∙ raw_utf8 (reference ++ back) is ∙ around_reference value back stands
    ∙ sym (around_referred value back code) ∙ ap is_utf8 (sym (append_assoc value (bytes_of_reference code) back))

-- spaces at the ends
trimmed_front_utf8 : (bytes : List ℕ) → is_utf8 (trimmed_front bytes) ≡ is_utf8 bytes
trimmed_front_utf8 [] = refl
trimmed_front_utf8 (b ∷ bytes) = on (b == 32) refl (trimmed_front_utf8 bytes)
  where
    on : (t : Bool) → (b == 32) ≡ t → is_utf8 (trimmed_front bytes) ≡ is_utf8 bytes → is_utf8 (if t then trimmed_front bytes else b ∷ bytes) ≡ is_utf8 (b ∷ bytes)
    on true e rest = rest ∙ sym (past b bytes (grind (arith, nat_tests, e)))
    on false e rest = refl

before_space : (bytes : List ℕ) (b : ℕ) → is_ascii b ≡ true → is_utf8 (bytes ++ (b ∷ [])) ≡ is_utf8 bytes
before_space bytes b is = around_ascii bytes [] b is ∙ ap (λ t. is_utf8 bytes && t) nil_utf8 ∙ and_true (is_utf8 bytes)
  where
    and_true : (t : Bool) → (t && true) ≡ t
    and_true true = refl
    and_true false = refl

reversed_utf8 : (bytes : List ℕ) → is_utf8 (reverse (trimmed_front bytes)) ≡ is_utf8 (reverse bytes)
reversed_utf8 [] = refl
reversed_utf8 (b ∷ bytes) = on (b == 32) refl (reversed_utf8 bytes)
  where
    on : (t : Bool) → (b == 32) ≡ t → is_utf8 (reverse (trimmed_front bytes)) ≡ is_utf8 (reverse bytes) → is_utf8 (reverse (if t then trimmed_front bytes else b ∷ bytes)) ≡ is_utf8 (reverse (b ∷ bytes))
    on true e rest = rest ∙ sym (before_space (reverse bytes) b (grind (arith, nat_tests, e))) ∙ ap is_utf8 (sym (reverse-append (b ∷ []) bytes))
    on false e rest = refl

trimmed_utf8 : (bytes : List ℕ) → is_utf8 (trimmed bytes) ≡ is_utf8 bytes
trimmed_utf8 bytes = reversed_utf8 (reverse (trimmed_front bytes)) ∙ ap is_utf8 (reverse-reverse (trimmed_front bytes)) ∙ trimmed_front_utf8 bytes

-- a finished value is UTF-8 exactly where the bytes between its quotes are
pub value_utf8 : {quote : ℕ} {raw value : List ℕ} → IsRaw quote raw value → is_utf8 raw ≡ is_utf8 (trimmed value)
value_utf8 {raw = raw} {value = value} is = ap is_utf8 (sym (append-nil raw)) ∙ raw_utf8 [] is ∙ ap is_utf8 (append-nil value) ∙ sym (trimmed_utf8 value)
