-- The text that is printed for a number of units is its text by the definition, and reads as the number.
use Rattle.std.proofs.Common.{rules, cond, int_lt, unsigned_abs, ne_eqb, ◌==◌, ℕ, ℤ, pos, negsuc, zero, suc, ◌≡◌, ◌+◌, ◌-◌, ◌*◌, ◌/◌, ◌%◌, ◌^◌, ◌<◌, ◌≤◌, ◌-ℤ◌, Bool, true, false, not, ◌&&◌, List, [], ◌∷◌, ◌++◌, length, take, drop, Some, Ok, nat_lt, refl, ap, ap₂, sym, ◌∙◌, arith, append_assoc, append-nil, length-append, le-ltb, le-leb}
use Rattle.std.specs.List.{list_all, prefix_len, position_or_len, before_first, after_first}
use Rattle.std.specs.Char.{is_ascii_digit, digit_value}
use Rattle.std.specs.Str.Parse.{digits_value_after, digits_value, starts_with_minus, without_leading_sign}
use Rattle.std.specs.Fmt.{decimal}
use Rattle.std.proofs.Math.Nat.{pow-suc}
use Rattle.std.proofs.lemmas.Bool.Decides.{nat_tests}
use Rattle.std.proofs.lemmas.Grind.{common_steps}
use Rattle.std.proofs.lemmas.List.Folds.{list_all-append}
use Rattle.std.proofs.lemmas.Str.Parse.{IsNumeralModel, numerals_by_value}
use Rattle.std.proofs.lemmas.Fmt.{decimal_digit, decimal_step, length-decimal-le, digits_decimal, digits_value-decimal, decimal_nonempty}
use Rattle.psa_number.specs.DecimalText.{last_digits, are_digits, is_point, is_mark, exponent_part, unsigned_of, number_of, scaled_of, decimal_of, text_of_units, scaled_of_units, sign_of}
use Rattle.psa_number.specs.Units.{units}
use Rattle.psa_number.proofs.DigitLemmas.{after_push, after_append, digit_of, unsigned_reads}

-- one digit
pub whole_digit : (t : List ℕ) (n : ℕ) → n < 10 → t ++ (48 + n % 10) ∷ [] ≡ t ++ decimal n
whole_digit t n small = let same : n % 10 ≡ n = omega arith in rw (decimal_digit n small, same) refl

-- The digits of a number below 10^7, but for its last, are at most 7.
pub front_short : (n : ℕ) → n < 10 ^ 7 → length (decimal (n / 10)) ≤ 7
front_short n small = length-decimal-le 7 (n / 10) (omega arith) (omega arith) (omega arith)

-- a digit more
pub whole_step : (t : List ℕ) (n : ℕ) → 10 ≤ n → n < 10 ^ 7 → (t ++ decimal (n / 10)) ++ (48 + n % 10) ∷ [] ≡ t ++ decimal n
whole_step t n more small = let fits : n < 2 ^ 64 = omega arith in append_assoc t (decimal (n / 10)) ((48 + n % 10) ∷ []) ∙ ap (λ (ds : List ℕ). t ++ ds) (sym (decimal_step n more fits))

-- The last digits of a number are as many as are asked for.
pub length-last_digits : (places n : ℕ) → length (last_digits places n) ≡ places
unfolding last_digits
length-last_digits zero n = refl
length-last_digits (suc places) n = omega (arith, length-append (last_digits places (n / 10)) ((48 + n % 10) ∷ []), length-last_digits places (n / 10))

-- No digits more leave the text as it is.
pub last_none : (t : List ℕ) (n : ℕ) → t ≡ t ++ last_digits 0 n
unfolding last_digits
last_none t n = sym (append-nil t)

-- One digit behind the last digits of a tenth of a number gives one digit more of the number.
pub last_step : (t : List ℕ) (places n : ℕ) → 0 < places → (t ++ last_digits (places - 1) (n / 10)) ++ (48 + n % 10) ∷ [] ≡ t ++ last_digits places n
unfolding last_digits
last_step t zero n some = absurd (omega arith)
last_step t (suc places) n some = let less : suc places - 1 ≡ places = omega arith in rw less (append_assoc t (last_digits places (n / 10)) ((48 + n % 10) ∷ []))

-- ---- the text reads as the number that it was printed from
is_digit_after : (n : ℕ) → n < 10 → is_ascii_digit (48 + n) ≡ true
is_digit_after n small = grind (arith, nat_tests)

-- The last digits of a number are all digits.
pub are_digits-last : (places n : ℕ) → are_digits (last_digits places n) ≡ true
unfolding last_digits
are_digits-last zero n = refl
are_digits-last (suc places) n =
    let small : n % 10 < 10 = omega arith in
    let one : are_digits ((48 + n % 10) ∷ []) ≡ true = rw (is_digit_after (n % 10) small) refl in
    list_all-append is_ascii_digit (last_digits places (n / 10)) ((48 + n % 10) ∷ []) ∙ ap₂ (λ (a b : Bool). a && b) (are_digits-last places (n / 10)) one

own : IsNumeralModel (λ ds. are_digits ds ≡ true) (digits_value 10)
own = numerals_by_value (λ ds. are_digits ds ≡ true) (search rules)

digit_after : (n : ℕ) → n < 10 → digit_value (48 + n) ≡ n
digit_after n small = (digit_of (48 + n) (is_digit_after n small)).0 ∙ (let e : 48 + n - 48 ≡ n = omega arith in e)

-- the last digits, written after those of n
pub value-last_digits : (places n m : ℕ) → m < 10 ^ places → digits_value_after 10 n (last_digits places m) ≡ n * 10 ^ places + m
unfolding last_digits
value-last_digits zero n m small = omega arith
value-last_digits (suc places) n m small =
    let power : 10 ^ suc places ≡ 10 ^ places * 10 = pow-suc 10 places in
    let front : m / 10 < 10 ^ places = omega (arith, power) in
    let last : m % 10 < 10 = omega arith in
    let front_is = value-last_digits places n (m / 10) front in
    after_push n (last_digits places (m / 10)) (48 + m % 10) ∙ omega (arith, front_is, digit_after (m % 10) last, ap (λ (t : ℕ). n * t) power)

-- ---- where the point stands
no_point : (c : ℕ) → is_ascii_digit c ≡ true → not (is_point c) ≡ true
no_point c is = grind (arith, nat_tests)

no_mark : (c : ℕ) → is_ascii_digit c ≡ true → not (is_mark c) ≡ true
no_mark c is = grind (arith, nat_tests)

both_true : (a b : Bool) → (a && b) ≡ true → (a ≡ true) × (b ≡ true)
both_true true b h = (refl, h)
both_true false b h = absurd (cc)

digits_pass : (p : ℕ → Bool) → ((c : ℕ) → is_ascii_digit c ≡ true → p c ≡ true) → (xs : List ℕ) → are_digits xs ≡ true → list_all p xs ≡ true
digits_pass p each [] all = refl
digits_pass p each (x ∷ xs) all =
    let both = both_true (is_ascii_digit x) (are_digits xs) all in
    ap₂ (λ (a b : Bool). a && b) (each x both.0) (digits_pass p each xs both.1)

prefix_all : (q : ℕ → Bool) (xs : List ℕ) → list_all q xs ≡ true → prefix_len q xs ≡ length xs
prefix_all q [] all = refl
prefix_all q (x ∷ xs) all =
    let both = both_true (q x) (list_all q xs) all in
    rw both.0 (omega (arith, prefix_all q xs both.1))

prefix_until : (q : ℕ → Bool) (xs : List ℕ) (y : ℕ) (ys : List ℕ) → list_all q xs ≡ true → q y ≡ false → prefix_len q (xs ++ y ∷ ys) ≡ length xs
prefix_until q [] y ys all stop = rw stop refl
prefix_until q (x ∷ xs) y ys all stop =
    let both = both_true (q x) (list_all q xs) all in
    rw both.0 (omega (arith, prefix_until q xs y ys both.1 stop))

take_front : (xs ys : List ℕ) → take (length xs) (xs ++ ys) ≡ xs
take_front xs ys = grind (arith, common_steps)

drop_front : (xs : List ℕ) (y : ℕ) (ys : List ℕ) → drop (length xs + 1) (xs ++ y ∷ ys) ≡ ys
drop_front [] y ys = refl
drop_front (x ∷ xs) y ys = let e : suc (length xs) + 1 ≡ suc (length xs + 1) = omega arith in rw e (drop_front xs y ys)

take_whole : (xs : List ℕ) → take (length xs) xs ≡ xs
take_whole xs = grind (arith, common_steps)

-- a whole part, a point and more digits
plain_as : (negative : Bool) (w f : List ℕ) → are_digits w ≡ true → are_digits f ≡ true → 0 < length w → unsigned_of negative (w ++ 46 ∷ f) ≡ number_of negative w f (pos 0)
plain_as negative w f w_digits f_digits some =
    let u : List ℕ = w ++ 46 ∷ f in
    let marks : list_all (λ c. not (is_mark c)) u ≡ true =
    list_all-append (λ c. not (is_mark c)) w (46 ∷ f) ∙ ap₂ (λ (a b : Bool). a && b) (digits_pass (λ c. not (is_mark c)) no_mark w w_digits) (digits_pass (λ c. not (is_mark c)) no_mark f f_digits) in
    let place : position_or_len is_mark u ≡ length u = prefix_all (λ c. not (is_mark c)) u marks in
    let m_is : u ≡ before_first is_mark u = sym (ap (λ (k : ℕ). take k u) place ∙ take_whole u) in
    let point : position_or_len is_point u ≡ length w = prefix_until (λ c. not (is_point c)) w 46 f (digits_pass (λ c. not (is_point c)) no_point w w_digits) refl in
    let w_is : w ≡ before_first is_point u = sym (ap (λ (k : ℕ). take k u) point ∙ take_front w (46 ∷ f)) in
    let f_is : f ≡ after_first is_point u = sym (ap (λ (k : ℕ). drop (k + 1) u) point ∙ drop_front w 46 f) in
    let ends : nat_lt (position_or_len is_mark u) (length u) ≡ false = le-ltb (position_or_len is_mark u) (length u) (let l : length u ≤ position_or_len is_mark u = omega (arith, place) in l) in
    let exponent : Some (pos 0) ≡ exponent_part u = rw ends refl in
    sym (unsigned_reads u u w f (pos 0) negative m_is w_is f_is w_digits f_digits (omega (arith, some)) exponent)

within_limit : (negative : Bool) (w f : List ℕ) (n : ℕ) → length w ≤ 7 → length f ≡ 12 → digits_value 10 (w ++ f) ≡ n → n ≤ 10 ^ 18 → number_of negative w f (pos 0) ≡ Ok (record { negative = negative; digits = n; exponent = negsuc 11 })
within_limit negative w f n short twelve value small =
    let few : length (w ++ f) ≤ 36 = omega (arith, length-append w f) in
    let scale : (pos 0 -ℤ pos (length f)) ≡ negsuc 11 = ap (λ (k : ℕ). pos 0 -ℤ pos k) twelve in
    rw (le-ltb 36 (length (w ++ f)) few) (ap₂ (scaled_of negative) value scale ∙ rw (le-leb n (10 ^ 18) small) refl)

no_sign : (d : ℕ) (ds : List ℕ) → is_ascii_digit d ≡ true → (starts_with_minus (d ∷ ds) ≡ false) × (without_leading_sign (d ∷ ds) ≡ d ∷ ds)
no_sign d ds is =
    let digit = digit_of d is in
    let minus : (d == 45) ≡ false = ne_eqb d 45 (λ (e : d ≡ 45). absurd (omega (arith, digit, e))) in
    let plus : (d == 43) ≡ false = ne_eqb d 43 (λ (e : d ≡ 43). absurd (omega (arith, digit, e))) in
    rw (minus, plus) (refl, refl)

plain_text : (w f : List ℕ) → are_digits w ≡ true → are_digits f ≡ true → 0 < length w → decimal_of (w ++ 46 ∷ f) ≡ number_of false w f (pos 0)
plain_text [] f w_digits f_digits some = absurd (omega (arith, some))
plain_text (d ∷ ds) f w_digits f_digits some =
    let both = both_true (is_ascii_digit d) (are_digits ds) w_digits in
    let unsigned = no_sign d (ds ++ 46 ∷ f) both.0 in
    ap₂ unsigned_of unsigned.0 unsigned.1 ∙ plain_as false (d ∷ ds) f w_digits f_digits some

signed_text : (negative : Bool) (w f : List ℕ) → are_digits w ≡ true → are_digits f ≡ true → 0 < length w → decimal_of (cond negative (45 ∷ []) [] ++ w ++ 46 ∷ [] ++ f) ≡ number_of negative w f (pos 0)
signed_text true w f w_digits f_digits some = ap (unsigned_of true) (append_assoc w (46 ∷ []) f) ∙ plain_as true w f w_digits f_digits some
signed_text false w f w_digits f_digits some = ap decimal_of (append_assoc w (46 ∷ []) f) ∙ plain_text w f w_digits f_digits some

-- The text of a number of units within the limit reads as the number that it was printed from.
pub units_read_back : (v : ℤ) → unsigned_abs v ≤ 10 ^ 18 → decimal_of (text_of_units v) ≡ Ok (scaled_of_units v)
units_read_back v small =
    let n : ℕ = unsigned_abs v in
    let w : List ℕ = decimal (n / units) in
    let f : List ℕ = last_digits 12 (n % units) in
    let fits : n / units < 2 ^ 64 = omega arith in
    let rest : n % units < 10 ^ 12 = omega arith in
    let split : n / units * units + n % units ≡ n = omega arith in
    let short : length w ≤ 7 = length-decimal-le 7 (n / units) (omega arith) (omega arith) fits in
    let value : digits_value 10 (w ++ f) ≡ n =
    after_append 0 w f ∙ ap (λ (k : ℕ). digits_value_after 10 k f) (digits_value-decimal own (n / units) fits) ∙ value-last_digits 12 (n / units) (n % units) rest ∙ split in
    signed_text (int_lt v (pos 0)) w f (digits_decimal own (n / units) fits) (are_digits-last 12 (n % units)) (decimal_nonempty (n / units) fits)
    ∙ within_limit (int_lt v (pos 0)) w f n short (length-last_digits 12 (n % units)) value small

sign_case : (t : Bool) → length {A = ℕ} (cond t (45 ∷ []) []) ≤ 1
sign_case true = omega arith
sign_case false = omega arith

-- A sign takes at most one byte.
pub sign_short : (v : ℤ) → length (sign_of v) ≤ 1
sign_short v = sign_case (int_lt v (pos 0))

-- the length of what is printed before the point
pub front_length : (v : ℤ) (n : ℕ) (start sign front : List ℕ) → n ≤ 10 ^ 18 → length start ≡ 0 → sign ≡ sign_of v → front ≡ (start ++ sign) ++ decimal (n / units) → length front ≤ 8
front_length v n start sign front small empty sign_is front_is =
    let short : length (decimal (n / units)) ≤ 7 = length-decimal-le 7 (n / units) (omega arith) (omega arith) (omega arith) in
    omega (arith, ap length front_is, length-append (start ++ sign) (decimal (n / units)), length-append start sign, ap length sign_is, sign_short v, short, empty)

-- The text in its parts, as the code writes them, is the text of the number of units.
pub text_is : (v : ℤ) (n : ℕ) → n ≡ unsigned_abs v → ((sign_of v ++ decimal (n / units)) ++ 46 ∷ []) ++ last_digits 12 (n % units) ≡ text_of_units v
text_is v n is = ap (λ (k : ℕ). ((sign_of v ++ decimal (k / units)) ++ 46 ∷ []) ++ last_digits 12 (k % units)) is
