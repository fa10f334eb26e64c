-- The number that an attribute of few digits spells, as `parse` reads it.
use Rattle.std.proofs.Common.{◌≡◌, ℕ, ◌+◌, ◌<◌, ◌≤◌, ◌^◌, ◌==◌, Bool, true, false, cond, Option, Some, None, [], ◌∷◌, length, nat_le, Result, Ok, Err, drop, refl, ap, subst, arith}
use Rattle.std.specs.Option.{option_map_or, unwrap_or}
use Rattle.std.specs.Result.{OkIff, result_unwrap_or}
use Rattle.std.specs.List.{list_all}
use Rattle.std.specs.Char.{is_ascii_digit, digit_value}
use Rattle.std.specs.Int.{IsInRange}
use Rattle.std.specs.Str.Parse.{AllDigits, IsNumeral, ParsesUnsigned, digits_value, without_leading_plus}
use Rattle.std.proofs.lemmas.Bool.{and_parts}
use Rattle.std.proofs.lemmas.Bool.Decides.{nat_tests}
use Rattle.std.proofs.lemmas.Result.{Ok-from_Ok_iff}
use Rattle.std.proofs.lemmas.Str.Parse.{IsNumeralModel, numerals_by_value, tells_digits, digits_value_short, digit_from_value}
use Rattle.std.proofs.lemmas.Str.{digit_value_digit}
use Rattle.psa_model.specs.PathNames.{Text}
use Rattle.psa_elements.specs.ElementTable.{are_digits, has_length_to}
use Rattle.psa_elements.specs.declared.limits.TheConstants.{MAX_DIGITS}

digits-model : IsNumeralModel (AllDigits 10) (digits_value 10)
digits-model = numerals_by_value (AllDigits 10) tells_digits

is-digit : (c : ℕ) → is_ascii_digit c ≡ true → IsInRange 48 57 c
is-digit c h = grind (arith, nat_tests)

digit-value : (c : ℕ) → IsInRange 48 57 c → digit_value c < 10
digit-value c h = let v : digit_value c + 48 ≡ c = digit_value_digit c h in omega (arith, h.0, h.1)

all-digits : (text : Text) → list_all is_ascii_digit text ≡ true → AllDigits 10 text
all-digits [] h = tt
all-digits (c ∷ cs) h = let parts = and_parts (is_ascii_digit c) (list_all is_ascii_digit cs) h in (
  digit-value c
      (is-digit c parts.0),
  all-digits cs parts.1,
)

no-plus : (text : Text) → AllDigits 10 text → without_leading_plus text ≡ text
no-plus [] h = refl
no-plus (c ∷ cs) h =
    let range : IsInRange 48 57 c = digit_from_value c h.0 in
    let other : (c == 43) ≡ false = grind (arith, nat_tests, range.0) in
    ap (λ (b : Bool). drop (cond b 1 0) (c ∷ cs)) other

digits-read : {E : Type 0} (text : Text) (r : Result ℕ E) → are_digits text ≡ true → ParsesUnsigned 32 10 text r →
    result_unwrap_or r 0 ≡ digits_value 10 text
digits-read {E} text r h read =
    let parts = and_parts (has_length_to MAX_DIGITS text) (list_all is_ascii_digit text) h in
    let bounds = and_parts (nat_le 1 (length text)) (nat_le (length text) MAX_DIGITS) parts.0 in
    let digits : AllDigits 10 text = all-digits text parts.1 in
    let same : without_leading_plus text ≡ text = no-plus text digits in
    let some : 0 < length text = grind (arith, nat_tests, bounds.0) in
    let few : length text ≤ 4 = grind (arith, nat_tests, bounds.1) in
    let small : digits_value 10 text < 10 ^ 4 = digits_value_short digits-model text 4 digits few in
    let P : Text → Type 0 = λ t. OkIff r (IsNumeral 10 t × (digits_value 10 t < 2 ^ 32)) (digits_value 10 t) in
    ap (λ (o : Result ℕ E). result_unwrap_or o 0) (Ok-from_Ok_iff r _ _ (subst P same read) (
      (some, digits),
      omega
          arith,
    ))

nothing-read : {E : Type 0} (r : Result ℕ E) → ParsesUnsigned 32 10 [] r → result_unwrap_or r 0 ≡ 0
nothing-read (Ok x) read = let none : 0 < length (without_leading_plus []) = read.0.0.0 in absurd (omega arith)
nothing-read (Err e) read = refl

-- the number that `parse` reads from the value of an attribute
pub short-number : {E : Type 0} (o : Option Text) (r : Result ℕ E) → option_map_or are_digits o true ≡ true →
    ParsesUnsigned 32 10 (unwrap_or o []) r → result_unwrap_or r 0 ≡ digits_value 10 (unwrap_or o [])
short-number None r h read = nothing-read r read
short-number (Some text) r h read = digits-read text r h read
