-- The text of a number of units within 0 and 1, digit by digit.
use Rattle.std.proofs.Common.{false, nat_lt, le-ltb, ◌≡◌, ◌∙◌, ◌+◌, ◌/◌, ◌%◌, ◌<◌, ◌≤◌, ◌≤ℤ◌, ℕ, ℤ, pos, negsuc, suc, List, [], ◌∷◌, ◌++◌, unsigned_abs, refl, ap, ap₂, sym, append_assoc, arith}
use Rattle.std.specs.Fmt.{decimal}
use Rattle.std.proofs.lemmas.Fmt.{decimal_digit}
use Rattle.std.proofs.lemmas.Int.{ints}
use Rattle.psa_number.specs.DecimalText.{last_digits, text_of_units}
use Rattle.psa_number.specs.Units.{units}

-- the last two digits of a number
abbrev pub two_digits : ℕ → List ℕ
two_digits n = (48 + n / 10 % 10) ∷ (48 + n % 10) ∷ []

-- its last six, in pairs
abbrev pub six_digits : ℕ → List ℕ
six_digits n = two_digits (n / 10000) ++ (two_digits (n / 100) ++ two_digits n)

-- two digits more are those of the number, behind the last digits of its hundredth
last_two : (places n : ℕ) → last_digits (suc (suc places)) n ≡ last_digits places (n / 100) ++ two_digits n
unfolding last_digits
last_two places n =
    let hundredth : n / 10 / 10 ≡ n / 100 = omega arith in
    append_assoc (last_digits places (n / 10 / 10)) ((48 + n / 10 % 10) ∷ []) ((48 + n % 10) ∷ [])
    ∙ ap (λ (k : ℕ). last_digits places k ++ two_digits n) hundredth

no_digits : (n : ℕ) → last_digits 0 n ≡ []
unfolding last_digits
no_digits n = refl

-- six digits more, behind the last digits of its millionth
last_six : (places n : ℕ) → last_digits (suc (suc (suc (suc (suc (suc places)))))) n ≡ last_digits places (n / 1000000) ++ six_digits n
last_six places n =
    let one : n / 100 / 100 ≡ n / 10000 = omega arith in
    let two : n / 10000 / 100 ≡ n / 1000000 = omega arith in
    let pairs : last_digits (suc (suc places)) (n / 10000) ≡ last_digits places (n / 1000000) ++ two_digits (n / 10000) =
    last_two places (n / 10000) ∙ ap (λ (k : ℕ). last_digits places k ++ two_digits (n / 10000)) two in
    let four : last_digits (suc (suc (suc (suc places)))) (n / 100) ≡ (last_digits places (n / 1000000) ++ two_digits (n / 10000)) ++ two_digits (n / 100) =
    last_two (suc (suc places)) (n / 100) ∙ ap (λ (t : List ℕ). t ++ two_digits (n / 100)) (ap (last_digits (suc (suc places))) one ∙ pairs) in
    last_two (suc (suc (suc (suc places)))) n
    ∙ ap (λ (t : List ℕ). t ++ two_digits n) four
    ∙ append_assoc (last_digits places (n / 1000000) ++ two_digits (n / 10000)) (two_digits (n / 100)) (two_digits n)
    ∙ append_assoc (last_digits places (n / 1000000)) (two_digits (n / 10000)) (two_digits (n / 100) ++ two_digits n)

last_twelve : (n : ℕ) → last_digits 12 n ≡ six_digits (n / 1000000) ++ six_digits n
last_twelve n =
    last_six 6 n
    ∙ ap (λ (t : List ℕ). t ++ six_digits n) (last_six 0 (n / 1000000) ∙ ap (λ (t : List ℕ). t ++ six_digits (n / 1000000)) (no_digits (n / 1000000 / 1000000)))

-- two digits of a number are those of each that has the same hundredth's rest
same_two : (n k : ℕ) → n % 100 ≡ k % 100 → two_digits n ≡ two_digits k
same_two n k e =
    let tens : n / 10 % 10 ≡ k / 10 % 10 = omega arith in
    let ones : n % 10 ≡ k % 10 = omega arith in
    ap₂ (λ (a b : ℕ). (48 + a) ∷ (48 + b) ∷ []) tens ones

same_six : (n k : ℕ) → k ≡ n % 1000000 → six_digits n ≡ six_digits k
same_six n k e =
    let first : n / 10000 % 100 ≡ k / 10000 % 100 = omega arith in
    let middle : n / 100 % 100 ≡ k / 100 % 100 = omega arith in
    let last : n % 100 ≡ k % 100 = omega arith in
    ap₂ (λ (s t : List ℕ). s ++ t) (same_two (n / 10000) (k / 10000) first)
    (ap₂ (λ (s t : List ℕ). s ++ t) (same_two (n / 100) (k / 100) middle) (same_two n k last))

-- a number of units that is not negative has no sign
no_sign : (n : ℕ) → text_of_units (pos n) ≡ decimal (n / units) ++ 46 ∷ last_digits 12 (n % units)
no_sign n =
    let positive : nat_lt n 0 ≡ false = le-ltb n 0 (omega arith) in
    rw positive (append_assoc (decimal (n / units)) (46 ∷ []) (last_digits 12 (n % units)))

-- the digits by the two halves behind the point
halves : (n front back : ℕ) → n ≤ units → front ≡ n % units / 1000000 → back ≡ n % 1000000
    → (48 + n / units % 10) ∷ 46 ∷ (six_digits front ++ six_digits back) ≡ text_of_units (pos n)
halves n front back small front_is back_is =
    let whole : n / units < 10 = omega arith in
    let same : n / units % 10 ≡ n / units = omega arith in
    let rest : back ≡ n % units % 1000000 = omega arith in
    ap (λ (d : ℕ). (48 + d) ∷ 46 ∷ (six_digits front ++ six_digits back)) same
    ∙ ap₂ (λ (w f : List ℕ). w ++ 46 ∷ f) (sym (decimal_digit (n / units) whole))
    (ap₂ (λ (s t : List ℕ). s ++ t) (ap six_digits front_is) (sym (same_six (n % units) back rest)) ∙ sym (last_twelve (n % units)))
    ∙ sym (no_sign n)

-- the text of a number of units within 0 and 1, whose magnitude is n
pub unit_text : (v : ℤ) (n front back : ℕ) → n ≡ unsigned_abs v → pos 0 ≤ℤ v → v ≤ℤ pos units → front ≡ n % units / 1000000 → back ≡ n % 1000000
    → (48 + n / units % 10) ∷ 46 ∷ (six_digits front ++ six_digits back) ≡ text_of_units v
unit_text (pos m) n front back n_is least most front_is back_is =
    let small : n ≤ units = omega (arith, ints, n_is, most) in
    halves n front back small front_is back_is ∙ ap (λ (k : ℕ). text_of_units (pos k)) n_is
unit_text (negsuc m) n front back n_is least most front_is back_is = absurd (omega (arith, ints, least))
