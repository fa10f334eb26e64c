use Rattle.std.proofs.Common.{ℕ, List, true, ◌≡◌, ◌+◌, ◌<◌, length, take, drop, ap, ◌∙◌, SFits, w16, rules, arith}
use Rattle.std.proofs.lemmas.Int.{to_z-of_z}
use Rattle.std.specs.List.{before_first, after_first}
use Rattle.psa_number.specs.DecimalText.{are_digits, is_mark, is_point, number_of}
use Rattle.psa_number.proofs.DigitLemmas.{reads_as}
use Rattle.psa_number.proofs.reading.read_decimal.Goals as goal

pub returns : goal.returns
returns c =
    let u : List ℕ = c.without_sign-unsigned.result.now in
    let m : List ℕ = take c.place_of_mark-mark.result u in
    let w : List ℕ = take c.place_of_point-point.result m in
    let m_is : m ≡ before_first is_mark u = ap (λ (k : ℕ). take k u) c.place_of_mark-mark.ensures.place in
    let w_is : w ≡ before_first is_point m = ap (λ (k : ℕ). take k m) c.place_of_point-point.ensures.place in
    let f_is : c.after-fraction.result.now ≡ after_first is_point m = c.after-fraction.ensures ∙ ap (λ (k : ℕ). drop (k + 1) m) c.place_of_point-point.ensures.place in
    let w_digits : are_digits w ≡ true = search rules in
    let f_digits : are_digits c.after-fraction.result.now ≡ true = search rules in
    let some : 0 < length w + length c.after-fraction.result.now = omega arith in
    let fits : SFits w16 c.in-Some.exponent = search rules in
    c.number.ensures ∙ ap (number_of c.starts_with_minus-negative.result w c.after-fraction.result.now) (to_z-of_z w16 c.in-Some.exponent fits)
    ∙ reads_as c.args.text.now u m w c.after-fraction.result.now c.in-Some.exponent c.starts_with_minus-negative.result c.starts_with_minus-negative.ensures c.without_sign-unsigned.ensures m_is w_is f_is w_digits f_digits some c.in-Some.ensures
