use Rattle.std.proofs.Common.{ℕ, List, ◌≡◌, ◌+◌, ◌≤◌, ◌/◌, ◌%◌, [], ◌∷◌, ◌++◌, length, unsigned_abs, ap, ◌∙◌, arith}
use Rattle.std.specs.Int.{w128}
use Rattle.std.specs.Fmt.{decimal}
use Rattle.std.proofs.lemmas.Int.{to_z-of_z}
use Rattle.psa_number.specs.Units.{units}
use Rattle.psa_number.specs.DecimalText.{decimal_of, sign_of, last_digits}
use Rattle.psa_number.proofs.PrintedTextLemmas.{units_read_back, front_length, text_is}
use Rattle.psa_number.proofs.printing.print_units.Goals as goal

pub push_str-requires-2 : goal.push_str-requires-2
push_str-requires-2 c =
    let n_is : c.unsigned_abs-magnitude.result ≡ unsigned_abs c.args.value = c.unsigned_abs-magnitude.ensures.value ∙ ap unsigned_abs (to_z-of_z w128 c.args.value c.ranges.value) in
    let front = front_length c.args.value c.unsigned_abs-magnitude.result c.new-text.result.bytes c.sign.result.now c.push_whole.new.text.bytes (omega (arith, n_is, c.requires)) (ap length c.new-text.ensures) (c.sign.ensures ∙ ap sign_of (to_z-of_z w128 c.args.value c.ranges.value))
    (c.push_whole.ensures ∙ ap (λ (t : List ℕ). t ++ decimal (c.unsigned_abs-magnitude.result / units)) c.push_str.ensures.bytes) in
    let room : length c.push_whole.new.text.bytes + 1 ≤ 32 = omega (arith, front) in
    (omega arith, room)

pub push_last_digits-requires-clause-room : goal.push_last_digits-requires-clause-room
push_last_digits-requires-clause-room c =
    let n_is : c.unsigned_abs-magnitude.result ≡ unsigned_abs c.args.value = c.unsigned_abs-magnitude.ensures.value ∙ ap unsigned_abs (to_z-of_z w128 c.args.value c.ranges.value) in
    let front = front_length c.args.value c.unsigned_abs-magnitude.result c.new-text.result.bytes c.sign.result.now c.push_whole.new.text.bytes (omega (arith, n_is, c.requires)) (ap length c.new-text.ensures) (c.sign.ensures ∙ ap sign_of (to_z-of_z w128 c.args.value c.ranges.value))
    (c.push_whole.ensures ∙ ap (λ (t : List ℕ). t ++ decimal (c.unsigned_abs-magnitude.result / units)) c.push_str.ensures.bytes) in
    omega (arith, front, c.push_str-2.ensures.len)

pub returns-clause-exact : goal.returns-clause-exact
returns-clause-exact c =
    let n_is : c.unsigned_abs-magnitude.result ≡ unsigned_abs c.args.value = c.unsigned_abs-magnitude.ensures.value ∙ ap unsigned_abs (to_z-of_z w128 c.args.value c.ranges.value) in
    let signed : c.push_str.new.self.bytes ≡ sign_of c.args.value = c.push_str.ensures.bytes ∙ ap (λ (t : List ℕ). t ++ c.sign.result.now) c.new-text.ensures ∙ (c.sign.ensures ∙ ap sign_of (to_z-of_z w128 c.args.value c.ranges.value)) in
    c.push_last_digits.ensures ∙ ap (λ (t : List ℕ). t ++ last_digits 12 (c.unsigned_abs-magnitude.result % units))
    (c.push_str-2.ensures.bytes ∙ ap (λ (t : List ℕ). t ++ 46 ∷ []) (c.push_whole.ensures ∙ ap (λ (t : List ℕ). t ++ decimal (c.unsigned_abs-magnitude.result / units)) signed))
    ∙ text_is c.args.value c.unsigned_abs-magnitude.result n_is

pub returns-clause-read_back : goal.returns-clause-read_back
returns-clause-read_back c = ap decimal_of (returns-clause-exact c) ∙ units_read_back c.args.value c.requires
