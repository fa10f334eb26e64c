use Rattle.std.proofs.Common.{ℕ, List, ◌≡◌, ◌+◌, ◌-◌, ◌/◌, ◌%◌, [], ◌∷◌, ◌++◌, length, length-append, ap, ◌∙◌, arith}
use Rattle.psa_number.specs.DecimalText.{last_digits}
use Rattle.psa_number.proofs.PrintedTextLemmas.{last_none, last_step, length-last_digits}
use Rattle.psa_number.proofs.printing.+push_last_digits.Goals as goal

pub push_digit-requires : goal.push_digit-requires
push_digit-requires t c =
    omega (arith, ap length c.push_last_digits.ensures, length-append c.args.text.now.bytes (last_digits (c.args.places - 1) (c.args.number / 10)), length-last_digits (c.args.places - 1) (c.args.number / 10), c.requires.room, c.requires.few)

pub returns-then-places-gt0 : goal.returns-then-places-gt0
returns-then-places-gt0 t c =
    c.push_digit.ensures ∙ ap (λ (ds : List ℕ). ds ++ (48 + c.args.number % 10) ∷ []) c.push_last_digits.ensures ∙ last_step c.args.text.now.bytes c.args.places c.args.number c.if-places-gt0.true

pub returns-else-places-gt0 : goal.returns-else-places-gt0
returns-else-places-gt0 t c = let none : c.args.places ≡ 0 = omega arith in rw none (last_none c.args.text.now.bytes c.args.number)
