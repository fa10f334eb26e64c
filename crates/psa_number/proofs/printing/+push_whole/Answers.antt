use Rattle.std.proofs.Common.{ℕ, List, ◌≡◌, ◌+◌, ◌/◌, ◌%◌, [], ◌∷◌, ◌++◌, length, length-append, ap, ◌∙◌, arith}
use Rattle.std.specs.Fmt.{decimal}
use Rattle.psa_number.proofs.PrintedTextLemmas.{whole_digit, whole_step, front_short}
use Rattle.psa_number.proofs.printing.+push_whole.Goals as goal
use Rattle.psa_number.proofs.printing.+push_whole.Goals.{then-number-ge10, else-number-ge10}

pub push_digit-requires : goal.push_digit-requires
push_digit-requires t c = elim c.if-number-ge10.branch [
  | then-number-ge10 w ↦
      let text_is : c.if-number-ge10.text.bytes ≡ c.args.text.now.bytes ++ decimal (c.args.number / 10) = rw w.text-is w.push_whole.ensures in
      omega (arith, ap length text_is, length-append c.args.text.now.bytes (decimal (c.args.number / 10)), front_short c.args.number c.requires.few, c.requires.room)
  | else-number-ge10 w ↦ rw w.text-is (omega (arith, c.requires.room))
]

pub returns : goal.returns
returns t c = elim c.if-number-ge10.branch [
  | then-number-ge10 w ↦
      let text_is : c.if-number-ge10.text.bytes ≡ c.args.text.now.bytes ++ decimal (c.args.number / 10) = rw w.text-is w.push_whole.ensures in
      c.push_digit.ensures ∙ ap (λ (ds : List ℕ). ds ++ (48 + c.args.number % 10) ∷ []) text_is ∙ whole_step c.args.text.now.bytes c.args.number w.if-number-ge10.true c.requires.few
  | else-number-ge10 w ↦ c.push_digit.ensures ∙ rw w.text-is (whole_digit c.args.text.now.bytes c.args.number w.if-number-ge10.false)
]
