-- Steps that may be refused, and what a function that makes one gives. (This project's own.)
use Rattle.std.specs.Prelude.{◌≡◌, Option, Some, None, Result, Ok, Err}
use Rattle.psa_text.specs.declared.builder.StepError.{StepError}
use Rattle.psa_text.specs.declared.builder.StepError.TheVariants.{Refused, Memory}

-- A function gives the value of the step, or refuses exactly where the step is refused, unless memory runs out.
abbrev pub Gives : {X Y : Type 0} → (X → Y) → Result X StepError → Option Y → Type 0
Gives view (Ok x) step = step ≡ Some (view x)
Gives view (Err Refused) step = step ≡ None
Gives view (Err Memory) step = Unit {0}
