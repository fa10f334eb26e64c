-- What an answer says of the settings or values that a definition asks for.
use Rattle.std.specs.Prelude.{◌≡◌, Option, Some, None, Result, Ok, Err}
use Rattle.psa_words.specs.declared.fault.WordsError.{WordsError}
use Rattle.psa_words.specs.declared.fault.WordsError.TheVariants.{BadWords, Memory}

-- BadWords exactly where nothing is defined, else the value; want of memory may come anywhere
abbrev pub Answers : {X : Type 0} → Option X → Result X WordsError → Type 0
Answers wanted (Ok value) = wanted ≡ Some value
Answers wanted (Err BadWords) = wanted ≡ None
Answers wanted (Err Memory) = Unit {0}
