-- What the two forms of a text hold. This project's own.
use Rattle.std.specs.Prelude.{ℕ, List}
use Rattle.std.specs.String.{string_bytes}
use Rattle.psa_text.specs.declared.text.Kept.{Kept}
use Rattle.psa_text.specs.declared.text.Kept.TheVariants.{Short, Long}

abbrev pub kept_bytes : Kept → List ℕ
kept_bytes (Short text) = text.bytes
kept_bytes (Long text) = string_bytes text
