-- What writes leave in a sink. This project's own.
use Rattle.std.specs.Prelude.{ℕ, List, Option, take}
use Rattle.std.specs.Io.KnownBytes.{Appends}

-- known bytes grew by a prefix of these
pub record AppendsPrefix (old new : Option (List ℕ)) (bytes : List ℕ) : Type 0 where
  pub count : ℕ
  pub appended : Appends old new (take count bytes)
