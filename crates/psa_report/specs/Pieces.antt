-- What is written in pieces. This project's own.
use Rattle.std.specs.Prelude.{ℕ, List, Option, Result, OnOk, flat_map}
use Rattle.std.specs.Borrow.{Bor}
use Rattle.std.specs.Io.KnownBytes.{Appends}
use Rattle.psa_ports.specs.Counts.{HasCause}
use Rattle.psa_ports.specs.Sink.{AppendsPrefix}

-- the bytes of pieces, one after another
abbrev pub bytes_of : List (Bor (List ℕ)) → List ℕ
bytes_of pieces = flat_map (λ piece. piece.now) pieces

-- All bytes were appended, or a prefix of them where the count of faults rose.
pub record Writes {E : Type 0} (before after : Option (List ℕ)) (faults faults_after : ℕ) (bytes : List ℕ) (result : Result (Unit {0}) E) : Type 0 where
  pub whole : OnOk result (Appends before after bytes)
  pub part : AppendsPrefix before after bytes
  pub cause : HasCause faults faults_after result
