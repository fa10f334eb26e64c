-- A sink that passes its bytes on in blocks. This project's own.
use Rattle.std.specs.Prelude.{ℕ, List, Option}
use Rattle.std.specs.Io.KnownBytes.{append_known}

-- what callers see of it: the sink to which it passes its bytes on, the bytes that wait, and how many more the block
-- has room for
pub record BlockState (S : Type 0) : Type 0 where
  pub sink : S
  pub waiting : List ℕ
  pub room : ℕ

-- the bytes that it has taken, where the other sink tells its own: those that were passed on, and those that wait
abbrev pub bytes_in : {S : Type 0} → (S → Option (List ℕ)) → BlockState S → Option (List ℕ)
bytes_in written state = append_known (written state.sink) state.waiting
