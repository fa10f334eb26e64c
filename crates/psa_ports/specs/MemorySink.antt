-- A sink in memory. This project's own.
use Rattle.std.specs.Prelude.{ℕ, List, [], Bool, ◌||◌, ◌++◌, ◌-◌, take, min, length, nat_le, if◌then◌else◌}
use Rattle.psa_ports.specs.Counts.{one_more, is_failing}

-- what callers see of it: the bytes that it took; the most that it holds; the most that it takes
-- at once; the numbers of the writes that fail; and the counts of writes and of faults
pub record SinkState : Type 0 where
  pub written : List ℕ
  pub room : ℕ
  pub piece : ℕ
  pub failing : List ℕ
  pub writes : ℕ
  pub faults : ℕ

-- a sink that took nothing yet
abbrev pub new_sink : ℕ → ℕ → List ℕ → SinkState
new_sink room piece failing = record {
  written = [];
  room = room;
  piece = piece;
  failing = failing;
  writes = 0;
  faults = 0;
}

-- a write fails now: it is one of those that fail, or the sink is full
abbrev pub refuses : SinkState → Bool
refuses sink = is_failing sink.failing sink.writes || nat_le sink.room (length sink.written)

-- how many bytes of a piece of this length a write takes
abbrev pub write_count : SinkState → ℕ → ℕ
write_count sink len = min (min len sink.piece) (sink.room - length sink.written)

-- the sink after a write: grown by the first bytes of the piece, or unchanged with a fault more
abbrev pub after_write : SinkState → List ℕ → SinkState
after_write sink bytes = record sink {
  written = (if refuses sink then sink.written else sink.written ++ take (write_count sink (length bytes)) bytes);
  writes = one_more sink.writes;
  faults = (if refuses sink then one_more sink.faults else sink.faults);
}
