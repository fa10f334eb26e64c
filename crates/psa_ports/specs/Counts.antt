-- Counts that hold at the largest value of 64 bits, and faults that they show. This project's own.
use Rattle.std.specs.Prelude.{◌+◌, ◌-◌, ◌^◌, ◌≤◌, ℕ, min, OnErr, List, Bool, Result, ◌==◌}
use Rattle.std.specs.List.{list_any}

-- the count after one more, held at 2^64 - 1
abbrev pub one_more : ℕ → ℕ
one_more count = min (count + 1) (2 ^ 64 - 1)

-- the count rose: it is greater than before, or stands at 2^64 - 1
abbrev pub Rose : ℕ → ℕ → Type 0
Rose before now = one_more before ≤ now

-- the count of faults did not fall, and a call that failed shows in it
pub record HasCause {T E : Type 0} (before now : ℕ) (result : Result T E) : Type 0 where
  pub later : before ≤ now
  pub failed : OnErr result (Rose before now)

-- the call of this number is one of those that are to fail
abbrev pub is_failing : List ℕ → ℕ → Bool
is_failing failing call = list_any (λ number. number == call) failing
