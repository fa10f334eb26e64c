-- A count that rose is greater than before or stands at its last value, and more calls before and
-- after it change nothing of that.
use Rattle.std.proofs.Common.{ℕ, ◌-◌, ◌^◌, ◌<◌, ◌≤◌, ◌⊎◌, arith}
use Rattle.psa_ports.specs.Counts.{Rose}

-- A count that is greater than before rose.
pub Rose-greater : (before now : ℕ) → before < now → Rose before now
Rose-greater before now greater = omega arith

-- A count at its last value counts as risen.
pub Rose-held : (before now : ℕ) → 2 ^ 64 - 1 ≤ now → Rose before now
Rose-held before now held = omega arith

-- A count that rose is greater than before, or at its last value.
pub Rose-cases : (before now : ℕ) → Rose before now → (before < now) ⊎ (2 ^ 64 - 1 ≤ now)
Rose-cases before now rose = grind arith

-- calls before and after it, which let no count fall
pub Rose-within : (first before now last : ℕ)
    → first ≤ before → Rose before now → now ≤ last → Rose first last
Rose-within first before now last sooner rose later = omega arith
