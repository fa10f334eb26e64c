-- How many definitions of each kind there are so far. (This project's own.)
use Rattle.std.specs.Prelude.{◌≡◌, ◌+◌, ◌==◌, ℕ, Bool, true, false, List, length, slice_index, if◌then◌else◌}
use Rattle.std.specs.List.{filter}
use Rattle.psa_names.specs.declared.found.Sense.{Sense}
use Rattle.psa_names.specs.declared.found.Sense.TheVariants.{Definition, OfGroup}

-- so many more are counted of the kind with a number
pub record Counted (kind more : ℕ) (old new : List ℕ) : Type 0 where
  pub kinds : length new ≡ length old
  pub counts : (k : ℕ) → slice_index new k ≡ slice_index old k + (if kind == k then more else 0)

abbrev pub is_of_group : Sense → Bool
is_of_group (OfGroup number) = true
is_of_group (Definition place) = false

-- how many of some senses are basic events that groups define
abbrev pub group_senses : List Sense → ℕ
group_senses senses = length (filter is_of_group senses)
