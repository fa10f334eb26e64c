-- Lists of house states by number: that of the model but for a set of house events, whose states are changed. The sets
-- share their parts, newest first: the further house events of a set are those of two others, turn by turn.
use Rattle.std.specs.Prelude.{◌≡◌, ◌==◌, ◌≤◌, ◌<◌, ◌/◌, ◌%◌, ◌&&◌, ℕ, zero, suc, Bool, true, false, not, length}
use Rattle.std.specs.Prelude.{List, [], ◌∷◌, Some, if◌then◌else◌}
use Rattle.std.specs.List.{slice_set}
use Rattle.psa_prep.specs.declared.states.Changes.{Changes}
use Rattle.psa_graph.specs.Truths.{older_at}
use Rattle.psa_prep.specs.Places.{Grown, IsAdded}

-- whether the house event is in the set of the parts: the first one, or a further one in the left or the right part
abbrev pub in_parts : (ℕ → ℕ → Bool) → Changes → ℕ → Bool
in_parts below parts zero = parts.first
in_parts below parts (suc more) = if more % 2 == 0 then below parts.left (more / 2) else below parts.right (more / 2)

-- .. in the set with the number: number 0 is no house event, and each item makes the set after its place
abbrev pub is_changed : List Changes → ℕ → ℕ → Bool
is_changed [] number house = false
is_changed (parts ∷ older) number house =
    if number == suc (length older)
    then in_parts (λ n h. is_changed older n h) parts house else is_changed older number house

-- no house event is in the set of the parts
abbrev pub is_blank : Changes → Bool
is_blank parts = not parts.first && (parts.left == 0) && (parts.right == 0)

-- a state, or its opposite
abbrev pub flipped : Bool → Bool → Bool
flipped true state = not state
flipped false state = state

-- the states, those of a set of house events changed
abbrev pub with_changes : (ℕ → Bool) → List Bool → List Bool
with_changes among [] = []
with_changes among (state ∷ states) = flipped (among 0) state ∷ with_changes (λ house. among (suc house)) states

-- the house states with a number, where the model's are given
abbrev pub houses_at : List Bool → List Changes → ℕ → List Bool
houses_at initial changes number = with_changes (λ house. is_changed changes number house) initial

-- the parts of each set are older
abbrev pub AreEarlier : List Changes → Type 0
AreEarlier [] = Unit {0}
AreEarlier (parts ∷ older) = (parts.left ≤ length older) × (parts.right ≤ length older) × AreEarlier older

-- Equal sets have equal numbers.
pub record AreShared (changes : List Changes) : Type 0 where
  pub earlier : AreEarlier changes
  pub one : (number other : ℕ) → number ≤ length changes → other ≤ length changes
      → ((house : ℕ) → is_changed changes number house ≡ is_changed changes other house) → number ≡ other

-- the sets have only house events below a number
abbrev pub AreBelow : ℕ → List Changes → Type 0
AreBelow bound changes =
    (number house : ℕ) → number ≤ length changes → is_changed changes number house ≡ true → house < bound

-- the sets are of house events of the model
pub record AreStates (initial : List Bool) (changes : List Changes) : Type 0 where
  pub shared : AreShared changes
  pub below : AreBelow (length initial) changes

-- the set with the number has these parts
pub record HasParts (changes : List Changes) (number : ℕ) (parts : Changes) : Type 0 where
  pub left : parts.left ≤ length changes
  pub right : parts.right ≤ length changes
  pub reads : (house : ℕ) → is_changed changes number house ≡ in_parts (λ n h. is_changed changes n h) parts house

-- the item makes the set with the number, and it came in or was there
abbrev pub IsMade : Changes → List Changes → List Changes → ℕ → Type 0
IsMade parts before now number =
    (place : ℕ) × (number ≡ suc place) × IsAdded parts before now place
    × ((other : ℕ) → now ≡ parts ∷ before → older_at before other ≡ Some parts → ⊥)

-- The set with the next number has these parts.
pub record IsJoined (parts : Changes) (before now : List Changes) (next : ℕ) : Type 0 where
  pub grown : Grown before now
  pub shared : AreShared now
  pub within : next ≤ length now
  pub reads : (house : ℕ) → is_changed now next house ≡ in_parts (λ n h. is_changed before n h) parts house
  pub below : (bound : ℕ) → AreBelow bound before
      → ((house : ℕ) → in_parts (λ n h. is_changed before n h) parts house ≡ true → house < bound) → AreBelow bound now

-- The set with the next number has the house event or not, and else is the set with the number.
pub record IsWith (before now : List Changes) (number house : ℕ) (changed : Bool) (next : ℕ) : Type 0 where
  pub grown : Grown before now
  pub shared : AreShared now
  pub within : next ≤ length now
  pub reads : (one : ℕ) → is_changed now next one ≡ (if one == house then changed else is_changed before number one)
  pub below : (bound : ℕ) → AreBelow bound before → house < bound → AreBelow bound now

-- The list with the next number has the state set, and equal lists have equal numbers.
pub record IsSet (initial : List Bool) (before now : List Changes) (number house : ℕ) (state : Bool) (next : ℕ)
    : Type 0 where
  pub grown : Grown before now
  pub states : AreStates initial now
  pub within : next ≤ length now
  pub houses : houses_at initial now next ≡ slice_set (houses_at initial before number) house state
  pub one : (other : ℕ) → other ≤ length now → houses_at initial now other ≡ houses_at initial now next → other ≡ next
