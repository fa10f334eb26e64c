-- Modules of fault trees (Dutuit and Rauzy): parts that share no event with the rest, so that the whole sees of each
-- only whether its truth holds. What stands here, and the law of substitution in laws.rt, is this project's own.
-- The events are parted among modules. A module is known by the number of the event that stands for it in the
-- quotient, the truth that sees modules alone. An event that belongs to no module proper is a module of its own, whose
-- truth is that it occurs. `module_of` gives the module of an event, `truth_of` the truth of a module.
use Rattle.std.specs.Prelude.{◌≡◌, ◌==◌, ℕ, Bool, true, false, List, ◌&&◌}
use Rattle.std.specs.List.{filter}
use Rattle.psa_logic.specs.Sets.{is_ascending, occurs}
use Rattle.psa_logic.specs.Products.{IsMinimalCutSet}

-- of the events that occur, those that belong to the module m
abbrev pub within : (ℕ → ℕ) → ℕ → (ℕ → Bool) → ℕ → Bool
within module_of m s event = (module_of event == m) && s event

-- the modules whose truths hold when exactly the events that pass s occur: what the quotient sees
abbrev pub seen : (ℕ → ℕ) → (ℕ → (ℕ → Bool) → Bool) → (ℕ → Bool) → ℕ → Bool
seen module_of truth_of s m = truth_of m (within module_of m s)

-- the truth of the whole: that of the quotient at the modules whose truths hold
abbrev pub whole : (ℕ → ℕ) → (ℕ → (ℕ → Bool) → Bool) → ((ℕ → Bool) → Bool) → (ℕ → Bool) → Bool
whole module_of truth_of quotient s = quotient (seen module_of truth_of s)

-- no module's truth holds where no event occurs
abbrev pub AreFalseAtNone : (ℕ → (ℕ → Bool) → Bool) → Type 0
AreFalseAtNone truth_of = (m : ℕ) → truth_of m (λ event. false) ≡ false

-- the events of a set that belong to the module
abbrev pub part_of : (ℕ → ℕ) → ℕ → List ℕ → List ℕ
part_of module_of m set = filter (λ event. module_of event == m) set

-- The set comes from a set of the quotient by putting, for each module in it, a minimal cut set of the module.
pub record IsSubstitution (module_of : ℕ → ℕ) (truth_of : ℕ → (ℕ → Bool) → Bool) (modules set : List ℕ)
    : Type 0 where
  pub ascending : is_ascending set ≡ true
  pub parts : (m : ℕ) → occurs modules m ≡ true → IsMinimalCutSet (truth_of m) (part_of module_of m set)
  pub only : (event : ℕ) → occurs set event ≡ true → occurs modules (module_of event) ≡ true

-- What is put for each of the modules: a minimal cut set of its truth, of its own events.
pub record IsChoice (module_of : ℕ → ℕ) (truth_of : ℕ → (ℕ → Bool) → Bool) (modules : List ℕ)
    (choice : ℕ → List ℕ) : Type 0 where
  pub minimal : (m : ℕ) → occurs modules m ≡ true → IsMinimalCutSet (truth_of m) (choice m)
  pub own : (m : ℕ) → occurs modules m ≡ true → (event : ℕ) → occurs (choice m) event ≡ true → module_of event ≡ m
