-- Ranks while they are put together.
use Rattle.std.specs.Prelude.{◌≡◌, ◌==◌, ◌<◌, ◌≤◌, ℕ, suc, Bool, true, List, [], ◌∷◌, ◌++◌, Option, Some, None, Result, Ok, Err, length, map, nat_eq, if◌then◌else◌}
use Rattle.std.specs.List.{slice_get, list_all, list_any}
use Rattle.std.specs.HashSet.{contains}
use Rattle.psa_model.specs.declared.expanded.Expanded.{Expanded}
use Rattle.psa_model.specs.declared.fault.FaultKind.TheVariants.{TooManyEvents}
use Rattle.psa_model.specs.declared.fault.ModelFault.{ModelFault}
use Rattle.psa_model.specs.declared.formula.Formula.{Formula}
use Rattle.psa_model.specs.declared.formula.Formula.TheVariants as variant
use Rattle.psa_model.specs.declared.ids.Place.{Place}
use Rattle.psa_model.specs.declared.limits.TheConstants.{MAX_EVENTS}
use Rattle.psa_model.specs.declared.model.TheConstants.{MAX_DEPTH}
use Rattle.psa_model.specs.declared.targets.PathStep.{PathStep}
use Rattle.psa_model.specs.declared.targets.PathStep.TheVariants.{Collect, Set}
use Rattle.psa_model.specs.Faults.{fault_at}
use Rattle.psa_model.specs.Ranks.{visits}
use Rattle.psa_model.specs.Truth.{within}
use Rattle.psa_prep.specs.declared.ranking.Ranking.{Ranking}
use Rattle.psa_prep.specs.declared.ranking.RankError.{RankError}
use Rattle.psa_prep.specs.declared.ranking.RankError.TheVariants.{Fault, Memory}
use Rattle.psa_prep.specs.declared.ranking.Stop.{Stop}
use Rattle.psa_prep.specs.declared.ranking.Stop.TheVariants as stop

-- the fault that is answered; want of memory tells nothing
abbrev pub Tells : RankError → (ModelFault → Type 0) → Type 0
Tells (Fault fault) P = P fault
Tells Memory P = Unit {0}

-- the fault of a target with this place and name
abbrev pub fault_of : Place × List ℕ → ModelFault
fault_of there = fault_at TooManyEvents (Some there)

-- what holds where a walk ends, and what where it stops at an event too many; want of memory tells nothing
abbrev pub Ends : {A : Type 0} → Type 0 → Type 0 → Result A Stop → Type 0
Ends ended stopped (Ok _) = ended
Ends ended stopped (Err stop.TooManyEvents) = stopped
Ends ended stopped (Err stop.Memory) = Unit {0}

-- whether the number is in the list
abbrev pub is_in : List ℕ → ℕ → Bool
is_in numbers x = list_any (λ y. y == x) numbers

-- the numbers ranked so far, and then each further one at its first place alone
abbrev pub ranked : List ℕ → List ℕ → List ℕ
ranked before [] = before
ranked before (x ∷ xs) = ranked (if is_in before x then before else before ++ x ∷ []) xs

-- the events with a rank
abbrev pub numbers : Ranking → List ℕ
numbers ranking = map (λ event. event.0) ranking.ranks

-- what was seen has a rank, and nothing else; and there are not too many
pub record Agrees (ranking : Ranking) : Type 0 where
  pub seen : (event : ℕ) → contains nat_eq ranking.seen event ≡ is_in (numbers ranking) event
  pub few : length ranking.ranks ≤ MAX_EVENTS

-- all events of the gates that were left have their ranks
abbrev pub AllEntered : Expanded → Ranking → Type 0
AllEntered expanded ranking =
    (gate : ℕ) → contains nat_eq ranking.entered gate ≡ true
    → (n : ℕ) → within n expanded.model (variant.Gate (record { 0 = gate })) ≡ true
    → list_all (λ event. is_in (numbers ranking) event) (visits n expanded (variant.Gate (record { 0 = gate }))) ≡ true

-- the events met in a formula that may stand
abbrev pub option_visits : Expanded → Option Formula → List ℕ
option_visits expanded None = []
option_visits expanded (Some formula) = visits (suc MAX_DEPTH) expanded formula

-- the events met in what a step collects
abbrev pub step_visits : Expanded → PathStep → List ℕ
step_visits expanded (Collect id) = option_visits expanded (slice_get expanded.model.formulas id.0)
step_visits expanded (Set house state) = []

-- all events of the collected formulas that were left have their ranks
abbrev pub AllCollected : Expanded → Ranking → Type 0
AllCollected expanded ranking =
    (formula : ℕ) → contains nat_eq ranking.collected formula ≡ true
    → list_all (λ event. is_in (numbers ranking) event)
    (option_visits expanded (slice_get expanded.model.formulas formula)) ≡ true

pub record IsSound (expanded : Expanded) (ranking : Ranking) : Type 0 where
  pub agrees : Agrees ranking
  pub entered : AllEntered expanded ranking
  pub collected : AllCollected expanded ranking

-- The events come to the ranks, and nothing was left.
pub record RanksMore (events : List ℕ) (before after : Ranking) : Type 0 where
  pub agrees : Agrees after
  pub ranks : numbers after ≡ ranked (numbers before) events
  pub entered : after.entered ≡ before.entered
  pub collected : after.collected ≡ before.collected

-- The events come to the ranks.
pub record RanksList (expanded : Expanded) (events : List ℕ) (before after : Ranking) : Type 0 where
  pub sound : IsSound expanded after
  pub ranks : numbers after ≡ ranked (numbers before) events

-- The events come to the ranks: for every number of levels that is enough, those of these levels.
pub record Ranked (expanded : Expanded) (enough : ℕ → Bool) (events : ℕ → List ℕ) (before after : Ranking) : Type 0 where
  pub sound : IsSound expanded after
  pub ranks : (n : ℕ) → enough n ≡ true → numbers after ≡ ranked (numbers before) (events n)

-- too many would have a rank
abbrev pub Exceeds : List ℕ → Ranking → Type 0
Exceeds events before = MAX_EVENTS < length (ranked (numbers before) events)

-- .. for every number of levels that is enough
abbrev pub ExceedsAt : (ℕ → Bool) → (ℕ → List ℕ) → Ranking → Type 0
ExceedsAt enough events before = (n : ℕ) → enough n ≡ true → Exceeds (events n) before

-- what a walk of some events answers
abbrev pub RankedOr : {A : Type 0} → Expanded → (ℕ → Bool) → (ℕ → List ℕ) → Ranking → Ranking → Result A Stop → Type 0
RankedOr expanded enough events before after =
    Ends (Ranked expanded enough events before after) (ExceedsAt enough events before)

abbrev pub RanksListOr : {A : Type 0} → Expanded → List ℕ → Ranking → Ranking → Result A Stop → Type 0
RanksListOr expanded events before after = Ends (RanksList expanded events before after) (Exceeds events before)

abbrev pub RanksMoreOr : {A : Type 0} → List ℕ → Ranking → Ranking → Result A Stop → Type 0
RanksMoreOr events before after = Ends (RanksMore events before after) (Exceeds events before)
