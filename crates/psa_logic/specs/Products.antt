-- Minimal cut sets and prime implicants of a truth, and the order of a report.
-- A truth is a function from tests of membership: `f s` tells whether the target is true when exactly
-- the events with the ranks that pass s occur.
-- A literal is written as a number: 2 * rank where the event occurs, 2 * rank + 1 where it does not.
use Rattle.std.specs.Prelude.{◌≡◌, ◌==◌, ℕ, suc, ◌+◌, ◌*◌, ◌/◌, ◌%◌, ◌≤◌, Bool, true, false, List, [], ◌∷◌, length, map, nat_lt, ◌&&◌, ◌||◌, not, if◌then◌else◌}
use Rattle.psa_logic.specs.Sets.{is_ascending, is_part, occurs, Has}

-- Minimal cut set (Rauzy): the target is true where exactly the events of the set occur, and is so for
-- no other part of it.
pub record IsMinimal (f : (ℕ → Bool) → Bool) (set : List ℕ) : Type 0 where
  pub cuts : f (occurs set) ≡ true
  pub least : (part : List ℕ) → is_part part set ≡ true → f (occurs part) ≡ true → part ≡ set

-- a minimal cut set as a set of ranks: ascending, a cut set, and no strict subset is one
pub record IsMinimalCutSet (f : (ℕ → Bool) → Bool) (set : List ℕ) : Type 0 where
  pub ascending : is_ascending set ≡ true
  pub minimal : IsMinimal f set

-- the literal number of an event that occurs, or does not
abbrev pub literal_number : ℕ → Bool → ℕ
literal_number rank occurring = if occurring then 2 * rank else 2 * rank + 1

-- the rank of a literal, and whether its event occurs
abbrev pub rank_of : ℕ → ℕ
rank_of literal = literal / 2

-- a literal of an event that occurs
abbrev pub is_positive : ℕ → Bool
is_positive literal = literal % 2 == 0

-- the product in which each event of the set occurs
abbrev pub positive_product : List ℕ → List ℕ
positive_product set = map (λ rank. 2 * rank) set

-- no event both ways: in a strictly ascending list the literals of one event stand side by side
abbrev pub is_consistent : List ℕ → Bool
is_consistent [] = true
is_consistent (x ∷ xs) = not (occurs (map (λ l. rank_of l) xs) (rank_of x)) && is_consistent xs

-- each literal of the product holds where exactly the events that pass s occur
abbrev pub holds_at : (ℕ → Bool) → List ℕ → Bool
holds_at s [] = true
holds_at s (x ∷ xs) = (if is_positive x then s (rank_of x) else not (s (rank_of x))) && holds_at s xs

-- Implicant (Coudert and Madre): the target is true wherever the product holds.
abbrev pub IsImplicant : ((ℕ → Bool) → Bool) → List ℕ → Type 0
IsImplicant f product = (s : ℕ → Bool) → holds_at s product ≡ true → f s ≡ true

-- Prime implicant (Coudert and Madre, Rauzy): a consistent implicant, and no product with one literal
-- less is an implicant.
pub record IsPrimeImplicant (f : (ℕ → Bool) → Bool) (product : List ℕ) : Type 0 where
  pub ascending : is_ascending product ≡ true
  pub consistent : is_consistent product ≡ true
  pub implicant : IsImplicant f product
  pub prime : (part : List ℕ) → is_part part product ≡ true → suc (length part) ≡ length product → IsImplicant f part → ⊥

-- The minimal cut sets of at most `limit` events, as products of events that occur.
pub record IsCutProduct (f : (ℕ → Bool) → Bool) (limit : ℕ) (product : List ℕ) : Type 0 where
  pub set : List ℕ
  pub is_set : product ≡ positive_product set
  pub minimal : IsMinimalCutSet f set
  pub within : length set ≤ limit

-- The prime implicants of at most `limit` literals.
pub record IsPrimeProduct (f : (ℕ → Bool) → Bool) (limit : ℕ) (product : List ℕ) : Type 0 where
  pub prime : IsPrimeImplicant f product
  pub within : length product ≤ limit

-- lexicographic order of lists of numbers
abbrev pub is_lexically_before : List ℕ → List ℕ → Bool
is_lexically_before [] [] = false
is_lexically_before [] (y ∷ ys) = true
is_lexically_before (x ∷ xs) [] = false
is_lexically_before (x ∷ xs) (y ∷ ys) = nat_lt x y || ((x == y) && is_lexically_before xs ys)

-- Report order (this project's own): by the number of literals, then lexicographic by literal number.
abbrev pub is_before : List ℕ → List ℕ → Bool
is_before left right =
    nat_lt (length left) (length right) || ((length left == length right) && is_lexically_before left right)

-- `one` stands before each of `others`
abbrev pub is_before_all : List ℕ → List (List ℕ) → Bool
is_before_all one [] = true
is_before_all one (other ∷ others) = is_before one other && is_before_all one others

-- strictly ascending in report order: each product once
abbrev pub is_in_order : List (List ℕ) → Bool
is_in_order [] = true
is_in_order (product ∷ products) = is_before_all product products && is_in_order products

-- The list of a section: in report order, each product once, and a product is in it exactly where it
-- is one of the target.
pub record IsListing (IsOne : List ℕ → Type 0) (products : List (List ℕ)) : Type 0 where
  pub ordered : is_in_order products ≡ true
  pub sound : (product : List ℕ) → Has products product → IsOne product
  pub whole : (product : List ℕ) → IsOne product → Has products product
