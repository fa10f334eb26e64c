-- Definitions that refer to one another: a list, at each place what the definition there refers to.
-- (This project's own.)
use Rattle.std.specs.Prelude.{◌≡◌, ◌≤◌, ◌<◌, ℕ, List, [], ◌∷◌, length, get_or, map, take, ◌⊎◌}
use Rattle.std.specs.List.{Contains}
use Rattle.psa_chains.specs.declared.reference.Reference.{Reference}

-- what the definition at a place refers to; nothing stands behind the end
abbrev pub row : List (List Reference) → ℕ → List Reference
row graph place = get_or graph place []

abbrev pub targets : List Reference → List ℕ
targets references = map (λ reference. reference.target) references

abbrev pub RefersTo : List (List Reference) → ℕ → ℕ → Type 0
RefersTo graph from to = Contains (targets (row graph from)) to

-- each reference leads to a place of the list
abbrev pub AllStand : List (List Reference) → Type 0
AllStand graph = (from to : ℕ) → RefersTo graph from to → to < length graph

-- a chain of references along a path of places
abbrev pub Chain : List (List Reference) → ℕ → List ℕ → ℕ → Type 0
Chain graph from [] to = from ≡ to
Chain graph from (next ∷ path) to = RefersTo graph from next × Chain graph next path to

pub record Leads (graph : List (List Reference)) (from to : ℕ) : Type 0 where
  pub path : List ℕ
  pub chain : Chain graph from path to

-- a chain of at least one reference leads from the definition back to it
pub record IsCyclic (graph : List (List Reference)) (place : ℕ) : Type 0 where
  pub next : ℕ
  pub refers : RefersTo graph place next
  pub back : Leads graph next place

abbrev pub rank_of : List ℕ → ℕ → ℕ
rank_of ranks place = get_or ranks place 0

-- Ranks that never rise along a reference, and that two places share only where chains lead both ways.
pub record AreRanks (graph : List (List Reference)) (ranks : List ℕ) : Type 0 where
  pub all : length ranks ≡ length graph
  pub falls : (from to : ℕ) → RefersTo graph from to → rank_of ranks to ≤ rank_of ranks from
  pub same : (a b : ℕ) → a < length graph → b < length graph → rank_of ranks a ≡ rank_of ranks b → Leads graph a b

pub record IsFirstCyclic (graph : List (List Reference)) (place : ℕ) : Type 0 where
  pub cyclic : IsCyclic graph place
  pub first : (earlier : ℕ) → earlier < place → ¬ (IsCyclic graph earlier)

-- a reference leads to a place of this rank
abbrev pub LeadsToRank : List ℕ → List Reference → ℕ → Type 0
LeadsToRank ranks references rank = (k : ℕ) × (k < length references)
    × (rank_of ranks (get_or (targets references) k 0) ≡ rank)

abbrev pub HasNoCycle : List (List Reference) → Type 0
HasNoCycle graph = (place : ℕ) → ¬ (IsCyclic graph place)

-- Components of a graph: ranks, and an order of all places in which each reference leads to an earlier
-- place or to one of the same rank.
pub record AreComponents (graph : List (List Reference)) (ranks order : List ℕ) : Type 0 where
  pub ranks_right : AreRanks graph ranks
  pub listed : (place : ℕ) → place < length graph → Contains order place
  pub inside : (i : ℕ) → i < length order → get_or order i 0 < length graph
  pub ordered : (i target : ℕ) → i < length order → RefersTo graph (get_or order i 0) target
      → Contains (take i order) target ⊎ (rank_of ranks target ≡ rank_of ranks (get_or order i 0))
  pub few : length order ≤ length graph
