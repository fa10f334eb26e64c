-- The texts of lines in the parts in which they are written.
use Rattle.std.proofs.Common.{◌≡◌, ◌≤◌, ℕ, List, [], ◌++◌, codes, map, drop, length, ap, arith}
use Rattle.std.proofs.lemmas.Grind.{common_steps}
use Rattle.std.proofs.lemmas.List.{drop_all}
use Rattle.psa_model.specs.declared.ids.EventId.{EventId}
use Rattle.psa_model.specs.Names.{held_members}
use Rattle.psa_report.specs.Joined.{separated}

-- the ends of an interval
pub interval-in-parts : (l h lo hi : List ℕ) → l ≡ lo → h ≡ hi → l ++ (codes " " ++ (h ++ [])) ≡ lo ++ codes " " ++ hi
interval-in-parts l h lo hi low high = rw (low, high) (joined lo hi)
  where
    joined : (a b : List ℕ) → a ++ (codes " " ++ (b ++ [])) ≡ a ++ codes " " ++ b
    joined a b = grind (arith, common_steps)

-- the line of a total
pub total-in-parts : (word ends : List ℕ) → (word ++ (codes " " ++ [])) ++ (ends ++ codes "\n") ≡ word ++ codes " " ++ ends ++ codes "\n"
total-in-parts word ends = grind (arith, common_steps)

-- the lines of quantities
pub quantities-in-parts : (ends units : List ℕ)
    → codes "mission-time " ++ (ends ++ (codes "\ncut-off " ++ (units ++ (codes "\n" ++ []))))
    ≡ codes "mission-time " ++ ends ++ codes "\n" ++ codes "cut-off " ++ units ++ codes "\n"
quantities-in-parts ends units = grind (arith, common_steps)

-- the count, and the lines of totals
pub totals-in-parts : (count rare min_cut : List ℕ)
    → (codes "count " ++ (count ++ (codes "\n" ++ []))) ++ (rare ++ min_cut) ≡ codes "count " ++ count ++ codes "\n" ++ (rare ++ min_cut)
totals-in-parts count rare min_cut = grind (arith, common_steps)

-- the line of a fault
pub fault-in-parts : (file line words name : List ℕ)
    → codes "scram: " ++ (file ++ ((codes ":" ++ (line ++ (codes ": " ++ (words ++ [])))) ++ (name ++ codes "\n")))
    ≡ codes "scram: " ++ file ++ codes ":" ++ line ++ codes ": " ++ (words ++ name) ++ codes "\n"
fault-in-parts file line words name = grind (arith, common_steps)

-- no member is left
pub no-members : (f : EventId → List ℕ) (left : ℕ) (ids : List EventId) (i : ℕ) (separator : List ℕ)
    → length ids ≤ i → separated separator (map f (held_members left (drop i ids))) ≡ []
no-members f left ids i separator past =
    ap (λ (some : List EventId). separated separator (map f (held_members left some))) (drop_all i ids past)
