-- A target has no more ranked events than there are expanded events.
use Rattle.std.proofs.Common.{inl, inr, ◌≡◌, ◌≤◌, ℕ, zero, suc, Bool, true, false, ◌==◌, List, [], ◌∷◌, length, map, nat_lt, cond, not, ◌&&◌, ◌||◌, refl, sym, ap, ◌∙◌, subst, arith, true≢false}
use Rattle.std.proofs.lemmas.Bool.Decides.{nat_tests, eqb_tells}
use Rattle.std.proofs.lemmas.Bool.{cases_Bool}
use Rattle.std.proofs.lemmas.List.{length-map}
use Rattle.std.specs.List.{list_all, list_any, filter}
use Rattle.psa_model.specs.declared.expanded.Expanded.{Expanded}
use Rattle.psa_model.specs.declared.ids.EventNumber.{EventNumber}
use Rattle.psa_model.specs.declared.targets.Target.{Target}
use Rattle.psa_model.specs.Models.{are_different}
use Rattle.psa_model.specs.Ranks.{firsts, ranks_of, target_visits}
use Rattle.psa_model.proofs.StandingRanks.{ranks-standing}
use Rattle.psa_model.proofs.Levels.{and-left, and-right, and-both}

or-left : (a b : Bool) → (a || b) ≡ false → a ≡ false
or-left true b h = absurd (cc)
or-left false b h = refl

or-right : (a b : Bool) → (a || b) ≡ false → b ≡ false
or-right true b h = absurd (cc)
or-right false b h = h

any-filter-by : (q : ℕ → Bool) (x : ℕ) (rest : List ℕ) (a : Bool) → q x ≡ false → list_any q rest ≡ false → list_any q (cond a (x ∷ rest) rest) ≡ false
any-filter-by q x rest true e h = rw (e, h) refl
any-filter-by q x rest false e h = h

any-filter : (q p : ℕ → Bool) (xs : List ℕ) → list_any q xs ≡ false → list_any q (filter p xs) ≡ false
any-filter q p [] h = refl
any-filter q p (x ∷ xs) h = any-filter-by q x (filter p xs) (p x) (or-left (q x) (list_any q xs) h) (any-filter q p xs (or-right (q x) (list_any q xs) h))

not-filter : (q : ℕ → Bool) (xs : List ℕ) → list_any q (filter (λ y. not (q y)) xs) ≡ false
not-filter q [] = refl
not-filter q (x ∷ xs) = elim (cases_Bool (q x)) [
  | inl h ↦ rw h (not-filter q xs)
  | inr h ↦ rw (h, h) (not-filter q xs)
]

different-by : (p : ℕ → Bool) (x : ℕ) (xs : List ℕ) (a : Bool) → list_any (λ y. y == x) (filter p xs) ≡ false → are_different (filter p xs) ≡ true → are_different (cond a (x ∷ filter p xs) (filter p xs)) ≡ true
different-by p x xs true e h = rw (e, h) refl
different-by p x xs false e h = h

not-false : (a b : Bool) → (not a && b) ≡ true → a ≡ false
not-false true b h = absurd (cc)
not-false false b h = refl

not-second : (a b : Bool) → (not a && b) ≡ true → b ≡ true
not-second true b h = absurd (cc)
not-second false b h = h

different-filter : (p : ℕ → Bool) (xs : List ℕ) → are_different xs ≡ true → are_different (filter p xs) ≡ true
different-filter p [] h = refl
different-filter p (x ∷ xs) h =
    different-by p x xs (p x) (any-filter (λ y. y == x) p xs (not-false (list_any (λ y. y == x) xs) (are_different xs) h))
    (different-filter p xs (not-second (list_any (λ y. y == x) xs) (are_different xs) h))

different-firsts : (xs : List ℕ) → are_different (firsts xs) ≡ true
different-firsts [] = refl
different-firsts (x ∷ xs) =
    let none : list_any (λ y. y == x) (filter (λ y. not (y == x)) (firsts xs)) ≡ false = not-filter (λ y. y == x) (firsts xs) in
    let rest : are_different (filter (λ y. not (y == x)) (firsts xs)) ≡ true = different-filter (λ y. not (y == x)) (firsts xs) (different-firsts xs) in
    rw (none, rest) refl

filter-none : (q : ℕ → Bool) (xs : List ℕ) → list_any q xs ≡ false → filter (λ y. not (q y)) xs ≡ xs
filter-none q [] h = refl
filter-none q (x ∷ xs) h = rw (or-left (q x) (list_any q xs) h) (ap (λ ys. x ∷ ys) (filter-none q xs (or-right (q x) (list_any q xs) h)))

same-any : (x n : ℕ) (xs : List ℕ) → x ≡ n → list_any (λ y. y == x) xs ≡ false → list_any (λ y. y == n) xs ≡ false
same-any x n xs e h = subst (λ (k : ℕ). list_any (λ y. y == k) xs ≡ false) e h

-- without one number a list of different numbers is at most one shorter
drop-one : (n : ℕ) (xs : List ℕ) → are_different xs ≡ true → length xs ≤ suc (length (filter (λ y. not (y == n)) xs))
drop-one n [] h = omega arith
drop-one n (x ∷ xs) h = elim (eqb_tells x n) [
  | inl p ↦
      let rest : filter (λ y. not (y == n)) xs ≡ xs = filter-none (λ y. y == n) xs (same-any x n xs p.1 (not-false (list_any (λ y. y == x) xs) (are_different xs) h)) in
      let size : length (filter (λ y. not (y == n)) xs) ≡ length xs = ap length rest in
      rw p.0 (omega arith)
  | inr p ↦
      let shorter = drop-one n xs (not-second (list_any (λ y. y == x) xs) (are_different xs) h) in
      rw p.0 (omega arith)
]

below-filter-by : (n x : ℕ) (rest : List ℕ) (a : Bool) → (a ≡ true → nat_lt x n ≡ true) → list_all (λ y. nat_lt y n) rest ≡ true → list_all (λ y. nat_lt y n) (cond a (x ∷ rest) rest) ≡ true
below-filter-by n x rest true e h = and-both _ _ (e refl) h
below-filter-by n x rest false e h = h

less-and-other : (n x : ℕ) → nat_lt x (suc n) ≡ true → not (x == n) ≡ true → nat_lt x n ≡ true
less-and-other n x l e = grind (arith, nat_tests)

below-filter : (n : ℕ) (xs : List ℕ) → list_all (λ y. nat_lt y (suc n)) xs ≡ true → list_all (λ y. nat_lt y n) (filter (λ y. not (y == n)) xs) ≡ true
below-filter n [] h = refl
below-filter n (x ∷ xs) h = below-filter-by n x (filter (λ y. not (y == n)) xs) (not (x == n)) (less-and-other n x (and-left _ _ h)) (below-filter n xs (and-right _ _ h))

-- different numbers below n are at most n
different-few : (n : ℕ) (xs : List ℕ) → are_different xs ≡ true → list_all (λ y. nat_lt y n) xs ≡ true → length xs ≤ n
different-few zero [] d h = omega arith
different-few zero (x ∷ xs) d h = let l : nat_lt x 0 ≡ true = and-left _ _ h in absurd (true≢false (sym l ∙ none x))
  where
    none : (a : ℕ) → nat_lt a 0 ≡ false
    none a = grind (arith, nat_tests)
different-few (suc n) xs d h =
    let shorter = different-few n (filter (λ y. not (y == n)) xs) (different-filter (λ y. not (y == n)) xs d) (below-filter n xs h) in
    let one = drop-one n xs d in omega arith

all-numbers : (n : ℕ) (xs : List ℕ) → list_all (λ (number : EventNumber). nat_lt number.0 n) (map (λ event. record { 0 = event }) xs) ≡ true → list_all (λ y. nat_lt y n) xs ≡ true
all-numbers n [] h = refl
all-numbers n (x ∷ xs) h = and-both _ _ (and-left _ _ h) (all-numbers n xs (and-right _ _ h))

-- a target's ranks are at most as many as the events
pub ranks-few : (expanded : Expanded) (target : Target) → length (ranks_of expanded target) ≤ length expanded.events
ranks-few expanded target =
    let few = different-few (length expanded.events) (firsts (target_visits expanded target)) (different-firsts (target_visits expanded target))
    (all-numbers (length expanded.events) (firsts (target_visits expanded target)) (ranks-standing expanded target)) in
    let size : length (ranks_of expanded target) ≡ length (firsts (target_visits expanded target)) = length-map _ _ in omega arith
