-- A chain of any length has one of at most as many references as there are definitions: behind its last visit of a
-- definition a chain does without it.
use Rattle.std.proofs.Common.{◌≡◌, ◌⊎◌, inl, inr, ℕ, zero, suc, ◌+◌, ◌<◌, ◌≤◌, ◌==◌, Bool, true, false, not, List, [], Option, length, nat_lt, ◌&&◌, refl, sym, ap, subst, arith}
use Rattle.std.proofs.lemmas.Bool.{both_ways, eqb-true, eqb-false, eq-eqb, and_parts, and_from, not-true, ltb-true, lt-ltb, cases_lt}
use Rattle.std.proofs.lemmas.Option.{slice_get_past}
use Rattle.std.specs.Prelude.{Contains}
use Rattle.std.specs.Option.{option_map_or}
use Rattle.psa_names.specs.Outlines.{Entry, Entries}
use Rattle.psa_names.specs.Chains.{Chain, direct, further, followed_from, leads, refers_to}
use Rattle.psa_names.proofs.ChainLemmas.{chain-leads}

-- a chain in which each definition that refers passes a test
data Through (entries : Entries) (to : ℕ) (test : ℕ → Bool) : ℕ → Type 0 where
  last : (from : ℕ) → test from ≡ true → Contains (refers_to entries from) to → Through entries to test from
  more : (from next : ℕ) → test from ≡ true → Contains (refers_to entries from) next → Through entries to test next → Through entries to test from

abbrev without : (ℕ → Bool) → ℕ → ℕ → Bool
without test a x = test x && not (x == a)

first-passes : (entries : Entries) (to : ℕ) (test : ℕ → Bool) (from : ℕ) → Through entries to test from → test from ≡ true
first-passes entries to test from (last start passes here) = passes
first-passes entries to test from (more start next passes here rest) = passes

not-same : (x a : ℕ) → (x == a) ≡ false → not (x == a) ≡ true
not-same x a h = ap not h

cases-same : (x a : ℕ) → (x ≡ a) ⊎ ((x == a) ≡ false)
cases-same x a = by_test (x == a) refl
  where
    by_test : (b : Bool) → (x == a) ≡ b → (x ≡ a) ⊎ ((x == a) ≡ false)
    by_test true h = inl (eqb-true x a h)
    by_test false h = inr h

abbrev one_if : Bool → ℕ
one_if true = 1
one_if false = 0

one_if-one : (b : Bool) → one_if b ≤ 1
one_if-one true = omega arith
one_if-one false = omega arith

one_if-fewer : (b c : Bool) → one_if (b && c) ≤ one_if b
one_if-fewer true c = one_if-one c
one_if-fewer false c = omega arith

one_if-gone : (b c : Bool) → c ≡ true → one_if (b && not c) ≡ 0
one_if-gone true c h = ap (λ (x : Bool). one_if (not x)) h
one_if-gone false c h = refl

less : {a n : ℕ} → a < suc n → (n ≡ a → ⊥) → a < n
less {a} {n} l apart = elim (cases_lt a n) [ inl below ↦ below | inr above ↦ absurd (apart (omega (arith, l, above))) ]

-- how a chain leaves a definition for the last time
abbrev Leaves : Entries → ℕ → (ℕ → Bool) → ℕ → Type 0
Leaves entries to test a = Contains (refers_to entries a) to ⊎ ((next : ℕ) × Contains (refers_to entries a) next × Through entries to (without test a) next)

last-visit : (entries : Entries) (to : ℕ) (test : ℕ → Bool) (a from : ℕ) → Through entries to test from → Through entries to (without test a) from ⊎ Leaves entries to test a
last-visit entries to test a from (last start passes here) =
    elim (cases-same start a) [
      | inl same ↦ inr (inl (subst (λ (x : ℕ). Contains (refers_to entries x) to) same here))
      | inr other ↦ inl (last start (and_from (test start) (not (start == a)) passes (not-same start a other)) here)
    ]
last-visit entries to test a from (more start next passes here rest) =
    elim (last-visit entries to test a next rest) [
      | inr leaves ↦ inr leaves
      | inl avoids ↦ elim (cases-same start a) [
        | inl same ↦ inr (inr (next, subst (λ (x : ℕ). Contains (refers_to entries x) next) same here, avoids))
        | inr other ↦ inl (more start next (and_from (test start) (not (start == a)) passes (not-same start a other)) here avoids)
      ]
    ]

-- how many numbers below one pass
count : ℕ → (ℕ → Bool) → ℕ
count zero test = 0
count (suc n) test = one_if (test n) + count n test

count-few : (n : ℕ) (test : ℕ → Bool) → count n test ≤ n
unfolding count
count-few zero test = omega arith
count-few (suc n) test = let below = count-few n test in let one = one_if-one (test n) in omega (arith, below, one)

count-fewer : (n : ℕ) (test : ℕ → Bool) (a : ℕ) → count n (without test a) ≤ count n test
unfolding count
count-fewer zero test a = omega arith
count-fewer (suc n) test a = let below = count-fewer n test a in let head = one_if-fewer (test n) (not (n == a)) in omega (arith, below, head)

count-without : (n : ℕ) (test : ℕ → Bool) (a : ℕ) → a < n → test a ≡ true → suc (count n (without test a)) ≤ count n test
unfolding count
count-without zero test a l passes = absurd (omega (arith, l))
count-without (suc n) test a l passes = elim (cases-same n a) [
  | inl same ↦
      let gone : one_if (test n && not (n == a)) ≡ 0 = one_if-gone (test n) (n == a) (eq-eqb n a same) in
      let there : one_if (test n) ≡ 1 = ap (λ (b : Bool). one_if b) (subst (λ (x : ℕ). test x ≡ true) (sym same) passes) in
      let below = count-fewer n test a in
      omega (arith, gone, there, below)
  | inr other ↦
      let head = one_if-fewer (test n) (not (n == a)) in
      let apart : n ≡ a → ⊥ = eqb-false n a other in
      let below = count-without n test a (less l apart) passes in
      omega (arith, head, below)
]

-- a definition that refers to something stands
standing : (entries : Entries) (from next : ℕ) → Contains (refers_to entries from) next → from < length entries
standing entries from next here = elim (cases_lt from (length entries)) [
  | inl below ↦ below
  | inr above ↦ absurd (none_there (subst (λ (places : List ℕ). Contains places next) (ap (λ (found : Option Entry). option_map_or (followed_from entries) found []) (slice_get_past entries from above)) here))
]
  where
    none_there : Contains [] next → ⊥
    none_there there = omega (arith, there.1)

through : (entries : Entries) (to steps from : ℕ) → Chain entries to steps from → Through entries to (λ x. nat_lt x (length entries)) from
through entries to steps from (direct start here) = last start (lt-ltb start (length entries) (standing entries start to here)) here
through entries to steps from (further rest start next here chain) =
    more start next (lt-ltb start (length entries) (standing entries start next here)) here (through entries to rest next chain)

shortened : (most : ℕ) (entries : Entries) (to : ℕ) (test : ℕ → Bool) (from : ℕ) → count (length entries) test ≤ most → ((x : ℕ) → test x ≡ true → x < length entries) → Through entries to test from → (steps : ℕ) × (steps ≤ most) × Chain entries to steps from
shortened zero entries to test from few inside chain =
    let passes = first-passes entries to test from chain in
    let some = count-without (length entries) test from (inside from passes) passes in
    absurd (omega (arith, few, some))
shortened (suc most) entries to test from few inside chain =
    let passes = first-passes entries to test from chain in
    let fewer = count-without (length entries) test from (inside from passes) passes in
    elim (last-visit entries to test from from chain) [
      | inl avoids ↦ absurd (both_ways (from == from) (not-true (from == from) (and_parts (test from) (not (from == from)) (first-passes entries to (without test from) from avoids)).1) (eq-eqb from from refl))
      | inr leaves ↦ elim leaves [
        | inl here ↦ (1, omega arith, direct from here)
        | inr on ↦
            let rest = shortened most entries to (without test from) on.0 (omega (arith, few, fewer)) (λ x h. inside x (and_parts (test x) (not (x == from)) h).0) on.2 in
            (suc rest.0, omega (arith, rest.1), further rest.0 from on.0 on.1 rest.2)
      ]
    ]

-- as many steps as there are definitions find every chain
pub enough-steps : (entries : Entries) (steps from to : ℕ) → Chain entries to steps from → leads (length entries) entries from to ≡ true
enough-steps entries steps from to chain =
    let short = shortened (length entries) entries to (λ x. nat_lt x (length entries)) from (count-few (length entries) _) (λ x h. ltb-true x (length entries) h) (through entries to steps from chain) in
    chain-leads (length entries) short.0 entries from to short.1 short.2
