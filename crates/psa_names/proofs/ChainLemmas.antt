-- What `leads` and `is_within` mean.
use Rattle.std.proofs.Common.{◌≡◌, inl, inr, ℕ, zero, suc, ◌≤◌, ◌==◌, Bool, true, List, [], ◌∷◌, Option, Some, None, slice_get, ◌||◌, refl, subst, arith}
use Rattle.std.proofs.lemmas.Bool.{false≢true, eqb-true, eq-eqb, and_parts, and_from, or_cases, or_left, or_right}
use Rattle.std.proofs.lemmas.List.Folds.{Any-from_list_any, list_any-from_Any}
use Rattle.std.specs.Prelude.{Contains}
use Rattle.std.specs.List.{list_all, list_any}
use Rattle.std.specs.Option.{option_and_then, option_map_or}
use Rattle.psa_names.specs.Outlines.{Entry, Entries, Outline, Outlines, element, none, and}
use Rattle.psa_names.specs.Chains.{Chain, direct, further, leads, refers_to, followed, all_pass, passes_on, is_within}

-- the test finds a chain
pub leads-chain : (steps : ℕ) (entries : Entries) (from to : ℕ) → leads steps entries from to ≡ true → (length : ℕ) × (length ≤ steps) × Chain entries to length from
unfolding leads
leads-chain zero entries from to h = absurd (false≢true h)
leads-chain (suc steps) entries from to h =
    let found = Any-from_list_any (λ next. (next == to) || leads steps entries next to) (refers_to entries from) h in
    let here : Contains (refers_to entries from) found.1 = (found.0, found.2, found.3) in
    elim (or_cases (found.1 == to) (leads steps entries found.1 to) found.4) [
      | inl same ↦ (1, omega arith, direct from (subst (λ next. Contains (refers_to entries from) next) (eqb-true found.1 to same) here))
      | inr leads_on ↦ let rest = leads-chain steps entries found.1 to leads_on in
          (suc rest.0, omega (arith, rest.1), further rest.0 from found.1 here rest.2)
    ]

-- the test finds a reference that passes
finds : (test : ℕ → Bool) (places : List ℕ) (next : ℕ) → Contains places next → test next ≡ true → list_any test places ≡ true
finds test places next here passes = list_any-from_Any test places (here.0, next, here.1, here.2, passes)

-- the test finds each chain that is not longer
pub chain-leads : (steps length : ℕ) (entries : Entries) (from to : ℕ) → length ≤ steps → Chain entries to length from → leads steps entries from to ≡ true
unfolding leads
chain-leads zero size entries from to few (direct start here) = absurd (omega (arith, few))
chain-leads zero size entries from to few (further rest start next here chain) = absurd (omega (arith, few))
chain-leads (suc steps) size entries from to few (direct start here) =
    finds _ (refers_to entries start) to here (or_left (to == to) (leads steps entries to to) (eq-eqb to to refl))
chain-leads (suc steps) size entries from to few (further rest start next here chain) =
    finds _ (refers_to entries start) next here
    (or_right (next == to) (leads steps entries next to) (chain-leads steps rest entries next to (omega (arith, few)) chain))

-- a test that passes more
pass-more : (test more : Outline → Bool) → ((one : Outline) → test one ≡ true → more one ≡ true) → (all : Outlines) → all_pass test all ≡ true → all_pass more all ≡ true
pass-more test more implies none h = refl
pass-more test more implies (and one others) h =
    let parts = and_parts (test one) (all_pass test others) h in
    and_from (more one) (all_pass more others) (implies one parts.0) (pass-more test more implies others parts.1)

list-more : (test more : Outline → Bool) → ((one : Outline) → test one ≡ true → more one ≡ true) → (all : List Outline) → list_all test all ≡ true → list_all more all ≡ true
list-more test more implies [] h = refl
list-more test more implies (one ∷ others) h =
    let parts = and_parts (test one) (list_all test others) h in
    and_from (more one) (list_all more others) (implies one parts.0) (list-more test more implies others parts.1)

found-more : (test more : Entry → Bool) → ((one : Entry) → test one ≡ true → more one ≡ true) → (found : Option Entry) → option_map_or test found true ≡ true → option_map_or more found true ≡ true
found-more test more implies None h = refl
found-more test more implies (Some one) h = implies one h

on-more : (test more : Entry → Bool) (entries : Entries) → ((one : Entry) → test one ≡ true → more one ≡ true) → (place : Option ℕ) → passes_on test entries place ≡ true → passes_on more entries place ≡ true
on-more test more entries implies None h = refl
on-more test more entries implies (Some place) h = found-more test more implies (slice_get entries place) h

pub within-more : (levels : ℕ) (entries : Entries) (from : Entry) (outline : Outline) → is_within levels entries from outline ≡ true → is_within (suc levels) entries from outline ≡ true
unfolding is_within
within-more zero entries from outline h = absurd (false≢true h)
within-more (suc levels) entries from (element reference inside) h =
    let on = option_and_then (followed entries from) reference in
    let parts = and_parts (all_pass (λ one. is_within levels entries from one) inside) (passes_on (λ to. list_all (λ one. is_within levels entries to one) to.outlines) entries on) h in
    and_from _ _
    (pass-more _ _ (λ one. within-more levels entries from one) inside parts.0)
    (on-more _ _ entries (λ to. list-more _ _ (λ one. within-more levels entries to one) to.outlines) on parts.1)
