-- Chains of the graph are chains of the draft.
use Rattle.std.proofs.Common.{◌≡◌, ◌<◌, ℕ, zero, suc, true, false, List, [], ◌∷◌, length, map, Option, Some, None, refl, sym, ap, ◌∙◌, subst, inl, inr, arith}
use Rattle.std.proofs.lemmas.Bool.{cases_Bool, false_from_ne_true}
use Rattle.std.proofs.lemmas.List.{length-map}
use Rattle.std.proofs.lemmas.Option.{same_Some, none-some, slice_get_within}
use Rattle.std.specs.Prelude.{Contains, filter_map, slice_get, if◌then◌else◌}
use Rattle.std.specs.Option.{option_map_or, option_and_then}
use Rattle.psa_chains.specs.declared.reference.Reference.{Reference as Step}
use Rattle.psa_chains.specs.Chains.{row, targets, RefersTo, AllStand, IsCyclic}
use Rattle.psa_chains.specs.Chains.{Chain as Path}
use Rattle.psa_names.specs.Outlines.{Reference, Entry, Entries}
use Rattle.psa_names.specs.Meanings.{Meaning, definition, of_group, meaning_of}
use Rattle.psa_names.specs.Chains.{Chain, direct, further, is_chained, chained_place, followed, followed_from, refers_to, references_of, leads}
use Rattle.psa_names.proofs.ChainLemmas.{leads-chain}
use Rattle.psa_names.proofs.ShortChains.{enough-steps}
use Rattle.psa_cycles.specs.Graphs.{steps, row_by, graph_by}
use Rattle.psa_cycles.proofs.ReferenceRows.{levels_of, length-levels-of}

targets-more : (f : Reference → Option ℕ) (l : ℕ) (ls : List ℕ) (r : Reference) (rs : List Reference) (found : Option ℕ) → f r ≡ found → targets (steps ls (map f rs)) ≡ filter_map f rs → targets (steps (l ∷ ls) (map f (r ∷ rs))) ≡ filter_map f (r ∷ rs)
targets-more f l ls r rs None is rest = rw is rest
targets-more f l ls r rs (Some t) is rest = rw is (ap (λ ts. t ∷ ts) rest)

steps-targets : (f : Reference → Option ℕ) (levels : List ℕ) (references : List Reference) → length levels ≡ length references → targets (steps levels (map f references)) ≡ filter_map f references
steps-targets f [] [] same = refl
steps-targets f [] (r ∷ rs) same = absurd (omega arith)
steps-targets f (l ∷ ls) [] same = absurd (omega arith)
steps-targets f (l ∷ ls) (r ∷ rs) same = targets-more f l ls r rs (f r) refl (steps-targets f ls rs (omega arith))

-- what one definition refers to
row-targets : (entries : Entries) (one : Entry) → targets (row_by entries one) ≡ followed_from entries one
row-targets entries one =
    elim (cases_Bool (is_chained one.kind)) [
      | inl is_so ↦ rw is_so (steps-targets (followed entries one) (levels_of one) (references_of one) (length-levels-of one))
      | inr is_not ↦ rw is_not refl
    ]

row-at : {X : Type 0} (f : X → List Step) (xs : List X) (place : ℕ) → row (map f xs) place ≡ option_map_or f (slice_get xs place) []
row-at f [] place = refl
row-at f (x ∷ xs) zero = refl
row-at f (x ∷ xs) (suc place) = row-at f xs place

-- the row of a definition
pub row-some : (entries : Entries) (place : ℕ) (one : Entry) → slice_get entries place ≡ Some one → row (graph_by entries) place ≡ row_by entries one
row-some entries place one is = row-at (row_by entries) entries place ∙ ap (λ found. option_map_or (row_by entries) found []) is

same-targets : (entries : Entries) (place : ℕ) → targets (row (graph_by entries) place) ≡ refers_to entries place
same-targets entries place = ap targets (row-at (row_by entries) entries place) ∙ by_entry (slice_get entries place)
  where
    by_entry : (found : Option Entry) → targets (option_map_or (row_by entries) found []) ≡ option_map_or (followed_from entries) found []
    by_entry None = refl
    by_entry (Some one) = row-targets entries one

refers-from : (entries : Entries) (from to : ℕ) → RefersTo (graph_by entries) from to → Contains (refers_to entries from) to
refers-from entries from to here = subst (λ ts. Contains ts to) (same-targets entries from) here

refers-in : (entries : Entries) (from to : ℕ) → Contains (refers_to entries from) to → RefersTo (graph_by entries) from to
refers-in entries from to here = subst (λ ts. Contains ts to) (sym (same-targets entries from)) here

-- a chain of the graph
chain-from : (entries : Entries) (path : List ℕ) (from next to : ℕ) → Contains (refers_to entries from) next → Path (graph_by entries) next path to → (steps : ℕ) × Chain entries to steps from
chain-from entries [] from next to here along = (1, direct from (subst (λ x. Contains (refers_to entries from) x) along here))
chain-from entries (other ∷ path) from next to here along =
    let rest = chain-from entries path next other to (refers-from entries next other along.0) along.1 in
    (suc rest.0, further rest.0 from next here rest.1)

-- a chain of the draft
pub record Begins (entries : Entries) (from to : ℕ) : Type 0 where
  pub next : ℕ
  pub refers : RefersTo (graph_by entries) from next
  pub path : List ℕ
  pub along : Path (graph_by entries) next path to

chain-in : (entries : Entries) (to count from : ℕ) → Chain entries to count from → Begins entries from to
chain-in entries to count from (direct start here) = record { next = to; refers = refers-in entries start to here; path = []; along = refl }
chain-in entries to count from (further rest start next here chain) =
    let more = chain-in entries to rest next chain in
    record { next = next; refers = refers-in entries start next here; path = more.next ∷ more.path; along = (more.refers, more.along) }

-- a place on a cycle of the graph leads to itself in the draft
pub cyclic-leads : (entries : Entries) (place : ℕ) → IsCyclic (graph_by entries) place → leads (length entries) entries place place ≡ true
cyclic-leads entries place cyclic =
    let chain = chain-from entries cyclic.back.path place cyclic.next place (refers-from entries place cyclic.next cyclic.refers) cyclic.back.chain in
    enough-steps entries chain.0 place place chain.1

-- a place on none does not
pub acyclic-leads : (entries : Entries) (place : ℕ) → (IsCyclic (graph_by entries) place → ⊥) → leads (length entries) entries place place ≡ false
acyclic-leads entries place acyclic = false_from_ne_true (leads (length entries) entries place place) (λ h. acyclic (cyclic h))
  where
    cyclic : leads (length entries) entries place place ≡ true → IsCyclic (graph_by entries) place
    cyclic h =
        let found = leads-chain (length entries) entries place place h in
        let begun = chain-in entries place found.0 place found.2 in
        record { next = begun.next; refers = begun.refers; back = record { path = begun.path; chain = begun.along } }

-- ---- each reference leads to a definition

-- what is followed stands, and chains lead through it
pub followed-stands : (entries : Entries) (from : Entry) (reference : Reference) (place : ℕ) → followed entries from reference ≡ Some place → (one : Entry) × (slice_get entries place ≡ Some one) × (is_chained one.kind ≡ true)
followed-stands entries from reference place is = by_meaning (meaning_of entries from reference) is
  where
    by_entry : (other : ℕ) (found : Option Entry) → slice_get entries other ≡ found → (if option_map_or (λ one. is_chained one.kind) found false then Some other else None) ≡ Some place → (one : Entry) × (slice_get entries place ≡ Some one) × (is_chained one.kind ≡ true)
    by_entry other None at h = absurd (none-some place h)
    by_entry other (Some one) at h =
        elim (cases_Bool (is_chained one.kind)) [
          | inl is_so ↦ (let same : other ≡ place = same_Some other place (rw is_so at h) in (one, subst (λ x. slice_get entries x ≡ Some one) same at, is_so))
          | inr is_not ↦ absurd (none-some place (rw is_not at h))
        ]

    by_meaning : (meaning : Option Meaning) → option_and_then (chained_place entries) meaning ≡ Some place → (one : Entry) × (slice_get entries place ≡ Some one) × (is_chained one.kind ≡ true)
    by_meaning None h = absurd (none-some place h)
    by_meaning (Some (of_group name)) h = absurd (none-some place h)
    by_meaning (Some (definition other)) h = by_entry other (slice_get entries other) refl h

first-stands : (n t to : ℕ) (ts : List ℕ) → t < n → (Contains ts to → to < n) → Contains (t ∷ ts) to → to < n
first-stands n t to ts low rest (zero, inside, same) = subst (λ x. x < n) same low
first-stands n t to ts low rest (suc k, inside, same) = rest (k, omega arith, same)

filtered-more : (entries : Entries) (from : Entry) (r : Reference) (rs : List Reference) (to : ℕ) (found : Option ℕ) → followed entries from r ≡ found → (Contains (filter_map (followed entries from) rs) to → to < length entries) → Contains (filter_map (followed entries from) (r ∷ rs)) to → to < length entries
filtered-more entries from r rs to None is rest here = rest (rw is at here)
filtered-more entries from r rs to (Some t) is rest here =
    let at = followed-stands entries from r t is in
    first-stands (length entries) t to (filter_map (followed entries from) rs) (slice_get_within entries t at.0 at.1) rest (rw is at here)

filtered-stand : (entries : Entries) (from : Entry) (references : List Reference) (to : ℕ) → Contains (filter_map (followed entries from) references) to → to < length entries
filtered-stand entries from [] to here = absurd (omega (arith, here.1))
filtered-stand entries from (r ∷ rs) to here = filtered-more entries from r rs to (followed entries from r) refl (λ h. filtered-stand entries from rs to h) here

-- each reference of the graph leads to a definition
pub graph-stands : (entries : Entries) → AllStand (graph_by entries)
graph-stands entries from to refers = let low = by_entry (slice_get entries from) (refers-from entries from to refers) in omega (arith, length-map entries (row_by entries))
  where
    chained : (one : Entry) → Contains (followed_from entries one) to → to < length entries
    chained one here = elim (cases_Bool (is_chained one.kind)) [
      | inl is_so ↦ filtered-stand entries one (references_of one) to (rw is_so at here)
      | inr is_not ↦ absurd (nowhere (rw is_not at here))
    ]
      where
        nowhere : Contains [] to → ⊥
        nowhere there = omega (arith, there.1)

    by_entry : (found : Option Entry) → Contains (option_map_or (followed_from entries) found []) to → to < length entries
    by_entry None here = absurd (omega (arith, here.1))
    by_entry (Some one) here = chained one here
