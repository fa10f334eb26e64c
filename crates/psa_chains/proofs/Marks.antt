-- Marks of nodes after some of them changed.
use Rattle.std.proofs.Common.{◌≡◌, ◌≢◌, ◌<◌, ◌⊎◌, inl, inr, ℕ, zero, suc, List, [], ◌∷◌, length, get_or, set, refl, sym, ◌∙◌, subst, arith, get_or-set_same, get_or-set_other}
use Rattle.std.proofs.lemmas.List.{length-set}
use Rattle.std.proofs.lemmas.Bool.{cases_eq}
use Rattle.psa_chains.specs.declared.search.Mark.{Mark}
use Rattle.psa_chains.specs.declared.search.Mark.TheVariants.{New, Open, Closed}
use Rattle.psa_chains.specs.Searching.{mark_at, marked}

-- Between New, Open and Closed
pub new-open : (m : Mark) (p : ℕ) → m ≡ New → m ≡ Open p → ⊥
new-open m p a b = let e : New ≡ Open p = sym a ∙ b in cc

-- a node that was not seen was not left
pub new-closed : (m : Mark) (p : ℕ) → m ≡ New → m ≡ Closed p → ⊥
new-closed m p a b = let e : New ≡ Closed p = sym a ∙ b in cc

-- a node on the stack was not left
pub open-closed : (m : Mark) (p q : ℕ) → m ≡ Open p → m ≡ Closed q → ⊥
open-closed m p q a b = let e : Open p ≡ Closed q = sym a ∙ b in cc

-- a node stands at one place of the stack
pub open-same : (m : Mark) (p q : ℕ) → m ≡ Open p → m ≡ Open q → p ≡ q
open-same m p q a b = let e : Open p ≡ Open q = sym a ∙ b in cc

-- a node has one rank
pub closed-same : (m : Mark) (p q : ℕ) → m ≡ Closed p → m ≡ Closed q → p ≡ q
closed-same m p q a b = let e : Closed p ≡ Closed q = sym a ∙ b in cc

-- marks that are set keep their number
pub marked-length : (m : Mark) (nodes : List ℕ) (marks : List Mark) → length (marked m nodes marks) ≡ length marks
marked-length m [] marks = refl
marked-length m (n ∷ nodes) marks = length-set (marked m nodes marks) n m ∙ marked-length m nodes marks

-- the mark that was set
pub set-here : (marks : List Mark) (n : ℕ) (m : Mark) → n < length marks → mark_at (set marks n m) n ≡ m
set-here marks n m inside = get_or-set_same marks n m New inside

-- the marks of other nodes stay
pub set-other : (marks : List Mark) (n : ℕ) (m : Mark) (node : ℕ) → node ≢ n → mark_at (set marks n m) node ≡ mark_at marks node
set-other marks n m node other = get_or-set_other marks n node m New other

-- a node is set, or has its mark
pub set-cases : (marks : List Mark) (n : ℕ) (m : Mark) (node : ℕ) → n < length marks → ((node ≡ n) × (mark_at (set marks n m) node ≡ m)) ⊎ ((node ≢ n) × (mark_at (set marks n m) node ≡ mark_at marks node))
set-cases marks n m node inside =
    elim (cases_eq node n) [
      | inl same ↦ inl (same, subst (λ x. mark_at (set marks n m) x ≡ m) (sym same) (set-here marks n m inside))
      | inr other ↦ inr (other, set-other marks n m node other)
    ]

abbrev pub Among : List ℕ → ℕ → Type 0
Among nodes node = (k : ℕ) × (k < length nodes) × (get_or nodes k 0 ≡ node)

abbrev pub AllInside : List ℕ → ℕ → Type 0
AllInside nodes n = (k : ℕ) → k < length nodes → get_or nodes k 0 < n

not-at : (n : ℕ) (nodes : List ℕ) (node : ℕ) → (node ≡ n → ⊥) → (Among nodes node → ⊥) → (k : ℕ) → k < length (n ∷ nodes) → get_or (n ∷ nodes) k 0 ≡ node → ⊥
not-at n nodes node other none zero l h = other (sym h)
not-at n nodes node other none (suc k) l h = none (k, omega arith, h)

not-among : (n : ℕ) (nodes : List ℕ) (node : ℕ) → (node ≡ n → ⊥) → (Among nodes node → ⊥) → Among (n ∷ nodes) node → ⊥
not-among n nodes node other none h = not-at n nodes node other none h.0 h.1 h.2

-- a node is among those that are marked, or has its mark
pub marked-cases : (m : Mark) (nodes : List ℕ) (marks : List Mark) (node : ℕ) → AllInside nodes (length marks) → (Among nodes node × (mark_at (marked m nodes marks) node ≡ m)) ⊎ ((Among nodes node → ⊥) × (mark_at (marked m nodes marks) node ≡ mark_at marks node))
marked-cases m [] marks node inside = inr (λ h. absurd (omega (arith, h.1)), refl)
marked-cases m (n ∷ nodes) marks node inside =
    let here : n < length (marked m nodes marks) = omega (arith, inside 0 (omega arith), marked-length m nodes marks) in
    let below : AllInside nodes (length marks) = (λ k l. inside (suc k) (omega arith)) in
    elim (set-cases (marked m nodes marks) n m node here) [
      | inl same ↦ inl ((0, omega arith, sym same.0), same.1)
      | inr other ↦ elim (marked-cases m nodes marks node below) [
        | inl among ↦ inl ((suc among.0.0, omega (arith, among.0.1), among.0.2), other.1 ∙ among.1)
        | inr not ↦ inr (not-among n nodes node (other.0) not.0, other.1 ∙ not.1)
      ]
    ]
