-- Chains of references.
use Rattle.std.proofs.Common.{◌≡◌, ◌≤◌, ◌<◌, ℕ, zero, suc, List, [], ◌∷◌, ◌++◌, length, get_or, refl, sym, ◌∙◌, subst, arith}
use Rattle.std.proofs.lemmas.List.{get_or-map, get_or_default, length-map}
use Rattle.psa_chains.specs.declared.reference.Reference.{Reference}
use Rattle.psa_chains.specs.Chains.{row, targets, RefersTo, AllStand, Chain, Leads, IsCyclic, AreRanks, rank_of}

-- one chain and then another
pub chain-append : (g : List (List Reference)) (a b c : ℕ) (p q : List ℕ) → Chain g a p b → Chain g b q c → Chain g a (p ++ q) c
chain-append g a b c [] q h k = subst (λ x. Chain g x q c) (sym h) k
chain-append g a b c (n ∷ p) q h k = (h.0, chain-append g n b c p q h.1 k)

-- the chain without a reference
pub leads-here : (g : List (List Reference)) (a : ℕ) → Leads g a a
leads-here g a = record { path = []; chain = refl }

-- one chain and then another
pub leads-trans : (g : List (List Reference)) (a b c : ℕ) → Leads g a b → Leads g b c → Leads g a c
leads-trans g a b c h k = record { path = h.path ++ k.path; chain = chain-append g a b c h.path k.path h.chain k.chain }

-- the chain of one reference
pub leads-one : (g : List (List Reference)) (a b : ℕ) → RefersTo g a b → Leads g a b
leads-one g a b h = record { path = b ∷ []; chain = (h, refl) }

-- a chain and one more reference
pub leads-more : (g : List (List Reference)) (a b c : ℕ) → Leads g a b → RefersTo g b c → Leads g a c
leads-more g a b c h k = leads-trans g a b c h (leads-one g b c k)

-- a chain between equal places
pub leads-same : (g : List (List Reference)) (a b c d : ℕ) → a ≡ c → b ≡ d → Leads g a b → Leads g c d
leads-same g a b c d p q h = subst (λ x. Leads g x d) p (subst (λ x. Leads g a x) q h)

-- what refers stands
pub refers-within : (g : List (List Reference)) (a b : ℕ) → RefersTo g a b → a < length g
refers-within [] a b h = absurd (omega (arith, h.1))
refers-within (r ∷ g) zero b h = omega arith
refers-within (r ∷ g) (suc a) b h = let i = refers-within g a b h in omega arith

-- ranks never rise along a chain
pub falls-chain : (g : List (List Reference)) (ranks : List ℕ) → ((a b : ℕ) → RefersTo g a b → rank_of ranks b ≤ rank_of ranks a) → (a b : ℕ) (p : List ℕ) → Chain g a p b → rank_of ranks b ≤ rank_of ranks a
falls-chain g ranks falls a b [] h = subst (λ x. rank_of ranks x ≤ rank_of ranks a) h (omega arith)
falls-chain g ranks falls a b (n ∷ p) h =
    let one = falls a n h.0 in
    let more = falls-chain g ranks falls n b p h.1 in
    omega arith

-- a place is on a cycle exactly where a reference of it keeps its rank
pub tied-cyclic : (g : List (List Reference)) (ranks : List ℕ) (a b : ℕ) → AllStand g → AreRanks g ranks → RefersTo g a b → rank_of ranks b ≡ rank_of ranks a → IsCyclic g a
tied-cyclic g ranks a b stand are refers tied =
    record { next = b; refers = refers; back = are.same b a (stand a b refers) (refers-within g a b refers) tied }

-- a place on a cycle has a reference to a place of its rank
pub cyclic-tied : (g : List (List Reference)) (ranks : List ℕ) (a : ℕ) → AreRanks g ranks → IsCyclic g a → (b : ℕ) × RefersTo g a b × (rank_of ranks b ≡ rank_of ranks a)
cyclic-tied g ranks a are h =
    let down = are.falls a h.next h.refers in
    let up = falls-chain g ranks are.falls h.next a h.back.path h.back.chain in
    (h.next, h.refers, omega arith)

-- the target of a reference, by its place in a row
pub target-at : (rs : List Reference) (k : ℕ) (d : Reference) → k < length rs → get_or (targets rs) k 0 ≡ (get_or rs k d).target
target-at rs k d low = get_or-map (λ (r : Reference). r.target) rs k d 0 low

-- a row that was read
pub row-at : (g : List (List Reference)) (i : ℕ) (item : List Reference) → item ≡ get_or g i item → i < length g → item ≡ row g i
row-at g i item is low = is ∙ get_or_default g i item [] low

-- a reference of a row, by its place
pub refers-at : (g : List (List Reference)) (from k : ℕ) → k < length (row g from) → RefersTo g from (get_or (targets (row g from)) k 0)
refers-at g from k low =
    let size : length (targets (row g from)) ≡ length (row g from) = length-map (row g from) (λ r. r.target) in
    (k, omega arith, get_or_default (targets (row g from)) k _ 0 (omega arith))
