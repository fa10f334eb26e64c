-- The products of a target hold its ranks alone, and a listing of them exists.
use Rattle.std.proofs.Common.{◌≡◌, ◌⊎◌, ℕ, suc, ◌+◌, ◌*◌, ◌/◌, ◌<◌, Bool, List, [], ◌∷◌, length, refl, ap, sym, subst, ◌∙◌, arith}
use Rattle.psa_logic.specs.Sets.{Has}
use Rattle.psa_logic.specs.Products.{IsListing, rank_of}
use Rattle.psa_logic.proofs.ListingLemmas.{has-map_from}
use Rattle.psa_model.specs.declared.expanded.Expanded.{Expanded}
use Rattle.psa_model.specs.declared.ids.EventNumber.{EventNumber}
use Rattle.psa_model.specs.declared.settings.Mode.{Mode}
use Rattle.psa_model.specs.declared.settings.Mode.TheVariants.{CutSets, Primes}
use Rattle.psa_model.specs.declared.targets.Target.{Target}
use Rattle.psa_model.specs.Ranks.{ranks_of}
use Rattle.psa_model.specs.Report.{Analysis, IsProductIn, IsProductOf, ranked_truth}
use Rattle.psa_model.specs.Targets.{occurs_by_rank, target_truth, truth_by_rank}
use Rattle.psa_model.proofs.CutDecisions.{LooksBelow, cut-below, cut_decided, minimal-below}
use Rattle.psa_model.proofs.Existence.{IsBelow, listing-exists}
use Rattle.psa_model.proofs.PrimeDecisions.{prime-below, prime_decided, prime_product-below}

-- sets that agree below the number of ranks make the same events occur
pub by-rank-agree : (s t : ℕ → Bool) (ranks : List EventNumber) (from event : ℕ) → ((rank : ℕ) → rank < from + length ranks → s rank ≡ t rank) → occurs_by_rank s from ranks event ≡ occurs_by_rank t from ranks event
by-rank-agree s t [] from event agree = refl
by-rank-agree s t (one ∷ ranks) from event agree =
    let here : s from ≡ t from = agree from (omega arith) in
    let more : occurs_by_rank s (suc from) ranks event ≡ occurs_by_rank t (suc from) ranks event = by-rank-agree s t ranks (suc from) event (λ rank below. agree rank (omega arith)) in
    rw (here, more) refl

-- sets that agree on the ranks give the same truth
pub truth-agree : (expanded : Expanded) (target : Target) (ranks : List EventNumber) → LooksBelow (length ranks) (truth_by_rank expanded target ranks)
truth-agree expanded target ranks s t agree =
    ap (target_truth expanded target) (λ i event. by-rank-agree s t ranks 0 event (λ rank below. agree rank (omega arith)) i)

half : (rank : ℕ) → (2 * rank) / 2 ≡ rank
half rank = omega arith

-- of each kind, the ranks are below the width
product-ranks : (mode : Mode) (f : (ℕ → Bool) → Bool) (width limit : ℕ) → LooksBelow width f → (product : List ℕ) → IsProductIn mode f limit product → (literal : ℕ) → Has product literal → rank_of literal < width
product-ranks CutSets f width limit looks product cut literal has =
    let found = has-map_from (λ rank. 2 * rank) cut.set literal (subst (λ z. Has z literal) cut.is_set has) in
    let l : found.0 < width = minimal-below f width cut.set looks cut.minimal.minimal found.0 found.1 in
    let same : rank_of literal ≡ found.0 = ap (λ v. rank_of v) (sym found.2) ∙ half found.0 in
    omega (arith, l, same)
product-ranks Primes f width limit looks product one literal has = prime-below f width product looks one.prime literal has

product-below : (mode : Mode) (f : (ℕ → Bool) → Bool) (width limit : ℕ) → LooksBelow width f → (product : List ℕ) → IsProductIn mode f limit product → IsBelow (2 * width) product
product-below CutSets f width limit looks product one = cut-below f width limit looks product one
product-below Primes f width limit looks product one = prime_product-below f width limit looks product one

product-decided : (mode : Mode) (f : (ℕ → Bool) → Bool) (width limit : ℕ) → LooksBelow width f → (product : List ℕ) → IsProductIn mode f limit product ⊎ (IsProductIn mode f limit product → ⊥)
product-decided CutSets f width limit looks product = cut_decided f limit product
product-decided Primes f width limit looks product = prime_decided f width limit looks product

-- each literal of a product of a target is of one of its ranks
pub product-has_ranks : (analysis : Analysis) (target : Target) (product : List ℕ) → IsProductOf analysis target product → (literal : ℕ) → Has product literal → rank_of literal < length (ranks_of analysis.expanded target)
product-has_ranks analysis target =
    product-ranks analysis.settings.mode (ranked_truth analysis.expanded target) (length (ranks_of analysis.expanded target)) analysis.settings.limit_order
    (truth-agree analysis.expanded target (ranks_of analysis.expanded target))

-- the products of a target have a listing
pub target-listing : (analysis : Analysis) (target : Target) → (products : List (List ℕ)) × IsListing (IsProductOf analysis target) products
target-listing analysis target =
    let f : (ℕ → Bool) → Bool = ranked_truth analysis.expanded target in
    let width : ℕ = length (ranks_of analysis.expanded target) in
    let looks : LooksBelow width f = truth-agree analysis.expanded target (ranks_of analysis.expanded target) in
    listing-exists (IsProductOf analysis target) (2 * width)
    (product-below analysis.settings.mode f width analysis.settings.limit_order looks)
    (product-decided analysis.settings.mode f width analysis.settings.limit_order looks)
