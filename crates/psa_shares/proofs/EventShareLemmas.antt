-- Products taken into the shares of the events that they hold.
use Rattle.std.proofs.Common.{◌≡◌, ◌≢◌, ◌∙◌, ◌+◌, ◌*◌, ◌/◌, ◌<◌, ◌≤◌, ◌==◌, ◌||◌, ◌&&◌, ℕ, suc, Bool, true, false, not, List, [], ◌∷◌, ◌++◌, Option, Some, None, drop, get_or, set, length, map, min, filter, replicate, unwrap_or, refl, ap, sym, subst, arith, inl, inr, ◌⊎◌, if◌then◌else◌, append-nil, append_assoc}
use Rattle.std.specs.List.{All}
use Rattle.std.proofs.lemmas.Bool.{false≢true, and_from, and_parts, cases_Bool, eqb-true, not-true}
use Rattle.std.proofs.lemmas.Bool.Decides.{eqb_tells}
use Rattle.std.proofs.lemmas.List.{drop_all, drop_more, get_or-replicate, get_or-set_other, get_or-set_same, get_or_default, length-replicate, length-set}
use Rattle.std.proofs.lemmas.List.Elements.{All-cons, All-nil, All-tail, filter-append}
use Rattle.psa_logic.specs.Products.{IsListing, is_consistent, literal_number, positive_product, rank_of}
use Rattle.psa_logic.specs.Sets.{Has, all_above, is_ascending, occurs}
use Rattle.psa_logic.proofs.LiteralLemmas.{rank-literal}
use Rattle.psa_logic.proofs.PartLemmas.{all_above-occurs}
use Rattle.psa_number.specs.Ends.{Ends}
use Rattle.psa_number.specs.Operations.{unit_sum_ends}
use Rattle.psa_model.specs.declared.ids.EventNumber.{EventNumber}
use Rattle.psa_model.specs.declared.product.Literal.{Literal}
use Rattle.psa_model.specs.declared.settings.Mode.{Mode}
use Rattle.psa_model.specs.declared.settings.Mode.TheVariants.{CutSets, Primes}
use Rattle.psa_model.specs.declared.targets.Target.{Target}
use Rattle.psa_model.specs.Literals.{literals_of}
use Rattle.psa_model.specs.Quantities.{zero_ends}
use Rattle.psa_model.specs.Ranks.{ranks_of}
use Rattle.psa_model.specs.Report.{Analysis, IsProductIn, IsProductOf, ranked_truth}
use Rattle.psa_model.proofs.TargetProducts.{product-has_ranks}
use Rattle.psa_products.specs.Rules.{IsRuled}
use Rattle.psa_products.specs.Sums.{Sums, sums_of, taken}
use Rattle.psa_sections.specs.Writing.{bound_by, totals_by}
use Rattle.psa_sections.proofs.SectionLemmas.{totals-more}
use Rattle.psa_shares.specs.EventShares.{AreShares, EventShare, HasPlaces, no_share, share_if, share_of, share_with}
use Rattle.psa_shares.specs.Shares.{holding, holds_event}

-- ---- one product

-- Some first literals of a product were taken: where the shares stand now, those that are left make the same of them as
-- all literals of the shares before.
pub record IsTaking (bound : Ends) (all left : List Literal) (before now : List EventShare) : Type 0 where
  pub places : HasPlaces (length now) (literals_of left)
  pub count : length now ≡ length before
  pub each : (rank : ℕ) (default : EventShare) → rank < length before
      → share_if (holds_event rank (literals_of left)) (get_or now rank default) bound
      ≡ share_if (holds_event rank (literals_of all)) (get_or before rank default) bound

-- at first none was
pub taking-none : (bound : Ends) (all : List Literal) (before : List EventShare) → HasPlaces (length before) (literals_of all) → IsTaking bound all all before before
taking-none bound all before places = record { places = places; count = refl; each = λ rank default within. refl }

-- the first literal holds the event, or another one does
holds-first : (rank : ℕ) (literal : Literal) (rest : List Literal)
    → holds_event rank (literals_of (literal ∷ rest)) ≡ (literal.rank == rank || holds_event rank (literals_of rest))
holds-first rank literal rest =
    ap (λ n. n == rank || holds_event rank (literals_of rest)) (rank-literal literal.rank literal.occurs)

-- ranks occur where a literal holds the event
occurs-holds : (rank : ℕ) (product : List ℕ) → occurs (map (λ l. rank_of l) product) rank ≡ holds_event rank product
occurs-holds rank [] = refl
occurs-holds rank (literal ∷ product) = ap (λ b. rank_of literal == rank || b) (occurs-holds rank product)

module _ (bound : Ends) (all rest : List Literal) (literal : Literal) (before now : List EventShare) (taking : IsTaking bound all (literal ∷ rest) before now) where
  -- its event has a place
  pub taking-place : literal.rank < length now
  taking-place =
      subst (λ n. n < length now) (rank-literal literal.rank literal.occurs)
      (taking.places.below 0 (literal_number literal.rank literal.occurs) (omega arith))

  -- no other literal is of this event
  alone : holds_event literal.rank (literals_of rest) ≡ false
  alone =
      let parts = and_parts (not (occurs (map (λ l. rank_of l) (literals_of rest)) (rank_of (literal_number literal.rank literal.occurs)))) (is_consistent (literals_of rest)) taking.places.consistent in
      sym (occurs-holds literal.rank (literals_of rest))
      ∙ ap (λ n. occurs (map (λ l. rank_of l) (literals_of rest)) n) (sym (rank-literal literal.rank literal.occurs))
      ∙ not-true (occurs (map (λ l. rank_of l) (literals_of rest)) (rank_of (literal_number literal.rank literal.occurs))) parts.0

  -- it was taken
  pub taking-more : (read made : EventShare) → read ≡ get_or now literal.rank read → made ≡ share_with read bound → IsTaking bound all rest before (set now literal.rank made)
  taking-more read made reads makes = record {
    places = record {
      consistent = (and_parts (not (occurs (map (λ l. rank_of l) (literals_of rest)) (rank_of (literal_number literal.rank literal.occurs)))) (is_consistent (literals_of rest)) taking.places.consistent).1;
      below = subst (λ n. All (λ l. rank_of l < n) (literals_of rest)) (sym (length-set now literal.rank made))
          (All-tail (λ l. rank_of l < length now) (literal_number literal.rank literal.occurs) (literals_of rest) taking.places.below);
    };
    count = length-set now literal.rank made ∙ taking.count;
    each = λ rank default within. at rank default (eqb_tells literal.rank rank) ∙ taking.each rank default within;
  }
    where
      at : (rank : ℕ) (default : EventShare) → ((literal.rank == rank ≡ true) × (literal.rank ≡ rank)) ⊎ ((literal.rank == rank ≡ false) × (literal.rank ≢ rank))
          → share_if (holds_event rank (literals_of rest)) (get_or (set now literal.rank made) rank default) bound
          ≡ share_if (holds_event rank (literals_of (literal ∷ rest))) (get_or now rank default) bound
      at rank default (inl same) =
          ap (λ b. share_if b (get_or (set now literal.rank made) rank default) bound)
          (ap (λ n. holds_event n (literals_of rest)) (sym same.1) ∙ alone)
          ∙ ap (λ n. get_or (set now literal.rank made) n default) (sym same.1)
          ∙ get_or-set_same now literal.rank made default taking-place
          ∙ makes
          ∙ ap (λ (s : EventShare). share_with s bound)
          (reads ∙ get_or_default now literal.rank read default taking-place ∙ ap (λ n. get_or now n default) same.1)
          ∙ sym (ap (λ b. share_if b (get_or now rank default) bound)
          (holds-first rank literal rest ∙ ap (λ b. b || holds_event rank (literals_of rest)) same.0))
      at rank default (inr other) =
          ap (λ (s : EventShare). share_if (holds_event rank (literals_of rest)) s bound)
          (get_or-set_other now literal.rank rank made default (λ e. other.1 (sym e)))
          ∙ sym (ap (λ b. share_if b (get_or now rank default) bound)
          (holds-first rank literal rest ∙ ap (λ b. b || holds_event rank (literals_of rest)) other.0))

-- the literal at a place has one
pub taking-within : (bound : Ends) (all : List Literal) (i : ℕ) (d : Literal) (before now : List EventShare) → i < length all → IsTaking bound all (drop i all) before now
    → (get_or all i d).rank < length now
taking-within bound all i d before now within taking =
    taking-place bound all (drop (i + 1) all) (get_or all i d) before now
    (subst (λ (left : List Literal). IsTaking bound all left before now) (drop_more all i d within) taking)

-- it was taken
pub taking-next : (bound : Ends) (all : List Literal) (i : ℕ) (d : Literal) (before now : List EventShare) → i < length all → IsTaking bound all (drop i all) before now
    → (read made : EventShare) → read ≡ get_or now (get_or all i d).rank read → made ≡ share_with read bound
    → IsTaking bound all (drop (i + 1) all) before (set now (get_or all i d).rank made)
taking-next bound all i d before now within taking =
    taking-more bound all (drop (i + 1) all) (get_or all i d) before now
    (subst (λ (left : List Literal). IsTaking bound all left before now) (drop_more all i d within) taking)

-- all were
pub taking-all : (bound : Ends) (all : List Literal) (i : ℕ) (before now : List EventShare) → length all ≤ i → IsTaking bound all (drop i all) before now
    → (rank : ℕ) (default : EventShare) → rank < length before
    → get_or now rank default ≡ share_if (holds_event rank (literals_of all)) (get_or before rank default) bound
taking-all bound all i before now past taking rank default within =
    ap (λ (left : List Literal). share_if (holds_event rank (literals_of left)) (get_or now rank default) bound) (sym (drop_all i all past))
    ∙ taking.each rank default within

-- ---- the products of a list

module _ (values : Option (List Ends)) (ranks : List EventNumber) where
  -- no product has the share of none
  none-shared : share_of values ranks [] ≡ no_share
  none-shared = on values
    where
      on : (values : Option (List Ends)) → share_of values ranks [] ≡ no_share
      on None = refl
      on (Some intervals) = refl

  -- at first each share is that of no product
  pub shares-none : (count : ℕ) → AreShares values ranks [] (replicate count no_share)
  shares-none count = record {
    each = λ rank default within.
        get_or-replicate count rank no_share default (subst (λ n. rank < n) (length-replicate count no_share) within)
        ∙ sym none-shared;
  }

  -- the share of one product more
  share-more : (products : List (List ℕ)) (product : List ℕ) → share_with (share_of values ranks products) (unwrap_or (bound_by values ranks product) zero_ends) ≡ share_of values ranks (products ++ product ∷ [])
  share-more products product = ap (λ (s : Sums). share_with-sums s) (totals-more values ranks products product)
    where
      share_with-sums : Sums → EventShare
      share_with-sums s = record { count = s.count; sum = s.rare_event }

  -- a product was taken into the shares of the events that it holds
  pub shares-more : (products : List (List ℕ)) (product : List ℕ) (bound : Ends) (now more : List EventShare)
      → AreShares values ranks products now → length more ≡ length now → bound ≡ unwrap_or (bound_by values ranks product) zero_ends
      → ((rank : ℕ) (default : EventShare) → rank < length now → get_or more rank default ≡ share_if (holds_event rank product) (get_or now rank default) bound)
      → AreShares values ranks (products ++ product ∷ []) more
  shares-more products product bound now more are count is takes = record {
    each = λ rank default within.
        let inside : rank < length now = subst (λ n. rank < n) count within in
        takes rank default inside ∙ ap (λ (s : EventShare). share_if (holds_event rank product) s bound) (are.each rank default inside)
        ∙ ap (λ (b : Ends). share_if (holds_event rank product) (share_of values ranks (holding rank products)) b) is
        ∙ with-one (holds_event rank product) (holding rank products)
        ∙ ap (share_of values ranks) (sym (filter-append (holds_event rank) products (product ∷ [])));
  }
    where
      with-one : (holds : Bool) (held : List (List ℕ)) → share_if holds (share_of values ranks held) (unwrap_or (bound_by values ranks product) zero_ends)
          ≡ share_of values ranks (held ++ (if holds then product ∷ [] else []))
      with-one true held = share-more held product
      with-one false held = ap (share_of values ranks) (sym (append-nil held))

-- ---- the products of a lister

-- The products up to the rest were taken into the totals, and into the shares of the events that they hold.
pub record AreTaken (values : Option (List Ends)) (ranks : List EventNumber) (all rest : List (List ℕ)) (sums : Sums) (before now : List EventShare) : Type 0 where
  pub done : List (List ℕ)
  pub splits : done ++ rest ≡ all
  pub totals : sums ≡ totals_by values ranks done
  pub shares : AreShares values ranks done now
  pub places : All (HasPlaces (length before)) rest
  pub count : length now ≡ length before

-- the totals of no product
pub totals-none : (values : Option (List Ends)) (ranks : List EventNumber) → sums_of [] ≡ totals_by values ranks []
totals-none None ranks = refl
totals-none (Some intervals) ranks = refl

-- at first none was
pub taken-none : (values : Option (List Ends)) (ranks : List EventNumber) (all : List (List ℕ)) (sums : Sums) (before : List EventShare)
    → sums ≡ totals_by values ranks [] → AreShares values ranks [] before → All (HasPlaces (length before)) all
    → AreTaken values ranks all all sums before before
taken-none values ranks all sums before totals shares places =
    record { done = []; splits = refl; totals = totals; shares = shares; places = places; count = refl }

module _ (values : Option (List Ends)) (ranks : List EventNumber) (all left rest : List (List ℕ)) (product : List ℕ) (sums : Sums) (before now : List EventShare) (taken-so-far : AreTaken values ranks all left sums before now) (first : left ≡ product ∷ rest) where
  from-first : All (HasPlaces (length before)) (product ∷ rest)
  from-first = subst (All (HasPlaces (length before))) first taken-so-far.places

  -- the next product has places
  pub next-places : HasPlaces (length now) product
  next-places =
      subst (λ n. HasPlaces n product) (sym taken-so-far.count) (from-first 0 product (omega arith))

  -- it was taken
  pub taken-more : (more : Sums) (bound : Ends) (after : List EventShare)
      → bound ≡ unwrap_or (bound_by values ranks product) zero_ends → more ≡ taken sums bound → length after ≡ length now
      → ((rank : ℕ) (default : EventShare) → rank < length now → get_or after rank default ≡ share_if (holds_event rank product) (get_or now rank default) bound)
      → AreTaken values ranks all rest more before after
  taken-more more bound after is takes count each = record {
    done = taken-so-far.done ++ product ∷ [];
    splits = append_assoc taken-so-far.done (product ∷ []) rest
        ∙ ap (λ (sets : List (List ℕ)). taken-so-far.done ++ sets) (sym first) ∙ taken-so-far.splits;
    totals = takes ∙ ap (taken sums) is
        ∙ ap (λ (s : Sums). taken s (unwrap_or (bound_by values ranks product) zero_ends)) taken-so-far.totals
        ∙ totals-more values ranks taken-so-far.done product;
    shares = shares-more values ranks taken-so-far.done product bound now after taken-so-far.shares count is each;
    places = All-tail (HasPlaces (length before)) product rest from-first;
    count = count ∙ taken-so-far.count;
  }

module _ (values : Option (List Ends)) (ranks : List EventNumber) (all rest : List (List ℕ)) (sums : Sums) (before now : List EventShare) (are : AreTaken values ranks all rest sums before now) (none : rest ≡ []) where
  all-done : are.done ≡ all
  all-done =
      sym (append-nil are.done) ∙ ap (λ (sets : List (List ℕ)). are.done ++ sets) (sym none) ∙ are.splits

  -- at the end all were
  pub taken-totals : sums ≡ totals_by values ranks all
  taken-totals = are.totals ∙ ap (totals_by values ranks) all-done

  pub taken-shares : AreShares values ranks all now
  taken-shares = subst (λ (products : List (List ℕ)). AreShares values ranks products now) all-done are.shares

-- ---- the products of a target have places

-- what holds of each item holds of all
All-items : {A : Type 0} (P : A → Type 0) (xs : List A) → ((x : A) → Has xs x → P x) → All P xs
All-items P [] each = All-nil P
All-items P (x ∷ xs) each = All-cons P x xs (each x (inl refl)) (All-items P xs (λ y m. each y (inr m)))

half : (rank : ℕ) → rank_of (2 * rank) ≡ rank
half rank = omega arith

-- the ranks of a product whose events occur
ranks-back : (set : List ℕ) → map (λ l. rank_of l) (positive_product set) ≡ set
ranks-back [] = refl
ranks-back (rank ∷ set) = λ i. half rank i ∷ ranks-back set i

-- a product whose events occur holds each once
positive-consistent : (set : List ℕ) → is_ascending set ≡ true → is_consistent (positive_product set) ≡ true
positive-consistent [] ascending = refl
positive-consistent (rank ∷ set) ascending =
    let parts = and_parts (all_above rank set) (is_ascending set) ascending in
    and_from (not (occurs (map (λ l. rank_of l) (positive_product set)) (rank_of (2 * rank)))) (is_consistent (positive_product set))
    (ap not (ap (λ (ranks : List ℕ). occurs ranks (rank_of (2 * rank))) (ranks-back set) ∙ ap (λ n. occurs set n) (half rank) ∙ all_above-occurs rank set parts.0))
    (positive-consistent set parts.1)

-- of each kind, a product holds each event once
product-consistent : (mode : Mode) (f : (ℕ → Bool) → Bool) (limit : ℕ) (product : List ℕ) → IsProductIn mode f limit product → is_consistent product ≡ true
product-consistent CutSets f limit product cut =
    subst (λ (p : List ℕ). is_consistent p ≡ true) (sym cut.is_set) (positive-consistent cut.set cut.minimal.ascending)
product-consistent Primes f limit product one = one.prime.consistent

-- a product of a target has places among so many ranks
pub product-places : (analysis : Analysis) (target : Target) (count : ℕ) → length (ranks_of analysis.expanded target) ≤ count
    → (product : List ℕ) → IsProductOf analysis target product → HasPlaces count product
product-places analysis target count room product is = record {
  consistent =
      product-consistent analysis.settings.mode (ranked_truth analysis.expanded target) analysis.settings.limit_order product is;
  below = All-items (λ literal. rank_of literal < count) product below;
}
  where
    below : (literal : ℕ) → Has product literal → rank_of literal < count
    below literal has =
        let rank = product-has_ranks analysis target product is literal has in omega (arith, rank, room)

-- ---- the listing of what a rule keeps

module _ (IsOne : List ℕ → Bool) (may : List ℕ → Type 0) (says : List ℕ → Bool → Type 0) (rule : (set : List ℕ) → IsOne set ≡ true → IsRuled may says set) where
  -- what the rule answers of a set that it may be asked about
  abbrev answer-by : (set : List ℕ) (is : Bool) → (is ≡ true → IsRuled may says set) → Bool
  answer-by product true ruled = (ruled refl).answer
  answer-by product false ruled = false

  says-answer : (set : List ℕ) (is : Bool) (ruled : is ≡ true → IsRuled may says set) → is ≡ true → says set (answer-by set is ruled)
  says-answer product true ruled h = (ruled refl).answers
  says-answer product false ruled h = absurd (false≢true h)

  -- what holds of each set holds of all that are listed
  pub listed-all : (P : List ℕ → Type 0) → ((set : List ℕ) → IsOne set ≡ true → P set) → (products : List (List ℕ))
      → ((keeps : List ℕ → Bool) → ((set : List ℕ) → IsOne set ≡ true → says set (keeps set)) → IsListing (λ set. (IsOne set ≡ true) × (keeps set ≡ true)) products)
      → All P products
  listed-all P each products lists = All-items P products (λ product has. each product (listing.sound product has).0)
    where
      listing : IsListing (λ set. (IsOne set ≡ true) × (answer-by set (IsOne set) (rule set) ≡ true)) products
      listing =
          lists (λ set. answer-by set (IsOne set) (rule set)) (λ set h. says-answer set (IsOne set) (rule set) h)
