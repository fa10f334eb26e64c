-- What the search has found when all nodes were seen.
use Rattle.std.proofs.Common.{◌≡◌, ◌<◌, ◌+◌, inl, inr, ℕ, List, [], ◌∷◌, length, get_or, replicate, reverse, refl, sym, ap, ◌∙◌, subst, arith}
use Rattle.std.proofs.lemmas.List.{length-replicate, get_or-replicate, get_or_past}
use Rattle.std.proofs.lemmas.Bool.{cases_lt, cases_eq}
use Rattle.psa_chains.specs.declared.reference.Reference.{Reference}
use Rattle.psa_chains.specs.declared.search.Search.{Search}
use Rattle.psa_chains.specs.declared.search.Mark.{Mark}
use Rattle.psa_chains.specs.declared.search.Mark.TheVariants.{New, Open, Closed}
use Rattle.psa_chains.specs.Chains.{AllStand, AreComponents, rank_of}
use Rattle.psa_chains.specs.Searching.{mark_at, mark_of, AreBlocks, IsSearch, IsBase, AllClosed, RanksAre, KeepsSeen, fresh, entered, weigh, each_one}
use Rattle.psa_chains.proofs.Walks.{refers-within}
use Rattle.psa_chains.proofs.Marks.{new-open, new-closed, closed-same, set-here}
use Rattle.psa_chains.proofs.Entering.{kept-entered}

blank : (n node : ℕ) → mark_at (replicate n New) node ≡ New
blank n node =
    elim (cases_lt node n) [
      | inl low ↦ get_or-replicate n node New New low
      | inr past ↦ get_or_past (replicate n New) node New (omega (arith, length-replicate n New))
    ]

weigh-blank : (g : List (List Reference)) → weigh each_one (replicate (length g) New) g ≡ length g
weigh-blank [] = refl
weigh-blank (r ∷ g) = let rest = weigh-blank g in omega arith

-- a search begins with no node seen
pub search-fresh : (g : List (List Reference)) → IsSearch g (fresh (length g))
search-fresh g = record {
  base = record {
    all = length-replicate (length g) New;
    stand = λ i low. absurd (omega arith);
    there = λ p low. absurd (omega arith);
    placed = λ node p mark. absurd (new-open _ p (blank (length g) node) mark);
    chain = λ p q le low. absurd (omega arith);
    falls = λ node rank target mark refers. absurd (new-closed _ rank (blank (length g) node) mark);
    same = λ a b rank p q. absurd (new-closed _ rank (blank (length g) a) p);
    below = λ node rank mark. absurd (new-closed _ rank (blank (length g) node) mark);
    few = let all = weigh-blank g in omega arith;
    listed = λ node rank mark. absurd (new-closed _ rank (blank (length g) node) mark);
    ordered = λ i target low refers. absurd (omega arith);
    left = λ i low. absurd (omega arith);
  };
  blocks = refl;
}

closed-of : (m : Mark) → (m ≡ New → ⊥) → ((p : ℕ) → m ≡ Open p → ⊥) → (rank : ℕ) × (m ≡ Closed rank)
closed-of New fresh none = absurd (fresh refl)
closed-of (Open p) fresh none = absurd (none p refl)
closed-of (Closed rank) fresh none = (rank, refl)

blocks-none : (g : List (List Reference)) (s : Search) → s.blocks ≡ [] → AreBlocks g s (length s.stack) (length s.waiting) (reverse s.blocks) → length s.stack ≡ 0
blocks-none g s none h = subst (λ bs. AreBlocks g s (length s.stack) (length s.waiting) (reverse bs)) none h

node-inside : (g : List (List Reference)) (s : Search) → IsBase g s → (node rank : ℕ) → mark_of s node ≡ Closed rank → node < length g
node-inside g s h node rank mark =
    elim (cases_lt node (length g)) [
      | inl low ↦ low
      | inr past ↦ absurd (new-closed _ rank (get_or_past s.marks node New (omega (arith, h.all))) mark)
    ]

-- with no block left, what was seen is closed
pub all-closed : (g : List (List Reference)) (s : Search) → IsSearch g s → s.blocks ≡ [] → ((node : ℕ) → node < length g → mark_of s node ≡ New → ⊥) → AllClosed s.marks
all-closed g s h none seen node low =
    let empty : length s.stack ≡ 0 = blocks-none g s none h.blocks in
    closed-of (mark_of s node) (seen node (omega (arith, h.base.all))) (λ p mark. absurd (omega (arith, (h.base.placed node p mark).0)))

-- the ranks and the order at the end are those of components
pub ranks-right : (g : List (List Reference)) (s : Search) (ranks : List ℕ) → AllStand g → IsSearch g s → RanksAre s.marks ranks → AreComponents g ranks s.order
ranks-right g s ranks stand h are =
    let closed : (node : ℕ) → node < length g → mark_of s node ≡ Closed (rank_of ranks node) = λ node low. are.each node (omega (arith, h.base.all)) in
    record {
      ranks_right = record {
        all = are.all ∙ h.base.all;
        falls = λ a b refers. (let was = h.base.falls a (rank_of ranks a) b (closed a (refers-within g a b refers)) refers in
            let same : was.0 ≡ rank_of ranks b = closed-same _ _ _ was.1 (closed b (stand a b refers)) in omega (arith, was.2));
        same = λ a b low high tied. h.base.same a b (rank_of ranks b) (closed a low ∙ ap Closed tied) (closed b high);
      };
      listed = λ place low. h.base.listed place (rank_of ranks place) (closed place low);
      inside = λ i low. node-inside g s h.base (get_or s.order i 0) (h.base.left i low).0 (h.base.left i low).1;
      ordered = λ i target low refers. elim (h.base.ordered i target low refers) [
        | inl before ↦ inl before
        | inr both ↦ inr (
            sym (closed-same _ _ _ both.2 (closed target (stand (get_or s.order i 0) target refers)))
            ∙ closed-same _ _ _ both.1 (closed (get_or s.order i 0) (refers-within g (get_or s.order i 0) target refers)))
      ];
      few = omega (arith, h.base.few);
    }

-- one more node was seen
pub seen-more : (g : List (List Reference)) (s t : Search) (node : ℕ) → node < length s.marks → mark_of s node ≡ New → KeepsSeen (entered g node s) t → ((k : ℕ) → k < node → mark_of s k ≡ New → ⊥) → (k : ℕ) → k < node + 1 → mark_of t k ≡ New → ⊥
seen-more g s t node inside new kept seen k low mark =
    elim (cases_eq k node) [
      | inl same ↦ new-open _ (length s.stack) (subst (λ x. mark_of (entered g node s) x ≡ New) same (kept k mark)) (set-here s.marks node (Open (length s.stack)) inside)
      | inr other ↦ seen k (omega arith) (kept-entered g s node inside new k (kept k mark))
    ]
