-- A node comes onto the stack.
use Rattle.std.proofs.Common.{◌≡◌, ◌≤◌, ◌<◌, ◌+◌, ◌-◌, ◌⊎◌, inl, inr, ℕ, List, [], ◌∷◌, ◌++◌, length, get_or, reverse, refl, sym, ap, ◌∙◌, subst, arith}
use Rattle.std.proofs.lemmas.List.{length-set, length-append, length_push, get_or_append_left, get_or-append_right, get_or-append-add, get_or_push, get_or_default, reverse-append}
use Rattle.std.proofs.lemmas.List.Elements.{Contains-get_or}
use Rattle.std.proofs.lemmas.Bool.{cases_lt}
use Rattle.psa_chains.specs.declared.reference.Reference.{Reference}
use Rattle.psa_chains.specs.declared.search.Search.{Search}
use Rattle.psa_chains.specs.declared.search.Block.{Block}
use Rattle.psa_chains.specs.declared.search.Mark.{Mark}
use Rattle.psa_chains.specs.declared.search.Mark.TheVariants.{New, Open, Closed}
use Rattle.psa_chains.specs.Chains.{row, targets, RefersTo, AllStand, Leads}
use Rattle.psa_chains.specs.Searching.{mark_of, node_at, Explored, IsBlock, AreBlocks, IsBase, IsSearch, KeepsSeen, entered, each_one}
use Rattle.psa_chains.specs.Searching.Explored.{closed, inside, waits}
use Rattle.psa_chains.proofs.Walks.{leads-here, leads-trans, leads-one, leads-more, leads-same}
use Rattle.psa_chains.proofs.Marks.{set-cases, set-here, new-open, open-closed, open-same}
use Rattle.psa_chains.proofs.Work.{entered-work}
use Rattle.psa_chains.proofs.Steps.{blocks-kept, waiting_on, base-waiting}

module _ (g : List (List Reference)) (s : Search) (node : ℕ) (inside' : node < length s.marks) (new : mark_of s node ≡ New) where
  -- a mark that a node had before stays
  stays : (x : ℕ) (m : Mark) → (New ≡ m → ⊥) → mark_of s x ≡ m → mark_of (entered g node s) x ≡ m
  stays x m old is =
      elim (set-cases s.marks node (Open (length s.stack)) x inside') [
        | inl same ↦ absurd (old (sym new ∙ ap (λ y. mark_of s y) (sym same.0) ∙ is))
        | inr other ↦ other.1 ∙ is
      ]

  was-closed : (x rank : ℕ) → mark_of (entered g node s) x ≡ Closed rank → mark_of s x ≡ Closed rank
  was-closed x rank is =
      elim (set-cases s.marks node (Open (length s.stack)) x inside') [
        | inl same ↦ absurd (open-closed _ _ _ same.1 is)
        | inr other ↦ sym other.1 ∙ is
      ]

  stays-closed : (x rank : ℕ) → mark_of s x ≡ Closed rank → mark_of (entered g node s) x ≡ Closed rank
  stays-closed x rank is = stays x (Closed rank) (λ e. cc) is

  stays-open : (x p : ℕ) → mark_of s x ≡ Open p → mark_of (entered g node s) x ≡ Open p
  stays-open x p is = stays x (Open p) (λ e. cc) is

  -- what was seen stays seen where a node is entered
  pub kept-entered : KeepsSeen s (entered g node s)
  kept-entered x is =
      elim (set-cases s.marks node (Open (length s.stack)) x inside') [
        | inl same ↦ absurd (new-open _ _ is same.1)
        | inr other ↦ sym other.1 ∙ is
      ]

  size-entered : length (entered g node s).stack ≡ length s.stack + 1
  size-entered = length_push s.stack node

  node-below : (p : ℕ) → p < length s.stack → node_at (entered g node s) p ≡ node_at s p
  node-below p low = get_or_append_left s.stack (node ∷ []) 0 p low

  node-top : (p : ℕ) → length s.stack ≡ p → node_at (entered g node s) p ≡ node
  node-top p same = get_or_push s.stack node 0 p same

  -- what waits at the end is what the node refers to
  waits-new : (i : ℕ) → length s.waiting ≤ i → i < length (entered g node s).waiting → RefersTo g node (get_or (entered g node s).waiting i 0)
  waits-new i low high =
      let at : get_or (entered g node s).waiting i 0 ≡ get_or (targets (row g node)) (i - length s.waiting) 0 = get_or-append_right s.waiting (targets (row g node)) (length s.waiting) i 0 refl low in
      subst (λ x. RefersTo g node x) (sym at) (Contains-get_or (targets (row g node)) (i - length s.waiting) 0 (omega (arith, length-append s.waiting (targets (row g node)))))

  waits-old : (i : ℕ) → i < length s.waiting → get_or (entered g node s).waiting i 0 ≡ get_or s.waiting i 0
  waits-old i low = get_or_append_left s.waiting (targets (row g node)) 0 i low

  -- what the node refers to waits behind the rest
  explored-new : (b : Block) (target : ℕ) → b.waiting ≤ length s.waiting → RefersTo g node target → Explored (entered g node s) b target
  explored-new b target room refers =
      waits (length s.waiting + refers.0) (omega arith) (omega (arith, refers.1, length-append s.waiting (targets (row g node))))
      (get_or-append-add s.waiting (targets (row g node)) refers.0 0 ∙ get_or_default (targets (row g node)) refers.0 0 target refers.1 ∙ refers.2)

  there-entered : IsBase g s → (p : ℕ) → (p < length s.stack) ⊎ (length s.stack ≡ p) → mark_of (entered g node s) (node_at (entered g node s) p) ≡ Open p
  there-entered h p (inl low) = subst (λ x. mark_of (entered g node s) x ≡ Open p) (sym (node-below p low)) (stays-open (node_at s p) p (h.there p low))
  there-entered h p (inr same) = subst (λ x. mark_of (entered g node s) x ≡ Open p) (sym (node-top p same)) (set-here s.marks node _ inside' ∙ ap Open same)

  placed-entered : IsBase g s → (x p : ℕ) → mark_of (entered g node s) x ≡ Open p → (p < length (entered g node s).stack) × (node_at (entered g node s) p ≡ x)
  placed-entered h x p is =
      elim (set-cases s.marks node (Open (length s.stack)) x inside') [
        | inl same ↦ (let top : length s.stack ≡ p = open-same _ _ _ same.1 is in (omega (arith, size-entered), node-top p top ∙ sym same.0))
        | inr other ↦ (let at = h.placed x p (sym other.1 ∙ is) in (omega (arith, at.0, size-entered), node-below p at.0 ∙ at.1))
      ]

  chain-entered : IsBase g s → ((p : ℕ) → p < length s.stack → Leads g (node_at s p) node) → (p q : ℕ) → p ≤ q → (p < length s.stack) ⊎ (length s.stack ≤ p) → (q < length s.stack) ⊎ (length s.stack ≡ q) → Leads g (node_at (entered g node s) p) (node_at (entered g node s) q)
  chain-entered h leads p q le _ (inl low) = leads-same g _ _ _ _ (sym (node-below p (omega arith))) (sym (node-below q low)) (h.chain p q le low)
  chain-entered h leads p q le (inl less) (inr same) = leads-same g _ _ _ _ (sym (node-below p less)) (sym (node-top q same)) (leads p less)
  chain-entered h leads p q le (inr more) (inr same) = leads-same g _ _ _ _ (sym (node-top p (omega arith))) (sym (node-top q same)) (leads-here g node)

  falls-entered : IsBase g s → (x rank target : ℕ) → mark_of (entered g node s) x ≡ Closed rank → RefersTo g x target → (lower : ℕ) × (mark_of (entered g node s) target ≡ Closed lower) × (lower ≤ rank)
  falls-entered h x rank target is refers =
      let was = h.falls x rank target (was-closed x rank is) refers in
      (was.0, stays-closed target was.0 was.1, was.2)

  -- marks, stack and order where a node is entered
  pub base-entered : AllStand g → IsBase g s → ((p : ℕ) → p < length s.stack → Leads g (node_at s p) node) → IsBase g (entered g node s)
  base-entered stand h leads = record {
    all = length-set s.marks node _ ∙ h.all;
    stand = λ i high. elim (cases_lt i (length s.waiting)) [
      | inl low ↦ subst (λ x. x < length g) (sym (waits-old i low)) (h.stand i low)
      | inr more ↦ stand node _ (waits-new i more high)
    ];
    there = λ p high. there-entered h p (elim (cases_lt p (length s.stack)) [ inl low ↦ inl low | inr more ↦ inr (omega (arith, size-entered)) ]);
    placed = placed-entered h;
    chain = λ p q le high. chain-entered h leads p q le (cases_lt p (length s.stack)) (elim (cases_lt q (length s.stack)) [ inl low ↦ inl low | inr more ↦ inr (omega (arith, size-entered)) ]);
    falls = falls-entered h;
    same = λ a b rank p q. h.same a b rank (was-closed a rank p) (was-closed b rank q);
    below = λ x rank p. h.below x rank (was-closed x rank p);
    few = (let fall = entered-work each_one s.marks g node (Open (length s.stack)) refl inside' h.all new in omega (arith, h.few, size-entered));
    listed = λ x rank p. h.listed x rank (was-closed x rank p);
    ordered = λ i target low refers. elim (h.ordered i target low refers) [
      | inl there ↦ inl there
      | inr both ↦ inr (both.0, stays-closed _ both.0 both.1, stays-closed target both.0 both.2)
    ];
    left = λ i low. (let was = h.left i low in (was.0, stays-closed _ was.0 was.1));
  }

  abbrev own : Block
  own = record { nodes = length s.stack; waiting = length s.waiting }

  own-explored : (p target : ℕ) → length s.stack ≤ p → p < length (entered g node s).stack → RefersTo g (node_at (entered g node s) p) target → Explored (entered g node s) own target
  own-explored p target low high refers =
      explored-new own target (omega arith) (subst (λ x. RefersTo g x target) (node-top p (omega (arith, size-entered))) refers)

  own-block : IsBlock g (entered g node s) own
  own-block = record {
    explored = own-explored;
    reached = λ i low high. leads-same g _ _ _ _ (sym (node-top (length s.stack) refl)) refl (leads-one g node _ (waits-new i low high));
  }

  -- the blocks where a node is entered
  pub blocks-entered : AreBlocks g (entered g node s) (length s.stack) (length s.waiting) (reverse s.blocks) → AreBlocks g (entered g node s) (length (entered g node s).stack) (length (entered g node s).waiting) (reverse (entered g node s).blocks)
  blocks-entered h = subst (λ bs. AreBlocks g (entered g node s) (length (entered g node s).stack) (length (entered g node s).waiting) bs) (sym (reverse-append s.blocks (own ∷ []))) (
    omega (arith, size-entered),
    omega (arith, length-append s.waiting (targets (row g node))),
    (λ p low high. leads-same g _ _ _ _ (sym (node-top p (omega (arith, size-entered)))) (sym (node-top (length s.stack) refl)) (leads-here g node)),
    own-block,
    h,
  )

-- the first node of a search from it
pub search-begun : (g : List (List Reference)) (s : Search) (node : ℕ) → AllStand g → node < length s.marks → mark_of s node ≡ New → s.blocks ≡ [] → IsSearch g s → IsSearch g (entered g node s)
search-begun g s node stand inside' new none h =
    let empty : length s.stack ≡ 0 = subst (λ bs. AreBlocks g s (length s.stack) (length s.waiting) (reverse bs)) none h.blocks in
    record {
      base = base-entered g s node inside' new stand h.base (λ p low. absurd (omega arith));
      blocks = blocks-entered g s node inside' new (subst (λ bs. AreBlocks g (entered g node s) (length s.stack) (length s.waiting) (reverse bs)) (sym none) empty);
    }

-- A node that waited is entered.
module _ (g : List (List Reference)) (s : Search) (rest : List ℕ) (t : ℕ) (split : s.waiting ≡ rest ++ t ∷ []) (inside' : t < length s.marks) (new : mark_of s t ≡ New) where
  abbrev after : Search
  after = entered g t (waiting_on s rest)

  waited : (o : Block) (target i : ℕ) → o.nodes < length s.stack → o.waiting ≤ i → i < length s.waiting → get_or s.waiting i 0 ≡ target → (i < length rest) ⊎ (length rest ≤ i) → Explored after o target
  waited o target i below low high at (inl less) =
      waits i low (omega (arith, length-append rest (targets (row g t))))
      (waits-old g (waiting_on s rest) t inside' new i less ∙ sym (get_or_append_left rest (t ∷ []) 0 i less) ∙ ap (λ xs. get_or xs i 0) (sym split) ∙ at)
  waited o target i below low high at (inr more) =
      let size : length s.waiting ≡ length rest + 1 = ap length split ∙ length_push rest t in
      let here : length rest ≡ i = omega arith in
      let is : t ≡ target = sym (get_or_push rest t 0 i here) ∙ ap (λ xs. get_or xs i 0) (sym split) ∙ at in
      inside (length s.stack) (subst (λ x. mark_of after x ≡ Open (length s.stack)) is (set-here s.marks t _ inside')) (omega (arith, below))

  explored-kept : (o : Block) (target : ℕ) → o.nodes < length s.stack → Explored s o target → Explored after o target
  explored-kept o target below (closed rank m) = closed rank (stays-closed g (waiting_on s rest) t inside' new target rank m)
  explored-kept o target below (inside place m low) = inside place (stays-open g (waiting_on s rest) t inside' new target place m) low
  explored-kept o target below (waits i low high at) = waited o target i below low high at (cases_lt i (length rest))

  explored-entered : (o : Block) (p target : ℕ) → o.nodes < length s.stack → o.waiting ≤ length rest → IsBlock g s o → o.nodes ≤ p → p < length after.stack → RefersTo g (node_at after p) target → (p < length s.stack) ⊎ (length s.stack ≤ p) → Explored after o target
  explored-entered o p target below room is low high refers (inl less) =
      explored-kept o target below (is.explored p target low less (subst (λ x. RefersTo g x target) (node-below g (waiting_on s rest) t inside' new p less) refers))
  explored-entered o p target below room is low high refers (inr more) =
      explored-new g (waiting_on s rest) t inside' new o target room
      (subst (λ x. RefersTo g x target) (node-top g (waiting_on s rest) t inside' new p (omega (arith, size-entered g (waiting_on s rest) t inside' new))) refers)

  block-entered : (o : Block) → o.nodes < length s.stack → o.waiting ≤ length rest → Leads g (node_at s o.nodes) t → IsBlock g s o → IsBlock g after o
  block-entered o below room leads is = record {
    explored = λ p target low high refers. explored-entered o p target below room is low high refers (cases_lt p (length s.stack));
    reached = λ i low high. leads-same g _ _ _ _ (sym (node-below g (waiting_on s rest) t inside' new o.nodes below)) refl (elim (cases_lt i (length rest)) [
      | inl less ↦ (let size : length s.waiting ≡ length rest + 1 = ap length split ∙ length_push rest t in
          leads-same g _ _ _ _ refl (ap (λ xs. get_or xs i 0) split ∙ get_or_append_left rest (t ∷ []) 0 i less ∙ sym (waits-old g (waiting_on s rest) t inside' new i less)) (is.reached i low (omega arith)))
      | inr more ↦ leads-more g _ t _ leads (waits-new g (waiting_on s rest) t inside' new i more high)
    ]);
  }

  -- the search goes on where a node that waits is entered
  pub search-entered : (b : Block) (older : List Block) → AllStand g → b.waiting < length s.waiting → reverse s.blocks ≡ b ∷ older → IsSearch g s → IsSearch g after
  search-entered b older stand room newest h =
      let size : length s.waiting ≡ length rest + 1 = ap length split ∙ length_push rest t in
      let blocks = subst (λ bs. AreBlocks g s (length s.stack) (length s.waiting) bs) newest h.blocks in
      let last : get_or s.waiting (length rest) 0 ≡ t = ap (λ xs. get_or xs (length rest) 0) split ∙ get_or_push rest t 0 (length rest) refl in
      let to = leads-same g _ _ _ _ refl last (blocks.3.reached (length rest) (omega arith) (omega arith)) in
      let leads : (p : ℕ) → p < length s.stack → Leads g (node_at s p) t = λ p low.
      leads-trans g _ _ _ (h.base.chain p (length s.stack - 1) (omega arith) (omega arith)) (leads-trans g _ _ _ (blocks.2 (length s.stack - 1) (omega (arith, blocks.0)) (omega arith)) to) in
      record {
        base = base-entered g (waiting_on s rest) t inside' new stand (base-waiting g s rest t split h.base) leads;
        blocks = blocks-entered g (waiting_on s rest) t inside' new (subst (λ bs. AreBlocks g after (length s.stack) (length rest) bs) (sym newest) (
          blocks.0,
          omega arith,
          (λ p low high. leads-same g _ _ _ _ (sym (node-below g (waiting_on s rest) t inside' new p high)) (sym (node-below g (waiting_on s rest) t inside' new b.nodes blocks.0)) (blocks.2 p low high)),
          block-entered b blocks.0 (omega arith) (leads b.nodes blocks.0) blocks.3,
          blocks-kept g s after b.nodes b.waiting older (λ p low. node-below g (waiting_on s rest) t inside' new p (omega (arith, blocks.0)))
              (λ o low less is. block-entered o (omega (arith, blocks.0)) (omega arith) (leads o.nodes (omega (arith, blocks.0))) is) blocks.4,
        ));
      }
