-- The newest block is left.
use Rattle.std.proofs.Common.{◌≡◌, ◌≤◌, ◌<◌, ◌+◌, ◌-◌, ◌⊎◌, inl, inr, ℕ, false, List, ◌∷◌, ◌++◌, length, get_or, take, drop, reverse, refl, sym, ap, ◌∙◌, subst, subst₂, arith}
use Rattle.std.proofs.lemmas.List.{length-append, length-drop, length-reverse, length-take, length-take-le, get_or_past, get_or-take, get_or-drop, get_or-reverse, get_or_append_left, get_or-append_right, take-append-le, get_or_default}
use Rattle.std.specs.List.{Contains}
use Rattle.std.proofs.lemmas.List.Elements.{Contains-append_left, Contains-append_right}
use Rattle.std.proofs.lemmas.Bool.{cases_lt}
use Rattle.psa_chains.specs.declared.reference.Reference.{Reference}
use Rattle.psa_chains.specs.declared.search.Search.{Search}
use Rattle.psa_chains.specs.declared.search.Block.{Block}
use Rattle.psa_chains.specs.declared.search.Mark.TheVariants.{New, Open, Closed}
use Rattle.psa_chains.specs.Chains.{RefersTo, Leads}
use Rattle.psa_chains.specs.Searching.{mark_at, mark_of, node_at, Explored, IsBlock, AreBlocks, IsBase, IsSearch, IsTogether, KeepsSeen, closed_at, weigh, each_one, is_new}
use Rattle.psa_chains.specs.Searching.Explored.{closed, inside, waits}
use Rattle.psa_chains.proofs.Walks.{leads-trans, leads-same}
use Rattle.psa_chains.proofs.Marks.{AllInside, marked-length, marked-cases, new-open, new-closed, open-closed, open-same, closed-same}
use Rattle.psa_chains.proofs.Work.{AllSeen, marked-work}
use Rattle.psa_chains.proofs.Steps.{blocks-kept, blocks-room, with_blocks}

-- what stands on the stack stands among the marks
pub stack-inside : (g : List (List Reference)) (s : Search) → IsBase g s → AllInside s.stack (length s.marks)
stack-inside g s h p low =
    elim (cases_lt (node_at s p) (length s.marks)) [
      | inl less ↦ less
      | inr past ↦ absurd (new-open _ _ (get_or_past s.marks (node_at s p) New past) (h.there p low))
    ]

-- nodes behind some stand where all do
pub drop-inside : (nodes : List ℕ) (from n : ℕ) → AllInside nodes n → AllInside (drop from nodes) n
drop-inside nodes from n h k low =
    subst (λ x. x < n) (sym (get_or-drop from nodes k 0)) (h (from + k) (omega (arith, length-drop from nodes)))

contains-reverse : (xs : List ℕ) (x k : ℕ) → k < length xs → get_or xs k 0 ≡ x → Contains (reverse xs) x
contains-reverse xs x k low at =
    let there : length xs - 1 - k < length xs = omega arith in
    let same : length xs - 1 - (length xs - 1 - k) ≡ k = omega arith in (
      length xs - 1 - k,
      omega (arith, length-reverse xs),
      get_or-reverse xs (length xs - 1 - k) x there ∙ ap (λ i. get_or xs i x) same ∙ get_or_default xs k x 0 low ∙ at,
    )

-- what a list has, a longer front of it with more has too
contains-longer : (xs ys : List ℕ) (i x : ℕ) → length xs ≤ i → Contains xs x → Contains (take i (xs ++ ys)) x
contains-longer xs ys i x low h = (
  h.0,
  omega (arith, h.1, length-take i (xs ++ ys), length-append xs ys),
  get_or-take i (xs ++ ys) h.0 x (omega (arith, h.1)) ∙ get_or_append_left xs ys x h.0 h.1 ∙ h.2,
)

back-to : (a b : ℕ) → a ≤ b → a + (b - a) ≡ b
back-to a b h = omega arith

module _ (g : List (List Reference)) (s : Search) (b : Block) (rest : List Block) (base : IsBase g s) (fits : b.nodes < length s.stack) where
  abbrev left : Search
  left = with_blocks (closed_at b s) rest

  abbrev Leaves : ℕ → Type 0
  Leaves x = (p : ℕ) × (b.nodes ≤ p) × (p < length s.stack) × (node_at s p ≡ x)

  -- a node leaves the stack, or has its mark
  cases : (x : ℕ) → (Leaves x × (mark_of left x ≡ Closed (length s.order))) ⊎ ((Leaves x → ⊥) × (mark_of left x ≡ mark_of s x))
  cases x =
      elim (marked-cases (Closed (length s.order)) (drop b.nodes s.stack) s.marks x (drop-inside s.stack b.nodes (length s.marks) (stack-inside g s base))) [
        | inl among ↦ inl ((b.nodes + among.0.0, omega arith, omega (arith, among.0.1, length-drop b.nodes s.stack), sym (get_or-drop b.nodes s.stack among.0.0 0) ∙ among.0.2), among.1)
        | inr not ↦ inr ((λ l. not.0 (l.0 - b.nodes, omega (arith, l.1, l.2, length-drop b.nodes s.stack), get_or-drop b.nodes s.stack (l.0 - b.nodes) 0 ∙ ap (λ i. node_at s i) (back-to b.nodes l.0 l.1) ∙ l.3)), not.1)
      ]

  -- the stack ends where the block began
  pub size-left : length left.stack ≡ b.nodes
  size-left = length-take-le b.nodes s.stack (omega arith)

  node-left : (p : ℕ) → p < b.nodes → node_at left p ≡ node_at s p
  node-left p low = get_or-take b.nodes s.stack p 0 low

  -- below the block nothing changed
  mark-below : (p : ℕ) → p < b.nodes → mark_of left (node_at s p) ≡ Open p
  mark-below p low =
      elim (cases (node_at s p)) [
        | inl l ↦ (let same : l.0.0 ≡ p = open-same _ _ _ (base.there l.0.0 l.0.2) (ap (λ x. mark_of s x) l.0.3 ∙ base.there p (omega arith)) in absurd (omega (arith, l.0.1)))
        | inr k ↦ k.1 ∙ base.there p (omega arith)
      ]

  stays-closed : (x rank : ℕ) → mark_of s x ≡ Closed rank → mark_of left x ≡ Closed rank
  stays-closed x rank is =
      elim (cases x) [
        | inl l ↦ absurd (open-closed _ _ _ (ap (λ y. mark_of s y) (sym l.0.3) ∙ base.there l.0.0 l.0.2) is)
        | inr k ↦ k.1 ∙ is
      ]

  now-closed : (x p : ℕ) → mark_of s x ≡ Open p → b.nodes ≤ p → mark_of left x ≡ Closed (length s.order)
  now-closed x p is low =
      elim (cases x) [
        | inl l ↦ l.1
        | inr k ↦ absurd (k.0 (p, low, (base.placed x p is).0, (base.placed x p is).1))
      ]

  -- what was seen stays seen where a block is left
  pub kept-left : KeepsSeen s left
  kept-left x is =
      elim (cases x) [
        | inl l ↦ absurd (new-closed _ _ is l.1)
        | inr k ↦ sym k.1 ∙ is
      ]

  placed-left : (x p : ℕ) → mark_of left x ≡ Open p → (p < length left.stack) × (node_at left p ≡ x)
  placed-left x p is =
      elim (cases x) [
        | inl l ↦ absurd (open-closed _ _ _ is l.1)
        | inr k ↦ (let at = base.placed x p (sym k.1 ∙ is) in elim (cases_lt p b.nodes) [
          | inl low ↦ (omega (arith, size-left), node-left p low ∙ at.1)
          | inr high ↦ absurd (k.0 (p, high, at.0, at.1))
        ])
      ]

  -- a target of a node that leaves was left before, or leaves with it
  falls-from : (target : ℕ) → length s.waiting ≤ b.waiting → Explored s b target → (lower : ℕ) × (mark_of left target ≡ Closed lower) × (lower ≤ length s.order)
  falls-from target done (closed rank m) = (let low = base.below target rank m in (rank, stays-closed target rank m, omega arith))
  falls-from target done (inside place m low) = (length s.order, now-closed target place m low, omega arith)
  falls-from target done (waits i low high at) = absurd (omega arith)

  falls-left : length s.waiting ≤ b.waiting → IsBlock g s b → (x rank target : ℕ) → mark_of left x ≡ Closed rank → RefersTo g x target → (lower : ℕ) × (mark_of left target ≡ Closed lower) × (lower ≤ rank)
  falls-left done is x rank target mark refers =
      elim (cases x) [
        | inl l ↦ (let same : length s.order ≡ rank = closed-same _ _ _ l.1 mark in
            subst (λ r. (lower : ℕ) × (mark_of left target ≡ Closed lower) × (lower ≤ r)) same
            (falls-from target done (is.explored l.0.0 target l.0.1 l.0.2 (subst (λ y. RefersTo g y target) (sym l.0.3) refers))))
        | inr k ↦ (let was = base.falls x rank target (sym k.1 ∙ mark) refers in (was.0, stays-closed target was.0 was.1, was.2))
      ]

  same-left : ((p : ℕ) → b.nodes ≤ p → p < length s.stack → Leads g (node_at s p) (node_at s b.nodes)) → (x y rank : ℕ) → mark_of left x ≡ Closed rank → mark_of left y ≡ Closed rank → Leads g x y
  same-left back x y rank p q =
      elim (cases x) [
        | inl l ↦ elim (cases y) [
          | inl m ↦ leads-same g _ _ _ _ l.0.3 m.0.3 (leads-trans g _ _ _ (back l.0.0 l.0.1 l.0.2) (base.chain b.nodes m.0.0 m.0.1 m.0.2))
          | inr k ↦ (let e : length s.order ≡ rank = closed-same _ _ _ l.1 p in absurd (omega (arith, base.below y rank (sym k.1 ∙ q))))
        ]
        | inr k ↦ elim (cases y) [
          | inl m ↦ (let e : length s.order ≡ rank = closed-same _ _ _ m.1 q in absurd (omega (arith, base.below x rank (sym k.1 ∙ p))))
          | inr j ↦ base.same x y rank (sym k.1 ∙ p) (sym j.1 ∙ q)
        ]
      ]

  mine-left : (x : ℕ) → Leaves x → mark_of left x ≡ Closed (length s.order)
  mine-left x l = elim (cases x) [ inl m ↦ m.1 | inr k ↦ absurd (k.0 l) ]

  size-order : length left.order ≡ length s.order + (length s.stack - b.nodes)
  size-order = length-append s.order (reverse (drop b.nodes s.stack)) ∙ ap (λ n. length s.order + n) (length-reverse (drop b.nodes s.stack) ∙ length-drop b.nodes s.stack)

  -- the nodes of a block were seen
  pub all-seen : AllSeen (drop b.nodes s.stack) s.marks
  all-seen k low = subst (λ x. is_new (mark_at s.marks x) ≡ false) (sym (get_or-drop b.nodes s.stack k 0)) (ap is_new (base.there (b.nodes + k) (omega (arith, length-drop b.nodes s.stack))))

  below-left : (x rank : ℕ) → mark_of left x ≡ Closed rank → rank < length left.order
  below-left x rank mark =
      elim (cases x) [
        | inl l ↦ (let e : length s.order ≡ rank = closed-same _ _ _ l.1 mark in omega (arith, size-order))
        | inr k ↦ omega (arith, size-order, base.below x rank (sym k.1 ∙ mark))
      ]

  few-left : weigh each_one left.marks g + length left.stack + length left.order ≡ length g
  few-left =
      let same = marked-work each_one (Closed (length s.order)) (drop b.nodes s.stack) s.marks g refl (drop-inside s.stack b.nodes (length s.marks) (stack-inside g s base)) all-seen in
      omega (arith, base.few, size-left, size-order)

  listed-left : (x rank : ℕ) → mark_of left x ≡ Closed rank → Contains left.order x
  listed-left x rank mark =
      elim (cases x) [
        | inl l ↦ Contains-append_right s.order (reverse (drop b.nodes s.stack)) x (contains-reverse (drop b.nodes s.stack) x (l.0.0 - b.nodes) (omega (arith, l.0.1, l.0.2, length-drop b.nodes s.stack)) (get_or-drop b.nodes s.stack (l.0.0 - b.nodes) 0 ∙ ap (λ i. node_at s i) (back-to b.nodes l.0.0 l.0.1) ∙ l.0.3))
        | inr k ↦ Contains-append_left s.order (reverse (drop b.nodes s.stack)) x (base.listed x rank (sym k.1 ∙ mark))
      ]

  -- a place of the new part of the order
  place-new : (i : ℕ) → length s.order ≤ i → i < length left.order → Leaves (get_or left.order i 0)
  place-new i low high =
      let at : get_or left.order i 0 ≡ get_or (reverse (drop b.nodes s.stack)) (i - length s.order) 0 = get_or-append_right s.order (reverse (drop b.nodes s.stack)) (length s.order) i 0 refl low in
      let k : i - length s.order < length (drop b.nodes s.stack) = omega (arith, size-order, length-drop b.nodes s.stack) in
      let back : get_or (reverse (drop b.nodes s.stack)) (i - length s.order) 0 ≡ get_or (drop b.nodes s.stack) (length (drop b.nodes s.stack) - 1 - (i - length s.order)) 0 = get_or-reverse (drop b.nodes s.stack) (i - length s.order) 0 k in (
        b.nodes + (length (drop b.nodes s.stack) - 1 - (i - length s.order)),
        omega arith,
        omega (arith, length-drop b.nodes s.stack),
        sym (get_or-drop b.nodes s.stack (length (drop b.nodes s.stack) - 1 - (i - length s.order)) 0) ∙ sym back ∙ sym at,
      )

  order-old : (i : ℕ) → i < length s.order → get_or left.order i 0 ≡ get_or s.order i 0
  order-old i low = get_or_append_left s.order (reverse (drop b.nodes s.stack)) 0 i low

  ordered-new : (i target : ℕ) → length s.order ≤ i → mark_of left (get_or left.order i 0) ≡ Closed (length s.order) → length s.waiting ≤ b.waiting → Explored s b target → Contains (take i left.order) target ⊎ IsTogether left (get_or left.order i 0) target
  ordered-new i target low mine done (closed rank m) = inl (contains-longer s.order (reverse (drop b.nodes s.stack)) i target low (base.listed target rank m))
  ordered-new i target low mine done (inside place m high) = inr (length s.order, mine, now-closed target place m high)
  ordered-new i target low mine done (waits k under over at) = absurd (omega arith)

  ordered-left : length s.waiting ≤ b.waiting → IsBlock g s b → (i target : ℕ) → i < length left.order → RefersTo g (get_or left.order i 0) target → Contains (take i left.order) target ⊎ IsTogether left (get_or left.order i 0) target
  ordered-left done is i target high refers =
      elim (cases_lt i (length s.order)) [
        | inl low ↦ elim (base.ordered i target low (subst (λ x. RefersTo g x target) (order-old i low) refers)) [
          | inl there ↦ inl (subst (λ xs. Contains xs target) (sym (take-append-le i s.order (reverse (drop b.nodes s.stack)) (omega arith))) there)
          | inr both ↦ inr (both.0, subst (λ x. mark_of left x ≡ Closed both.0) (sym (order-old i low)) (stays-closed _ both.0 both.1), stays-closed target both.0 both.2)
        ]
        | inr more ↦ (let l = place-new i more high in
            ordered-new i target more (mine-left (get_or left.order i 0) l) done (is.explored l.0 target l.1 l.2 (subst (λ x. RefersTo g x target) (sym l.3) refers)))
      ]

  left-left : (i : ℕ) → i < length left.order → (rank : ℕ) × (mark_of left (get_or left.order i 0) ≡ Closed rank)
  left-left i high =
      elim (cases_lt i (length s.order)) [
        | inl low ↦ (let was = base.left i low in (was.0, subst (λ x. mark_of left x ≡ Closed was.0) (sym (order-old i low)) (stays-closed _ was.0 was.1)))
        | inr more ↦ (length s.order, mine-left (get_or left.order i 0) (place-new i more high))
      ]

  base-left : length s.waiting ≤ b.waiting → IsBlock g s b → ((p : ℕ) → b.nodes ≤ p → p < length s.stack → Leads g (node_at s p) (node_at s b.nodes)) → IsBase g left
  base-left done is back = record {
    all = marked-length (Closed (length s.order)) (drop b.nodes s.stack) s.marks ∙ base.all;
    stand = base.stand;
    there = λ p high. (let low : p < b.nodes = omega (arith, size-left) in subst (λ x. mark_of left x ≡ Open p) (sym (node-left p low)) (mark-below p low));
    placed = placed-left;
    chain = λ p q le high. (let low : q < b.nodes = omega (arith, size-left) in leads-same g _ _ _ _ (sym (node-left p (omega arith))) (sym (node-left q low)) (base.chain p q le (omega arith)));
    falls = falls-left done is;
    same = same-left back;
    below = below-left;
    few = few-left;
    listed = listed-left;
    ordered = ordered-left done is;
    left = left-left;
  }

  explored-left : (o : Block) (target : ℕ) → Explored s o target → Explored left o target
  explored-left o target (closed rank m) = closed rank (stays-closed target rank m)
  explored-left o target (inside place m low) =
      elim (cases_lt place b.nodes) [
        | inl less ↦ (let at = base.placed target place m in inside place (subst (λ x. mark_of left x ≡ Open place) at.1 (mark-below place less)) low)
        | inr more ↦ closed (length s.order) (now-closed target place m more)
      ]
  explored-left o target (waits i low high at) = waits i low high at

  block-left : (o : Block) → o.nodes < b.nodes → IsBlock g s o → IsBlock g left o
  block-left o below is = record {
    explored = λ p target low high refers. (let less : p < b.nodes = omega (arith, size-left) in
        explored-left o target (is.explored p target low (omega arith) (subst (λ x. RefersTo g x target) (node-left p less) refers)));
    reached = λ i low high. leads-same g _ _ _ _ (sym (node-left o.nodes below)) refl (is.reached i low high);
  }

-- the search goes on where a block in which nothing waits is left
pub search-left : (g : List (List Reference)) (s : Search) (b : Block) (older rest : List Block) → reverse s.blocks ≡ b ∷ older → reverse rest ≡ older → length s.waiting ≤ b.waiting → IsSearch g s → IsSearch g (with_blocks (closed_at b s) rest)
search-left g s b older rest newest remain done h =
    let blocks = subst (λ bs. AreBlocks g s (length s.stack) (length s.waiting) bs) newest h.blocks in
    record {
      base = base-left g s b rest h.base blocks.0 done blocks.3 blocks.2;
      blocks = subst₂ (λ top bs. AreBlocks g (left g s b rest h.base blocks.0) top (length s.waiting) bs) (sym (size-left g s b rest h.base blocks.0)) (sym remain)
          (blocks-room g _ b.nodes b.waiting (length s.waiting) older (omega arith)
          (blocks-kept g s _ b.nodes b.waiting older (λ p low. node-left g s b rest h.base blocks.0 p low) (λ o low less is. block-left g s b rest h.base blocks.0 o low is) blocks.4));
    }

-- what was seen then stays seen
pub seen-left : (g : List (List Reference)) (s : Search) (b : Block) (older rest : List Block) → reverse s.blocks ≡ b ∷ older → IsSearch g s → KeepsSeen s (with_blocks (closed_at b s) rest)
seen-left g s b older rest newest h =
    let blocks = subst (λ bs. AreBlocks g s (length s.stack) (length s.waiting) bs) newest h.blocks in
    kept-left g s b rest h.base blocks.0
