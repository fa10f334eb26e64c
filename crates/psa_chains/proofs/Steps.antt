-- What each step of the search keeps.
use Rattle.std.proofs.Common.{◌≡◌, ◌≤◌, ◌<◌, ◌+◌, ◌-◌, ◌⊎◌, inl, inr, ℕ, List, [], ◌∷◌, ◌++◌, length, get_or, reverse, refl, sym, ap, ◌∙◌, subst, arith}
use Rattle.std.proofs.lemmas.List.{length_push, get_or_append_left, get_or_push}
use Rattle.std.proofs.lemmas.Bool.{cases_lt}
use Rattle.psa_chains.specs.declared.reference.Reference.{Reference}
use Rattle.psa_chains.specs.declared.search.Search.{Search}
use Rattle.psa_chains.specs.declared.search.Block.{Block}
use Rattle.psa_chains.specs.declared.search.Mark.TheVariants.{Open, Closed}
use Rattle.psa_chains.specs.Chains.{Leads}
use Rattle.psa_chains.specs.Searching.{mark_of, node_at, Explored, IsBlock, AreBlocks, IsBase, IsSearch}
use Rattle.psa_chains.specs.Searching.Explored.{closed, inside, waits}
use Rattle.psa_chains.proofs.Walks.{leads-trans, leads-same}

-- blocks stay where each stays, and the stack below them
pub blocks-kept : (g : List (List Reference)) (s n : Search) (top room : ℕ) (bs : List Block)
    → ((p : ℕ) → p < top → node_at n p ≡ node_at s p)
    → ((b : Block) → b.nodes < top → b.waiting ≤ room → IsBlock g s b → IsBlock g n b)
    → AreBlocks g s top room bs → AreBlocks g n top room bs
blocks-kept g s n top room [] same kept h = h
blocks-kept g s n top room (b ∷ older) same kept h = (
  h.0,
  h.1,
  (λ p low high. leads-same g _ _ _ _ (sym (same p high)) (sym (same b.nodes h.0)) (h.2 p low high)),
  kept b h.0 h.1 h.3,
  blocks-kept g s n b.nodes b.waiting older (λ p low. same p (omega (arith, h.0))) (λ o low less is. kept o (omega (arith, h.0)) (omega (arith, h.1)) is) h.4,
)

-- more room
pub blocks-room : (g : List (List Reference)) (s : Search) (top room more : ℕ) (bs : List Block) → room ≤ more → AreBlocks g s top room bs → AreBlocks g s top more bs
blocks-room g s top room more [] fits h = h
blocks-room g s top room more (b ∷ older) fits h = (h.0, omega (arith, h.1), h.2, h.3, h.4)

-- a target that needs no further step
abbrev pub IsPast : Search → Block → ℕ → Type 0
IsPast s b target = ((rank : ℕ) × (mark_of s target ≡ Closed rank)) ⊎ ((place : ℕ) × (mark_of s target ≡ Open place) × (b.nodes ≤ place))

abbrev pub waiting_on : Search → List ℕ → Search
waiting_on s rest = record s { waiting = rest }

waits-past : (s : Search) (b o : Block) (rest : List ℕ) (t target i : ℕ) → s.waiting ≡ rest ++ t ∷ [] → IsPast s b t → o.nodes ≤ b.nodes → o.waiting ≤ i → i < length s.waiting → get_or s.waiting i 0 ≡ target → (i < length rest) ⊎ (length rest ≤ i) → Explored (waiting_on s rest) o target
waits-past s b o rest t target i split past below low high at (inl less) =
    waits i low less (sym (get_or_append_left rest (t ∷ []) 0 i less) ∙ ap (λ xs. get_or xs i 0) (sym split) ∙ at)
waits-past s b o rest t target i split past below low high at (inr more) =
    let size : length s.waiting ≡ length rest + 1 = ap length split ∙ length_push rest t in
    let here : length rest ≡ i = omega arith in
    let is : t ≡ target = sym (get_or_push rest t 0 i here) ∙ ap (λ xs. get_or xs i 0) (sym split) ∙ at in
    elim past [
      | inl c ↦ closed c.0 (subst (λ x. mark_of s x ≡ Closed c.0) is c.1)
      | inr o' ↦ inside o'.0 (subst (λ x. mark_of s x ≡ Open o'.0) is o'.1) (omega (arith, o'.2))
    ]

explored-past : (s : Search) (b o : Block) (rest : List ℕ) (t target : ℕ) → s.waiting ≡ rest ++ t ∷ [] → IsPast s b t → o.nodes ≤ b.nodes → Explored s o target → Explored (waiting_on s rest) o target
explored-past s b o rest t target split past below (closed rank m) = closed rank m
explored-past s b o rest t target split past below (inside place m low) = inside place m low
explored-past s b o rest t target split past below (waits i low high at) = waits-past s b o rest t target i split past below low high at (cases_lt i (length rest))

block-past : (g : List (List Reference)) (s : Search) (b o : Block) (rest : List ℕ) (t : ℕ) → s.waiting ≡ rest ++ t ∷ [] → IsPast s b t → o.nodes ≤ b.nodes → IsBlock g s o → IsBlock g (waiting_on s rest) o
block-past g s b o rest t split past below is = record {
  explored = λ p target low high refers. explored-past s b o rest t target split past below (is.explored p target low high refers);
  reached = λ i low high.
      let size : length s.waiting ≡ length rest + 1 = ap length split ∙ length_push rest t in
      leads-same g _ _ _ _ refl (ap (λ xs. get_or xs i 0) split ∙ get_or_append_left rest (t ∷ []) 0 i high) (is.reached i low (omega arith));
}

-- marks, stack and order do not depend on the last that waits
pub base-waiting : (g : List (List Reference)) (s : Search) (rest : List ℕ) (t : ℕ) → s.waiting ≡ rest ++ t ∷ [] → IsBase g s → IsBase g (waiting_on s rest)
base-waiting g s rest t split h =
    let size : length s.waiting ≡ length rest + 1 = ap length split ∙ length_push rest t in
    record {
      all = h.all;
      stand = λ i high. subst (λ x. x < length g) (ap (λ xs. get_or xs i 0) split ∙ get_or_append_left rest (t ∷ []) 0 i high) (h.stand i (omega arith));
      there = h.there;
      placed = h.placed;
      chain = h.chain;
      falls = h.falls;
      same = h.same;
      below = h.below;
      few = h.few;
      listed = h.listed;
      ordered = h.ordered;
      left = h.left;
    }

-- The target that waits last is past: it need not wait any more.
pub search-past : (g : List (List Reference)) (s : Search) (b : Block) (older : List Block) (rest : List ℕ) (t : ℕ) → s.waiting ≡ rest ++ t ∷ [] → b.waiting < length s.waiting → reverse s.blocks ≡ b ∷ older → IsPast s b t → IsSearch g s → IsSearch g (waiting_on s rest)
search-past g s b older rest t split room newest past h =
    let size : length s.waiting ≡ length rest + 1 = ap length split ∙ length_push rest t in
    let blocks = subst (λ bs. AreBlocks g s (length s.stack) (length s.waiting) bs) newest h.blocks in
    record {
      base = base-waiting g s rest t split h.base;
      blocks = subst (λ bs. AreBlocks g (waiting_on s rest) (length s.stack) (length rest) bs) (sym newest) (
        blocks.0,
        omega arith,
        blocks.2,
        block-past g s b b rest t split past (omega arith) blocks.3,
        blocks-kept g s (waiting_on s rest) b.nodes b.waiting older (λ p low. refl) (λ o low less is. block-past g s b o rest t split past (omega (arith, low)) is) blocks.4,
      );
    }

-- other blocks on the same stack
abbrev pub with_blocks : Search → List Block → Search
with_blocks s rest = record s { blocks = rest }

explored-blocks : (s : Search) (rest : List Block) (b : Block) (t : ℕ) → Explored s b t → Explored (with_blocks s rest) b t
explored-blocks s rest b t (closed rank m) = closed rank m
explored-blocks s rest b t (inside place m low) = inside place m low
explored-blocks s rest b t (waits i low high at) = waits i low high at

-- what holds of one block does not depend on the others
pub block-blocks : (g : List (List Reference)) (s : Search) (rest : List Block) (b : Block) → IsBlock g s b → IsBlock g (with_blocks s rest) b
block-blocks g s rest b is = record {
  explored = λ p t low high refers. explored-blocks s rest b t (is.explored p t low high refers);
  reached = is.reached;
}

-- marks, stack and order do not depend on the blocks
pub base-blocks : (g : List (List Reference)) (s : Search) (rest : List Block) → IsBase g s → IsBase g (with_blocks s rest)
base-blocks g s rest h = record {
  all = h.all;
  stand = h.stand;
  there = h.there;
  placed = h.placed;
  chain = h.chain;
  falls = h.falls;
  same = h.same;
  below = h.below;
  few = h.few;
  listed = h.listed;
  ordered = h.ordered;
  left = h.left;
}

-- From the end of the stack a chain leads back below the newest block: it is one with the block before.
blocks-joined : (g : List (List Reference)) (s : Search) (b : Block) (older : List Block) (place : ℕ) → IsBase g s → place < b.nodes → Leads g (node_at s (length s.stack - 1)) (node_at s place) → AreBlocks g s (length s.stack) (length s.waiting) (b ∷ older) → AreBlocks g s (length s.stack) (length s.waiting) older
blocks-joined g s b [] place base below leads h = absurd (omega (arith, h.4))
blocks-joined g s b (o ∷ older) place base below leads h =
    let first : Leads g (node_at s place) (node_at s o.nodes) =
    elim (cases_lt o.nodes place) [
      | inl low ↦ h.4.2 place (omega arith) below
      | inr high ↦ base.chain place o.nodes high (omega (arith, h.0, h.4.0))
    ] in (
      omega (arith, h.0, h.4.0),
      omega (arith, h.1, h.4.1),
      (λ p low high. elim (cases_lt p b.nodes) [
        | inl less ↦ h.4.2 p low less
        | inr more ↦ leads-trans g _ _ _ (base.chain p (length s.stack - 1) (omega arith) (omega arith)) (leads-trans g _ _ _ leads first)
      ]),
      h.4.3,
      h.4.4,
    )

-- the search goes on where the newest block is joined with the one before
pub search-joined : (g : List (List Reference)) (s : Search) (b : Block) (older rest : List Block) (t place : ℕ) → reverse s.blocks ≡ b ∷ older → reverse rest ≡ older → b.waiting < length s.waiting → get_or s.waiting (length s.waiting - 1) 0 ≡ t → mark_of s t ≡ Open place → place < b.nodes → IsSearch g s → IsSearch g (with_blocks s rest)
search-joined g s b older rest t place newest left room last mark low h =
    let blocks = subst (λ bs. AreBlocks g s (length s.stack) (length s.waiting) bs) newest h.blocks in
    let at = h.base.placed t place mark in
    let top : 0 < length s.stack = omega arith in
    let back = blocks.2 (length s.stack - 1) (omega (arith, blocks.0)) (omega arith) in
    let to = leads-same g _ _ _ _ refl (last ∙ sym at.1) (blocks.3.reached (length s.waiting - 1) (omega arith) (omega arith)) in
    let joined = blocks-joined g s b older place h.base low (leads-trans g _ _ _ back to) blocks in
    record {
      base = base-blocks g s rest h.base;
      blocks = subst (λ bs. AreBlocks g (with_blocks s rest) (length s.stack) (length s.waiting) bs) (sym left)
          (blocks-kept g s (with_blocks s rest) (length s.stack) (length s.waiting) older (λ p low. refl) (λ o low less is. block-blocks g s rest o is) joined);
    }
