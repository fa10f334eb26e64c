-- One step of the search: what holds, and less work is left.
use Rattle.std.proofs.Common.{◌≡◌, ◌≤◌, ◌<◌, ◌+◌, ◌-◌, ℕ, List, [], ◌∷◌, ◌++◌, length, get_or, take, drop, reverse, slice_get, Option, Some, None, Result, Ok, Err, OnOk, MatchOption, refl, sym, ap, ◌∙◌, subst, arith}
use Rattle.std.proofs.lemmas.List.{length-append, length-map, length_push, reverse-append, get_or_push, take_more, take_all}
use Rattle.std.proofs.lemmas.Option.{slice_get_within, slice_get-get_or, get_or_from_slice_get}
use Rattle.psa_chains.specs.declared.reference.Reference.{Reference}
use Rattle.psa_chains.specs.declared.search.Search.{Search}
use Rattle.psa_chains.specs.declared.search.Block.{Block}
use Rattle.psa_chains.specs.declared.search.Mark.TheVariants.{New, Open, Closed}
use Rattle.psa_chains.specs.Chains.{row, targets, AllStand}
use Rattle.psa_chains.specs.Searching.{mark_of, IsSearch, KeepsSeen, entered, closed_at, work, effort, IsNewest, AreBlocks}
use Rattle.psa_chains.proofs.Work.{entered-work, marked-work}
use Rattle.psa_chains.proofs.Steps.{waiting_on, with_blocks}
use Rattle.psa_chains.proofs.Entering.{search-entered, kept-entered}
use Rattle.psa_chains.proofs.Closing.{search-left, seen-left, stack-inside, drop-inside, all-seen}

-- what follows where all went well
pub on-ok : {A E : Type 0} (r : Result A E) (P Q : Type 0) → (P → Q) → OnOk r P → OnOk r Q
on-ok (Ok x) P Q f h = f h
on-ok (Err e) P Q f h = tt

-- what a pop of a list that is not empty takes
pub popped : {A : Type 0} (r : Option A) (old new : List A) → MatchOption r ((old ≡ []) × (new ≡ [])) (λ last. old ≡ new ++ last ∷ []) → 0 < length old → (last : A) × (old ≡ new ++ last ∷ [])
popped None old new h some = absurd (omega (arith, ap length h.0))
popped (Some x) old new h some = (x, h)

-- where a block is newest there is one
pub newest-some : (blocks : List Block) (b : Block) (older : List Block) → reverse blocks ≡ b ∷ older → 0 < length blocks
newest-some [] b older h = absurd (cc)
newest-some (x ∷ blocks) b older h = omega arith

-- the blocks without the newest
pub remaining : (blocks rest older : List Block) (b last : Block) → reverse blocks ≡ b ∷ older → blocks ≡ rest ++ last ∷ [] → reverse rest ≡ older
remaining blocks rest older b last newest split =
    let same : last ∷ reverse rest ≡ b ∷ older = sym (reverse-append rest (last ∷ [])) ∙ ap reverse (sym split) ∙ newest in
    cc

-- a step: the search goes on, less work is left, and what was seen stays seen
pub record Stepped (g : List (List Reference)) (s t : Search) : Type 0 where
  pub search : IsSearch g t
  pub less : work g t < work g s
  pub kept : KeepsSeen s t

-- the step that leaves a block
pub step-left : (g : List (List Reference)) (s t : Search) (b last : Block) (older rest : List Block) → IsSearch g s → reverse s.blocks ≡ b ∷ older → length s.waiting ≤ b.waiting → t ≡ closed_at b s → t.blocks ≡ rest ++ last ∷ [] → Stepped g s (with_blocks t rest)
step-left g s t b last older rest h newest done is split =
    let own : s.blocks ≡ rest ++ last ∷ [] = sym (ap (λ x. x.blocks) is) ∙ split in
    let remain = remaining s.blocks rest older b last newest own in
    let blocks = subst (λ bs. AreBlocks g s (length s.stack) (length s.waiting) bs) newest h.blocks in
    let same = marked-work effort (Closed (length s.order)) (drop b.nodes s.stack) s.marks g refl (drop-inside s.stack b.nodes (length s.marks) (stack-inside g s h.base)) (all-seen g s b rest h.base blocks.0) in
    let size : length s.blocks ≡ length rest + 1 = ap length own ∙ length_push rest last in
    subst (λ x. Stepped g s (with_blocks x rest)) (sym is) (record {
      search = search-left g s b older rest newest remain done h;
      less = omega arith;
      kept = seen-left g s b older rest newest h;
    })

-- the step that enters a node
pub step-entered : (g : List (List Reference)) (s n : Search) (b : Block) (older : List Block) (rest : List ℕ) (t : ℕ) → AllStand g → IsSearch g s → reverse s.blocks ≡ b ∷ older → b.waiting < length s.waiting → s.waiting ≡ rest ++ t ∷ [] → mark_of s t ≡ New → n ≡ entered g t (waiting_on s rest) → Stepped g s n
step-entered g s n b older rest t stand h newest room split new is =
    let size : length s.waiting ≡ length rest + 1 = ap length split ∙ length_push rest t in
    let low : t < length g = subst (λ x. x < length g) (ap (λ xs. get_or xs (length rest) 0) split ∙ get_or_push rest t 0 (length rest) refl) (h.base.stand (length rest) (omega arith)) in
    let inside : t < length s.marks = omega (arith, h.base.all) in
    let fall = entered-work effort s.marks g t (Open (length s.stack)) refl inside h.base.all new in
    let waiting : length (rest ++ targets (row g t)) ≡ length rest + length (row g t) = length-append rest (targets (row g t)) ∙ ap (λ k. length rest + k) (length-map (row g t) (λ r. r.target)) in
    subst (λ x. Stepped g s x) (sym is) (record {
      search = search-entered g s rest t split inside new b older stand room newest h;
      less = omega (arith, length_push s.blocks (record { nodes = length s.stack; waiting = length rest }));
      kept = kept-entered g (waiting_on s rest) t inside new;
    })

-- the target that waits last
pub last-is : (waiting rest : List ℕ) (last t : ℕ) → waiting ≡ rest ++ last ∷ [] → t ≡ get_or waiting (length waiting - 1) 0 → last ≡ t
last-is waiting rest last t split at =
    let size : length waiting ≡ length rest + 1 = ap length split ∙ length_push rest last in
    let here : length rest ≡ length waiting - 1 = omega arith in
    sym (get_or_push rest last 0 (length waiting - 1) here) ∙ ap (λ xs. get_or xs (length waiting - 1) 0) (sym split) ∙ sym at

-- the newest block is the last of the list
pub newest-at : (blocks : List Block) (b : Block) → slice_get blocks (length blocks - 1) ≡ Some b → IsNewest b blocks
newest-at blocks b h =
    let low : length blocks - 1 < length blocks = slice_get_within blocks (length blocks - 1) b h in
    let split : take (length blocks - 1) blocks ++ b ∷ [] ≡ blocks =
    ap (λ x. take (length blocks - 1) blocks ++ x ∷ []) (sym (get_or_from_slice_get blocks (length blocks - 1) b b h))
    ∙ sym (take_more blocks (length blocks - 1) b low) ∙ take_all (length blocks - 1 + 1) blocks (omega arith) in
    (reverse (take (length blocks - 1) blocks), ap reverse (sym split) ∙ reverse-append (take (length blocks - 1) blocks) (b ∷ []))

-- without a newest block there is none
pub none-left : (blocks : List Block) → slice_get blocks (length blocks - 1) ≡ None → blocks ≡ []
none-left [] h = refl
none-left (b ∷ blocks) h =
    let some : slice_get (b ∷ blocks) (length (b ∷ blocks) - 1) ≡ Some (get_or (b ∷ blocks) (length (b ∷ blocks) - 1) b) = slice_get-get_or (b ∷ blocks) (length (b ∷ blocks) - 1) b (omega arith) in
    cc
