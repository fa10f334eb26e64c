-- Blocks in the order of definitions, and how many formulas are collected before each block of sorted ones.
use Rattle.std.proofs.Common.{◌≡◌, inl, inr, ◌<◌, ◌≤◌, ◌+◌, ◌^◌, ℕ, zero, suc, true, List, [], ◌∷◌, ◌++◌, Some, map, take, length, set, refl, sym, ap, ap₂, ◌∙◌, subst, zero-add, arith}
use Rattle.std.proofs.lemmas.Bool.{cases_order}
use Rattle.std.proofs.lemmas.Option.{same_Some, none-some, slice_get-get_or, slice_get_within, get_or_from_slice_get}
use Rattle.std.proofs.lemmas.List.{map-append, length-map, length-set, take-map, take_all, get_or-set_same, get_or-set_other}
use Rattle.std.specs.List.{slice_get, enumerate_from}
use Rattle.psa_model.specs.declared.draft.Draft.{Draft}
use Rattle.psa_model.specs.Drafts.{IsDraft}
use Rattle.psa_names.specs.Outlines.{Entry, Entries, entries_of}
use Rattle.psa_names.specs.Collected.{contents_before, by_contents, collected_in, collected_before}
use Rattle.psa_names.proofs.ListPlaces.{map-map, map-at}
use Rattle.psa_names.proofs.Sums.{weigh, sum-weigh, weigh-append, weigh-map}
use Rattle.psa_names.proofs.ContentsOrder.{IsAscending, contents-never, entries-ascend}
use Rattle.psa_names.proofs.ContentsSorted.{weigh-by, has-by, by-sorted}
use Rattle.psa_names.proofs.FewCollected.{few-collected}
use Rattle.psa_bodies.specs.declared.contents.Block.{Block}
use Rattle.psa_bodies.specs.Contents.{block_of, blocks_of, AreBlocksOf, HasContentsOrder}
use Rattle.psa_bodies.proofs.NumberingInOrder.{split-places, take-next, length-before}
use Rattle.psa_bodies.proofs.ContentsPlaces.{sorted-at, one-place, weight_before, weigh-before, length-by}
use Rattle.psa_bodies.proofs.SortedBlocks.{block-at, entry-at}

-- ---- blocks in the order of definitions

-- the block of one more definition
pub blocks-more : (entries : Entries) (k : ℕ) (x : Entry) (made new : List Block) → slice_get entries k ≡ Some x → made ≡ blocks_of (take k entries) → new ≡ made ++ block_of (k, x) ∷ [] → new ≡ blocks_of (take (k + 1) entries)
blocks-more entries k x made new there is pushed =
    pushed ∙ ap (λ bs. bs ++ block_of (k, x) ∷ []) is
    ∙ sym (ap (λ es. map block_of es) (ap (enumerate_from 0) (take-next entries k x there) ∙ split-places 0 k (take k entries) x [] (zero-add _ ∙ length-before entries k x there))
    ∙ map-append block_of (enumerate_from 0 (take k entries)) ((k, x) ∷ []))

-- the blocks of all definitions
pub blocks-all : (entries : Entries) (k : ℕ) (made : List Block) → length entries ≤ k → made ≡ blocks_of (take k entries) → made ≡ blocks_of entries
blocks-all entries k made end is = is ∙ ap blocks_of (take_all k entries end)

-- the sum of those before an element, and its own, is at most that of all
pub weigh-has : {A : Type 0} (f : A → ℕ) (xs : List A) (i : ℕ) (x : A) → slice_get xs i ≡ Some x → weigh f (take i xs) + f x ≤ weigh f xs
weigh-has f [] i x there = absurd (none-some x there)
weigh-has f (y ∷ xs) zero x there = let same = ap f (same_Some y x there) in omega (arith, same)
weigh-has f (y ∷ xs) (suc i) x there = let rest = weigh-has f xs i x there in omega (arith, rest)

-- a definition of a draft collects few formulas
pub one-few : (draft : Draft) → IsDraft draft → (i : ℕ) (x : Entry) → slice_get (entries_of draft) i ≡ Some x → length (collected_in x.body) < 2 ^ 32
one-few draft is i x there =
    let all = few-collected draft is in
    let less = weigh-has (λ (e : Entry). length (collected_in e.body)) (entries_of draft) i x there in
    omega (arith, all, less)

-- ---- sums over blocks

abbrev collecting : Entry → ℕ
collecting one = length (collected_in one.body)

-- the number of formulas of some blocks
abbrev pub formulas_in : List Block → ℕ
formulas_in blocks = weigh (λ (b : Block). b.formulas) blocks

weigh-numbers : {A B : Type 0} (f : A → ℕ) (g : B → ℕ) (xs : List A) (ys : List B) → map f xs ≡ map g ys → weigh f xs ≡ weigh g ys
weigh-numbers f g xs ys same =
    sym (weigh-map (λ (n : ℕ). n) f xs) ∙ ap (weigh (λ (n : ℕ). n)) same ∙ weigh-map (λ (n : ℕ). n) g ys

-- the first blocks have as many formulas as their definitions collect
formulas-taken : (entries all : Entries) (blocks : List Block) → AreBlocksOf entries all blocks → (k : ℕ) → formulas_in (take k blocks) ≡ weigh collecting (take k all)
formulas-taken entries all blocks are k =
    weigh-numbers (λ (b : Block). b.formulas) collecting (take k blocks) (take k all)
    (sym (take-map (λ (b : Block). b.formulas) k blocks) ∙ ap (take k) are.formulas ∙ take-map collecting k all)

-- the formulas of all blocks before one, and its own, are few
pub sum-few : (draft : Draft) → IsDraft draft → (blocks : List Block) → AreBlocksOf (entries_of draft) (by_contents (entries_of draft)) blocks → (k : ℕ) (b : Block) → slice_get blocks k ≡ Some b → formulas_in (take k blocks) + b.formulas < 2 ^ 32
sum-few draft is blocks are k b there =
    let less = weigh-has (λ (x : Block). x.formulas) blocks k b there in
    let whole = weigh-numbers (λ (x : Block). x.formulas) collecting blocks (by_contents (entries_of draft)) are.formulas in
    let order = weigh-by collecting (entries_of draft) in
    let few = few-collected draft is in
    omega (arith, less, whole, order, few)

-- what is collected before a definition stands in the blocks before its own
before-definition : (entries : Entries) → IsAscending entries → (blocks : List Block) → AreBlocksOf entries (by_contents entries) blocks → (j : ℕ) (one : Entry) → slice_get (by_contents entries) j ≡ Some one → formulas_in (take j blocks) ≡ collected_before entries one
before-definition entries ascending blocks are j one there =
    formulas-taken entries (by_contents entries) blocks are j
    ∙ sym (weigh-before collecting one (by_contents entries) (by-sorted entries ascending) j there)
    ∙ weigh-by (weight_before collecting one) entries
    ∙ sym (sum-weigh (weight_before collecting one) entries)

-- ---- the places of blocks

-- there are as many blocks as definitions
pub blocks-length : (entries : Entries) (blocks : List Block) → AreBlocksOf entries (by_contents entries) blocks → length blocks ≡ length entries
blocks-length entries blocks are =
    sym (length-map blocks (λ (b : Block). slice_get entries b.place)) ∙ ap length are.places
    ∙ length-map (by_contents entries) (λ (e : Entry). Some e) ∙ length-by entries

-- the place of a block is that of a definition
pub place-within : (entries : Entries) (blocks : List Block) → AreBlocksOf entries (by_contents entries) blocks → (k : ℕ) (b : Block) → slice_get blocks k ≡ Some b → b.place < length blocks
place-within entries blocks are k b there =
    let r = entry-at entries (by_contents entries) blocks are k b there in
    let inside = slice_get_within entries b.place r.0 r.2 in
    let same = blocks-length entries blocks are in
    omega (arith, inside, same)

-- two blocks have two places
places-differ : (entries : Entries) → IsAscending entries → (blocks : List Block) → AreBlocksOf entries (by_contents entries) blocks → (i j : ℕ) (a b : Block) → slice_get blocks i ≡ Some a → slice_get blocks j ≡ Some b → i < j → a.place ≡ b.place → ⊥
places-differ entries ascending blocks are i j a b here there less same =
    let x = entry-at entries (by_contents entries) blocks are i a here in
    let y = entry-at entries (by_contents entries) blocks are j b there in
    let own = same_Some x.0 y.0 (sym x.2 ∙ ap (slice_get entries) same ∙ y.2) in
    let before = sorted-at (by_contents entries) (by-sorted entries ascending) i j x.0 y.0 x.1 y.1 less in
    let itself = subst (λ (e : Entry). contents_before x.0 e ≡ true) (sym own) before in
    contents-never x.0 x.0 itself itself

-- ---- one block after another

-- what is known when so many blocks are passed
pub record CountedFirst (blocks : List Block) (k collected : ℕ) (before sequence : List ℕ) : Type 0 where
  pub long : length before ≡ length blocks
  pub sequence_is : sequence ≡ map (λ b. b.place) (take k blocks)
  pub collected_is : collected ≡ formulas_in (take k blocks)
  pub before_is : (j : ℕ) (b : Block) → j < k → slice_get blocks j ≡ Some b → slice_get before b.place ≡ Some (formulas_in (take j blocks))

-- no block is passed yet
pub counted-none : (blocks : List Block) (before : List ℕ) → length before ≡ length blocks → CountedFirst blocks 0 0 before []
counted-none blocks before long = record {
  long = long;
  sequence_is = refl;
  collected_is = refl;
  before_is = λ j b less. absurd (omega (arith, less));
}

set-same : (xs : List ℕ) (i v : ℕ) → i < length xs → slice_get (set xs i v) i ≡ Some v
set-same xs i v inside =
    let long = length-set xs i v in
    slice_get-get_or (set xs i v) i v (omega (arith, inside, long)) ∙ ap Some (get_or-set_same xs i v v inside)

set-other : (xs : List ℕ) (i j v w : ℕ) → (j ≡ i → ⊥) → slice_get xs j ≡ Some w → slice_get (set xs i v) j ≡ Some w
set-other xs i j v w differ there =
    let inside = slice_get_within xs j w there in
    let long = length-set xs i v in
    slice_get-get_or (set xs i v) j w (omega (arith, inside, long))
    ∙ ap Some (get_or-set_other xs i j v w differ ∙ get_or_from_slice_get xs j w w there)

take-one : (blocks : List Block) (k : ℕ) (b : Block) → slice_get blocks k ≡ Some b → take (k + 1) blocks ≡ take k blocks ++ b ∷ []
take-one [] k b there = absurd (none-some b there)
take-one (x ∷ blocks) zero b there = let one : 0 + 1 ≡ 1 = omega arith in ap (λ n. take n (x ∷ blocks)) one ∙ ap (λ (y : Block). y ∷ []) (same_Some x b there)
take-one (x ∷ blocks) (suc k) b there =
    let number : suc k + 1 ≡ suc (k + 1) = omega arith in
    ap (λ n. take n (x ∷ blocks)) number ∙ ap (λ bs. x ∷ bs) (take-one blocks k b there)

-- one more block is passed
pub counted-more : (entries : Entries) → IsAscending entries → (blocks : List Block) → AreBlocksOf entries (by_contents entries) blocks → (k collected : ℕ) (b : Block) (before before_new sequence sequence_new : List ℕ) → slice_get blocks k ≡ Some b → CountedFirst blocks k collected before sequence → before_new ≡ set before b.place collected → sequence_new ≡ sequence ++ b.place ∷ [] → CountedFirst blocks (k + 1) (collected + b.formulas) before_new sequence_new
counted-more entries ascending blocks are k collected b before before_new sequence sequence_new there first stored pushed =
    let next = take-one blocks k b there in
    let within = place-within entries blocks are k b there in
    let long = first.long in
    record {
      long = ap length stored ∙ length-set before b.place collected ∙ long;
      sequence_is = pushed ∙ ap (λ ns. ns ++ b.place ∷ []) first.sequence_is
          ∙ sym (ap (λ bs. map (λ (x : Block). x.place) bs) next ∙ map-append (λ (x : Block). x.place) (take k blocks) (b ∷ []));
      collected_is =
          let sums = weigh-append (λ (x : Block). x.formulas) (take k blocks) (b ∷ []) in
          let same = ap formulas_in next in
          let own = first.collected_is in
          omega (arith, sums, same, own);
      before_is = λ j x less here. ap (λ ns. slice_get ns x.place) stored ∙ at j x less here (omega (arith, within, long));
    }
  where
    at : (j : ℕ) (x : Block) → j < k + 1 → slice_get blocks j ≡ Some x → b.place < length before → slice_get (set before b.place collected) x.place ≡ Some (formulas_in (take j blocks))
    at j x less here inside = elim (cases_order j k) [
      | inl same ↦
          let own : x ≡ b = same_Some x b (sym here ∙ ap (slice_get blocks) same ∙ there) in
          ap (λ (y : Block). slice_get (set before b.place collected) y.place) own
          ∙ set-same before b.place collected inside
          ∙ ap Some (first.collected_is ∙ ap (λ n. formulas_in (take n blocks)) (sym same))
      | inr (inl earlier) ↦
          set-other before b.place x.place collected (formulas_in (take j blocks))
          (places-differ entries ascending blocks are j k x b here there earlier) (first.before_is j x earlier here)
      | inr (inr later) ↦ absurd (omega (arith, less, later))
    ]

same-lists : {A : Type 0} (xs ys : List A) → length xs ≡ length ys → ((i : ℕ) (y : A) → slice_get ys i ≡ Some y → slice_get xs i ≡ Some y) → xs ≡ ys
same-lists [] [] long same = refl
same-lists [] (y ∷ ys) long same = absurd (omega (arith, long))
same-lists (x ∷ xs) [] long same = absurd (omega (arith, long))
same-lists {A} (x ∷ xs) (y ∷ ys) long same =
    ap₂ (λ (z : A) zs. z ∷ zs) (same_Some x y (same 0 y refl)) (same-lists xs ys (omega (arith, long)) (λ i z here. same (suc i) z here))

-- where all blocks are passed, the order of contents is known
pub counted-all : (draft : Draft) → IsDraft draft → (blocks : List Block) → AreBlocksOf (entries_of draft) (by_contents (entries_of draft)) blocks → (k collected : ℕ) (before sequence : List ℕ) → length blocks ≤ k → CountedFirst blocks k collected before sequence → HasContentsOrder draft (record { before = before; sequence = sequence })
counted-all draft is blocks are k collected before sequence end first = record {
  before = same-lists before (map (collected_before entries) entries) (first.long ∙ blocks-length entries blocks are ∙ sym (length-map entries (collected_before entries))) at;
  sequence = ap (λ ns. map (λ (n : ℕ). slice_get entries n) ns) (first.sequence_is ∙ ap (λ bs. map (λ (b : Block). b.place) bs) (take_all k blocks end))
      ∙ map-map (λ (n : ℕ). slice_get entries n) (λ (b : Block). b.place) blocks ∙ are.places;
}
  where
    entries : Entries
    entries = entries_of draft

    at : (i n : ℕ) → slice_get (map (collected_before (entries_of draft)) (entries_of draft)) i ≡ Some n → slice_get before i ≡ Some n
    at i n here =
        let x = map-at (collected_before (entries_of draft)) (entries_of draft) i n here in
        let there = has-by (entries_of draft) x.0 (i, x.1) in
        let b = block-at (entries_of draft) (by_contents (entries_of draft)) blocks are there.0 x.0 there.1 in
        let ascending = entries-ascend draft is in
        let place = one-place (entries_of draft) ascending i b.0.place x.0 x.1 b.2 in
        let inside = slice_get_within blocks there.0 b.0 b.1 in
        ap (slice_get before) place
        ∙ first.before_is there.0 b.0 (omega (arith, inside, end)) b.1
        ∙ ap Some (before-definition (entries_of draft) ascending blocks are there.0 x.0 there.1 ∙ x.2)
