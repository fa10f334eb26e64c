-- Blocks that are sorted are those of the definitions in the order of their contents.
use Rattle.std.proofs.Common.{◌≡◌, ◌⊎◌, inl, inr, ◌<◌, ◌≤◌, ◌+◌, ◌==◌, ℕ, zero, suc, Bool, true, false, nat_lt, not, List, [], ◌∷◌, Some, get_or, ◌&&◌, ◌||◌, refl, sym, ap, ap₂, ◌∙◌, subst, arith}
use Rattle.std.proofs.lemmas.Bool.{cases_Bool, false≢true, or_left, or_right, and_from, not_from_false, lt-ltb, le-ltb, eq-eqb, ne_eqb, eqb-true}
use Rattle.std.proofs.lemmas.Option.{same_Some, none-some, slice_get-map, slice_get-get_or, slice_get_within, get_or_from_slice_get}
use Rattle.std.proofs.lemmas.Cmp.{ranked}
use Rattle.std.proofs.lemmas.List.Sums.{sum-map}
use Rattle.std.proofs.lemmas.List.Sorted.{All-permutation, Contains-permutation, sum_by-IsPermutation}
use Rattle.std.specs.declared.cmp.Ordering.{Ordering}
use Rattle.std.specs.declared.cmp.Ordering.TheVariants.{Less, Equal, Greater}
use Rattle.std.specs.Ordering.{nat_cmp, ordering_then, is_lt}
use Rattle.std.specs.List.{slice_get, enumerate_from}
use Rattle.std.specs.List.Sorted.{IsPermutation}
use Rattle.std.specs.List.Sorted.{IsSorted as IsSortedList}
use Rattle.std.specs.Option.{option_map}
use Rattle.psa_model.specs.Drafts.{Position, stands_before, position_of}
use Rattle.psa_names.specs.Outlines.{Entry, Entries}
use Rattle.psa_names.specs.Collected.{contents_position, contents_before, by_contents}
use Rattle.psa_names.proofs.ListPlaces.{Has, has-first, has-later, has-map, map-at, from-map, All-from, All-at}
use Rattle.psa_names.proofs.FirstPlaces.{from-enumerated, has-enumerated}
use Rattle.psa_names.proofs.Sums.{weigh, sum-weigh, weigh-map, one_if}
use Rattle.psa_names.proofs.ContentsOrder.{IsAscending}
use Rattle.psa_names.proofs.ContentsSorted.{IsSorted, has-by, from-by, by-sorted}
use Rattle.psa_bodies.specs.declared.contents.Block.{Block}
use Rattle.psa_bodies.specs.Contents.{block_of, blocks_of, AreBlocksOf}
use Rattle.psa_bodies.proofs.ContentsPlaces.{sorted-by-neighbours, sorted-same, ascending-at}

-- ---- the order of blocks

-- the derived order of blocks
abbrev pub block_cmp : Block → Block → Ordering
block_cmp a b =
    ordering_then (nat_cmp a.file b.file)
    (ordering_then (nat_cmp a.tag b.tag) (ordering_then (nat_cmp a.place b.place) (nat_cmp a.formulas b.formulas)))

then-not-less : (o r : Ordering) → is_lt (ordering_then o r) ≡ false → (o ≡ Greater) ⊎ ((o ≡ Equal) × (is_lt r ≡ false))
then-not-less Less r h = absurd (false≢true (sym h))
then-not-less Equal r h = inr (refl, h)
then-not-less Greater r h = inl refl

cmp-not-less : (m n : ℕ) (r : Ordering) → is_lt (ordering_then (nat_cmp m n) r) ≡ false → (n < m) ⊎ ((n ≡ m) × (is_lt r ≡ false))
cmp-not-less m n r h = elim (then-not-less (nat_cmp m n) r h) [
  | inl greater ↦ inl (ranked m n Greater (sym greater))
  | inr same ↦ inr (sym (ranked m n Equal (sym same.0)), same.1)
]

-- the position of contents, and then the place, is no greater
abbrev Follows : Position → Position → Type 0 → Type 0
Follows c d then = (c.file < d.file) ⊎ ((c.file ≡ d.file) × ((c.tag < d.tag) ⊎ ((c.tag ≡ d.tag) × then)))

not-less : (a b : Block) → is_lt (block_cmp b a) ≡ false → (a.file < b.file) ⊎ ((a.file ≡ b.file) × ((a.tag < b.tag) ⊎ ((a.tag ≡ b.tag) × (a.place ≤ b.place))))
not-less a b h = elim (cmp-not-less b.file a.file _ h) [
  | inl less ↦ inl less
  | inr file ↦ elim (cmp-not-less b.tag a.tag _ file.1) [
    | inl less ↦ inr (file.0, inl less)
    | inr tag ↦ elim (cmp-not-less b.place a.place _ tag.1) [
      | inl less ↦ inr (file.0, inr (tag.0, omega (arith, less)))
      | inr place ↦ let same = place.0 in inr (file.0, inr (tag.0, omega (arith, same)))
    ]
  ]
]

lex-order : (c d : Position) (b : Bool) → Follows c d (b ≡ true) → (stands_before c d || (not (stands_before d c) && b)) ≡ true
lex-order c d b (inl less) =
    or_left (stands_before c d) _ (or_left (nat_lt c.file d.file) _ (lt-ltb c.file d.file less))
lex-order c d b (inr (file, inl less)) =
    or_left (stands_before c d) _ (or_right (nat_lt c.file d.file) _ (and_from _ _ (eq-eqb c.file d.file file) (lt-ltb c.tag d.tag less)))
lex-order c d b (inr (file, inr (tag, then))) =
    let none : stands_before d c ≡ false = rw (le-ltb d.file c.file (omega (arith, file)), eq-eqb d.file c.file (sym file), le-ltb d.tag c.tag (omega (arith, tag))) refl in
    or_right (stands_before c d) _ (and_from _ _ (not_from_false (stands_before d c) none) then)

-- a block is that of the definition at its place
pub record IsBlock (entries : Entries) (block : Block) : Type 0 where
  pub one : Entry
  pub found : slice_get entries block.place ≡ Some one
  pub is : block ≡ block_of (block.place, one)

following : (entries : Entries) → IsAscending entries → (a b : Block) (p : IsBlock entries a) (q : IsBlock entries b) → is_lt (block_cmp b a) ≡ false → (a.place ≡ b.place → ⊥) → contents_before p.one q.one ≡ true
following entries ascending a b p q h differ =
    let af = ap (λ (x : Block). x.file) p.is in
    let at = ap (λ (x : Block). x.tag) p.is in
    let bf = ap (λ (x : Block). x.file) q.is in
    let bt = ap (λ (x : Block). x.tag) q.is in
    lex-order (contents_position p.one) (contents_position q.one) (stands_before (position_of p.one.definition) (position_of q.one.definition))
    (elim (not-less a b h) [
      | inl less ↦ inl (omega (arith, less, af, bf))
      | inr (file, inl less) ↦ inr (omega (arith, file, af, bf), inl (omega (arith, less, at, bt)))
      | inr (file, inr (tag, place)) ↦ inr (
        omega (arith, file, af, bf),
        inr (
          omega (arith, tag, at, bt),
          ascending-at entries ascending a.place b.place p.one q.one p.found q.found (strictly a.place b.place place differ),
        ),
      )
    ])
  where
    strictly : (m n : ℕ) → m ≤ n → (m ≡ n → ⊥) → m < n
    strictly m n less other = omega (arith, less, other)

-- ---- places

places-beyond : (k n : ℕ) (xs : Entries) → k < n → weigh (λ (one : ℕ × Entry). one_if (one.0 == k)) (enumerate_from n xs) ≡ 0
places-beyond k n [] less = refl
places-beyond k n (x ∷ xs) less =
    let other : (n == k) ≡ false = ne_eqb n k (λ same. omega (arith, same, less)) in
    let rest = places-beyond k (n + 1) xs (omega (arith, less)) in
    rw other (omega (arith, rest))

places-once : (k n : ℕ) (xs : Entries) → weigh (λ (one : ℕ × Entry). one_if (one.0 == k)) (enumerate_from n xs) ≤ 1
places-once k n [] = omega arith
places-once k n (x ∷ xs) = elim (cases_Bool (n == k)) [
  | inl same ↦
      let number = eqb-true n k same in
      let rest = places-beyond k (n + 1) xs (omega (arith, number)) in
      rw same (omega (arith, rest))
  | inr other ↦ let rest = places-once k (n + 1) xs in rw other (omega (arith, rest))
]

neighbours-weigh : {A : Type 0} (f : A → ℕ) (xs : List A) (k : ℕ) (a b : A) → slice_get xs k ≡ Some a → slice_get xs (suc k) ≡ Some b → f a + f b ≤ weigh f xs
neighbours-weigh f [] k a b here next = absurd (none-some a here)
neighbours-weigh f (x ∷ []) zero a b here next = absurd (none-some b next)
neighbours-weigh f (x ∷ y ∷ xs) zero a b here next =
    let one = ap f (same_Some x a here) in
    let other = ap f (same_Some y b next) in
    omega (arith, one, other)
neighbours-weigh f (x ∷ xs) (suc k) a b here next =
    let rest = neighbours-weigh f xs k a b here next in omega (arith, rest)

sum-weighs : {A : Type 0} (f : A → ℕ) (xs ys : List A) → IsPermutation xs ys → weigh f ys ≡ weigh f xs
sum-weighs f xs ys moved =
    sym (sum-weigh f ys) ∙ sum-map f ys ∙ sum_by-IsPermutation f xs ys moved ∙ sym (sum-map f xs) ∙ sum-weigh f xs

-- two neighbours among moved blocks are of two definitions
neighbours-differ : (entries : Entries) (blocks : List Block) → IsPermutation (blocks_of entries) blocks → (k : ℕ) (a b : Block) → slice_get blocks k ≡ Some a → slice_get blocks (suc k) ≡ Some b → a.place ≡ b.place → ⊥
neighbours-differ entries blocks moved k a b here next same =
    let test = λ (x : Block). one_if (x.place == b.place) in
    let both = neighbours-weigh test blocks k a b here next in
    let sums = sum-weighs test (blocks_of entries) blocks moved in
    let mapped = weigh-map test block_of (enumerate_from 0 entries) in
    let once = places-once b.place 0 entries in
    let first : test a ≡ 1 = ap one_if (eq-eqb a.place b.place same) in
    let second : test b ≡ 1 = ap one_if (eq-eqb b.place b.place refl) in
    omega (arith, both, sums, mapped, once, first, second)

-- ---- blocks and their definitions

picked : (entries : Entries) (blocks : List Block) → ((b : Block) → Has blocks b → IsBlock entries b) → (all : Entries) × AreBlocksOf entries all blocks
picked entries [] are = ([], record { places = refl; formulas = refl })
picked entries (b ∷ blocks) are =
    let here = are b (has-first b blocks) in
    let rest = picked entries blocks (λ x later. are x (has-later b x blocks later)) in (
      here.one ∷ rest.0,
      record {
        places = ap₂ (λ o os. o ∷ os) here.found rest.1.places;
        formulas = ap₂ (λ (n : ℕ) ns. n ∷ ns) (ap (λ (x : Block). x.formulas) here.is) rest.1.formulas;
      },
    )

-- the block of a definition
pub block-at : (entries all : Entries) (blocks : List Block) → AreBlocksOf entries all blocks → (k : ℕ) (x : Entry) → slice_get all k ≡ Some x → (b : Block) × (slice_get blocks k ≡ Some b) × (slice_get entries b.place ≡ Some x)
block-at entries all blocks are k x here =
    map-at (λ (b : Block). slice_get entries b.place) blocks k (Some x)
    (ap (λ os. slice_get os k) are.places ∙ slice_get-map (λ (e : Entry). Some e) all k ∙ ap (option_map (λ (e : Entry). Some e)) here)

-- the definition of a block
pub entry-at : (entries all : Entries) (blocks : List Block) → AreBlocksOf entries all blocks → (k : ℕ) (b : Block) → slice_get blocks k ≡ Some b → (x : Entry) × (slice_get all k ≡ Some x) × (slice_get entries b.place ≡ Some x)
entry-at entries all blocks are k b here =
    let r = map-at (λ (e : Entry). Some e) all k (slice_get entries b.place)
    (ap (λ os. slice_get os k) (sym are.places) ∙ slice_get-map (λ (x : Block). slice_get entries x.place) blocks k ∙ ap (option_map (λ (x : Block). slice_get entries x.place)) here) in
    (r.0, r.1, sym r.2)

listed-block : (entries : Entries) (b : Block) → Has (blocks_of entries) b → IsBlock entries b
listed-block entries b here =
    let r = from-map block_of (enumerate_from 0 entries) b here in
    let place : r.0.0 ≡ b.place = ap (λ (x : Block). x.place) r.2 in
    record {
      one = r.0.1;
      found = ap (λ n. slice_get entries n) (sym place) ∙ from-enumerated entries r.0 r.1;
      is = sym r.2 ∙ ap (λ n. block_of (n, r.0.1)) place;
    }

moved-block : (entries : Entries) (blocks : List Block) → IsPermutation (blocks_of entries) blocks → (b : Block) → Has blocks b → IsBlock entries b
moved-block entries blocks moved b here =
    All-at (IsBlock entries) blocks b
    (All-permutation (IsBlock entries) (blocks_of entries) blocks moved (All-from (IsBlock entries) (blocks_of entries) (listed-block entries))) here

moved-has : {A : Type 0} (xs ys : List A) (x : A) → IsPermutation xs ys → Has xs x → Has ys x
moved-has xs ys x moved here =
    let r = Contains-permutation xs ys x moved (here.0, slice_get_within xs here.0 x here.1, get_or_from_slice_get xs here.0 x x here.1) in
    (r.0, slice_get-get_or ys r.0 x r.1 ∙ ap Some r.2)

-- sorted blocks are those of the definitions in the order of contents
pub sorted-blocks : (entries : Entries) → IsAscending entries → (blocks : List Block) → IsPermutation (blocks_of entries) blocks → IsSortedList block_cmp blocks → AreBlocksOf entries (by_contents entries) blocks
sorted-blocks entries ascending blocks moved sorted =
    let all = picked entries blocks (moved-block entries blocks moved) in
    let same : all.0 ≡ by_contents entries = sorted-same all.0 (by_contents entries) (in-order all.0 all.1) (by-sorted entries ascending)
    (λ z here. has-by entries z (stands all.0 all.1 z here)) (λ z here. is-picked all.0 all.1 z (from-by entries z here)) in
    subst (λ es. AreBlocksOf entries es blocks) same all.1
  where
    stands : (all : Entries) → AreBlocksOf entries all blocks → (z : Entry) → Has all z → Has entries z
    stands all are z here = let r = block-at entries all blocks are here.0 z here.1 in (r.0.place, r.2)

    is-picked : (all : Entries) → AreBlocksOf entries all blocks → (z : Entry) → Has entries z → Has all z
    is-picked all are z here =
        let listed = has-map block_of (enumerate_from 0 entries) (here.0, z) (has-enumerated entries here.0 z here.1) in
        let there = moved-has (blocks_of entries) blocks (block_of (here.0, z)) moved listed in
        let r = entry-at entries all blocks are there.0 (block_of (here.0, z)) there.1 in
        let own = same_Some r.0 z (sym r.2 ∙ here.1) in
        (there.0, r.1 ∙ ap Some own)

    next-before : (all : Entries) → AreBlocksOf entries all blocks → (k : ℕ) (x y : Entry) → slice_get all k ≡ Some x → slice_get all (suc k) ≡ Some y → contents_before x y ≡ true
    next-before all are k x y here next =
        let a = block-at entries all blocks are k x here in
        let b = block-at entries all blocks are (suc k) y next in
        let p = moved-block entries blocks moved a.0 (k, a.1) in
        let q = moved-block entries blocks moved b.0 (suc k, b.1) in
        let inside = slice_get_within blocks (suc k) b.0 b.1 in
        let number : k + 1 ≡ suc k = omega arith in
        let falls = sorted k a.0 (omega arith) (omega (arith, inside)) in
        let first = get_or_from_slice_get blocks k a.0 a.0 a.1 in
        let second = ap (λ n. get_or blocks n a.0) number ∙ get_or_from_slice_get blocks (suc k) b.0 a.0 b.1 in
        let order : is_lt (block_cmp b.0 a.0) ≡ false = ap₂ (λ (u v : Block). is_lt (block_cmp u v)) (sym second) (sym first) ∙ falls in
        let before = following entries ascending a.0 b.0 p q order (neighbours-differ entries blocks moved k a.0 b.0 a.1 b.1) in
        let own = same_Some p.one x (sym p.found ∙ a.2) in
        let other = same_Some q.one y (sym q.found ∙ b.2) in
        ap₂ (λ (u v : Entry). contents_before u v) (sym own) (sym other) ∙ before

    in-order : (all : Entries) → AreBlocksOf entries all blocks → IsSorted all
    in-order all are = sorted-by-neighbours all (next-before all are)
