-- The sizes of the members of a family: those of a node from those of its children, and where they are kept.
use Rattle.std.proofs.Common.{◌≡◌, ◌⊎◌, ℕ, zero, suc, ◌+◌, ◌-◌, ◌*◌, ◌^◌, ◌%◌, ◌<◌, ◌≤◌, max, min, Bool, true, ◌==◌, List, [], ◌∷◌, ◌++◌, length, reverse, slice_get, get_or, Option, None, Some, if◌then◌else◌, refl, sym, ap, subst, ◌∙◌, inl, inr, arith, ne_eqb, eq-eqb, true≢false}
use Rattle.std.specs.Int.{bit_at}
use Rattle.std.specs.Int.Bits.{bit_or}
use Rattle.std.proofs.lemmas.Nat.{and_mask}
use Rattle.std.proofs.lemmas.Nat.Bits.{bit_at_or, bit_at_and, bit_at_ones, bit_at-lt, bit_at_lowest, bit_at-suc, bit_at-zero, bit_at_cat_low, bit_at_cat_high}
use Rattle.std.proofs.lemmas.List.{reverse-append, reverse-reverse, length-reverse}
use Rattle.std.proofs.lemmas.Bool.Decides.{eqb_tells}
use Rattle.psa_nodes.specs.declared.node.Kind.TheVariants.{Zbdd}
use Rattle.psa_nodes.specs.declared.node.Node.{Node}
use Rattle.psa_nodes.specs.Readings.{next_id, has, joined, is_empty, stands, Reading, node_reading}
use Rattle.psa_nodes.specs.Nodes.{AllFit}
use Rattle.psa_nodes.specs.Sizes.{HasMember, TellsSizes, IsSizedAs, AreSized}
use Rattle.psa_nodes.proofs.StandsLemmas.{stands-below, stands-at}
use Rattle.psa_nodes.proofs.GrownLemmas.{reading-cons}
use Rattle.psa_nodes.proofs.NodeAtLemmas.{reading-newest}
use lib.Dec.{eqb-suc-suc}
use Rattle.psa_nodes.proofs.FamilyLemmas.{joined-own, joined-other, has-below, has-zero}

-- the bits of a number one place up
shifted-low : (a : ℕ) → bit_at (a * 2 ^ 1 % 2 ^ 64) 0 ≡ 0
shifted-low a =
    let masked : bit_at (a * 2 ^ 1 % 2 ^ 64) 0 ≡ min (bit_at (a * 2 ^ 1) 0) (bit_at (2 ^ 64 - 1) 0) =
    ap (λ n. bit_at n 0) (sym (and_mask (a * 2 ^ 1) 64)) ∙ bit_at_and (a * 2 ^ 1) (2 ^ 64 - 1) 0 in
    let low : bit_at (a * 2 ^ 1 + 0) 0 ≡ bit_at 0 0 = bit_at_cat_low a 1 0 0 (omega arith) in
    let same : a * 2 ^ 1 + 0 ≡ a * 2 ^ 1 = omega arith in
    let none : bit_at (a * 2 ^ 1) 0 ≡ 0 = ap (λ n. bit_at n 0) (sym same) ∙ low ∙ bit_at-zero 0 in
    masked ∙ omega (arith, none)

shifted-up : (a k : ℕ) → suc k < 64 → bit_at (a * 2 ^ 1 % 2 ^ 64) (suc k) ≡ bit_at a k
shifted-up a k lt =
    let masked : bit_at (a * 2 ^ 1 % 2 ^ 64) (suc k) ≡ min (bit_at (a * 2 ^ 1) (suc k)) (bit_at (2 ^ 64 - 1) (suc k)) =
    ap (λ n. bit_at n (suc k)) (sym (and_mask (a * 2 ^ 1) 64)) ∙ bit_at_and (a * 2 ^ 1) (2 ^ 64 - 1) (suc k) in
    let one : bit_at (2 ^ 64 - 1) (suc k) ≡ 1 = bit_at_ones 64 (suc k) lt in
    let high : bit_at (a * 2 ^ 1 + 0) (suc k) ≡ bit_at a (suc k - 1) = bit_at_cat_high a 1 0 (suc k) (omega arith) (omega arith) in
    let same : a * 2 ^ 1 + 0 ≡ a * 2 ^ 1 = omega arith in
    let down : suc k - 1 ≡ k = omega arith in
    let is : bit_at (a * 2 ^ 1) (suc k) ≡ bit_at a k = ap (λ n. bit_at n (suc k)) (sym same) ∙ high ∙ ap (bit_at a) down in
    masked ∙ omega (arith, one, is, bit_at-lt a k)

-- a family joined of one whose sets take x and one whose sets begin past x
module _ (x : ℕ) (hi lo : List ℕ → Bool) (past : (y : ℕ) (ys : List ℕ) → lo (y ∷ ys) ≡ true → y ≡ x → ⊥) where
  pub joined-high : (k : ℕ) → HasMember hi k → HasMember (joined x hi lo) (suc k)
  joined-high k m = record {
    member = x ∷ m.member;
    is_member = joined-own x hi lo m.member ∙ m.is_member;
    of_size = omega (arith, m.of_size);
  }

  pub joined-low : (k : ℕ) → HasMember lo k → HasMember (joined x hi lo) k
  joined-low k m = by m.member m.is_member m.of_size
    where
      by : (set : List ℕ) → lo set ≡ true → length set ≡ k → HasMember (joined x hi lo) k
      by [] h e = record { member = []; is_member = h; of_size = e }
      by (y ∷ ys) h e = record { member = y ∷ ys; is_member = joined-other x hi lo y ys (past y ys h) ∙ h; of_size = e }

-- a member of a joined family is one of the low side, or has a literal more than one of the high side
pub joined-member : (x : ℕ) (hi lo : List ℕ → Bool) (k : ℕ) → HasMember (joined x hi lo) k → ((j : ℕ) × (suc j ≡ k) × HasMember hi j) ⊎ HasMember lo k
joined-member x hi lo k m = by m.member m.is_member m.of_size
  where
    by : (set : List ℕ) → joined x hi lo set ≡ true → length set ≡ k → ((j : ℕ) × (suc j ≡ k) × HasMember hi j) ⊎ HasMember lo k
    by [] h e = inr (record { member = []; is_member = h; of_size = e })
    by (y ∷ ys) h e = elim (eqb_tells y x) [
      | inl p ↦ inl (length ys, e, record { member = ys; is_member = rw p.0 at h; of_size = refl })
      | inr p ↦ inr (record { member = y ∷ ys; is_member = rw p.0 at h; of_size = e })
    ]

-- the sizes of a joined family
pub joined-sizes : (x : ℕ) (hi lo : List ℕ → Bool) → ((y : ℕ) (ys : List ℕ) → lo (y ∷ ys) ≡ true → y ≡ x → ⊥) → (a b : ℕ) → TellsSizes hi a → TellsSizes lo b → TellsSizes (joined x hi lo) (bit_or (a * 2 ^ 1 % 2 ^ 64) b)
joined-sizes x hi lo past a b of_hi of_lo = record { bits = λ k lt. (to k lt, from k lt) }
  where
    or : (k : ℕ) → bit_at (bit_or (a * 2 ^ 1 % 2 ^ 64) b) k ≡ max (bit_at (a * 2 ^ 1 % 2 ^ 64) k) (bit_at b k)
    or k = bit_at_or (a * 2 ^ 1 % 2 ^ 64) b k

    either : (k : ℕ) → bit_at (bit_or (a * 2 ^ 1 % 2 ^ 64) b) k ≡ 1 → (bit_at (a * 2 ^ 1 % 2 ^ 64) k ≡ 1) ⊎ (bit_at b k ≡ 1)
    either k h = elim (eqb_tells (bit_at b k) 1) [
      | inl p ↦ inr p.1
      | inr p ↦ inl (omega (arith, or k, h, p.1, bit_at-lt b k))
    ]

    high : (k : ℕ) → k < 64 → bit_at (a * 2 ^ 1 % 2 ^ 64) k ≡ 1 → HasMember (joined x hi lo) k
    high zero lt h = absurd (omega (arith, h, shifted-low a))
    high (suc k) lt h = joined-high x hi lo past k ((of_hi.bits k (omega arith)).0 (sym (shifted-up a k lt) ∙ h))

    to : (k : ℕ) → k < 64 → bit_at (bit_or (a * 2 ^ 1 % 2 ^ 64) b) k ≡ 1 → HasMember (joined x hi lo) k
    to k lt h = elim (either k h) [
      | inl p ↦ high k lt p
      | inr p ↦ joined-low x hi lo past k ((of_lo.bits k lt).0 p)
    ]

    from_high : (k j : ℕ) → k < 64 → suc j ≡ k → HasMember hi j → bit_at (a * 2 ^ 1 % 2 ^ 64) k ≡ 1
    from_high k j lt e m = subst (λ n. bit_at (a * 2 ^ 1 % 2 ^ 64) n ≡ 1) e (shifted-up a j (omega arith) ∙ (of_hi.bits j (omega arith)).1 m)

    from : (k : ℕ) → k < 64 → HasMember (joined x hi lo) k → bit_at (bit_or (a * 2 ^ 1 % 2 ^ 64) b) k ≡ 1
    from k lt m = elim (joined-member x hi lo k m) [
      | inl p ↦ omega (arith, or k, from_high k p.0 lt p.1 p.2, bit_at-lt b k)
      | inr p ↦ omega (arith, or k, (of_lo.bits k lt).1 p, bit_at-lt (a * 2 ^ 1 % 2 ^ 64) k)
    ]

-- the sizes of a triple whose children stand
pub node-sizes : (ns : List Node) → AllFit ns → (n : Node) → n.kind ≡ Zbdd → stands Zbdd (n.var + 1) ns n.lo.0 ≡ true → (a b : ℕ) → TellsSizes (has ns n.hi.0) a → TellsSizes (has ns n.lo.0) b → TellsSizes (node_reading ns n).as_family (bit_or (a * 2 ^ 1 % 2 ^ 64) b)
node-sizes ns fit n kind lo a b of_hi of_lo =
    joined-sizes n.var (has ns n.hi.0) (has ns n.lo.0)
    (λ y ys h e. true≢false (sym h ∙ has-below ns fit (n.var + 1) n.lo.0 lo y ys (omega arith)))
    a b of_hi of_lo

-- the terminals: no member, and the empty set
pub has-one : (ns : List Node) (set : List ℕ) → has ns 1 set ≡ is_empty set
has-one [] set = refl
has-one (n ∷ older) set = rw (ne_eqb 1 (length older + 2) (λ e. omega arith)) (has-one older set)

pub zero-sizes : (ns : List Node) → TellsSizes (has ns 0) 0
zero-sizes ns = record { bits = λ k lt. ((λ h. absurd (omega (arith, h, bit_at-zero k))), (λ m. absurd (true≢false (sym m.is_member ∙ has-zero ns m.member)))) }

bit-one : (k : ℕ) → bit_at 1 (suc k) ≡ 0
bit-one k = bit_at-suc 1 k ∙ bit_at-zero k

pub one-sizes : (ns : List Node) → TellsSizes (has ns 1) 1
one-sizes ns = record { bits = λ k lt. (to k, λ m. from k m.member m.is_member m.of_size) }
  where
    to : (k : ℕ) → bit_at 1 k ≡ 1 → HasMember (has ns 1) k
    to zero h = record { member = []; is_member = has-one ns []; of_size = refl }
    to (suc k) h = absurd (omega (arith, h, bit-one k))

    from : (k : ℕ) (set : List ℕ) → has ns 1 set ≡ true → length set ≡ k → bit_at 1 k ≡ 1
    from k [] h e = subst (λ n. bit_at 1 n ≡ 1) e (bit_at_lowest 1)
    from k (y ∷ ys) h e = absurd (true≢false (sym h ∙ has-one ns (y ∷ ys)))

pub terminal-sizes : (ns : List Node) (id : ℕ) → id < 2 → TellsSizes (has ns id) id
terminal-sizes ns id lt = elim (eqb_tells id 0) [
  | inl p ↦ subst (λ n. TellsSizes (has ns n) n) (sym p.1) (zero-sizes ns)
  | inr p ↦ let one : id ≡ 1 = omega (arith, p.1) in subst (λ n. TellsSizes (has ns n) n) (sym one) (one-sizes ns)
]

-- as many sizes as nodes
pub sized-length : (ns : List Node) (sizes : List ℕ) → AreSized ns sizes → length sizes ≡ length ns
sized-length [] [] h = refl
sized-length [] (s ∷ sizes) h = absurd h
sized-length (n ∷ ns) [] h = absurd h
sized-length (n ∷ ns) (s ∷ sizes) h = ap suc (sized-length ns sizes h.1)

-- the item with an id, of a list newest first
abbrev pub item_at : List ℕ → ℕ → Option ℕ
item_at [] id = None
item_at (x ∷ xs) id = if id == length xs + 2 then Some x else item_at xs id

slice_get-push : (xs : List ℕ) (x i : ℕ) → slice_get (xs ++ x ∷ []) i ≡ (if i == length xs then Some x else slice_get xs i)
slice_get-push [] x zero = refl
slice_get-push [] x (suc i) = rw (ne_eqb (suc i) 0 (λ e. omega arith)) refl
slice_get-push (y ∷ ys) x zero = rw (ne_eqb zero (suc (length ys)) (λ e. omega arith)) refl
slice_get-push (y ∷ ys) x (suc i) = rw (eqb-suc-suc i (length ys)) (slice_get-push ys x i)

pub item_at-reverse : (xs : List ℕ) (i : ℕ) → slice_get (reverse xs) i ≡ item_at xs (i + 2)
item_at-reverse [] i = refl
item_at-reverse (x ∷ xs) i =
    rw (reverse-append (x ∷ []) xs) (slice_get-push (reverse xs) x i ∙ (λ j. if test j then Some x else item_at-reverse xs i j))
  where
    test : (i == length (reverse xs)) ≡ (i + 2 == length xs + 2)
    test = elim (eqb_tells i (length (reverse xs))) [
      | inl p ↦ p.0 ∙ sym (eq-eqb (i + 2) (length xs + 2) (omega (arith, length-reverse xs)))
      | inr p ↦ p.0 ∙ sym (ne_eqb (i + 2) (length xs + 2) (λ e. p.1 (omega (arith, length-reverse xs))))
    ]

-- the sizes that are kept with a family
pub sized-at : (ns : List Node) (sizes : List ℕ) → AreSized ns sizes → (id : ℕ) → 2 ≤ id → stands Zbdd 0 ns id ≡ true → (s : ℕ) × (item_at sizes id ≡ Some s) × TellsSizes (has ns id) s
sized-at [] sizes sized id past h = absurd (omega (arith, stands-below Zbdd 0 [] id h))
sized-at (n ∷ older) [] sized id past h = absurd sized
sized-at (n ∷ older) (s ∷ sizes) sized id past h =
    elim (eqb_tells id (next_id older)) [
      | inl p ↦
          let kind : n.kind ≡ Zbdd = (stands-at Zbdd 0 (n ∷ older) id n h (rw p.0 refl)).0 in
          let own : TellsSizes (node_reading older n).as_family s = subst (λ k. IsSizedAs k (node_reading older n).as_family s) kind sized.0 in
          let is : has (n ∷ older) id ≡ (node_reading older n).as_family =
          ap (λ i. has (n ∷ older) i) p.1 ∙ ap (λ (r : Reading). r.as_family) (reading-newest n older) in
          (s, rw (sized-length older sizes sized.1, p.0) refl, subst (λ f. TellsSizes f s) (sym is) own)
      | inr p ↦
          let h' : stands Zbdd 0 older id ≡ true = rw p.0 at h in
          let r = sized-at older sizes sized.1 id past h' in
          let is : has (n ∷ older) id ≡ has older id =
          ap (λ (r : Reading). r.as_family) (reading-cons n older id (stands-below Zbdd 0 older id h')) in
          (r.0, rw (sized-length older sizes sized.1, p.0) r.1, subst (λ f. TellsSizes f r.0) (sym is) r.2)
    ]

get_or-got : (xs : List ℕ) (i d s : ℕ) → slice_get xs i ≡ Some s → get_or xs i d ≡ s
get_or-got [] i d s e = cc
get_or-got (x ∷ xs) zero d s e = cc
get_or-got (x ∷ xs) (suc i) d s e = get_or-got xs i d s e

-- what is read at a family's place
pub size-read : (ns : List Node) (items : List ℕ) → AreSized ns (reverse items) → (id : ℕ) → 2 ≤ id → stands Zbdd 0 ns id ≡ true → (read : ℕ) → read ≡ get_or items (id - 2) read → TellsSizes (has ns id) read
size-read ns items sized id past h read e =
    let r = sized-at ns (reverse items) sized id past h in
    let back : id - 2 + 2 ≡ id = omega (arith, past) in
    let place : slice_get items (id - 2) ≡ Some r.0 =
    ap (λ (l : List ℕ). slice_get l (id - 2)) (sym (reverse-reverse items)) ∙ item_at-reverse (reverse items) (id - 2) ∙ ap (item_at (reverse items)) back ∙ r.1 in
    subst (TellsSizes (has ns id)) (sym (e ∙ get_or-got items (id - 2) read r.0 place)) r.2

-- the sizes with those of a new node
pub sized-push : (ns : List Node) (now : List Node) (n : Node) (items more : List ℕ) (s : ℕ) → now ≡ n ∷ ns → more ≡ items ++ s ∷ [] → IsSizedAs n.kind (node_reading ns n).as_family s → AreSized ns (reverse items) → AreSized now (reverse more)
sized-push ns now n items more s e d own sized =
    subst (λ (x : List Node). AreSized x (reverse more)) (sym e)
    (subst (AreSized (n ∷ ns)) (sym (ap reverse d ∙ reverse-append items (s ∷ []))) (own, sized))
