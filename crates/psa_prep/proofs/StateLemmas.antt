-- Lists of house states by number.
use Rattle.std.proofs.Common.{◌≡◌, inl, inr, ◌⊎◌, ◌<◌, ◌≤◌, ◌+◌, ◌-◌, ◌*◌, ◌/◌, ◌%◌, ◌^◌, ℕ, zero, suc, Bool, true, false, not, ◌==◌, List, [], ◌∷◌, ◌++◌, Some, None, length, refl, sym, ap, ◌∙◌, subst, arith, ne_eqb, eq-eqb, eqb-true, true≢false, length-append, map, if◌then◌else◌}
use Rattle.std.proofs.Math.Nat.{pow-succ'}
use Rattle.std.proofs.lemmas.Bool.{cases_Bool}
use Rattle.std.proofs.lemmas.Bool.Decides.{eqb_tells, leb_tells}
use Rattle.std.specs.List.{slice_get, slice_set}
use Rattle.std.specs.Option.{option_map}
use Rattle.std.proofs.lemmas.Option.{slice_get-map}
use Rattle.psa_model.specs.declared.model.House.{House}
use Rattle.psa_model.specs.Truth.{state_of, house_states}
use Rattle.psa_model.specs.Formulas.{is_same}
use Rattle.psa_model.specs.declared.model.Model.{Model}
use Rattle.std.proofs.lemmas.List.{length-map}
use Rattle.psa_model.proofs.Levels.{and-left, and-right}
use Rattle.psa_prep.specs.declared.states.Changes.{Changes}
use Rattle.psa_prep.specs.contracts.states.ChangesPartialEq.TheImpl as the_impl
use Rattle.psa_graph.specs.Truths.{older_at}
use Rattle.psa_prep.specs.Places.{Grown}
use Rattle.psa_prep.specs.States.{in_parts, is_blank, is_changed, flipped, with_changes, houses_at, AreEarlier, AreShared, AreBelow, AreStates, HasParts, IsMade, IsJoined, IsWith, IsSet}
use Rattle.psa_prep.proofs.PlaceLemmas.{added-grown, grown-self, grown-then}

-- the derived comparison of the parts of sets
abbrev pub changes_eq : Changes → Changes → Bool
changes_eq a b = (the_impl.eq-value).it a b

-- what the comparison passes is equal, member by member
exact-at : (b1 b2 h1 h2 : ℕ) (s t : Bool) → changes_eq (record { left = b1; right = h1; first = s }) (record { left = b2; right = h2; first = t }) ≡ true → ◌≡◌ {A = Changes} (record { left = b1; right = h1; first = s }) (record { left = b2; right = h2; first = t })
exact-at b1 b2 h1 h2 true true h = let p = eqb-true b1 b2 (and-left _ _ h) in let q = eqb-true h1 h2 (and-left _ _ (and-right _ _ h)) in λ i. record { left = p i; right = q i; first = true }
exact-at b1 b2 h1 h2 false false h = let p = eqb-true b1 b2 (and-left _ _ h) in let q = eqb-true h1 h2 (and-left _ _ (and-right _ _ h)) in λ i. record { left = p i; right = q i; first = false }
exact-at b1 b2 h1 h2 true false h = absurd (true≢false (sym (and-right _ _ (and-right _ _ h))))
exact-at b1 b2 h1 h2 false true h = absurd (true≢false (sym (and-right _ _ (and-right _ _ h))))

-- what it passes is equal
pub changes-exact : (a b : Changes) → changes_eq a b ≡ true → a ≡ b
changes-exact a b h = exact-at a.left b.left a.right b.right a.first b.first h

-- .. and it passes what is equal
same-at : (b h : ℕ) (s : Bool) → changes_eq (record { left = b; right = h; first = s }) (record { left = b; right = h; first = s }) ≡ true
same-at b h true = rw (eq-eqb b b refl, eq-eqb h h refl) refl
same-at b h false = rw (eq-eqb b b refl, eq-eqb h h refl) refl

-- it passes what is equal
pub changes-same : (a : Changes) → changes_eq a a ≡ true
changes-same a = same-at a.left a.right a.first

-- ---- numbers

-- the half of an even number
half-even : (k : ℕ) → ((2 * k) % 2 ≡ 0) × ((2 * k) / 2 ≡ k)
half-even k = (omega arith, omega arith)

-- .. of an odd one
half-odd : (k : ℕ) → ((2 * k + 1) % 2 ≡ 1) × ((2 * k + 1) / 2 ≡ k)
half-odd k = (omega arith, omega arith)

-- numbers one below equal ones are equal
drop-suc : (a b : ℕ) → suc a ≡ suc b → a ≡ b
drop-suc a b e = omega arith

-- a number is below another or not
within-or : (a b : ℕ) → (a < b) ⊎ (b ≤ a)
within-or a b = elim (leb_tells b a) [ inl p ↦ inr p.1 | inr p ↦ inl p.1 ]

-- a choice is what both sides are
if-same : {A : Type 0} (b : Bool) (x y z : A) → x ≡ z → y ≡ z → (if b then x else y) ≡ z
if-same true x y z p q = p
if-same false x y z p q = q

-- .. and is another choice whose sides are equal
if-both : {A : Type 0} (b : Bool) (x y z w : A) → x ≡ z → y ≡ w → (if b then x else y) ≡ (if b then z else w)
if-both true x y z w p q = p
if-both false x y z w p q = q

-- ---- sets by number

-- the parts' sets may be read in a longer list
parts-as : (one other : ℕ → ℕ → Bool) (parts : Changes) → ((house : ℕ) → one parts.left house ≡ other parts.left house) → ((house : ℕ) → one parts.right house ≡ other parts.right house) → (house : ℕ) → in_parts one parts house ≡ in_parts other parts house
parts-as one other parts left right zero = refl
parts-as one other parts left right (suc more) = if-both (more % 2 == 0) _ _ _ _ (left (more / 2)) (right (more / 2))

-- a set stays when one comes in
changed-cons : (parts : Changes) (older : List Changes) (number house : ℕ) → number ≤ length older → is_changed (parts ∷ older) number house ≡ is_changed older number house
changed-cons parts older number house l = rw (ne_eqb number (suc (length older)) (λ e. omega arith)) refl

-- .. when many come in
changed-more : (more before : List Changes) (number house : ℕ) → number ≤ length before → is_changed (more ++ before) number house ≡ is_changed before number house
changed-more [] before number house l = refl
changed-more (t ∷ more) before number house l =
    let size : length (more ++ before) ≡ length more + length before = length-append more before in
    changed-cons t (more ++ before) number house (omega arith) ∙ changed-more more before number house l

-- a set stays when sets come in
pub changed-grown : (before now : List Changes) → Grown before now → (number house : ℕ) → number ≤ length before → is_changed now number house ≡ is_changed before number house
changed-grown before now g number house l = ap (λ ts. is_changed ts number house) g.1 ∙ changed-more g.0 before number house l

-- number 0 has no house event
changed-none : (changes : List Changes) (house : ℕ) → is_changed changes 0 house ≡ false
changed-none [] house = refl
changed-none (parts ∷ older) house = changed-cons parts older 0 house (omega arith) ∙ changed-none older house

-- the parts of the set that an item makes
changed-at : (changes : List Changes) (place : ℕ) (parts : Changes) → AreEarlier changes → older_at changes place ≡ Some parts → (parts.left ≤ place) × (parts.right ≤ place) × (place < length changes) × ((house : ℕ) → is_changed changes (suc place) house ≡ in_parts (λ n h. is_changed changes n h) parts house)
changed-at [] place parts first e = absurd (cc)
changed-at (top ∷ older) place parts first e = elim (eqb_tells place (length older)) [
  | inl p ↦
      let is : Some top ≡ Some parts = rw p.0 at e in
      let same : top ≡ parts = cc in
      let left : parts.left ≤ length older = subst (λ (v : Changes). v.left ≤ length older) same first.0 in
      let right : parts.right ≤ length older = subst (λ (v : Changes). v.right ≤ length older) same first.1 in (
        omega (arith, p.1),
        omega (arith, p.1),
        omega (arith, p.1),
        λ house. rw (eq-eqb (suc place) (suc (length older)) (ap suc p.1))
            (ap (λ (v : Changes). in_parts (λ n h. is_changed older n h) v house) same
            ∙ parts-as (λ n h. is_changed older n h) (λ n h. is_changed (top ∷ older) n h) parts
            (λ h. sym (changed-cons top older parts.left h left)) (λ h. sym (changed-cons top older parts.right h right)) house),
      )
  | inr p ↦
      let below = changed-at older place parts first.2 (rw p.0 at e) in
      let left : parts.left ≤ place = below.0 in
      let right : parts.right ≤ place = below.1 in
      let inside : place < length older = below.2 in (
        left,
        right,
        omega arith,
        λ house. changed-cons top older (suc place) house (omega arith) ∙ below.3 house
            ∙ parts-as (λ n h. is_changed older n h) (λ n h. is_changed (top ∷ older) n h) parts
            (λ h. sym (changed-cons top older parts.left h (omega arith))) (λ h. sym (changed-cons top older parts.right h (omega arith))) house,
      )
]

-- the empty set's parts are empty
pub parts-none : (changes : List Changes) (number : ℕ) → number ≡ 0 → HasParts changes number (record { left = 0; right = 0; first = false })
parts-none changes number is = record {
  left = omega arith;
  right = omega arith;
  reads = λ house. ap (λ n. is_changed changes n house) is ∙ changed-none changes house ∙ sym (blank-none changes house);
}
  where
    blank-none : (changes : List Changes) (house : ℕ) → in_parts (λ n h. is_changed changes n h) (record { left = 0; right = 0; first = false }) house ≡ false
    blank-none changes zero = refl
    blank-none changes (suc more) = if-same (more % 2 == 0) _ _ false (changed-none changes (more / 2)) (changed-none changes (more / 2))

-- the parts of another set
pub parts-some : (changes : List Changes) (number : ℕ) (parts : Changes) → AreEarlier changes → (number ≡ 0 → ⊥) → older_at changes (number - 1) ≡ Some parts → HasParts changes number parts
parts-some changes number parts first some at =
    let here = changed-at changes (number - 1) parts first at in
    let left : parts.left ≤ number - 1 = here.0 in
    let right : parts.right ≤ number - 1 = here.1 in
    let inside : number - 1 < length changes = here.2 in
    let next : suc (number - 1) ≡ number = omega arith in record {
      left = omega arith;
      right = omega arith;
      reads = λ house. ap (λ n. is_changed changes n house) (sym next) ∙ here.3 house;
    }

-- one step down to a further house event
pub changed-part : (changes : List Changes) (number house more : ℕ) (parts : Changes) (part : ℕ) → HasParts changes number parts → house ≡ suc more → part ≡ (if more % 2 == 0 then parts.left else parts.right) → (part ≤ length changes) × (is_changed changes part (more / 2) ≡ is_changed changes number house)
changed-part changes number house more parts part has next is =
    let l : parts.left ≤ length changes = has.left in
    let r : parts.right ≤ length changes = has.right in
    let down : is_changed changes number house ≡ (if more % 2 == 0 then is_changed changes parts.left (more / 2) else is_changed changes parts.right (more / 2)) = ap (is_changed changes number) next ∙ has.reads (suc more) in
    elim (cases_Bool (more % 2 == 0)) [
      | inl p ↦
          let here : part ≡ parts.left = rw p at is in
          let below : is_changed changes number house ≡ is_changed changes parts.left (more / 2) = rw p at down in
          (omega arith, ap (λ n. is_changed changes n (more / 2)) here ∙ sym below)
      | inr p ↦
          let here : part ≡ parts.right = rw p at is in
          let below : is_changed changes number house ≡ is_changed changes parts.right (more / 2) = rw p at down in
          (omega arith, ap (λ n. is_changed changes n (more / 2)) here ∙ sym below)
    ]

-- ---- equal sets

-- an item stands at each place
older-some : {A : Type 0} (xs : List A) (place : ℕ) → place < length xs → (x : A) × (older_at xs place ≡ Some x)
older-some [] place l = absurd (omega arith)
older-some (x ∷ older) place l = elim (eqb_tells place (length older)) [
  | inl p ↦ (x, rw p.0 refl)
  | inr p ↦ let below = older-some older place (omega (arith, p.1)) in (below.0, rw p.0 below.1)
]

-- parts are equal where their members are
changes-are : (a b : Changes) → a.left ≡ b.left → a.right ≡ b.right → a.first ≡ b.first → a ≡ b
changes-are a b p q r = λ i. record { left = p i; right = q i; first = r i }

-- equal sets have equal parts
parts-one : (changes : List Changes) (a b : Changes) → AreShared changes → a.left ≤ length changes → a.right ≤ length changes → b.left ≤ length changes → b.right ≤ length changes → ((house : ℕ) → in_parts (λ n h. is_changed changes n h) a house ≡ in_parts (λ n h. is_changed changes n h) b house) → a ≡ b
parts-one changes a b shared al ar bl br same =
    changes-are a b (shared.one a.left b.left al bl (λ k. in-left a k ∙ same (suc (2 * k)) ∙ sym (in-left b k)))
    (shared.one a.right b.right ar br (λ k. in-right a k ∙ same (suc (2 * k + 1)) ∙ sym (in-right b k))) (same 0)
  where
    in-left : (t : Changes) (k : ℕ) → is_changed changes t.left k ≡ in_parts (λ n h. is_changed changes n h) t (suc (2 * k))
    in-left t k = let half = half-even k in sym (rw (eq-eqb ((2 * k) % 2) 0 half.0) (ap (is_changed changes t.left) half.1))

    in-right : (t : Changes) (k : ℕ) → is_changed changes t.right k ≡ in_parts (λ n h. is_changed changes n h) t (suc (2 * k + 1))
    in-right t k = let half = half-odd k in sym (rw (ne_eqb ((2 * k + 1) % 2) 0 (λ e. omega (arith, half.0))) (ap (is_changed changes t.right) half.1))

-- empty parts have nothing
blank-is : (t : Changes) → t ≡ record { left = 0; right = 0; first = false } → is_blank t ≡ true
blank-is t e = ap is_blank e

-- parts that are new make a set that is new
new-apart : (before : List Changes) (t : Changes) → AreShared before → t.left ≤ length before → t.right ≤ length before → is_blank t ≡ false → ((other : ℕ) → older_at before other ≡ Some t → ⊥) → (number : ℕ) → number ≤ length before → ((house : ℕ) → in_parts (λ n h. is_changed before n h) t house ≡ is_changed before number house) → ⊥
new-apart before t shared left right some fresh zero inside same =
    let none = parts-none before 0 refl in
    true≢false (sym (blank-is t (parts-one before t _ shared left right (omega arith) (omega arith) (λ house. same house ∙ none.reads house))) ∙ some)
new-apart before t shared left right some fresh (suc place) inside same =
    let there = older-some before place (omega arith) in
    let at = changed-at before place there.0 shared.earlier there.1 in
    let l : there.0.left ≤ place = at.0 in
    let r : there.0.right ≤ place = at.1 in
    fresh place (there.1 ∙ ap Some (sym (parts-one before t there.0 shared left right (omega arith) (omega arith) (λ house. same house ∙ at.3 house))))

-- a set comes in
shared-cons : (before : List Changes) (t : Changes) → AreShared before → t.left ≤ length before → t.right ≤ length before → is_blank t ≡ false → ((other : ℕ) → older_at before other ≡ Some t → ⊥) → AreShared (t ∷ before)
shared-cons before t shared left right some fresh = record {
  earlier = (left, right, shared.earlier);
  one = λ number other l m same. by number other l m same (eqb_tells number (suc (length before))) (eqb_tells other (suc (length before)));
}
  where
    top-is : (number house : ℕ) → (number == suc (length before)) ≡ true → is_changed (t ∷ before) number house ≡ in_parts (λ n h. is_changed before n h) t house
    top-is number house e = rw e refl

    by : (number other : ℕ) → number ≤ suc (length before) → other ≤ suc (length before) → ((house : ℕ) → is_changed (t ∷ before) number house ≡ is_changed (t ∷ before) other house) → ((number == suc (length before)) ≡ true) × (number ≡ suc (length before)) ⊎ ((number == suc (length before)) ≡ false) × (number ≡ suc (length before) → ⊥) → ((other == suc (length before)) ≡ true) × (other ≡ suc (length before)) ⊎ ((other == suc (length before)) ≡ false) × (other ≡ suc (length before) → ⊥) → number ≡ other
    by number other l m same (inl p) (inl q) = p.1 ∙ sym q.1
    by number other l m same (inl p) (inr q) =
        let inside : other ≤ length before = omega (arith, q.1) in
        absurd (new-apart before t shared left right some fresh other inside (λ house. sym (top-is number house p.0) ∙ same house ∙ changed-cons t before other house inside))
    by number other l m same (inr p) (inl q) =
        let inside : number ≤ length before = omega (arith, p.1) in
        absurd (new-apart before t shared left right some fresh number inside (λ house. sym (top-is other house q.0) ∙ sym (same house) ∙ changed-cons t before number house inside))
    by number other l m same (inr p) (inr q) =
        let inside : number ≤ length before = omega (arith, p.1) in
        let within : other ≤ length before = omega (arith, q.1) in
        shared.one number other inside within (λ house. sym (changed-cons t before number house inside) ∙ same house ∙ changed-cons t before other house within)

-- .. and what has nothing is the empty parts
blank-parts : (l r : ℕ) (b : Bool) → is_blank (record { left = l; right = r; first = b }) ≡ true → ◌≡◌ {A = Changes} (record { left = l; right = r; first = b }) (record { left = 0; right = 0; first = false })
blank-parts l r true e = absurd (true≢false (sym e))
blank-parts l r false e = let p = eqb-true l 0 (and-left _ _ e) in let q = eqb-true r 0 (and-right _ _ e) in λ i. record { left = p i; right = q i; first = false }

-- no house event is in the set of these parts
pub joined-none : (changes : List Changes) (parts : Changes) → AreShared changes → is_blank parts ≡ true → IsJoined parts changes changes 0
joined-none changes parts shared blank =
    let none = parts-none changes 0 refl in record {
      grown = grown-self changes;
      shared = shared;
      within = omega arith;
      reads = λ house. none.reads house ∙ ap (λ (t : Changes). in_parts (λ n h. is_changed changes n h) t house) (sym (blank-parts parts.left parts.right parts.first blank));
      below = λ bound below small. below;
    }

-- these parts make a set
pub joined-made : (before now : List Changes) (parts : Changes) (number : ℕ) → AreShared before → parts.left ≤ length before → parts.right ≤ length before → is_blank parts ≡ false → IsMade parts before now number → IsJoined parts before now number
joined-made before now parts number shared left right some made =
    let g = added-grown parts before now made.0 made.2 in
    let next_shared : AreShared now = elim made.2.1 [
      | inl p ↦ subst (λ (ts : List Changes). AreShared ts) (sym p) shared
      | inr p ↦ subst (λ (ts : List Changes). AreShared ts) (sym p.0) (shared-cons before parts shared left right some (λ other. made.3 other p.0))
    ] in
    let is = changed-at now made.0 parts next_shared.earlier made.2.0 in
    let there : made.0 < length now = is.2 in
    let number_is : number ≡ suc made.0 = made.1 in
    let reads : (house : ℕ) → is_changed now number house ≡ in_parts (λ n h. is_changed before n h) parts house = λ house.
    ap (λ n. is_changed now n house) made.1 ∙ is.3 house
    ∙ parts-as (λ n h. is_changed now n h) (λ n h. is_changed before n h) parts (λ h. changed-grown before now g parts.left h left) (λ h. changed-grown before now g parts.right h right) house in record {
      grown = g;
      shared = next_shared;
      within = omega arith;
      reads = reads;
      below = λ bound below small. elim made.2.1 [
        | inl p ↦ subst (λ (ts : List Changes). AreBelow bound ts) (sym p) below
        | inr p ↦ subst (λ (ts : List Changes). AreBelow bound ts) (sym p.0) (below-cons bound below small)
      ];
    }
  where
    below-cons : (bound : ℕ) → AreBelow bound before → ((house : ℕ) → in_parts (λ n h. is_changed before n h) parts house ≡ true → house < bound) → AreBelow bound (parts ∷ before)
    below-cons bound below small one house l e = elim (eqb_tells one (suc (length before))) [
      | inl p ↦ small house (rw p.0 at e)
      | inr p ↦ below one house (omega (arith, p.1)) (rw p.0 at e)
    ]

-- ---- one house event

-- the first house event is in the set or not
pub with-first : (before now : List Changes) (number next : ℕ) (known parts : Changes) (changed : Bool) → number ≤ length before → HasParts before number known → parts.left ≡ known.left → parts.right ≡ known.right → parts.first ≡ changed → IsJoined parts before now next → IsWith before now number 0 changed next
with-first before now number next known parts changed inside has left right first joined = record {
  grown = joined.grown;
  shared = joined.shared;
  within = joined.within;
  reads = λ one. joined.reads one ∙ parts-read one;
  below = λ bound below some. joined.below bound below (λ house e. small bound below some house (sym (parts-read house) ∙ e));
}
  where
    parts-read : (one : ℕ) → in_parts (λ n h. is_changed before n h) parts one ≡ (if one == 0 then changed else is_changed before number one)
    parts-read zero = first
    parts-read (suc more) =
        rw (ne_eqb (suc more) 0 (λ e. omega arith))
        (if-both (more % 2 == 0) _ _ _ _ (ap (λ n. is_changed before n (more / 2)) left) (ap (λ n. is_changed before n (more / 2)) right)
        ∙ sym (has.reads (suc more)))

    small : (bound : ℕ) → AreBelow bound before → 0 < bound → (house : ℕ) → (if house == 0 then changed else is_changed before number house) ≡ true → house < bound
    small bound below some zero e = some
    small bound below some (suc more) e = below number (suc more) inside (rw (ne_eqb (suc more) 0 (λ z. omega arith)) at e)

-- a further house event is in the set or not
with-more : (before mid now : List Changes) (number more next : ℕ) (parts : Changes) (changed : Bool) → number ≤ length before → ((bound : ℕ) → AreBelow bound before → suc more < bound → AreBelow bound mid) → Grown before mid → ((one : ℕ) → in_parts (λ n h. is_changed mid n h) parts one ≡ (if one == suc more then changed else is_changed before number one)) → IsJoined parts mid now next → IsWith before now number (suc more) changed next
with-more before mid now number more next parts changed inside mid_below grown parts-read joined = record {
  grown = grown-then before mid now grown joined.grown;
  shared = joined.shared;
  within = joined.within;
  reads = λ one. joined.reads one ∙ parts-read one;
  below = λ bound below some. joined.below bound (mid_below bound below some) (λ house e. small bound below some house (eqb_tells house (suc more)) (sym (parts-read house) ∙ e));
}
  where
    small : (bound : ℕ) → AreBelow bound before → suc more < bound → (house : ℕ) → ((house == suc more) ≡ true) × (house ≡ suc more) ⊎ ((house == suc more) ≡ false) × (house ≡ suc more → ⊥) → (if house == suc more then changed else is_changed before number house) ≡ true → house < bound
    small bound below some house (inl p) e = omega (arith, p.1)
    small bound below some house (inr p) e = below number house inside (rw p.0 at e)

-- .. in the left part
pub with-left : (before mid now : List Changes) (number house more next left : ℕ) (known parts : Changes) (changed : Bool) → number ≤ length before → house ≡ suc more → more % 2 ≡ 0 → HasParts before number known → parts.left ≡ left → parts.right ≡ known.right → parts.first ≡ known.first → IsWith before mid known.left (more / 2) changed left → IsJoined parts mid now next → IsWith before now number house changed next
with-left before mid now number house more next left known parts changed inside some even has l r f inner joined =
    subst (λ h. IsWith before now number h changed next) (sym some)
    (with-more before mid now number more next parts changed inside (λ bound below small. inner.below bound below (omega arith)) inner.grown parts-read joined)
  where
    at-left : (k : ℕ) → (k % 2 == 0) ≡ true → k % 2 ≡ 0 → (if k / 2 == more / 2 then changed else is_changed before known.left (k / 2)) ≡ (if suc k == suc more then changed else is_changed before number (suc k))
    at-left k e is = elim (eqb_tells (k / 2) (more / 2)) [
      | inl p ↦ rw (p.0, eq-eqb (suc k) (suc more) (omega (arith, p.1))) refl
      | inr p ↦ rw (p.0, ne_eqb (suc k) (suc more) (λ same. p.1 (ap (λ n. n / 2) (drop-suc k more same)))) (sym (has.reads (suc k) ∙ rw e refl))
    ]

    at-right : (k : ℕ) → (k % 2 == 0) ≡ false → (k % 2 ≡ 0 → ⊥) → is_changed mid parts.right (k / 2) ≡ (if suc k == suc more then changed else is_changed before number (suc k))
    at-right k e odd =
        rw (ne_eqb (suc k) (suc more) (λ same. odd (ap (λ n. n % 2) (drop-suc k more same) ∙ even)))
        (ap (λ n. is_changed mid n (k / 2)) r ∙ changed-grown before mid inner.grown known.right (k / 2) has.right ∙ sym (has.reads (suc k) ∙ rw e refl))

    parts-read : (one : ℕ) → in_parts (λ n h. is_changed mid n h) parts one ≡ (if one == suc more then changed else is_changed before number one)
    parts-read zero = rw (ne_eqb 0 (suc more) (λ e. omega arith)) (f ∙ sym (has.reads 0))
    parts-read (suc k) = elim (eqb_tells (k % 2) 0) [
      | inl p ↦ rw p.0 (ap (λ n. is_changed mid n (k / 2)) l ∙ inner.reads (k / 2) ∙ at-left k p.0 p.1)
      | inr p ↦ rw p.0 (at-right k p.0 p.1)
    ]

-- .. in the right part
pub with-right : (before mid now : List Changes) (number house more next right : ℕ) (known parts : Changes) (changed : Bool) → number ≤ length before → house ≡ suc more → (more % 2 ≡ 0 → ⊥) → HasParts before number known → parts.left ≡ known.left → parts.right ≡ right → parts.first ≡ known.first → IsWith before mid known.right (more / 2) changed right → IsJoined parts mid now next → IsWith before now number house changed next
with-right before mid now number house more next right known parts changed inside some odd has l r f inner joined =
    subst (λ h. IsWith before now number h changed next) (sym some)
    (with-more before mid now number more next parts changed inside (λ bound below small. inner.below bound below (omega arith)) inner.grown parts-read joined)
  where
    at-left : (k : ℕ) → (k % 2 == 0) ≡ true → k % 2 ≡ 0 → is_changed mid parts.left (k / 2) ≡ (if suc k == suc more then changed else is_changed before number (suc k))
    at-left k e even =
        rw (ne_eqb (suc k) (suc more) (λ same. odd (sym (ap (λ n. n % 2) (drop-suc k more same)) ∙ even)))
        (ap (λ n. is_changed mid n (k / 2)) l ∙ changed-grown before mid inner.grown known.left (k / 2) has.left ∙ sym (has.reads (suc k) ∙ rw e refl))

    at-right : (k : ℕ) → (k % 2 == 0) ≡ false → (k % 2 ≡ 0 → ⊥) → (if k / 2 == more / 2 then changed else is_changed before known.right (k / 2)) ≡ (if suc k == suc more then changed else is_changed before number (suc k))
    at-right k e is = elim (eqb_tells (k / 2) (more / 2)) [
      | inl p ↦ rw (p.0, eq-eqb (suc k) (suc more) (omega (arith, p.1, is, odd))) refl
      | inr p ↦ rw (p.0, ne_eqb (suc k) (suc more) (λ same. p.1 (ap (λ n. n / 2) (drop-suc k more same)))) (sym (has.reads (suc k) ∙ rw e refl))
    ]

    parts-read : (one : ℕ) → in_parts (λ n h. is_changed mid n h) parts one ≡ (if one == suc more then changed else is_changed before number one)
    parts-read zero = rw (ne_eqb 0 (suc more) (λ e. omega arith)) (f ∙ sym (has.reads 0))
    parts-read (suc k) = elim (eqb_tells (k % 2) 0) [
      | inl p ↦ rw p.0 (at-left k p.0 p.1)
      | inr p ↦ rw p.0 (ap (λ n. is_changed mid n (k / 2)) r ∙ inner.reads (k / 2) ∙ at-right k p.0 p.1)
    ]

-- a further house event's number has one bit less
pub one-bit-less : (bits house : ℕ) → 0 < house → house < 2 ^ bits → (0 < bits) × ((house - 1) / 2 < 2 ^ (bits - 1))
one-bit-less zero house some few = absurd (omega arith)
one-bit-less (suc bits) house some few =
    let less : suc bits - 1 ≡ bits = omega arith in
    let double : 2 ^ suc bits ≡ 2 * 2 ^ bits = pow-succ' 2 bits in
    (omega arith, rw less (omega arith))

-- ---- lists by number

-- equal sets change equal states
with-as : (one other : ℕ → Bool) (states : List Bool) → ((house : ℕ) → one house ≡ other house) → with_changes one states ≡ with_changes other states
with-as one other [] same = refl
with-as one other (state ∷ states) same = λ i. flipped (same 0 i) state ∷ with-as (λ h. one (suc h)) (λ h. other (suc h)) states (λ h. same (suc h)) i

-- the empty set changes nothing
with-none : (among : ℕ → Bool) (states : List Bool) → ((house : ℕ) → among house ≡ false) → with_changes among states ≡ states
with-none among [] none = refl
with-none among (state ∷ states) none = λ i. flipped (none 0 i) state ∷ with-none (λ h. among (suc h)) states (λ h. none (suc h)) i

-- the state of a house event is changed where it is in the set
pub with-at : (among : ℕ → Bool) (states : List Bool) (house : ℕ) → house < length states → state_of (slice_get (with_changes among states) house) ≡ flipped (among house) (state_of (slice_get states house))
with-at among [] house l = absurd (omega arith)
with-at among (state ∷ states) zero l = refl
with-at among (state ∷ states) (suc house) l = with-at (λ h. among (suc h)) states house (omega arith)

-- sets that differ in one house event differ in its state
with-set : (one other : ℕ → Bool) (states : List Bool) (house : ℕ) (state : Bool) → house < length states → flipped (other house) (state_of (slice_get states house)) ≡ state → ((h : ℕ) → (h ≡ house → ⊥) → other h ≡ one h) → with_changes other states ≡ slice_set (with_changes one states) house state
with-set one other [] house state l is same = absurd (omega arith)
with-set one other (first ∷ states) zero state l is same = λ i. is i ∷ with-as (λ h. other (suc h)) (λ h. one (suc h)) states (λ h. same (suc h) (λ e. omega arith)) i
with-set one other (first ∷ states) (suc house) state l is same =
    λ i. flipped (same 0 (λ e. omega arith) i) first ∷ with-set (λ h. one (suc h)) (λ h. other (suc h)) states house state (omega arith) is (λ h n. same (suc h) (λ e. n (omega arith))) i

-- equal states of one are changed or not alike
flipped-one : (a b s : Bool) → flipped a s ≡ flipped b s → a ≡ b
flipped-one true true s e = refl
flipped-one false false s e = refl
flipped-one true false true e = absurd (cc)
flipped-one true false false e = absurd (cc)
flipped-one false true true e = absurd (cc)
flipped-one false true false e = absurd (cc)

-- equal lists come from sets that are equal below their length
with-one : (one other : ℕ → Bool) (states : List Bool) → with_changes one states ≡ with_changes other states → (house : ℕ) → house < length states → one house ≡ other house
with-one one other states same house l =
    flipped-one (one house) (other house) (state_of (slice_get states house))
    (sym (with-at one states house l) ∙ ap (λ hs. state_of (slice_get hs house)) same ∙ with-at other states house l)

-- a list stays when sets come in
pub houses-grown : (initial : List Bool) (before now : List Changes) → Grown before now → (number : ℕ) → number ≤ length before → houses_at initial now number ≡ houses_at initial before number
houses-grown initial before now g number l = with-as _ _ initial (λ house. changed-grown before now g number house l)

-- the list of the model
pub houses-none : (initial : List Bool) (changes : List Changes) → houses_at initial changes 0 ≡ initial
houses-none initial changes = with-none _ initial (changed-none changes)

-- a state is changed where it differs from the model's
changed-state : (model state : Bool) → flipped (not (is_same model state)) model ≡ state
changed-state true true = refl
changed-state true false = refl
changed-state false true = refl
changed-state false false = refl

-- what would follow from true cannot be
bool-below : (a : Bool) (P : Type 0) → (a ≡ true → P) → (P → ⊥) → a ≡ false
bool-below true P f never = absurd (never (f refl))
bool-below false P f never = refl

-- a house event was set
pub set-with : (initial : List Bool) (before now : List Changes) (number house next : ℕ) (state changed : Bool) → AreStates initial before → number ≤ length before → house < length initial → changed ≡ not (is_same (state_of (slice_get initial house)) state) → IsWith before now number house changed next → IsSet initial before now number house state next
set-with initial before now number house next state changed states within inside is set = record {
  grown = set.grown;
  states = record { shared = set.shared; below = below };
  within = set.within;
  houses = with-set (λ h. is_changed before number h) (λ h. is_changed now next h) initial house state inside
      (ap (λ b. flipped b (state_of (slice_get initial house))) (set.reads house ∙ rw (eq-eqb house house refl) is) ∙ changed-state (state_of (slice_get initial house)) state)
      (λ h n. set.reads h ∙ rw (ne_eqb h house n) refl);
  one = λ other l same. set.shared.one other next l set.within (λ h. equal other l same h (within-or h (length initial)));
}
  where
    below : AreBelow (length initial) now
    below = set.below (length initial) states.below inside

    equal : (other : ℕ) → other ≤ length now → houses_at initial now other ≡ houses_at initial now next → (h : ℕ) → (h < length initial) ⊎ (length initial ≤ h) → is_changed now other h ≡ is_changed now next h
    equal other l same h (inl p) = with-one (λ k. is_changed now other k) (λ k. is_changed now next k) initial same h p
    equal other l same h (inr p) =
        bool-below (is_changed now other h) (h < length initial) (below other h l) (λ k. omega arith)
        ∙ sym (bool-below (is_changed now next h) (h < length initial) (below next h set.within) (λ k. omega arith))

-- no house event is changed yet
pub states-none : (initial : List Bool) → AreStates initial []
states-none initial = record {
  shared = record { earlier = tt; one = λ number other l m same. omega arith };
  below = λ number house l e. absurd (true≢false (sym e));
}

-- the state of a house event in the model
pub model-found : (houses : List House) (place : ℕ) (house : House) → slice_get houses place ≡ Some house → house.state ≡ state_of (slice_get (map (λ h. h.state) houses) place)
model-found houses place house found = sym (ap state_of (slice_get-map (λ h. h.state) houses place ∙ ap (option_map (λ h. h.state)) found))

-- a house event that does not stand is false
pub model-missing : (houses : List House) (place : ℕ) → slice_get houses place ≡ None → false ≡ state_of (slice_get (map (λ h. h.state) houses) place)
model-missing houses place missing = sym (ap state_of (slice_get-map (λ h. h.state) houses place ∙ ap (option_map (λ h. h.state)) missing))

-- the house states of a model are as many as its house events
pub states-length : (model : Model) → length (house_states model) ≡ length model.houses
states-length model = length-map model.houses (λ house. house.state)

-- the state of a house event in a list, by its state in the model and whether it is in the set
pub state-at : (initial : List Bool) (changes : List Changes) (number house : ℕ) (state changed : Bool) → house < length initial → state ≡ state_of (slice_get initial house) → changed ≡ is_changed changes number house → flipped changed state ≡ state_of (slice_get (houses_at initial changes number) house)
state-at initial changes number house state changed inside is in_set =
    sym (with-at (λ h. is_changed changes number h) initial house inside
    ∙ ap (λ b. flipped b (state_of (slice_get initial house))) (sym in_set)
    ∙ ap (flipped changed) (sym is))
