-- Paths that are put together one by one are the sequences in the order of their first path, each with its paths.
use Rattle.std.proofs.Common.{◌≡◌, ◌<◌, suc, zero, length, get_or, set, arith, ◌==◌, ◌&&◌, ◌||◌, ℕ, Bool, true, false, List, [], ◌∷◌, ◌++◌, map, not, filter, nat_eq, refl, sym, ap, ap₂, ◌∙◌, inl, inr, append_assoc}
use Rattle.std.proofs.lemmas.Bool.{false≢true, and_parts, and_from, cases_Bool, eq-eqb, ne_eqb}
use Rattle.std.proofs.lemmas.Bool.Decides.{eqb_tells}
use Rattle.std.specs.List.{list_any, position_or_len}
use Rattle.psa_model.specs.declared.targets.PathStep.{PathStep}
use Rattle.psa_model.specs.declared.targets.Target.{Target}
use Rattle.psa_model.specs.Ranks.{firsts}
use Rattle.psa_model.specs.PathTargets.{paths_to, sequence_targets}
use Rattle.psa_model.specs.Paths.{Arrived}
use Rattle.psa_walk.specs.declared.groups.SequenceGroup.{SequenceGroup}
use Rattle.psa_walk.specs.SequenceGroups.{grouped, all_grouped, numbers, target_of}

-- whether a number is in the list
abbrev is_in : List ℕ → ℕ → Bool
is_in ns s = list_any (nat_eq s) ns

abbrev are_apart : List ℕ → Bool
are_apart [] = true
are_apart (n ∷ ns) = not (is_in ns n) && are_apart ns

-- a group with the paths that are to come, and a new group of them
abbrev extended : List Arrived → SequenceGroup → SequenceGroup
extended xs g = record g { paths = g.paths ++ paths_to g.sequence.0 xs }

abbrev fresh : List Arrived → ℕ → SequenceGroup
fresh xs s = record { sequence = record { 0 = s }; paths = paths_to s xs }

append-nil : {A : Type 0} (xs : List A) → xs ++ [] ≡ xs
append-nil [] = refl
append-nil (x ∷ xs) = ap (λ l. x ∷ l) (append-nil xs)

paths-own : (a : Arrived) (xs : List Arrived) (s : ℕ) → a.sequence.0 ≡ s → paths_to s (a ∷ xs) ≡ a.path ∷ paths_to s xs
paths-own a xs s e = rw (eq-eqb a.sequence.0 s e) refl

paths-other : (a : Arrived) (xs : List Arrived) (s : ℕ) → (a.sequence.0 ≡ s → ⊥) → paths_to s (a ∷ xs) ≡ paths_to s xs
paths-other a xs s ne = rw (ne_eqb a.sequence.0 s ne) refl

extended-own : (a : Arrived) (xs : List Arrived) (g : SequenceGroup) → a.sequence.0 ≡ g.sequence.0 → extended xs (record g { paths = g.paths ++ a.path ∷ [] }) ≡ extended (a ∷ xs) g
extended-own a xs g e =
    ap (λ (ps : List (List PathStep)). record g { paths = ps })
    (append_assoc g.paths (a.path ∷ []) (paths_to g.sequence.0 xs) ∙ ap (λ (ps : List (List PathStep)). g.paths ++ ps) (sym (paths-own a xs g.sequence.0 e)))

extended-other : (a : Arrived) (xs : List Arrived) (g : SequenceGroup) → (a.sequence.0 ≡ g.sequence.0 → ⊥) → extended xs g ≡ extended (a ∷ xs) g
extended-other a xs g ne = ap (λ (ps : List (List PathStep)). record g { paths = g.paths ++ ps }) (sym (paths-other a xs g.sequence.0 ne))

or-parts : (a b : Bool) → (a || b) ≡ false → (a ≡ false) × (b ≡ false)
or-parts true b h = absurd (false≢true (sym h))
or-parts false b h = (refl, h)

not-equal : (m n : ℕ) → nat_eq m n ≡ false → m ≡ n → ⊥
not-equal m n h e = absurd (false≢true (sym h ∙ eq-eqb m n e))

-- none of these groups is the path's
extended-all : (a : Arrived) (xs : List Arrived) (gs : List SequenceGroup) → is_in (numbers gs) a.sequence.0 ≡ false → map (extended xs) gs ≡ map (extended (a ∷ xs)) gs
extended-all a xs [] h = refl
extended-all a xs (g ∷ gs) h =
    let p = or-parts (nat_eq a.sequence.0 g.sequence.0) (is_in (numbers gs) a.sequence.0) h in
    ap₂ (λ (x : SequenceGroup) (l : List SequenceGroup). x ∷ l) (extended-other a xs g (not-equal a.sequence.0 g.sequence.0 p.0)) (extended-all a xs gs p.1)

not-in : (ns : List ℕ) (n s : ℕ) → not (is_in ns n) ≡ true → s ≡ n → is_in ns s ≡ false
not-in ns n s h e = by (is_in ns n) refl h
  where
    by : (b : Bool) → is_in ns n ≡ b → not b ≡ true → is_in ns s ≡ false
    by true q k = absurd (false≢true k)
    by false q k = ap (λ m. is_in ns m) e ∙ q

grouped-own : (a : Arrived) (g : SequenceGroup) (gs : List SequenceGroup) → a.sequence.0 ≡ g.sequence.0 → grouped (g ∷ gs) a ≡ record g { paths = g.paths ++ a.path ∷ [] } ∷ gs
grouped-own a g gs e = rw (eq-eqb a.sequence.0 g.sequence.0 e) refl

grouped-other : (a : Arrived) (g : SequenceGroup) (gs : List SequenceGroup) → (a.sequence.0 ≡ g.sequence.0 → ⊥) → grouped (g ∷ gs) a ≡ g ∷ grouped gs a
grouped-other a g gs ne = rw (ne_eqb a.sequence.0 g.sequence.0 ne) refl

in-rest : (a : Arrived) (g : SequenceGroup) (gs : List SequenceGroup) → (a.sequence.0 ≡ g.sequence.0 → ⊥) → is_in (numbers (g ∷ gs)) a.sequence.0 ≡ true → is_in (numbers gs) a.sequence.0 ≡ true
in-rest a g gs ne h = rw (ne_eqb a.sequence.0 g.sequence.0 ne) at h

-- one of them is
known-extended : (a : Arrived) (xs : List Arrived) (gs : List SequenceGroup) → are_apart (numbers gs) ≡ true → is_in (numbers gs) a.sequence.0 ≡ true → map (extended xs) (grouped gs a) ≡ map (extended (a ∷ xs)) gs
known-extended a xs [] apart h = absurd (false≢true h)
known-extended a xs (g ∷ gs) apart h =
    let p = and_parts (not (is_in (numbers gs) g.sequence.0)) (are_apart (numbers gs)) apart in
    elim (eqb_tells a.sequence.0 g.sequence.0) [
      | inl q ↦ ap (map (extended xs)) (grouped-own a g gs q.1) ∙ ap₂ (λ (x : SequenceGroup) (l : List SequenceGroup). x ∷ l) (extended-own a xs g q.1) (extended-all a xs gs (not-in (numbers gs) g.sequence.0 a.sequence.0 p.0 q.1))
      | inr q ↦ ap (map (extended xs)) (grouped-other a g gs q.1) ∙ ap₂ (λ (x : SequenceGroup) (l : List SequenceGroup). x ∷ l) (extended-other a xs g q.1) (known-extended a xs gs p.1 (in-rest a g gs q.1 h))
    ]

known-numbers : (a : Arrived) (gs : List SequenceGroup) → is_in (numbers gs) a.sequence.0 ≡ true → numbers (grouped gs a) ≡ numbers gs
known-numbers a [] h = absurd (false≢true h)
known-numbers a (g ∷ gs) h = elim (eqb_tells a.sequence.0 g.sequence.0) [
  | inl q ↦ ap numbers (grouped-own a g gs q.1)
  | inr q ↦ ap numbers (grouped-other a g gs q.1) ∙ ap (λ (l : List ℕ). g.sequence.0 ∷ l) (known-numbers a gs (in-rest a g gs q.1 h))
]

-- its group is at the place of its number
pub known-grouped : (a : Arrived) (gs : List SequenceGroup) (i : ℕ) (g : SequenceGroup) → position_or_len (nat_eq a.sequence.0) (numbers gs) ≡ i → i < length gs → g ≡ get_or gs i g → grouped gs a ≡ set gs i (record g { paths = g.paths ++ a.path ∷ [] })
known-grouped a [] i g p lt is = absurd (omega arith)
known-grouped a (x ∷ gs) zero g p lt is = elim (eqb_tells a.sequence.0 x.sequence.0) [
  | inl q ↦ grouped-own a x gs q.1 ∙ ap (λ (y : SequenceGroup). record y { paths = y.paths ++ a.path ∷ [] } ∷ gs) (sym is)
  | inr q ↦ let bad = rw q.0 at p in absurd (omega (arith, bad))
]
known-grouped a (x ∷ gs) (suc i) g p lt is = elim (eqb_tells a.sequence.0 x.sequence.0) [
  | inl q ↦ let bad = rw q.0 at p in absurd (omega (arith, bad))
  | inr q ↦
      let there = rw q.0 at p in
      grouped-other a x gs q.1 ∙ ap (λ (l : List SequenceGroup). x ∷ l) (known-grouped a gs i g (omega (arith, there)) (omega (arith, lt)) is)
]

-- a sequence that has no group yet gets one at the end
pub new-grouped : (a : Arrived) (gs : List SequenceGroup) → is_in (numbers gs) a.sequence.0 ≡ false → grouped gs a ≡ gs ++ record { sequence = a.sequence; paths = a.path ∷ [] } ∷ []
new-grouped a [] h = refl
new-grouped a (g ∷ gs) h =
    let p = or-parts (nat_eq a.sequence.0 g.sequence.0) (is_in (numbers gs) a.sequence.0) h in
    rw p.0 (ap (λ (l : List SequenceGroup). g ∷ l) (new-grouped a gs p.1))

-- lists of numbers
filter-pass : (p : ℕ → Bool) (y : ℕ) (ys : List ℕ) → p y ≡ true → filter p (y ∷ ys) ≡ y ∷ filter p ys
filter-pass p y ys h = rw h refl

filter-drop : (p : ℕ → Bool) (y : ℕ) (ys : List ℕ) → p y ≡ false → filter p (y ∷ ys) ≡ filter p ys
filter-drop p y ys h = rw h refl

filter-filter : (p q : ℕ → Bool) → ((y : ℕ) → q y ≡ false → p y ≡ false) → (ys : List ℕ) → filter p (filter q ys) ≡ filter p ys
filter-filter p q less [] = refl
filter-filter p q less (y ∷ ys) = elim (cases_Bool (q y)) [
  | inr e ↦ ap (filter p) (filter-drop q y ys e) ∙ filter-filter p q less ys ∙ sym (filter-drop p y ys (less y e))
  | inl e ↦ ap (filter p) (filter-pass q y ys e) ∙ elim (cases_Bool (p y)) [
    | inl k ↦ filter-pass p y (filter q ys) k ∙ ap (λ (l : List ℕ). y ∷ l) (filter-filter p q less ys) ∙ sym (filter-pass p y ys k)
    | inr k ↦ filter-drop p y (filter q ys) k ∙ filter-filter p q less ys ∙ sym (filter-drop p y ys k)
  ]
]

both-true : (a b : Bool) → a ≡ true → b ≡ true → (a && b) ≡ true
both-true a b ea eb = rw (ea, eb) refl

one-false : (a b : Bool) → a ≡ false → (a && b) ≡ false
one-false a b ea = rw ea refl

other-false : (a b : Bool) → b ≡ false → (a && b) ≡ false
other-false true b eb = eb
other-false false b eb = refl

filter-both : (p q r : ℕ → Bool) → ((y : ℕ) → r y ≡ (p y && q y)) → (ys : List ℕ) → filter r ys ≡ filter p (filter q ys)
filter-both p q r same [] = refl
filter-both p q r same (y ∷ ys) = elim (cases_Bool (q y)) [
  | inr e ↦ filter-drop r y ys (same y ∙ other-false (p y) (q y) e) ∙ filter-both p q r same ys ∙ ap (filter p) (sym (filter-drop q y ys e))
  | inl e ↦ elim (cases_Bool (p y)) [
    | inl k ↦ filter-pass r y ys (same y ∙ both-true (p y) (q y) k e) ∙ ap (λ (l : List ℕ). y ∷ l) (filter-both p q r same ys) ∙ sym (filter-pass p y (filter q ys) k) ∙ ap (filter p) (sym (filter-pass q y ys e))
    | inr k ↦ filter-drop r y ys (same y ∙ one-false (p y) (q y) k) ∙ filter-both p q r same ys ∙ sym (filter-drop p y (filter q ys) k) ∙ ap (filter p) (sym (filter-pass q y ys e))
  ]
]

map-passing : (p : ℕ → Bool) (f g : ℕ → SequenceGroup) → ((y : ℕ) → p y ≡ true → f y ≡ g y) → (ys : List ℕ) → map f (filter p ys) ≡ map g (filter p ys)
map-passing p f g same [] = refl
map-passing p f g same (y ∷ ys) = elim (cases_Bool (p y)) [
  | inl e ↦ ap (map f) (filter-pass p y ys e) ∙ ap₂ (λ (x : SequenceGroup) (l : List SequenceGroup). x ∷ l) (same y e) (map-passing p f g same ys) ∙ ap (map g) (sym (filter-pass p y ys e))
  | inr e ↦ ap (map f) (filter-drop p y ys e) ∙ map-passing p f g same ys ∙ ap (map g) (sym (filter-drop p y ys e))
]

map-append : {A B : Type 0} (f : A → B) (xs ys : List A) → map f (xs ++ ys) ≡ map f xs ++ map f ys
map-append f [] ys = refl
map-append f (x ∷ xs) ys = ap (λ l. f x ∷ l) (map-append f xs ys)

in-append : (ns : List ℕ) (s y : ℕ) → is_in (ns ++ s ∷ []) y ≡ (is_in ns y || (nat_eq y s || false))
in-append [] s y = refl
in-append (n ∷ ns) s y = ap (λ b. nat_eq y n || b) (in-append ns s y) ∙ sym (or-assoc (nat_eq y n) (is_in ns y) (nat_eq y s || false))
  where
    or-assoc : (a b c : Bool) → ((a || b) || c) ≡ (a || (b || c))
    or-assoc true b c = refl
    or-assoc false b c = refl

apart-append : (ns : List ℕ) (s : ℕ) → are_apart ns ≡ true → is_in ns s ≡ false → are_apart (ns ++ s ∷ []) ≡ true
apart-append [] s h none = refl
apart-append (n ∷ ns) s h none =
    let p = and_parts (not (is_in ns n)) (are_apart ns) h in
    let q = or-parts (nat_eq s n) (is_in ns s) none in
    and_from (not (is_in (ns ++ s ∷ []) n)) (are_apart (ns ++ s ∷ []))
    (ap (λ b. not b) (in-append ns s n ∙ ap₂ (λ x y. x || (y || false)) (not-in ns n n p.0 refl) (ne_eqb n s (λ e. not-equal s n q.0 (sym e))))) (apart-append ns s p.1 q.1)

-- groups with the paths to come, and new ones
abbrev result_of : List SequenceGroup → List Arrived → List SequenceGroup
result_of gs xs =
    map (extended xs) gs ++ map (fresh xs) (filter (λ s. not (is_in (numbers gs) s)) (firsts (map (λ a. a.sequence.0) xs)))

fresh-other : (a : Arrived) (xs : List Arrived) (s : ℕ) → (a.sequence.0 ≡ s → ⊥) → fresh xs s ≡ fresh (a ∷ xs) s
fresh-other a xs s ne = ap (λ (ps : List (List PathStep)). record { sequence = record { 0 = s }; paths = ps }) (sym (paths-other a xs s ne))

not-true : (b : Bool) → not b ≡ true → b ≡ true → ⊥
not-true true h k = false≢true h
not-true false h k = false≢true k

same-in : (ns : List ℕ) (s y : ℕ) → not (y == s) ≡ false → is_in ns s ≡ true → not (is_in ns y) ≡ false
same-in ns s y h k = elim (eqb_tells y s) [
  | inl p ↦ ap (λ n. not (is_in ns n)) p.1 ∙ ap (λ b. not b) k
  | inr p ↦ absurd (false≢true (sym h ∙ ap (λ b. not b) p.0))
]

step-known : (a : Arrived) (xs : List Arrived) (gs : List SequenceGroup) → are_apart (numbers gs) ≡ true → is_in (numbers gs) a.sequence.0 ≡ true → result_of (grouped gs a) xs ≡ result_of gs (a ∷ xs)
step-known a xs gs apart h =
    let later : List ℕ = firsts (map (λ b. b.sequence.0) xs) in
    ap₂ (λ (x y : List SequenceGroup). x ++ y) (known-extended a xs gs apart h)
    (ap (λ (ns : List ℕ). map (fresh xs) (filter (λ y. not (is_in ns y)) later)) (known-numbers a gs h)
    ∙ map-passing (λ y. not (is_in (numbers gs) y)) (fresh xs) (fresh (a ∷ xs))
    (λ y k. fresh-other a xs y (λ e. not-true (is_in (numbers gs) y) k (ap (λ n. is_in (numbers gs) n) (sym e) ∙ h))) later
    ∙ ap (λ (l : List ℕ). map (fresh (a ∷ xs)) l)
    (sym (filter-filter (λ y. not (is_in (numbers gs) y)) (λ y. not (y == a.sequence.0)) (λ y k. same-in (numbers gs) a.sequence.0 y k h) later)
    ∙ skipped (filter (λ y. not (y == a.sequence.0)) later)))
  where
    skipped : (l : List ℕ) → filter (λ y. not (is_in (numbers gs) y)) l ≡ filter (λ y. not (is_in (numbers gs) y)) (a.sequence.0 ∷ l)
    skipped l = rw h refl

abbrev new_of : Arrived → SequenceGroup
new_of a = record { sequence = a.sequence; paths = a.path ∷ [] }

not-or : (p q : Bool) → not (p || (q || false)) ≡ (not p && not q)
not-or true q = refl
not-or false true = refl
not-or false false = refl

eq-swap : (m n : ℕ) → nat_eq m n ≡ nat_eq n m
eq-swap m n = elim (eqb_tells m n) [
  | inl p ↦ p.0 ∙ sym (eq-eqb n m (sym p.1))
  | inr p ↦ p.0 ∙ sym (ne_eqb n m (λ e. p.1 (sym e)))
]

step-new : (a : Arrived) (xs : List Arrived) (gs : List SequenceGroup) → is_in (numbers gs) a.sequence.0 ≡ false → result_of (gs ++ record { sequence = a.sequence; paths = a.path ∷ [] } ∷ []) xs ≡ result_of gs (a ∷ xs)
step-new a xs gs h =
    let later : List ℕ = firsts (map (λ b. b.sequence.0) xs) in
    let n : SequenceGroup = record { sequence = a.sequence; paths = a.path ∷ [] } in
    let rest : List SequenceGroup = map (fresh xs) (filter (λ s. not (is_in (numbers (gs ++ n ∷ [])) s)) later) in
    ap (λ (l : List SequenceGroup). l ++ rest) (map-append (extended xs) gs (n ∷ []))
    ∙ append_assoc (map (extended xs) gs) (extended xs n ∷ []) rest
    ∙ ap₂ (λ (x y : List SequenceGroup). x ++ y) (extended-all a xs gs h)
    (ap₂ (λ (x : SequenceGroup) (l : List SequenceGroup). x ∷ l) (own (paths-own a xs a.sequence.0 refl))
    (ap (λ (ns : List ℕ). map (fresh xs) (filter (λ s. not (is_in ns s)) later)) (map-append (λ g. g.sequence.0) gs (n ∷ []))
    ∙ map-passing (λ y. not (is_in (numbers gs ++ a.sequence.0 ∷ []) y)) (fresh xs) (fresh (a ∷ xs))
    (λ y k. fresh-other a xs y (λ e. not-true (is_in (numbers gs ++ a.sequence.0 ∷ []) y) k (there y e))) later
    ∙ ap (λ (l : List ℕ). map (fresh (a ∷ xs)) l)
    (filter-both (λ y. not (is_in (numbers gs) y)) (λ y. not (y == a.sequence.0)) (λ y. not (is_in (numbers gs ++ a.sequence.0 ∷ []) y)) (λ y. both y) later)))
    ∙ ap (λ (l : List ℕ). map (extended (a ∷ xs)) gs ++ map (fresh (a ∷ xs)) l) (kept (filter (λ y. not (y == a.sequence.0)) later))
  where
    own : paths_to a.sequence.0 (a ∷ xs) ≡ a.path ∷ paths_to a.sequence.0 xs → extended xs (record { sequence = a.sequence; paths = a.path ∷ [] }) ≡ fresh (a ∷ xs) a.sequence.0
    own e = ap (λ (ps : List (List PathStep)). record { sequence = a.sequence; paths = ps }) (sym e)

    there : (y : ℕ) → a.sequence.0 ≡ y → is_in (numbers gs ++ a.sequence.0 ∷ []) y ≡ true
    there y e =
        ap (λ m. is_in (numbers gs ++ a.sequence.0 ∷ []) m) (sym e) ∙ in-append (numbers gs) a.sequence.0 a.sequence.0
        ∙ rw (eq-eqb a.sequence.0 a.sequence.0 refl) (or-right (is_in (numbers gs) a.sequence.0))
      where
        or-right : (b : Bool) → (b || true) ≡ true
        or-right true = refl
        or-right false = refl

    both : (y : ℕ) → not (is_in (numbers gs ++ a.sequence.0 ∷ []) y) ≡ (not (is_in (numbers gs) y) && not (y == a.sequence.0))
    both y = ap (λ b. not b) (in-append (numbers gs) a.sequence.0 y) ∙ not-or (is_in (numbers gs) y) (nat_eq y a.sequence.0)

    kept : (l : List ℕ) → a.sequence.0 ∷ filter (λ y. not (is_in (numbers gs) y)) l ≡ filter (λ y. not (is_in (numbers gs) y)) (a.sequence.0 ∷ l)
    kept l = rw h refl

-- Groups and the paths to come.
pub all-grouped : (xs : List Arrived) (gs : List SequenceGroup) → are_apart (numbers gs) ≡ true → all_grouped gs xs ≡ result_of gs xs
all-grouped [] gs apart = sym (append-nil (map (extended []) gs) ∙ own gs)
  where
    own : (gs : List SequenceGroup) → map (extended []) gs ≡ gs
    own [] = refl
    own (g ∷ gs) = ap₂ (λ (x : SequenceGroup) (l : List SequenceGroup). x ∷ l) (ap (λ (ps : List (List PathStep)). record g { paths = ps }) (append-nil g.paths)) (own gs)
all-grouped (a ∷ xs) gs apart = elim (cases_Bool (is_in (numbers gs) a.sequence.0)) [
  | inl h ↦ all-grouped xs (grouped gs a) (ap are_apart (known-numbers a gs h) ∙ apart) ∙ step-known a xs gs apart h
  | inr h ↦
      all-grouped xs (grouped gs a)
      (ap (λ (hs : List SequenceGroup). are_apart (numbers hs)) (new-grouped a gs h) ∙ ap are_apart (map-append (λ g. g.sequence.0) gs (new_of a ∷ [])) ∙ apart-append (numbers gs) a.sequence.0 apart h)
      ∙ ap (λ (hs : List SequenceGroup). result_of hs xs) (new-grouped a gs h) ∙ step-new a xs gs h
]

-- each group as a target
pub targets-grouped : (place : ℕ) (xs : List Arrived) → map (target_of place) (all_grouped [] xs) ≡ sequence_targets place xs
targets-grouped place xs =
    ap (map (target_of place)) (all-grouped xs [] refl)
    ∙ map-map (filter (λ s. not (is_in [] s)) (firsts (map (λ a. a.sequence.0) xs)))
    ∙ ap (map (λ s. target_of place (fresh xs s))) (all-pass (firsts (map (λ a. a.sequence.0) xs)))
  where
    map-map : (l : List ℕ) → map (target_of place) (map (fresh xs) l) ≡ map (λ s. target_of place (fresh xs s)) l
    map-map [] = refl
    map-map (s ∷ l) = ap (λ (ts : List Target). target_of place (fresh xs s) ∷ ts) (map-map l)

    all-pass : (l : List ℕ) → filter (λ s. not (is_in [] s)) l ≡ l
    all-pass [] = refl
    all-pass (s ∷ l) = ap (λ (m : List ℕ). s ∷ m) (all-pass l)

-- a group with more paths keeps its number
pub numbers-set : (gs : List SequenceGroup) (i : ℕ) (g h : SequenceGroup) → i < length gs → g ≡ get_or gs i g → h.sequence.0 ≡ g.sequence.0 → numbers (set gs i h) ≡ numbers gs
numbers-set [] i g h lt is e = absurd (omega arith)
numbers-set (x ∷ gs) zero g h lt is e = ap (λ (n : ℕ). n ∷ numbers gs) (e ∙ ap (λ (y : SequenceGroup). y.sequence.0) is)
numbers-set (x ∷ gs) (suc i) g h lt is e = ap (λ (l : List ℕ). x.sequence.0 ∷ l) (numbers-set gs i g h (omega (arith, lt)) is e)
