-- Where no name has a fault, the names of fault trees and of event trees are distinct.
use Rattle.std.proofs.Common.{◌≡◌, ◌<◌, ◌≤◌, ◌+◌, ◌⊎◌, ℕ, zero, suc, Bool, true, false, List, [], ◌∷◌, ◌++◌, ◌&&◌, ◌||◌, Option, Some, None, map, refl, ap, sym, ◌∙◌, subst, inl, inr, arith, cond, eqb, ltb}
use Rattle.std.proofs.lemmas.Bool.{and_parts, and_from, or_cases, or_left, or_right, ltb-true, lt-ltb, eqb-true, eq-eqb, false≢true, cases_order}
use Rattle.std.specs.List.{slice_get, enumerate_from, filter, flat_map, list_any}
use Rattle.std.specs.Str.{bytes_eq}
use Rattle.psa_model.specs.Drafts.{IsDraft, Position, position_of, stands_before, are_ascending}
use Rattle.psa_model.specs.declared.draft.Draft.{Draft}
use Rattle.psa_model.specs.declared.draft.DraftDefinition.{DraftDefinition}
use Rattle.psa_model.specs.declared.draft.DefinitionKind.{DefinitionKind}
use Rattle.psa_model.specs.declared.draft.DefinitionKind.TheVariants as kind
use Rattle.psa_names.specs.Outlines.{Entry, Entries, entry_of, entries_of}
use Rattle.psa_names.specs.NameSpaces.{Named, named_in, all_named, repeats, share_space, spaces_of}
use Rattle.psa_names.specs.NameFaults.{duplicates, name_fault}
use Rattle.psa_names.specs.Ids.{is_kind, all_of_kind}
use Rattle.psa_bodies.specs.Trees.{AreDistinct}
use Rattle.psa_bodies.proofs.NumberedDefinitions.{kinds-same}
use Rattle.psa_bodies.proofs.GroupEvents.{has-names, none-earliest, map-nil, equal-bytes, same-bytes}
use Rattle.psa_bodies.proofs.NamedTrees.{kept-there, kept-passes}

-- ---- positions

stands-cases : (a b : Position) → stands_before a b ≡ true → (a.file < b.file) ⊎ ((a.file ≡ b.file) × (a.tag < b.tag))
stands-cases a b is =
    elim (or_cases (ltb a.file b.file) (eqb a.file b.file && ltb a.tag b.tag) is) [
      | inl file ↦ inl (ltb-true a.file b.file file)
      | inr both ↦ let parts = and_parts _ _ both in inr (eqb-true a.file b.file parts.0, ltb-true a.tag b.tag parts.1)
    ]

stands-from : (a b : Position) → (a.file < b.file) ⊎ ((a.file ≡ b.file) × (a.tag < b.tag)) → stands_before a b ≡ true
stands-from a b (inl less) = or_left (ltb a.file b.file) _ (lt-ltb a.file b.file less)
stands-from a b (inr both) = or_right (ltb a.file b.file) _ (and_from (eqb a.file b.file) (ltb a.tag b.tag) (eq-eqb a.file b.file both.0) (lt-ltb a.tag b.tag both.1))

pub stands-trans : (a b c : Position) → stands_before a b ≡ true → stands_before b c ≡ true → stands_before a c ≡ true
stands-trans a b c first second = stands-from a c (by (stands-cases a b first) (stands-cases b c second))
  where
    by : (a.file < b.file) ⊎ ((a.file ≡ b.file) × (a.tag < b.tag)) → (b.file < c.file) ⊎ ((b.file ≡ c.file) × (b.tag < c.tag)) → (a.file < c.file) ⊎ ((a.file ≡ c.file) × (a.tag < c.tag))
    by (inl p) (inl q) = inl (omega (arith, p, q))
    by (inl p) (inr q) = let e = q.0 in inl (omega (arith, p, e))
    by (inr p) (inl q) = let e = p.0 in inl (omega (arith, e, q))
    by (inr p) (inr q) = let e = p.0 in let f = q.0 in let g = p.1 in let h = q.1 in inr (omega (arith, e, f), omega (arith, g, h))

first-before : (ds : List DraftDefinition) (d : DraftDefinition) (k : ℕ) (y : Entry) → are_ascending (map position_of (d ∷ ds)) ≡ true → slice_get (map entry_of ds) k ≡ Some y → stands_before (position_of d) (position_of y.definition) ≡ true
first-before [] d k y up there = absurd (let h : None ≡ Some y = there in cc)
first-before (x ∷ ds) d zero y up there =
    let h : Some (entry_of x) ≡ Some y = there in
    let e : entry_of x ≡ y = cc in
    subst (λ (z : Entry). stands_before (position_of d) (position_of z.definition) ≡ true) e (and_parts _ _ up).0
first-before (x ∷ ds) d (suc k) y up there =
    let both = and_parts _ _ up in stands-trans (position_of d) (position_of x) (position_of y.definition) both.0 (first-before ds x k y both.1 there)

pub ascending-later : (d : DraftDefinition) (ds : List DraftDefinition) → are_ascending (map position_of (d ∷ ds)) ≡ true → are_ascending (map position_of ds) ≡ true
ascending-later d [] up = refl
ascending-later d (x ∷ ds) up = (and_parts _ _ up).1

-- of two definitions the first stands before the second
pub earlier-before : (ds : List DraftDefinition) (i j : ℕ) (x y : Entry) → are_ascending (map position_of ds) ≡ true → i < j → slice_get (map entry_of ds) i ≡ Some x → slice_get (map entry_of ds) j ≡ Some y → stands_before (position_of x.definition) (position_of y.definition) ≡ true
earlier-before [] i j x y up less here there = absurd (let h : None ≡ Some x = here in cc)
earlier-before (d ∷ ds) i zero x y up less here there = absurd (omega (arith, less))
earlier-before (d ∷ ds) zero (suc j) x y up less here there =
    let h : Some (entry_of d) ≡ Some x = here in
    let e : entry_of d ≡ x = cc in
    subst (λ (z : Entry). stands_before (position_of z.definition) (position_of y.definition) ≡ true) e (first-before ds d j y up there)
earlier-before (d ∷ ds) (suc i) (suc j) x y up less here there = earlier-before ds i j x y (ascending-later d ds up) (omega (arith, less)) here there

-- ---- names

none-kept-any : {A : Type 0} (p : A → Bool) (xs : List A) → filter p xs ≡ [] → list_any p xs ≡ false
none-kept-any p [] none = refl
none-kept-any p (x ∷ xs) none = by (p x) refl none (none-kept-any p xs)
  where
    by : (b : Bool) → p x ≡ b → cond b (x ∷ filter p xs) (filter p xs) ≡ [] → (filter p xs ≡ [] → list_any p xs ≡ false) → (p x || list_any p xs) ≡ false
    by true is gone rest = absurd (let h : x ∷ filter p xs ≡ [] = gone in cc)
    by false is gone rest = rw is (rest gone)

-- the name of a definition itself
abbrev pub own_named : Entry → Named
own_named one = record { position = position_of one.definition; place = one.place; name = one.name; spaces = spaces_of one }

any-behind : {A : Type 0} (p : A → Bool) (xs ys : List A) → list_any p ys ≡ true → list_any p (xs ++ ys) ≡ true
any-behind p [] ys is = is
any-behind p (x ∷ xs) ys is = or_right (p x) _ (any-behind p xs ys is)

any-own : (p : Named → Bool) (xs : Entries) (k : ℕ) (x : Entry) → slice_get xs k ≡ Some x → p (own_named x) ≡ true → list_any p (flat_map named_in xs) ≡ true
any-own p [] k x there is = absurd (let h : None ≡ Some x = there in cc)
any-own p (y ∷ ys) zero x there is =
    let h : Some y ≡ Some x = there in
    let e : y ≡ x = cc in
    or_left (p (own_named y)) _ (subst (λ z. p (own_named z) ≡ true) (sym e) is)
any-own p (y ∷ ys) (suc k) x there is = any-behind p (named_in y) (flat_map named_in ys) (any-own p ys k x there is)

-- no later definition has the name of an earlier one in one of its spaces
pub no-repeat : (draft : Draft) (i j : ℕ) (x y : Entry) → name_fault draft ≡ None → slice_get (entries_of draft) i ≡ Some x → slice_get (entries_of draft) j ≡ Some y → repeats (own_named y) (own_named x) ≡ true → ⊥
no-repeat draft i j x y faultless here there is =
    let gone = map-nil _ _ (none-earliest (duplicates (entries_of draft)) (has-names draft faultless).no_duplicate) in
    let none = none-kept-any (λ one. list_any (repeats one) (all_named (entries_of draft))) (all_named (entries_of draft)) gone in
    let some = any-own (λ one. list_any (repeats one) (all_named (entries_of draft))) (entries_of draft) j y there (any-own (repeats (own_named y)) (entries_of draft) i x here is) in
    false≢true (sym none ∙ some)

-- kinds whose definitions have their names in the whole model
abbrev SharesModel : DefinitionKind → Type 0
SharesModel its = (x y : Entry) → x.kind ≡ its → y.kind ≡ its → share_space (own_named y) (own_named x) ≡ true

fault-trees-share : SharesModel kind.FaultTree
fault-trees-share x y p q = rw (p, q) refl

event-trees-share : SharesModel kind.EventTree
event-trees-share x y p q = rw (p, q) refl

not-two : (draft : Draft) (its : DefinitionKind) (i j : ℕ) (x y : Entry) → SharesModel its → IsDraft draft → name_fault draft ≡ None → slice_get (entries_of draft) i ≡ Some x → slice_get (entries_of draft) j ≡ Some y → x.kind ≡ its → y.kind ≡ its → bytes_eq x.name y.name ≡ true → i < j → ⊥
not-two draft its i j x y shares is faultless here there p q same less =
    no-repeat draft i j x y faultless here there
    (and_from _ _ (and_from _ _ (earlier-before draft.definitions i j x y is.ascending less here there) same) (shares x y p q))

-- ---- the definitions of a kind, in their order

later-places : (p : ℕ × Entry → Bool) (n : ℕ) (xs : Entries) (k : ℕ) (one : ℕ × Entry) → slice_get (filter p (enumerate_from n xs)) k ≡ Some one → n ≤ one.0
later-places p n xs k (place, x) there = let kept = kept-there p n k place x xs there in let e = kept.is in omega (arith, e)

rising : (p : ℕ × Entry → Bool) (n : ℕ) (xs : Entries) (i j : ℕ) (one other : ℕ × Entry) → i < j → slice_get (filter p (enumerate_from n xs)) i ≡ Some one → slice_get (filter p (enumerate_from n xs)) j ≡ Some other → one.0 < other.0
rising p n [] i j one other less here there = absurd (let h : None ≡ Some one = here in cc)
rising p n (x ∷ xs) i j one other less here there = by (p (n, x)) i j less here there (λ k l m a b. rising p (n + 1) xs k l one other m a b)
  where
    by : (b : Bool) (i j : ℕ) → i < j → slice_get (cond b ((n, x) ∷ filter p (enumerate_from (n + 1) xs)) (filter p (enumerate_from (n + 1) xs))) i ≡ Some one → slice_get (cond b ((n, x) ∷ filter p (enumerate_from (n + 1) xs)) (filter p (enumerate_from (n + 1) xs))) j ≡ Some other → ((k l : ℕ) → k < l → slice_get (filter p (enumerate_from (n + 1) xs)) k ≡ Some one → slice_get (filter p (enumerate_from (n + 1) xs)) l ≡ Some other → one.0 < other.0) → one.0 < other.0
    by true i zero less here there rest = absurd (omega (arith, less))
    by true zero (suc j) less here there rest =
        let e : ◌≡◌ {A = Option (ℕ × Entry)} (Some (n, x)) (Some one) = here in
        let pair : ◌≡◌ {A = ℕ × Entry} (n, x) one = cc in
        let first : n ≡ one.0 = ap (λ (q : ℕ × Entry). q.0) pair in
        let behind = later-places p (n + 1) xs j other there in
        omega (arith, first, behind)
    by true (suc i) (suc j) less here there rest = rest i j (omega (arith, less)) here there
    by false i j less here there rest = rest i j less here there

module _ (draft : Draft) (its : DefinitionKind) (shares : SharesModel its) (is : IsDraft draft) (faultless : name_fault draft ≡ None) where
  not-later : (i j : ℕ) (one other : ℕ × Entry) → i < j → slice_get (all_of_kind its (entries_of draft)) i ≡ Some one → slice_get (all_of_kind its (entries_of draft)) j ≡ Some other → bytes_eq one.1.name other.1.name ≡ true → ⊥
  not-later i j (m, x) (n, y) less here there same =
      let a = kept-there (λ (e : ℕ × Entry). is_kind its e.1) 0 i m x (entries_of draft) here in
      let b = kept-there (λ (e : ℕ × Entry). is_kind its e.1) 0 j n y (entries_of draft) there in
      let c = a.is in
      let d = b.is in
      let up : m < n = rising (λ (e : ℕ × Entry). is_kind its e.1) 0 (entries_of draft) i j (m, x) (n, y) less here there in
      not-two draft its a.at b.at x y shares is faultless a.there b.there
      (kinds-same x.kind its (kept-passes (λ (e : ℕ × Entry). is_kind its e.1) 0 i (m, x) (entries_of draft) here))
      (kinds-same y.kind its (kept-passes (λ (e : ℕ × Entry). is_kind its e.1) 0 j (n, y) (entries_of draft) there))
      same (omega (arith, c, d, up))

distinct : (draft : Draft) (its : DefinitionKind) → SharesModel its → IsDraft draft → name_fault draft ≡ None → AreDistinct (all_of_kind its (entries_of draft))
distinct draft its shares is faultless = record {
  same = λ i j one other here there same.
      elim (cases_order i j) [
        | inl equal ↦ equal
        | inr apart ↦ elim apart [
          | inl less ↦ absurd (not-later draft its shares is faultless i j one other less here there same)
          | inr more ↦ absurd (not-later draft its shares is faultless j i other one more there here (turn one.1.name other.1.name same))
        ]
      ];
}
  where
    turn : (a b : List ℕ) → bytes_eq a b ≡ true → bytes_eq b a ≡ true
    turn a b same = ap (λ c. bytes_eq b c) (equal-bytes a b same) ∙ same-bytes b

pub distinct-fault-trees : (draft : Draft) → IsDraft draft → name_fault draft ≡ None → AreDistinct (all_of_kind kind.FaultTree (entries_of draft))
distinct-fault-trees draft is faultless = distinct draft kind.FaultTree fault-trees-share is faultless

pub distinct-event-trees : (draft : Draft) → IsDraft draft → name_fault draft ≡ None → AreDistinct (all_of_kind kind.EventTree (entries_of draft))
distinct-event-trees draft is faultless = distinct draft kind.EventTree event-trees-share is faultless
