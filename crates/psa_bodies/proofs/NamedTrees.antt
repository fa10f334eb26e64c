-- The tree with a name among those of its kind.
use Rattle.std.proofs.Common.{◌≡◌, ◌<◌, ◌≤◌, ◌+◌, ℕ, zero, suc, Bool, true, false, List, [], ◌∷◌, ◌++◌, Option, Some, None, not, map, length, take, get_or, refl, ap, sym, ◌∙◌, subst, inl, inr, arith, cond, eqb, ltb, if◌then◌else◌}
use Rattle.std.proofs.lemmas.Bool.{cases_Bool, lt-ltb, or_from, false_from_ne_true, false≢true}
use Rattle.std.proofs.lemmas.List.{map-append, length-map, length-take-le, take_more, take_all}
use Rattle.std.specs.List.{slice_get, enumerate_from, filter, list_any, position, position_or_len}
use Rattle.std.specs.Option.{option_map, option_map_or, unwrap_or}
use Rattle.std.specs.Str.{bytes_eq}
use Rattle.psa_model.specs.PathNames.{Text}
use Rattle.psa_model.specs.declared.draft.Draft.{Draft}
use Rattle.psa_model.specs.declared.draft.DraftDefinition.{DraftDefinition}
use Rattle.psa_model.specs.declared.draft.DefinitionKind.{DefinitionKind}
use Rattle.psa_names.specs.Outlines.{Entry, Entries, entry_of, entries_of}
use Rattle.psa_names.specs.Ids.{kind_number, is_kind, all_of_kind, tree_id}
use Rattle.psa_bodies.specs.declared.numbers.Numbered.{Numbered}
use Rattle.psa_bodies.specs.declared.numbers.Numbers.{Numbers}
use Rattle.psa_bodies.specs.Numbering.{AreNumbers, numbered}
use Rattle.psa_bodies.specs.Trees.{AreDistinct, places_of, place_has_name, tree_has_name, first_with_name}
use Rattle.psa_bodies.proofs.NumberedDefinitions.{get-map, position-none}
use Rattle.psa_bodies.proofs.NumberingInOrder.{filter-append, split-places}
use Rattle.psa_bodies.proofs.GroupEvents.{equal-bytes}

-- ---- first places

abbrev pub passes_at : {A : Type 0} → (A → Bool) → List A → ℕ → Bool
passes_at p xs k = option_map_or p (slice_get xs k) false

first-place : {A : Type 0} (p : A → Bool) (xs : List A) (k : ℕ) → passes_at p xs k ≡ true → ((j : ℕ) → j < k → passes_at p xs j ≡ false) → (position_or_len p xs ≡ k) × (k < length xs)
first-place p [] k is before = absurd (false≢true is)
first-place p (x ∷ xs) zero is before = rw is (refl, omega arith)
first-place p (x ∷ xs) (suc k) is before =
    let rest = first-place p xs k is (λ j l. before (suc j) (omega (arith, l))) in
    let first : p x ≡ false = before 0 (omega arith) in
    let a = rest.0 in
    let b = rest.1 in
    rw first (omega (arith, a), omega (arith, b))

pub first-at : {A : Type 0} (p : A → Bool) (xs : List A) (k : ℕ) → passes_at p xs k ≡ true → ((j : ℕ) → j < k → passes_at p xs j ≡ false) → unwrap_or (position p xs) 0 ≡ k
first-at p xs k is before =
    let both = first-place p xs k is before in
    let inside : position_or_len p xs < length xs = subst (λ m. m < length xs) (sym both.0) both.1 in
    ap (λ b. unwrap_or (cond b (Some (position_or_len p xs)) None) 0) (lt-ltb (position_or_len p xs) (length xs) inside) ∙ both.0

none-passes : {A : Type 0} (p : A → Bool) (xs : List A) → ((j : ℕ) → j < length xs → passes_at p xs j ≡ false) → list_any p xs ≡ false
none-passes p [] none = refl
none-passes p (x ∷ xs) none = or_from (p x) (list_any p xs) (none 0 (omega arith)) (none-passes p xs (λ j l. none (suc j) (omega (arith, l))))

pub first-none : {A : Type 0} (p : A → Bool) (xs : List A) → ((j : ℕ) → j < length xs → passes_at p xs j ≡ false) → 0 ≡ unwrap_or (position p xs) 0
first-none p xs none = sym (ap (λ o. unwrap_or o 0) (position-none p xs (none-passes p xs none)))

same-first : {A B : Type 0} (p : A → Bool) (q : B → Bool) (xs : List A) (ys : List B) → length xs ≡ length ys → ((k : ℕ) → passes_at p xs k ≡ passes_at q ys k) → position_or_len p xs ≡ position_or_len q ys
same-first p q [] [] long same = refl
same-first p q [] (y ∷ ys) long same = absurd (omega (arith, long))
same-first p q (x ∷ xs) [] long same = absurd (omega (arith, long))
same-first p q (x ∷ xs) (y ∷ ys) long same =
    let rest = same-first p q xs ys (omega (arith, long)) (λ k. same (suc k)) in
    let first : p x ≡ q y = same 0 in
    ap (λ b. cond (not b) (1 + position_or_len p xs) 0) first ∙ ap (λ m. cond (not (q y)) (1 + m) 0) rest

same-position : {A B : Type 0} (p : A → Bool) (q : B → Bool) (xs : List A) (ys : List B) → length xs ≡ length ys → ((k : ℕ) → passes_at p xs k ≡ passes_at q ys k) → position p xs ≡ position q ys
same-position p q xs ys long same =
    let e = same-first p q xs ys long same in
    ap (λ m. cond (ltb m (length xs)) (Some m) None) e ∙ ap (λ n. cond (ltb (position_or_len q ys) n) (Some (position_or_len q ys)) None) long

-- ---- the definitions of a kind

pub record Kept (xs : Entries) (n place : ℕ) (x : Entry) : Type 0 where
  pub at : ℕ
  pub is : n + at ≡ place
  pub there : slice_get xs at ≡ Some x

pub kept-there : (p : ℕ × Entry → Bool) (n k place : ℕ) (x : Entry) (xs : Entries) → slice_get (filter p (enumerate_from n xs)) k ≡ Some (place, x) → Kept xs n place x
kept-there p n k place x [] there = absurd (let h : None ≡ Some (place, x) = there in cc)
kept-there p n k place x (y ∷ ys) there = by (p (n, y)) k there (λ j h. later (kept-there p (n + 1) j place x ys h))
  where
    later : Kept ys (n + 1) place x → Kept (y ∷ ys) n place x
    later kept = let e = kept.is in record { at = suc kept.at; is = omega (arith, e); there = kept.there }

    by : (b : Bool) (k : ℕ) → slice_get (cond b ((n, y) ∷ filter p (enumerate_from (n + 1) ys)) (filter p (enumerate_from (n + 1) ys))) k ≡ Some (place, x) → ((j : ℕ) → slice_get (filter p (enumerate_from (n + 1) ys)) j ≡ Some (place, x) → Kept (y ∷ ys) n place x) → Kept (y ∷ ys) n place x
    by true zero h rest =
        let e : ◌≡◌ {A = Option (ℕ × Entry)} (Some (n, y)) (Some (place, x)) = h in
        let pair : ◌≡◌ {A = ℕ × Entry} (n, y) (place, x) = cc in
        let m : n ≡ place = ap (λ (q : ℕ × Entry). q.0) pair in
        let o : y ≡ x = ap (λ (q : ℕ × Entry). q.1) pair in
        record { at = 0; is = omega (arith, m); there = ap Some o }
    by true (suc k) h rest = rest k h
    by false k h rest = rest k h

pub kept-passes : {A : Type 0} (p : ℕ × A → Bool) (n k : ℕ) (one : ℕ × A) (xs : List A) → slice_get (filter p (enumerate_from n xs)) k ≡ Some one → p one ≡ true
kept-passes p n k one [] there = absurd (let h : None ≡ Some one = there in cc)
kept-passes {A} p n k one (y ∷ ys) there = by (p (n, y)) refl k there (λ j h. kept-passes p (n + 1) j one ys h)
  where
    by : (b : Bool) → p (n, y) ≡ b → (k : ℕ) → slice_get (cond b ((n, y) ∷ filter p (enumerate_from (n + 1) ys)) (filter p (enumerate_from (n + 1) ys))) k ≡ Some one → ((j : ℕ) → slice_get (filter p (enumerate_from (n + 1) ys)) j ≡ Some one → p one ≡ true) → p one ≡ true
    by true is zero h rest =
        let e : ◌≡◌ {A = Option (ℕ × A)} (Some (n, y)) (Some one) = h in
        let pair : ◌≡◌ {A = ℕ × A} (n, y) one = cc in
        subst (λ q. p q ≡ true) pair is
    by true is (suc k) h rest = rest k h
    by false is k h rest = rest k h

module _ (definitions : List DraftDefinition) (name : Text) where
  named-definition : (place : ℕ) (x : Entry) → slice_get (map entry_of definitions) place ≡ Some x → place_has_name definitions name place ≡ bytes_eq x.name name
  named-definition place x there = by (slice_get definitions place) refl (sym (get-map entry_of definitions place) ∙ there)
    where
      by : (found : Option DraftDefinition) → slice_get definitions place ≡ found → option_map entry_of (slice_get definitions place) ≡ Some x → place_has_name definitions name place ≡ bytes_eq x.name name
      by None is h = absurd (let e : None ≡ Some x = sym (ap (option_map entry_of) is) ∙ h in cc)
      by (Some d) is h =
          let e : Some (entry_of d) ≡ Some x = sym (ap (option_map entry_of) is) ∙ h in
          let same : entry_of d ≡ x = cc in
          ap (λ o. option_map_or (λ (one : DraftDefinition). bytes_eq one.name name) o false) is ∙ ap (λ (y : Entry). bytes_eq y.name name) same

  -- the names at places are those of the definitions
  tree-named : (its : DefinitionKind) (k : ℕ) → tree_has_name definitions (places_of its (map entry_of definitions)) name k ≡ passes_at (λ (one : ℕ × Entry). bytes_eq one.1.name name) (all_of_kind its (map entry_of definitions)) k
  tree-named its k =
      ap (λ o. option_map_or (place_has_name definitions name) o false) (get-map (λ (one : ℕ × Entry). one.0) (all_of_kind its (map entry_of definitions)) k)
      ∙ by (slice_get (all_of_kind its (map entry_of definitions)) k) refl
    where
      by : (found : Option (ℕ × Entry)) → slice_get (all_of_kind its (map entry_of definitions)) k ≡ found → option_map_or (place_has_name definitions name) (option_map (λ (one : ℕ × Entry). one.0) found) false ≡ option_map_or (λ (one : ℕ × Entry). bytes_eq one.1.name name) found false
      by None is = refl
      by (Some (place, x)) is =
          let kept = kept-there (λ (one : ℕ × Entry). is_kind its one.1) 0 k place x (map entry_of definitions) is in
          let same : kept.at ≡ place = let e = kept.is in omega (arith, e) in
          named-definition place x (subst (λ m. slice_get (map entry_of definitions) m ≡ Some x) same kept.there)

  first-tree : (its : DefinitionKind) (trees : List ℕ) → trees ≡ places_of its (map entry_of definitions) → first_with_name definitions trees name ≡ unwrap_or (position (λ (one : ℕ × Entry). bytes_eq one.1.name name) (all_of_kind its (map entry_of definitions))) 0
  first-tree its trees are =
      ap (λ ts. first_with_name definitions ts name) are
      ∙ ap (λ o. unwrap_or o 0) (same-position (place_has_name definitions name) (λ (one : ℕ × Entry). bytes_eq one.1.name name) (places_of its (map entry_of definitions)) (all_of_kind its (map entry_of definitions)) (length-map (all_of_kind its (map entry_of definitions)) (λ one. one.0)) (tree-named its))

  open-tree : (its : DefinitionKind) (trees : List ℕ) (open_one : ℕ) → trees ≡ places_of its (map entry_of definitions) → AreDistinct (all_of_kind its (map entry_of definitions)) → tree_has_name definitions trees name open_one ≡ true → unwrap_or (position (λ (one : ℕ × Entry). bytes_eq one.1.name name) (all_of_kind its (map entry_of definitions))) 0 ≡ open_one
  open-tree its trees open_one are distinct named =
      first-at (λ (one : ℕ × Entry). bytes_eq one.1.name name) all open_one passes (λ j l. none j l)
    where
      all : List (ℕ × Entry)
      all = all_of_kind its (map entry_of definitions)

      passes : passes_at (λ (one : ℕ × Entry). bytes_eq one.1.name name) (all_of_kind its (map entry_of definitions)) open_one ≡ true
      passes = sym (tree-named its open_one) ∙ ap (λ ts. tree_has_name definitions ts name open_one) (sym are) ∙ named

      both : (j : ℕ) (one other : Option (ℕ × Entry)) → slice_get (all_of_kind its (map entry_of definitions)) j ≡ one → slice_get (all_of_kind its (map entry_of definitions)) open_one ≡ other → option_map_or (λ (o : ℕ × Entry). bytes_eq o.1.name name) one false ≡ true → option_map_or (λ (o : ℕ × Entry). bytes_eq o.1.name name) other false ≡ true → j ≡ open_one
      both j None other h k p q = absurd (false≢true p)
      both j (Some one) None h k p q = absurd (false≢true q)
      both j (Some one) (Some other) h k p q =
          distinct.same j open_one one other h k (ap (bytes_eq one.1.name) (equal-bytes other.1.name name q) ∙ p)

      none : (j : ℕ) → j < open_one → passes_at (λ (one : ℕ × Entry). bytes_eq one.1.name name) (all_of_kind its (map entry_of definitions)) j ≡ false
      none j l = false_from_ne_true _ (λ is. let e = both j (slice_get (all_of_kind its (map entry_of definitions)) j) (slice_get (all_of_kind its (map entry_of definitions)) open_one) refl refl is passes in let f : j ≡ open_one = e in absurd (omega (arith, l, f)))

-- ---- by the names around a definition

tree-of-first : (its : DefinitionKind) (entries : Entries) (container : List Text) (name : Text) → 1 ≤ length container → name ≡ get_or container 0 name → tree_id its entries container ≡ unwrap_or (position (λ (one : ℕ × Entry). bytes_eq one.1.name name) (all_of_kind its entries)) 0
tree-of-first its entries [] name some is = absurd (omega arith)
tree-of-first its entries (first ∷ names) name some is = ap (λ n. unwrap_or (position (λ (one : ℕ × Entry). bytes_eq one.1.name n) (all_of_kind its entries)) 0) (sym is)

pub tree-is-open : (draft : Draft) (its : DefinitionKind) (trees : List ℕ) (container : List Text) (name : Text) (open_one : ℕ) → 1 ≤ length container → name ≡ get_or container 0 name → tree_has_name draft.definitions trees name open_one ≡ true → trees ≡ places_of its (entries_of draft) → AreDistinct (all_of_kind its (entries_of draft)) → open_one ≡ tree_id its (entries_of draft) container
tree-is-open draft its trees container name open_one some is named are distinct =
    sym (tree-of-first its (entries_of draft) container name some is ∙ open-tree draft.definitions name its trees open_one are distinct named)

pub tree-is-first : (draft : Draft) (its : DefinitionKind) (trees : List ℕ) (container : List Text) (name : Text) (first : ℕ) → 1 ≤ length container → name ≡ get_or container 0 name → first ≡ first_with_name draft.definitions trees name → trees ≡ places_of its (entries_of draft) → first ≡ tree_id its (entries_of draft) container
tree-is-first draft its trees container name first some is found are =
    found ∙ first-tree draft.definitions name its trees are ∙ sym (tree-of-first its (entries_of draft) container name some is)

-- ---- places of a kind

abbrev pub kept_places : {A : Type 0} → (A → ℕ) → ℕ → List (ℕ × A) → List ℕ
kept_places {A} number its all = map (λ (one : ℕ × A). one.0) (filter (λ (one : ℕ × A). eqb (number one.1) its) all)

pub places-more : (ns : List Numbered) (i k : ℕ) (one : Numbered) (places more : List ℕ) → i < length ns → one ≡ get_or ns i one → places ≡ kept_places (λ (n : Numbered). kind_number n.kind) k (enumerate_from 0 (take i ns)) → more ≡ places ++ (if eqb (kind_number one.kind) k then i ∷ [] else []) → more ≡ kept_places (λ (n : Numbered). kind_number n.kind) k (enumerate_from 0 (take (i + 1) ns))
places-more ns i k one places more inside is before pushed =
    pushed ∙ ap (λ ps. ps ++ (if eqb (kind_number one.kind) k then i ∷ [] else [])) before
    ∙ ap (λ ps. kept_places (λ (n : Numbered). kind_number n.kind) k (enumerate_from 0 (take i ns)) ++ ps) last
    ∙ sym (ap (λ xs. kept_places (λ (n : Numbered). kind_number n.kind) k xs) longer
    ∙ ap (map (λ (o : ℕ × Numbered). o.0)) (filter-append (λ (o : ℕ × Numbered). eqb (kind_number o.1.kind) k) (enumerate_from 0 (take i ns)) ((i, one) ∷ []))
    ∙ map-append (λ (o : ℕ × Numbered). o.0) (filter (λ (o : ℕ × Numbered). eqb (kind_number o.1.kind) k) (enumerate_from 0 (take i ns))) (filter (λ (o : ℕ × Numbered). eqb (kind_number o.1.kind) k) ((i, one) ∷ [])))
  where
    last : (if eqb (kind_number one.kind) k then i ∷ [] else []) ≡ kept_places (λ (n : Numbered). kind_number n.kind) k ((i, one) ∷ [])
    last = elim (cases_Bool (eqb (kind_number one.kind) k)) [ inl its ↦ rw its refl | inr isnt ↦ rw isnt refl ]

    long : length (take i ns) ≡ i
    long = length-take-le i ns (omega (arith, inside))

    longer : enumerate_from 0 (take (i + 1) ns) ≡ enumerate_from 0 (take i ns) ++ (i, one) ∷ []
    longer = ap (enumerate_from 0) (take_more ns i one inside ∙ ap (λ y. take i ns ++ y ∷ []) (sym is)) ∙ split-places 0 i (take i ns) one [] (omega (arith, long))

kept-numbered : (entries : Entries) (k n : ℕ) (xs : Entries) → kept_places (λ (m : Numbered). kind_number m.kind) k (enumerate_from n (map (numbered entries) (enumerate_from n xs))) ≡ kept_places (λ (e : Entry). kind_number e.kind) k (enumerate_from n xs)
kept-numbered entries k n [] = refl
kept-numbered entries k n (x ∷ xs) =
    elim (cases_Bool (eqb (kind_number x.kind) k)) [
      | inl its ↦ rw its (ap (λ ps. n ∷ ps) (kept-numbered entries k (n + 1) xs))
      | inr isnt ↦ rw isnt (kept-numbered entries k (n + 1) xs)
    ]

pub places-all : (numbers : Numbers) (its : DefinitionKind) (i : ℕ) (items : List Numbered) (places : List ℕ) (entries : Entries) → items ≡ numbers.definitions → length items ≤ i → places ≡ kept_places (λ (n : Numbered). kind_number n.kind) (kind_number its) (enumerate_from 0 (take i items)) → AreNumbers entries numbers → places ≡ places_of its entries
places-all numbers its i items places entries same past are numbers_are =
    are ∙ ap (λ ns. kept_places (λ (n : Numbered). kind_number n.kind) (kind_number its) (enumerate_from 0 ns)) (take_all i items past ∙ same ∙ numbers_are.definitions)
    ∙ kept-numbered entries (kind_number its) 0 entries
