-- The search for a name, from a container outwards and along a path.
use Rattle.std.proofs.Common.{◌≡◌, ◌≤◌, ◌<◌, ◌+◌, ◌-◌, ◌==◌, ℕ, zero, suc, Bool, true, false, List, [], ◌∷◌, ◌++◌, length, map, take, drop, position, nat_lt, Option, Some, None, is_some, unwrap_or, nat_le, if◌then◌else◌, refl, sym, ap, ◌∙◌, subst, arith, append_assoc, length-append, length-drop}
use Rattle.std.proofs.lemmas.Bool.{false≢true, ltb-true, le-leb}
use Rattle.std.proofs.lemmas.Iterator.Adapters.{position_from-zero}
use Rattle.std.proofs.lemmas.List.Splits.{slice_split_first, length-slice_split}
use Rattle.std.specs.List.{last_or, position_or_len, position_from, onto_first, count_by}
use Rattle.std.specs.Option.{option_or}
use Rattle.psa_model.specs.PathNames.{Text, dot, name_parts, is_path}
use Rattle.psa_spaces.specs.Paths.{Path, path_at, IsPath, IsAround, AreContainers}
use Rattle.psa_spaces.specs.Addresses.{place_of}
use Rattle.psa_spaces.specs.declared.key.Family.{Family}
use Rattle.psa_spaces.specs.declared.key.Key.{Key}
use Rattle.psa_names.specs.NameSpaces as space
use Rattle.psa_names.specs.Outlines.{Entries}
use Rattle.psa_spaces.specs.declared.key.Family.TheVariants as kept
use Rattle.psa_spaces.proofs.ContainerLemmas.{path-stands}
use Rattle.psa_lookup.specs.Keys.{has_inside, is_contained, inside_address}
use Rattle.psa_lookup.specs.Tables.{meant, IsRight}
use Rattle.psa_names.specs.Meanings.{outwards, first_some, by_path, by_scope, public_one, one_directly_in}

-- ---- outwards

outwards-one : (path : Path) (name : Text) → outwards (path ++ name ∷ []) ≡ (path ++ name ∷ []) ∷ outwards path
outwards-one [] name = refl
outwards-one (x ∷ path) name = ap (λ (inner : List Path). map (λ (names : Path). x ∷ names) inner ++ (x ∷ []) ∷ []) (outwards-one path name)

or-assoc : {A : Type 0} (a b c : Option A) → option_or (option_or a b) c ≡ option_or a (option_or b c)
or-assoc None b c = refl
or-assoc (Some x) b c = refl

scope-one : (entries : Entries) (family : space.Family) (path : Path) (last name : Text) → by_scope entries family (path ++ last ∷ []) name ≡ option_or (one_directly_in entries family (path ++ last ∷ []) name) (by_scope entries family path name)
scope-one entries family path last name =
    ap (λ (all : List Path). option_or (first_some (map (λ (around : Path). one_directly_in entries family around name) all)) (public_one entries family name)) (outwards-one path last)
    ∙ or-assoc (one_directly_in entries family (path ++ last ∷ []) name) (first_some (map (λ (around : Path). one_directly_in entries family around name) (outwards path))) (public_one entries family name)

-- found in a container, or searched on in the one around it
pub scope-here : (entries : Entries) (family : space.Family) (path outer : Path) (last name : Text) (place : ℕ) → path ≡ outer ++ last ∷ [] → Some place ≡ one_directly_in entries family path name → Some place ≡ by_scope entries family path name
scope-here entries family path outer last name place is here =
    sym (ap (λ (p : Path). by_scope entries family p name) is ∙ scope-one entries family outer last name
    ∙ ap (λ o. option_or o (by_scope entries family outer name)) (ap (λ (p : Path). one_directly_in entries family p name) (sym is) ∙ sym here))

pub scope-on : (entries : Entries) (family : space.Family) (path outer : Path) (last name : Text) → path ≡ outer ++ last ∷ [] → None ≡ one_directly_in entries family path name → by_scope entries family outer name ≡ by_scope entries family path name
scope-on entries family path outer last name is none =
    sym (ap (λ (p : Path). by_scope entries family p name) is ∙ scope-one entries family outer last name
    ∙ ap (λ o. option_or o (by_scope entries family outer name)) (ap (λ (p : Path). one_directly_in entries family p name) (sym is) ∙ sym none))

-- ---- along a path

front-one : (path : Path) (last : Text) → take (length (path ++ last ∷ []) - 1) (path ++ last ∷ []) ≡ path
front-one path last =
    let long = length-append path (last ∷ []) in
    let size : length (path ++ last ∷ []) - 1 ≡ length path = omega (arith, long) in
    ap (λ n. take n (path ++ last ∷ [])) size ∙ take-all path (last ∷ [])
  where
    take-all : (xs ys : Path) → take (length xs) (xs ++ ys) ≡ xs
    take-all [] ys = refl
    take-all (x ∷ xs) ys = ap (λ (l : Path). x ∷ l) (take-all xs ys)

last-one : (first : Option Text) (path : Path) (last : Text) → last_or first (path ++ last ∷ []) ≡ Some last
last-one first [] last = refl
last-one first (x ∷ path) last = last-one (Some x) path last

pub path-one : (entries : Entries) (family : space.Family) (path : Path) (last : Text) → by_path entries family (path ++ last ∷ []) ≡ one_directly_in entries family path last
path-one entries family path last =
    ap (λ (p : Path). one_directly_in entries family p (unwrap_or (last_or None (path ++ last ∷ [])) [])) (front-one path last)
    ∙ ap (λ (o : Option Text). one_directly_in entries family path (unwrap_or o [])) (last-one None path last)

-- a list that is not empty has a last
has-last : (path : Path) (first : Text) → (front : Path) × ((last : Text) × (first ∷ path ≡ front ++ last ∷ []))
has-last [] first = ([], (first, refl))
has-last (x ∷ path) first =
    let rest = has-last path x in
    (first ∷ rest.0, (rest.1.0, ap (λ (l : Path). first ∷ l) rest.1.1))

-- what is in a container that has no number has none
pub no-inner : (paths : List Path) → AreContainers paths → (more path : Path) → ((number : ℕ) → IsPath paths number path → ⊥) → (number : ℕ) → IsPath paths number (path ++ more) → ⊥
no-inner paths are [] path none number at = none number (subst (λ (p : Path). IsPath paths number p) (append-none path) at)
  where
    append-none : (p : Path) → p ++ [] ≡ p
    append-none [] = refl
    append-none (x ∷ xs) = ap (λ (l : Path). x ∷ l) (append-none xs)
no-inner paths are (x ∷ more) path none number at =
    no-inner paths are more (path ++ x ∷ []) (λ n there. let outer = are.nested n path x there in none outer.0 outer.1) number
    (subst (λ (p : Path). IsPath paths number p) (sym (append_assoc path (x ∷ []) more)) at)

-- a path through a container that has no number leads nowhere
pub path-nowhere : (paths : List Path) → AreContainers paths → (entries : Entries) (family : space.Family) (around : Path) (part next : Text) (more parts : Path)
    → ((path : Path) (name : Text) → ((number : ℕ) → IsPath paths number path → ⊥) → one_directly_in entries family path name ≡ None)
    → ((number : ℕ) → IsPath paths number (around ++ part ∷ []) → ⊥) → around ++ (part ∷ next ∷ more) ≡ parts → by_path entries family parts ≡ None
path-nowhere paths are entries family around part next more parts absent none is =
    let end = has-last more next in
    let split : parts ≡ ((around ++ part ∷ []) ++ end.0) ++ end.1.0 ∷ [] =
    sym is ∙ ap (λ (l : Path). around ++ (part ∷ l)) end.1.1 ∙ sym (append_assoc around (part ∷ []) (end.0 ++ end.1.0 ∷ [])) ∙ sym (append_assoc (around ++ part ∷ []) end.0 (end.1.0 ∷ [])) in
    ap (by_path entries family) split ∙ path-one entries family ((around ++ part ∷ []) ++ end.0) end.1.0
    ∙ absent ((around ++ part ∷ []) ++ end.0) end.1.0 (no-inner paths are end.0 (around ++ part ∷ []) none)

-- ---- the names of a path

parts-length : (name : Text) → length (name_parts name) ≡ count_by (λ b. b == dot) name + 1
parts-length name = length-slice_split (λ b. b == dot) name

pub parts-some : (name : Text) → (first : Text) × ((more : Path) × (name_parts name ≡ first ∷ more))
parts-some name = by (name_parts name) refl
  where
    by : (parts : Path) → name_parts name ≡ parts → (first : Text) × ((more : Path) × (name_parts name ≡ first ∷ more))
    by [] e = absurd (let size = parts-length name in let none = ap length e in omega (arith, size, none))
    by (first ∷ more) e = (first, (more, e))

-- the first dot ends the first name
pub first-part : (name : Text) (at : ℕ) → position (λ b. b == dot) name ≡ Some at → (at < length name) × (name_parts name ≡ take at name ∷ name_parts (drop (at + 1) name))
first-part name at h = by (nat_lt (position_or_len (λ b. b == dot) name) (length name)) refl
  where
    by : (b : Bool) → nat_lt (position_or_len (λ b. b == dot) name) (length name) ≡ b → (at < length name) × (name_parts name ≡ take at name ∷ name_parts (drop (at + 1) name))
    by false e = absurd (let bad : None ≡ Some at = sym (ap (λ b. if b then Some (position_or_len (λ b. b == dot) name) else None) e) ∙ h in cc)
    by true e =
        (let found : Some (position_or_len (λ b. b == dot) name) ≡ Some at = sym (ap (λ b. if b then Some (position_or_len (λ b. b == dot) name) else None) e) ∙ h in
        let is : position_or_len (λ b. b == dot) name ≡ at = cc in
        let low = ltb-true (position_or_len (λ b. b == dot) name) (length name) e in (
          subst (λ n. n < length name) is low,
          slice_split_first (λ b. b == dot) name 0 low ∙ ap (λ n. take n name ∷ name_parts (drop (n + 1) name)) is,
        ))

one-from : (from : ℕ) (name : Text) → position_from (λ b. b == dot) from name ≡ None → name_parts name ≡ name ∷ []
one-from from [] h = refl
one-from from (x ∷ name) h = by (x == dot) refl (one-from (from + 1) name)
  where
    by : (b : Bool) → (x == dot) ≡ b → (position_from (λ b. b == dot) (from + 1) name ≡ None → name_parts name ≡ name ∷ []) → name_parts (x ∷ name) ≡ (x ∷ name) ∷ []
    by true e rest = absurd (let bad : Some from ≡ None = sym (ap (λ b. if b then Some from else position_from (λ b. b == dot) (from + 1) name) e) ∙ h in cc)
    by false e rest =
        (let none = rest (sym (ap (λ b. if b then Some from else position_from (λ b. b == dot) (from + 1) name) e) ∙ h) in
        ap (λ b. if b then ([] ∷ name_parts name) else onto_first x (name_parts name)) e ∙ ap (λ (l : Path). onto_first x l) none)

-- without a dot there is one name
pub one-part : (name : Text) → position (λ b. b == dot) name ≡ None → name_parts name ≡ name ∷ []
one-part name h = one-from 0 name (sym (position_from-zero (λ b. b == dot) name) ∙ h)

pub dot-is-path : (name : Text) → is_some (position (λ b. b == dot) name) ≡ is_path name
dot-is-path name = by (position (λ b. b == dot) name) refl
  where
    by : (o : Option ℕ) → position (λ b. b == dot) name ≡ o → is_some (position (λ b. b == dot) name) ≡ is_path name
    by None e = ap is_some e ∙ sym (ap (λ (l : Path). nat_le 2 (length l)) (one-part name e))
    by (Some at) e =
        (let f = first-part name at e in
        let size = parts-length (drop (at + 1) name) in
        let long : 2 ≤ suc (length (name_parts (drop (at + 1) name))) = omega (arith, size) in
        ap is_some e ∙ sym (ap (λ (l : Path). nat_le 2 (length l)) f.1 ∙ le-leb 2 (suc (length (name_parts (drop (at + 1) name)))) long))

-- ---- the answers of a table

scoped-inside : (family : Family) → space.is_scoped (meant family) ≡ true → has_inside family true ≡ true
scoped-inside kept.Events h = refl
scoped-inside kept.Parameters h = refl
scoped-inside kept.FaultTrees h = absurd (false≢true h)
scoped-inside kept.Components h = refl
scoped-inside kept.Groups h = absurd (false≢true h)
scoped-inside kept.EventTrees h = absurd (false≢true h)
scoped-inside kept.InitiatingEvents h = absurd (false≢true h)
scoped-inside kept.FunctionalEvents h = refl
scoped-inside kept.Sequences h = refl
scoped-inside kept.Branches h = refl
scoped-inside kept.Rules h = absurd (false≢true h)

contained-more : (path : Path) (last : Text) → is_contained (path ++ last ∷ []) ≡ true
contained-more [] last = refl
contained-more (x ∷ path) last = refl

pub inside-scoped : (entries : Entries) (paths : List Path) (places : List (Key × ℕ)) → IsRight entries paths places → (family : Family) (number : ℕ) (name : Text) → space.is_scoped (meant family) ≡ true → number < length paths
    → is_contained (path_at paths number) ≡ true → place_of places (inside_address family number name) ≡ one_directly_in entries (meant family) (path_at paths number) name
inside-scoped entries paths places right family number name scoped low contained =
    right.inside family number (path_at paths number) name (ap (has_inside family) contained ∙ scoped-inside family scoped) (path-stands paths number low)

pub around-contained : (paths : List Path) (number outer : ℕ) → IsAround paths number outer → is_contained (path_at paths number) ≡ true
around-contained paths number outer is = ap is_contained is.path ∙ contained-more (path_at paths outer) is.name

-- the names before the last of a path
pub path-contained : (path : Path) (last name : Text) → is_path name ≡ true → path ++ last ∷ [] ≡ name_parts name → is_contained path ≡ true
path-contained [] last name is joined = absurd (false≢true (ap (λ (l : Path). nat_le 2 (length l)) joined ∙ is))
path-contained (x ∷ path) last name is joined = refl

take-whole : (n : ℕ) (xs : List ℕ) → length xs ≤ n → take n xs ≡ xs
take-whole zero [] h = refl
take-whole (suc n) [] h = refl
take-whole zero (x ∷ xs) h = absurd (omega arith)
take-whole (suc n) (x ∷ xs) h = ap (λ (l : List ℕ). x ∷ l) (take-whole n xs (omega arith))

pub take-rest : (n : ℕ) (xs : List ℕ) → take (length xs - n) (drop n xs) ≡ drop n xs
take-rest n xs = take-whole (length xs - n) (drop n xs) (let size = length-drop n xs in omega (arith, size))
