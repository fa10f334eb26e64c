-- The names that groups define, group after group.
use Rattle.std.proofs.Common.{◌≡◌, ◌≤◌, ◌+◌, ◌&&◌, ℕ, zero, suc, Bool, true, false, List, [], ◌∷◌, ◌++◌, length, map, flat_map, take, sum, slice_get, Option, Some, None, is_some, not, if◌then◌else◌, refl, sym, ap, ◌∙◌, arith, length-append}
use Rattle.std.proofs.lemmas.List.Sums.{sum_by-cons}
use Rattle.std.specs.List.{position_from}
use Rattle.std.specs.Str.{bytes_eq}
use Rattle.psa_model.specs.PathNames.{Text, is_path}
use Rattle.psa_model.specs.declared.draft.DraftReference.{DraftReference}
use Rattle.psa_model.specs.declared.draft.DraftDefinition.{DraftDefinition}
use Rattle.psa_names.specs.NameSpaces.{events}
use Rattle.psa_names.specs.Outlines.{Entry, Entries, entry_of}
use Rattle.psa_names.specs.Meanings.{definition_named, defined_by_group, members_of}
use Rattle.psa_lookup.specs.Grouping.{absent_names, first_grouped}
use Rattle.psa_lookup.proofs.AddressLemmas.{first-one}

abbrev pub is_absent_in : Entries → List Text → Text → Bool
is_absent_in entries container name = not (is_path name) && not (is_some (definition_named entries events container name))

-- one member more
pub absent-one : (entries : Entries) (container : List Text) (members : List DraftReference) (one : DraftReference) → absent_names entries container (members ++ one ∷ []) ≡ absent_names entries container members ++ (if is_absent_in entries container one.name then one.name ∷ [] else [])
absent-one entries container [] one = by (is_absent_in entries container one.name) refl
  where
    by : (b : Bool) → is_absent_in entries container one.name ≡ b → absent_names entries container (one ∷ []) ≡ (if is_absent_in entries container one.name then one.name ∷ [] else [])
    by true e = rw e refl
    by false e = rw e refl
absent-one entries container (x ∷ xs) one = by (is_absent_in entries container x.name) refl (absent-one entries container xs one)
  where
    by : (b : Bool) → is_absent_in entries container x.name ≡ b → absent_names entries container (xs ++ one ∷ []) ≡ absent_names entries container xs ++ (if is_absent_in entries container one.name then one.name ∷ [] else []) → absent_names entries container ((x ∷ xs) ++ one ∷ []) ≡ absent_names entries container (x ∷ xs) ++ (if is_absent_in entries container one.name then one.name ∷ [] else [])
    by true e rest = rw e (ap (λ (l : List Text). x.name ∷ l) rest)
    by false e rest = rw e rest

pub absent-few : (entries : Entries) (container : List Text) (members : List DraftReference) → length (absent_names entries container members) ≤ length members
absent-few entries container [] = omega arith
absent-few entries container (x ∷ xs) = by (is_absent_in entries container x.name) refl (absent-few entries container xs)
  where
    by : (b : Bool) → is_absent_in entries container x.name ≡ b → length (absent_names entries container xs) ≤ length xs → length (absent_names entries container (x ∷ xs)) ≤ length (x ∷ xs)
    by true e rest = rw e (omega (arith, rest))
    by false e rest = rw e (omega (arith, rest))

-- a name is noted at its number
pub grouped-one : (known : Option ℕ) (from : ℕ) (name : Text) (names : List Text) (one : Text) (now before : Option ℕ) (number : ℕ)
    → before ≡ first_grouped known from name names
    → number ≡ from + length names
    → now ≡ (if is_some before then before else if bytes_eq one name then Some number else None)
    → now ≡ first_grouped known from name (names ++ one ∷ [])
grouped-one known from name names one now before number was size is =
    is ∙ ap (λ o. if is_some o then o else if bytes_eq one name then Some number else None) was
    ∙ ap (λ n. if is_some (first_grouped known from name names) then first_grouped known from name names else if bytes_eq one name then Some n else None) size
    ∙ by known
  where
    by : (known : Option ℕ) → (if is_some (first_grouped known from name names) then first_grouped known from name names else if bytes_eq one name then Some (from + length names) else None) ≡ first_grouped known from name (names ++ one ∷ [])
    by (Some x) = refl
    by None = sym (first-one (λ its. bytes_eq its name) from names one)

-- two lists of names, numbered on
pub grouped-append : (known : Option ℕ) (from : ℕ) (name : Text) (names more : List Text) → first_grouped (first_grouped known from name names) (from + length names) name more ≡ first_grouped known from name (names ++ more)
grouped-append (Some x) from name names more = refl
grouped-append None from name [] more = ap (λ n. position_from (λ its. bytes_eq its name) n more) (let e : from + 0 ≡ from = omega arith in e)
grouped-append None from name (one ∷ names) more = by (bytes_eq one name) refl (grouped-append None (from + 1) name names more)
  where
    by : (b : Bool) → bytes_eq one name ≡ b → first_grouped (position_from (λ its. bytes_eq its name) (from + 1) names) (from + 1 + length names) name more ≡ position_from (λ its. bytes_eq its name) (from + 1) (names ++ more) → first_grouped (first_grouped None from name (one ∷ names)) (from + length (one ∷ names)) name more ≡ first_grouped None from name ((one ∷ names) ++ more)
    by true e rest = rw e refl
    by false e rest = rw e (ap (λ n. first_grouped (position_from (λ its. bytes_eq its name) (from + 1) names) n name more) (let e : from + suc (length names) ≡ from + 1 + length names = omega arith in e) ∙ rest)

-- ---- the groups of definitions

pub defined-is : (entries : Entries) (one : Entry) → defined_by_group entries one ≡ absent_names entries one.container (members_of one.body)
defined-is entries one = refl

pub absent-append : (entries : Entries) (container : List Text) (xs ys : List DraftReference) → absent_names entries container (xs ++ ys) ≡ absent_names entries container xs ++ absent_names entries container ys
absent-append entries container [] ys = refl
absent-append entries container (x ∷ xs) ys = by (is_absent_in entries container x.name) refl (absent-append entries container xs ys)
  where
    by : (b : Bool) → is_absent_in entries container x.name ≡ b → absent_names entries container (xs ++ ys) ≡ absent_names entries container xs ++ absent_names entries container ys → absent_names entries container ((x ∷ xs) ++ ys) ≡ absent_names entries container (x ∷ xs) ++ absent_names entries container ys
    by true e rest = rw e (ap (λ (l : List Text). x.name ∷ l) rest)
    by false e rest = rw e rest

pub absent-yes : (entries : Entries) (container : List Text) (one : DraftReference) → is_absent_in entries container one.name ≡ true → absent_names entries container (one ∷ []) ≡ one.name ∷ []
absent-yes entries container one h = rw h refl

pub absent-no : (entries : Entries) (container : List Text) (one : DraftReference) → is_absent_in entries container one.name ≡ false → absent_names entries container (one ∷ []) ≡ []
absent-no entries container one h = rw h refl

-- one group more, numbered on
pub count-more : (from count new : ℕ) (names more : List Text) → count ≡ from + length names → new ≡ count + length more → new ≡ from + length (names ++ more)
count-more from count new names more a b = (let size = length-append names more in omega (arith, size, a, b))

pub places-more : (known old now : Option ℕ) (from count : ℕ) (name : Text) (names more : List Text) → old ≡ first_grouped known from name names → count ≡ from + length names → now ≡ first_grouped old count name more → now ≡ first_grouped known from name (names ++ more)
places-more known old now from count name names more a b c =
    c ∙ ap (λ o. first_grouped o count name more) a ∙ ap (λ n. first_grouped (first_grouped known from name names) n name more) b ∙ grouped-append known from name names more

-- the names that some definitions' groups define
abbrev pub absent_of : Entries → List DraftDefinition → List Text
absent_of entries definitions = flat_map (λ (one : DraftDefinition). absent_names entries one.container (members_of one.body)) definitions

pub absent-all : (entries : Entries) (definitions : List DraftDefinition) → flat_map (defined_by_group entries) (map entry_of definitions) ≡ absent_of entries definitions
absent-all entries [] = refl
absent-all entries (one ∷ others) = ap (λ (l : List Text). absent_names entries one.container (members_of one.body) ++ l) (absent-all entries others)

abbrev pub members_in : List DraftDefinition → ℕ
members_in definitions = sum (map (λ (one : DraftDefinition). length (members_of one.body)) definitions)

pub absent-few-all : (entries : Entries) (definitions : List DraftDefinition) → length (absent_of entries definitions) ≤ members_in definitions
absent-few-all entries [] = omega arith
absent-few-all entries (one ∷ others) =
    let rest = absent-few-all entries others in
    let here = absent-few entries one.container (members_of one.body) in
    let size = length-append (absent_names entries one.container (members_of one.body)) (absent_of entries others) in
    let total = sum_by-cons (λ (n : ℕ). n) (length (members_of one.body)) (map (λ (d : DraftDefinition). length (members_of d.body)) others) in
    omega (arith, rest, here, size, total)

-- the members before a definition and its own are no more than all
pub members-front : (definitions : List DraftDefinition) (i : ℕ) (one : DraftDefinition) → slice_get definitions i ≡ Some one → members_in (take i definitions) + length (members_of one.body) ≤ members_in definitions
members-front [] i one at = absurd (cc)
members-front (x ∷ xs) zero one at =
    let same : x ≡ one = some-same x one at in
    let e = ap (λ (d : DraftDefinition). length (members_of d.body)) same in
    let total = sum_by-cons (λ (n : ℕ). n) (length (members_of x.body)) (map (λ (d : DraftDefinition). length (members_of d.body)) xs) in
    omega (arith, e, total)
  where
    some-same : (a b : DraftDefinition) → Some a ≡ Some b → a ≡ b
    some-same a b h = cc
members-front (x ∷ xs) (suc i) one at =
    let rest = members-front xs i one at in
    let total = sum_by-cons (λ (n : ℕ). n) (length (members_of x.body)) (map (λ (d : DraftDefinition). length (members_of d.body)) xs) in
    let front = sum_by-cons (λ (n : ℕ). n) (length (members_of x.body)) (map (λ (d : DraftDefinition). length (members_of d.body)) (take i xs)) in
    omega (arith, rest, total, front)

pub take-all : {A : Type 0} (n : ℕ) (xs : List A) → length xs ≤ n → take n xs ≡ xs
take-all zero [] h = refl
take-all (suc n) [] h = refl
take-all zero (x ∷ xs) h = absurd (omega arith)
take-all (suc n) (x ∷ xs) h = ap (λ l. x ∷ l) (take-all n xs (omega arith))
