-- Which definitions stand at an address, and the first of them.
use Rattle.std.proofs.Common.{◌≡◌, ◌+◌, ◌||◌, ◌&&◌, ◌==◌, ℕ, suc, Bool, true, false, List, [], ◌∷◌, ◌++◌, length, slice_get, Some, None, is_some, if◌then◌else◌, refl, sym, ap, ◌∙◌, arith, eqb-true, eq-eqb}
use Rattle.std.specs.List.{list_any, position_from}
use Rattle.std.specs.Str.{bytes_eq}
use denote.Enum.Declared.{tag_of}
use denote.Enum.Bare.{sameb}
use Rattle.psa_model.specs.Drafts.{same_texts}
use Rattle.psa_model.specs.PathNames.{Text}
use Rattle.psa_spaces.specs.contracts.key.Family as families
use Rattle.psa_spaces.specs.declared.key.Family.{Family}
use Rattle.psa_spaces.specs.Addresses.{Address, same_address, place_of}
use Rattle.psa_spaces.specs.declared.key.Key.{Key}
use Rattle.psa_spaces.specs.Paths.{Path, IsPath, AreContainers}
use Rattle.psa_names.specs.NameSpaces as space
use Rattle.psa_names.specs.Outlines.{Entry, Entries}
use Rattle.psa_lookup.specs.Keys.{kept_as, whole_address, inside_address, only_if, family_kept, whole_wanted, inside_wanted, addresses_with, number_of, stands_at, first_with}
use Rattle.psa_lookup.specs.Noting.{after_noting}
use Rattle.psa_lookup.proofs.BoolLemmas.{both}
use Rattle.psa_lookup.proofs.NumberLemmas.{number-is, texts-same, same-texts}

-- ---- families

kept-number : (family : space.Family) → tag_of families.the_type (kept_as family) ≡ space.family_number family
kept-number space.events = refl
kept-number space.parameters = refl
kept-number space.fault_trees = refl
kept-number space.components = refl
kept-number space.groups = refl
kept-number space.event_trees = refl
kept-number space.initiating_events = refl
kept-number space.functional_events = refl
kept-number space.sequences = refl
kept-number space.branches = refl
kept-number space.rules = refl

pub kept-same : (one other : space.Family) → sameb families.the_type (kept_as one) (kept_as other) ≡ space.same_family one other
kept-same one other =
    ap (λ n. n == tag_of families.the_type (kept_as other)) (kept-number one) ∙ ap (λ n. space.family_number one == n) (kept-number other)

-- ---- the tests of addresses

abbrev pub same_kept : Family → Family → Bool
same_kept one other = sameb families.the_type one other

no-more : (b : Bool) → (b && false) ≡ false
no-more true = refl
no-more false = refl

none-here : (b : Bool) → (b || false) ≡ b
none-here true = refl
none-here false = refl

-- at an address of the whole model
pub at-whole : (number : ℕ) (one : Entry) (family : Family) (name : Text) → list_any (λ its. same_address its (whole_address family name)) (addresses_with number one) ≡ (whole_wanted one && (same_kept (family_kept one) family && bytes_eq one.name name))
at-whole number one family name = by (whole_wanted one) (inside_wanted one) refl refl
  where
    by : (w i : Bool) → whole_wanted one ≡ w → inside_wanted one ≡ i → list_any (λ its. same_address its (whole_address family name)) (only_if (whole_wanted one) (whole_address (family_kept one) one.name) ++ only_if (inside_wanted one) (inside_address (family_kept one) number one.name)) ≡ (whole_wanted one && (same_kept (family_kept one) family && bytes_eq one.name name))
    by true true e f = rw (e, f) (none-here (same_kept (family_kept one) family && bytes_eq one.name name))
    by true false e f = rw (e, f) (none-here (same_kept (family_kept one) family && bytes_eq one.name name))
    by false true e f = rw (e, f) refl
    by false false e f = rw (e, f) refl

-- at an address in a container
pub at-inside : (number : ℕ) (one : Entry) (family : Family) (within : ℕ) (name : Text) → list_any (λ its. same_address its (inside_address family within name)) (addresses_with number one) ≡ (inside_wanted one && (same_kept (family_kept one) family && (number == within && bytes_eq one.name name)))
at-inside number one family within name = by (whole_wanted one) (inside_wanted one) refl refl
  where
    by : (w i : Bool) → whole_wanted one ≡ w → inside_wanted one ≡ i → list_any (λ its. same_address its (inside_address family within name)) (only_if (whole_wanted one) (whole_address (family_kept one) one.name) ++ only_if (inside_wanted one) (inside_address (family_kept one) number one.name)) ≡ (inside_wanted one && (same_kept (family_kept one) family && (number == within && bytes_eq one.name name)))
    by true true e f = rw (e, f) (none-here (same_kept (family_kept one) family && (number == within && bytes_eq one.name name)))
    by true false e f = rw (e, f) refl
    by false true e f = rw (e, f) (none-here (same_kept (family_kept one) family && (number == within && bytes_eq one.name name)))
    by false false e f = rw (e, f) refl

-- paths that stand have one number exactly where they are one
pub same-number : (paths : List Path) → AreContainers paths → (one other : ℕ) (path another : Path) → IsPath paths one path → IsPath paths other another → (number_of paths path == other) ≡ same_texts path another
same-number paths are one other path another at there =
    both (number_of paths path == other) (same_texts path another)
    (λ h. same-texts path another
    (let same : one ≡ other = sym (number-is paths are one path at) ∙ eqb-true (number_of paths path) other h in
    let both-at : Some path ≡ Some another = sym at ∙ ap (slice_get paths) same ∙ there in
    cc))
    (λ h. eq-eqb (number_of paths path) other
    (ap (number_of paths) (texts-same path another h) ∙ number-is paths are other another there))

-- ---- the first that stands at an address

pub first-one : {A : Type 0} (p : A → Bool) (from : ℕ) (xs : List A) (x : A) → position_from p from (xs ++ x ∷ []) ≡ (if is_some (position_from p from xs) then position_from p from xs else if p x then Some (from + length xs) else None)
first-one p from [] x = ap (λ n. if p x then Some n else None) (let e : from ≡ from + 0 = omega arith in e)
first-one {A} p from (y ∷ ys) x = by (p y) refl (first-one p (from + 1) ys x)
  where
    by : (b : Bool) → p y ≡ b → position_from p (from + 1) (ys ++ x ∷ []) ≡ (if is_some (position_from p (from + 1) ys) then position_from p (from + 1) ys else if p x then Some (from + 1 + length ys) else None) → position_from p from ((y ∷ ys) ++ x ∷ []) ≡ (if is_some (position_from p from (y ∷ ys)) then position_from p from (y ∷ ys) else if p x then Some (from + length (y ∷ ys)) else None)
    by true e rest = rw e refl
    by false e rest = rw e (rest ∙ ap (λ n. if is_some (position_from p (from + 1) ys) then position_from p (from + 1) ys else if p x then Some n else None) (let e : from + 1 + length ys ≡ from + suc (length ys) = omega arith in e))

pub first-some : {A : Type 0} (p : A → Bool) (from : ℕ) (xs : List A) → is_some (position_from p from xs) ≡ list_any p xs
first-some p from [] = refl
first-some p from (x ∷ xs) = by (p x) refl (first-some p (from + 1) xs)
  where
    by : (b : Bool) → p x ≡ b → is_some (position_from p (from + 1) xs) ≡ list_any p xs → is_some (position_from p from (x ∷ xs)) ≡ list_any p (x ∷ xs)
    by true e rest = rw e refl
    by false e rest = rw e rest

pub first-same : {A : Type 0} (p q : A → Bool) (from : ℕ) (xs : List A) → ((i : ℕ) (x : A) → slice_get xs i ≡ Some x → p x ≡ q x) → position_from p from xs ≡ position_from q from xs
first-same p q from [] same = refl
first-same p q from (x ∷ xs) same =
    ap (λ b. if b then Some from else position_from p (from + 1) xs) (same 0 x refl)
    ∙ ap (λ r. if q x then Some from else r) (first-same p q (from + 1) xs (λ i y at. same (suc i) y at))

-- one definition more is noted
pub noted-one : (paths : List Path) (entries : Entries) (one : Entry) (old new : List (Key × ℕ)) (place number : ℕ) → place ≡ length entries → number ≡ number_of paths one.container
    → ((address : Address) → place_of old address ≡ first_with paths entries address)
    → ((address : Address) → place_of new address ≡ after_noting old (addresses_with number one) place address)
    → (address : Address) → place_of new address ≡ first_with paths (entries ++ one ∷ []) address
noted-one paths entries one old new place number size is before after address =
    after address
    ∙ ap (λ o. if is_some o then o else if list_any (λ its. same_address its address) (addresses_with number one) then Some place else None) (before address)
    ∙ ap (λ n. if is_some (first_with paths entries address) then first_with paths entries address else if list_any (λ its. same_address its address) (addresses_with n one) then Some place else None) is
    ∙ ap (λ n. if is_some (first_with paths entries address) then first_with paths entries address else if stands_at paths address one then Some n else None) (let e : place ≡ 0 + length entries = omega (arith, size) in e)
    ∙ sym (first-one (stands_at paths address) 0 entries one)
