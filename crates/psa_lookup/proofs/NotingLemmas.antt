-- Addresses that are noted one after the other.
use Rattle.std.proofs.Common.{◌≡◌, ◌||◌, ◌↔◌, ℕ, Bool, true, false, List, [], ◌∷◌, ◌++◌, Option, Some, None, is_some, not, IsTrue, if◌then◌else◌, refl, sym, ap, ◌∙◌}
use Rattle.std.proofs.lemmas.Bool.{false≢true}
use Rattle.std.specs.List.{list_any}
use Rattle.psa_spaces.specs.Addresses.{Address, same_address, place_of}
use Rattle.psa_spaces.specs.declared.key.Key.{Key}
use Rattle.psa_lookup.specs.Keys.{is_contained}
use Rattle.psa_lookup.specs.Noting.{after_noting}
use Rattle.psa_lookup.proofs.BoolLemmas.{any-append}

pub two-noted : (before middle after : List (Key × ℕ)) (a b : List Address) (place : ℕ) → ((address : Address) → place_of middle address ≡ after_noting before a place address) → ((address : Address) → place_of after address ≡ after_noting middle b place address) → (address : Address) → place_of after address ≡ after_noting before (a ++ b) place address
two-noted before middle after a b place first second address =
    let test : Address → Bool = λ its. same_address its address in
    second address ∙ ap (λ m. if is_some m then m else if list_any test b then Some place else None) (first address)
    ∙ by (place_of before address) (list_any test a) (list_any test b)
    ∙ ap (λ p. if is_some (place_of before address) then place_of before address else if p then Some place else None) (sym (any-append test a b))
  where
    by : (r : Option ℕ) (p q : Bool)
        → (if is_some (if is_some r then r else if p then Some place else None) then (if is_some r then r else if p then Some place else None) else if q then Some place else None)
        ≡ (if is_some r then r else if p || q then Some place else None)
    by (Some x) p q = refl
    by None true q = refl
    by None false q = refl

pub contained-is : (b : Bool) (names : List (List ℕ)) → (IsTrue b ↔ (names ≡ [])) → not b ≡ is_contained names
contained-is true [] h = refl
contained-is true (name ∷ names) h = absurd (let bad : name ∷ names ≡ [] = h.0 refl in cc)
contained-is false [] h = absurd (false≢true (h.1 refl))
contained-is false (name ∷ names) h = refl
