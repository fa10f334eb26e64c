-- Keys and the first place of each.
use Rattle.std.proofs.Common.{◌≡◌, ◌==◌, ◌&&◌, ℕ, Bool, true, false, cond, List, Option, Some, None, refl, ap, ◌∙◌, rules, eq-eqb, eqb-true}
use Rattle.std.proofs.lemmas.Bool.{and_parts, and_from}
use Rattle.std.proofs.lemmas.Slice.Eq.{bytes_eq-Decides}
use Rattle.std.specs.Str.{bytes_eq}
use denote.Enum.Bare.{sameb, same_true, true_same}
use Rattle.psa_spaces.specs.contracts.key.Scope as scopes
use Rattle.psa_spaces.specs.contracts.key.Family as families
use Rattle.psa_spaces.specs.declared.key.Key.{Key}
use Rattle.psa_spaces.specs.Addresses.{Address, same_address, place_of, place_after}

pub address-exact : (a b : Address) → same_address a b ≡ true → a ≡ b
address-exact a b h =
    let p = and_parts (sameb scopes.the_type a.scope b.scope) (sameb families.the_type a.family b.family && (a.within == b.within && bytes_eq a.name b.name)) h in
    let q = and_parts (sameb families.the_type a.family b.family) (a.within == b.within && bytes_eq a.name b.name) p.1 in
    let r = and_parts (a.within == b.within) (bytes_eq a.name b.name) q.1 in
    let scope = same_true scopes.the_type (search rules) a.scope b.scope p.0 in
    let family = same_true families.the_type (search rules) a.family b.family q.0 in
    let within = eqb-true a.within b.within r.0 in
    let name = (bytes_eq-Decides a.name b.name).0 r.1 in
    λ i. record { scope = scope i; family = family i; within = within i; name = name i }

pub address-own : (a : Address) → same_address a a ≡ true
address-own a =
    and_from _ _ (true_same scopes.the_type a.scope a.scope refl) (and_from _ _ (true_same families.the_type a.family a.family refl) (and_from _ _ (eq-eqb a.within a.within refl) ((bytes_eq-Decides a.name a.name).1 refl)))

-- an address that had a place is noted again: nothing changes
pub after-old : (entries : List (Key × ℕ)) (noted : Address) (place old : ℕ) → Some old ≡ place_of entries noted → (address : Address) → place_of entries address ≡ place_after entries noted place address
after-old entries noted place old there address = by (place_of entries address) (same_address noted address) refl refl
  where
    by : (r : Option ℕ) (b : Bool) → place_of entries address ≡ r → same_address noted address ≡ b → place_of entries address ≡ place_after entries noted place address
    by (Some x) b e f = rw e refl
    by None true e f = (let same : noted ≡ address = address-exact noted address f in let bad : Some old ≡ None = there ∙ ap (place_of entries) same ∙ e in cc)
    by None false e f = rw (e, f) refl

-- a new address is noted
pub after-new : (entries new : List (Key × ℕ)) (noted : Address) (place : ℕ) → None ≡ place_of entries noted → ((address : Address) → place_of new address ≡ cond (same_address noted address) (Some place) (place_of entries address)) → (address : Address) → place_of new address ≡ place_after entries noted place address
after-new entries new noted place none updates address = updates address ∙ by (place_of entries address) (same_address noted address) refl refl
  where
    by : (r : Option ℕ) (b : Bool) → place_of entries address ≡ r → same_address noted address ≡ b → cond (same_address noted address) (Some place) (place_of entries address) ≡ place_after entries noted place address
    by (Some x) true e f = (let same : noted ≡ address = address-exact noted address f in let bad : None ≡ Some x = none ∙ ap (place_of entries) same ∙ e in cc)
    by (Some x) false e f = rw (e, f) refl
    by None true e f = rw (e, f) refl
    by None false e f = rw (e, f) refl
