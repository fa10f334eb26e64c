-- The first place of a name in a space. (This project's own.)
use Rattle.std.specs.Prelude.{◌==◌, ℕ, Bool, List, Option, Some, None, is_some, ◌&&◌, if◌then◌else◌}
use Rattle.std.specs.Map.{lookup}
use Rattle.std.specs.Str.{bytes_eq}
use denote.Enum.Bare.{sameb}
use Rattle.psa_spaces.specs.contracts.key.Scope as scopes
use Rattle.psa_spaces.specs.contracts.key.Family as families
use Rattle.psa_spaces.specs.declared.key.Scope.{Scope}
use Rattle.psa_spaces.specs.declared.key.Family.{Family}
use Rattle.psa_spaces.specs.declared.key.Key.{Key}

-- a key, with the bytes of its name
pub record Address : Type 0 where
  pub scope : Scope
  pub family : Family
  pub within : ℕ
  pub name : List ℕ

abbrev pub address_of : Key → Address
address_of key = record { scope = key.scope; family = key.family; within = key.within; name = key.name.now }

abbrev pub same_address : Address → Address → Bool
same_address one other =
    sameb scopes.the_type one.scope other.scope
    && (sameb families.the_type one.family other.family
    && (one.within == other.within && bytes_eq one.name other.name))

-- the place that a list of keys and places has for an address
abbrev pub place_of : List (Key × ℕ) → Address → Option ℕ
place_of entries address = lookup (λ key. same_address address (address_of key)) entries

-- what it has once an address was given a place, unless it had one
abbrev pub place_after : List (Key × ℕ) → Address → ℕ → Address → Option ℕ
place_after before noted place address =
    if is_some (place_of before address) then place_of before address
    else if same_address noted address then Some place else None
