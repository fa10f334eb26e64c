-- What noting the addresses of definitions does to a table. (This project's own.)
use Rattle.std.specs.Prelude.{ℕ, List, Option, Some, None, is_some, if◌then◌else◌}
use Rattle.std.specs.List.{list_any}
use Rattle.psa_spaces.specs.Addresses.{Address, same_address, place_of}
use Rattle.psa_spaces.specs.declared.key.Key.{Key}

-- what a table has for an address once these got a place, each unless it had one
abbrev pub after_noting : List (Key × ℕ) → List Address → ℕ → Address → Option ℕ
after_noting before noted place address =
    if is_some (place_of before address) then place_of before address
    else if list_any (λ its. same_address its address) noted then Some place else None
