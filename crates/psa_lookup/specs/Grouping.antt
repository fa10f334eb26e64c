-- The events that groups define, as they are kept. (This project's own.)
use Rattle.std.specs.Prelude.{ℕ, List, Option, map, filter, is_some, ◌&&◌, not, if◌then◌else◌}
use Rattle.std.specs.List.{position_from}
use Rattle.std.specs.Str.{bytes_eq}
use Rattle.psa_model.specs.PathNames.{Text, is_path}
use Rattle.psa_model.specs.declared.draft.DraftReference.{DraftReference}
use Rattle.psa_spaces.specs.Addresses.{Address}
use Rattle.psa_spaces.specs.declared.key.Family.TheVariants.{Events}
use Rattle.psa_spaces.specs.declared.key.Scope.TheVariants.{Grouped}
use Rattle.psa_names.specs.NameSpaces.{events}
use Rattle.psa_names.specs.Outlines.{Entries}
use Rattle.psa_names.specs.Meanings.{definition_named}

abbrev pub grouped_address : Text → Address
grouped_address name = record { scope = Grouped; family = Events; within = 0; name = name }

-- the names of the members that a group in this container defines
abbrev pub absent_names : Entries → List Text → List DraftReference → List Text
absent_names entries container members =
    map (λ member. member.name)
    (filter (λ member. not (is_path member.name) && not (is_some (definition_named entries events container member.name))) members)

-- the number of a name, or that among more names, numbered from here on
abbrev pub first_grouped : Option ℕ → ℕ → Text → List Text → Option ℕ
first_grouped known from name names =
    if is_some known then known else position_from (λ one. bytes_eq one name) from names
