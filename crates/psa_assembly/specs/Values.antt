-- The order of values, from the numbers of definitions. (This project's own.)
use Rattle.std.specs.Prelude.{◌==◌, ℕ, Bool, List, [], ◌∷◌, ◌&&◌, not, if◌then◌else◌}
use Rattle.std.specs.List.{list_any}
use Rattle.psa_model.specs.declared.ids.EventId.{EventId}
use Rattle.psa_model.specs.declared.model.Group.{Group}
use Rattle.psa_model.specs.declared.model.Valued.{Valued}
use Rattle.psa_model.specs.declared.model.Valued.TheVariants as valued
use Rattle.psa_names.specs.Ids.{kind_number}
use Rattle.psa_bodies.specs.declared.numbers.Numbered.{Numbered}

abbrev pub is_among : ℕ → List EventId → Bool
is_among id members = list_any (λ member. member.0 == id) members

abbrev pub has_member : ℕ → Group → Bool
has_member id group = is_among id group.members

-- a group, or a basic event that is no member of a group
abbrev pub valued_by : (ℕ → Bool) → Numbered → List Valued
valued_by is_member one =
    if kind_number one.kind == 5 then valued.Group (record { 0 = one.id }) ∷ []
    else if (kind_number one.kind == 2) && not (is_member one.id) then valued.Basic (record { 0 = one.id }) ∷ []
    else []
