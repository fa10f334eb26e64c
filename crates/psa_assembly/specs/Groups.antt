-- Common cause groups, their members and factors. (This project's own.)
use Rattle.std.specs.Prelude.{◌==◌, List, [], ◌∷◌, map, insert, count_by, filter_map, None, nat_le, ◌||◌, not, if◌then◌else◌}
use Rattle.std.specs.Option.{option_map}
use Rattle.psa_model.specs.PathNames.{Text, is_path}
use Rattle.psa_model.specs.declared.ids.EventId.{EventId}
use Rattle.psa_model.specs.declared.ids.Place.{Place}
use Rattle.psa_model.specs.declared.model.BasicEvent.{BasicEvent}
use Rattle.psa_model.specs.declared.limits.TheConstants.{MAX_MEMBERS}
use Rattle.psa_model.specs.declared.model.Factor.{Factor}
use Rattle.psa_model.specs.declared.draft.DraftFactor.{DraftFactor}
use Rattle.psa_model.specs.declared.draft.DraftReference.{DraftReference}
use Rattle.psa_model.specs.declared.draft.EventKind.TheVariants as asked
use Rattle.psa_names.specs.declared.found.Sense.{Sense}
use Rattle.psa_names.specs.declared.found.Sense.TheVariants.{Definition, OfGroup}
use Rattle.psa_names.specs.Outlines.{Reference, Entries, event, expression_outline}
use Rattle.psa_names.specs.Chains.{references_in}
use Rattle.psa_names.specs.Found.{meaning_of_sense}
use Rattle.psa_names.specs.Ids.{basic_id}

-- the basic events that members stand for
abbrev pub ids_of : Entries → List Sense → List EventId
ids_of entries senses =
    map (λ id. record { 0 = id }) (filter_map (λ sense. option_map (basic_id entries) (meaning_of_sense entries sense)) senses)

-- a member that is a path is a reference to a basic event
abbrev pub path_references : DraftReference → List Reference
path_references member = if is_path member.name then record { kind = event asked.Basic; written = member } ∷ [] else []

abbrev pub factor_references : DraftFactor → List Reference
factor_references factor = references_in (expression_outline factor.expression)

-- one more factor, behind those of its level and of lower ones
abbrev pub with_factor : List Factor → Factor → List Factor
with_factor factors one =
    if (one.level == 0) || not (nat_le one.level MAX_MEMBERS) then factors
    else insert factors (count_by (λ other. nat_le other.level one.level) factors) one

-- the names of the members that stand for basic events of groups
abbrev pub names_of_groups : List DraftReference → List Sense → List Text
names_of_groups (member ∷ members) (OfGroup number ∷ senses) = member.name ∷ names_of_groups members senses
names_of_groups (member ∷ members) (Definition place ∷ senses) = names_of_groups members senses
names_of_groups _ _ = []

-- the basic event of a name that a group at a place defines
abbrev pub event_of_group : Place → Text → BasicEvent
event_of_group place name = record { name = name; place = place; expression = None }
