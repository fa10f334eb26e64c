-- The places of definitions in the lists of the model. (This project's own.)
use Rattle.std.specs.Prelude.{◌==◌, ℕ, Bool, List, [], ◌∷◌, Option, Some, map, filter, flat_map, position, if◌then◌else◌}
use Rattle.std.specs.List.{enumerate_from}
use Rattle.std.specs.Option.{unwrap_or}
use Rattle.std.specs.Str.{bytes_eq}
use Rattle.psa_model.specs.PathNames.{Text}
use Rattle.psa_model.specs.declared.draft.DefinitionKind.{DefinitionKind}
use Rattle.psa_model.specs.declared.draft.DefinitionKind.TheVariants as kind
use Rattle.psa_model.specs.declared.draft.DraftReference.{DraftReference}
use Rattle.psa_names.specs.Outlines.{ReferenceKind, Entry, Entries}
use Rattle.psa_names.specs.Meanings.{Meaning, definition, of_group, defined_by_group, meaning_of}
use Rattle.psa_names.specs.GroupRules.{same_meaning}

-- the kinds of definitions, numbered to be compared
abbrev pub kind_number : DefinitionKind → ℕ
kind_number kind.FaultTree = 0
kind_number kind.Gate = 1
kind_number kind.BasicEvent = 2
kind_number kind.HouseEvent = 3
kind_number kind.Parameter = 4
kind_number kind.Group = 5
kind_number kind.InitiatingEvent = 6
kind_number kind.EventTree = 7
kind_number kind.FunctionalEvent = 8
kind_number kind.Sequence = 9
kind_number kind.Branch = 10
kind_number kind.Rule = 11
kind_number kind.Component = 12

-- an entry is of this kind
abbrev pub is_kind : DefinitionKind → Entry → Bool
is_kind its one = kind_number one.kind == kind_number its

-- the definitions of a kind, with their places in the draft
abbrev pub all_of_kind : DefinitionKind → Entries → List (ℕ × Entry)
all_of_kind its entries = filter (λ one. is_kind its one.1) (enumerate_from 0 entries)

-- the place of a definition among those of its kind
abbrev pub id_of : DefinitionKind → Entries → ℕ → ℕ
id_of its entries place = unwrap_or (position (λ one. one.0 == place) (all_of_kind its entries)) 0

-- what a definition adds to the basic events of the model: itself, or those that a group defines, at the group's place
abbrev pub basics_at : Entries → ℕ × Entry → List Meaning
basics_at entries one =
    if is_kind kind.BasicEvent one.1 then definition one.0 ∷ []
    else if is_kind kind.Group one.1 then map of_group (defined_by_group entries one.1)
    else []

-- all basic events of a draft in their order: those defined, and those that groups define
abbrev pub all_basics : Entries → List Meaning
all_basics entries = flat_map (basics_at entries) (enumerate_from 0 entries)

-- the place of a basic event in the model
abbrev pub basic_id : Entries → Meaning → ℕ
basic_id entries meaning = unwrap_or (position (λ one. same_meaning (Some one) (Some meaning)) (all_basics entries)) 0

-- the fault tree or event tree around a definition, by its place among those of its kind
abbrev pub tree_id : DefinitionKind → Entries → List Text → ℕ
tree_id its entries [] = 0
tree_id its entries (name ∷ names) =
    unwrap_or (position (λ one. bytes_eq one.1.name name) (all_of_kind its entries)) 0

-- the number, within its kind, of what a reference stands for
abbrev pub id_of_meaning : DefinitionKind → Entries → Option Meaning → ℕ
id_of_meaning its entries (Some (definition place)) = id_of its entries place
id_of_meaning its entries _ = 0

-- the place, among the definitions of a kind, of what a name in a definition stands for
abbrev pub referred_id : DefinitionKind → ReferenceKind → Entries → Entry → DraftReference → ℕ
referred_id its sought entries from name =
    id_of_meaning its entries (meaning_of entries from (record { kind = sought; written = name }))
