-- Chains of references from definition to definition, and the depth of elements. (The limit of depth is this project's
-- own.)
use Rattle.std.specs.Prelude.{◌==◌, ℕ, zero, suc, Bool, true, false, List, [], ◌∷◌, ◌++◌, Option, Some, None, slice_get, filter_map, flat_map, Contains, ◌&&◌, ◌||◌, if◌then◌else◌}
use Rattle.std.specs.List.{list_all, list_any}
use Rattle.std.specs.Option.{option_and_then, option_map_or}
use Rattle.psa_model.specs.PathNames.{is_path}
use Rattle.psa_model.specs.declared.draft.DefinitionKind.{DefinitionKind}
use Rattle.psa_model.specs.declared.draft.DefinitionKind.TheVariants as kind
use Rattle.psa_model.specs.declared.draft.EventKind.TheVariants as asked
use Rattle.psa_names.specs.Outlines.{event, Reference, Outline, Outlines, element, none, and, Entry, Entries}
use Rattle.psa_names.specs.Meanings.{Meaning, definition, of_group, members_of, meaning_of}

-- ---- the references of a definition

-- the reference that an element is, if it is one, as a list
abbrev pub own_reference : Option Reference → List Reference
own_reference None = []
own_reference (Some reference) = reference ∷ []

abbrev mutual
  -- the references of an element and of all that stands in it, in document order
  pub references_in : Outline → List Reference
  references_in (element reference inside) = own_reference reference ++ references_in_all inside

  -- those of elements one behind the other
  pub references_in_all : Outlines → List Reference
  references_in_all none = []
  references_in_all (and one others) = references_in one ++ references_in_all others

-- the members of a group that are paths, as references to basic events
abbrev pub path_members : Entry → List Reference
path_members one =
    filter_map (λ member. if is_path member.name then Some (record { kind = event asked.Basic; written = member }) else None)
    (members_of one.body)

-- the references of an entry that lead somewhere, those of a group's paths first
abbrev pub references_of : Entry → List Reference
references_of one = path_members one ++ flat_map references_in one.outlines

-- ---- chains

-- the kinds of definitions that chains of references lead through
abbrev pub is_chained : DefinitionKind → Bool
is_chained kind.Gate = true
is_chained kind.Parameter = true
is_chained kind.Rule = true
is_chained kind.Sequence = true
is_chained kind.Branch = true
is_chained kind.EventTree = true
is_chained _ = false

-- a definition of those kinds, by its place in the draft
abbrev pub chained_place : Entries → Meaning → Option ℕ
chained_place entries (definition place) =
    if option_map_or (λ one. is_chained one.kind) (slice_get entries place) false then Some place else None
chained_place entries (of_group name) = None

-- where a reference leads on to
abbrev pub followed : Entries → Entry → Reference → Option ℕ
followed entries from reference = option_and_then (chained_place entries) (meaning_of entries from reference)

-- the definitions that one refers to, all of those kinds
abbrev pub followed_from : Entries → Entry → List ℕ
followed_from entries one = if is_chained one.kind then filter_map (followed entries one) (references_of one) else []

-- the places that the entry at a place leads to
abbrev pub refers_to : Entries → ℕ → List ℕ
refers_to entries place = option_map_or (followed_from entries) (slice_get entries place) []

-- a chain of so many references leads from one definition to another
pub data Chain (entries : Entries) (to : ℕ) : ℕ → ℕ → Type 0 where
  direct : (from : ℕ) → Contains (refers_to entries from) to → Chain entries to 1 from
  further : (steps from next : ℕ) → Contains (refers_to entries from) next → Chain entries to steps next → Chain entries to (suc steps) from

-- the test of a chain of at most so many references
unfoldable pub leads : ℕ → Entries → ℕ → ℕ → Bool
leads zero entries from to = false
leads (suc steps) entries from to = list_any (λ next. (next == to) || leads steps entries next to) (refers_to entries from)

-- ---- depth

-- all outlines of a list pass a test
abbrev pub all_pass : (Outline → Bool) → Outlines → Bool
all_pass test none = true
all_pass test (and one others) = test one && all_pass test others

-- what a reference leads on to passes a test, or it leads nowhere
abbrev pub passes_on : (Entry → Bool) → Entries → Option ℕ → Bool
passes_on test entries None = true
passes_on test entries (Some place) = option_map_or test (slice_get entries place) true

-- The depth of an element is at most so many levels: it is one more than the greatest depth of what stands in it and of
-- the definition that it refers to. The depth of a definition is that of what stands in it.
unfoldable pub is_within : ℕ → Entries → Entry → Outline → Bool
is_within zero entries from outline = false
is_within (suc levels) entries from (element reference inside) =
    all_pass (λ one. is_within levels entries from one) inside
    && passes_on (λ to. list_all (λ one. is_within levels entries to one) to.outlines) entries
    (option_and_then (followed entries from) reference)

-- each outline of an entry is within so many levels
abbrev pub is_within_all : ℕ → Entries → Entry → Bool
is_within_all levels entries one = list_all (is_within levels entries one) one.outlines
