-- How deep the elements of a definition stand in it, and their references. (This project's own.)
use Rattle.std.specs.Prelude.{◌+◌, ◌<◌, ◌^◌, ℕ, List, [], ◌∷◌, ◌++◌, Option, Some, None, max, filter_map, if◌then◌else◌}
use Rattle.psa_model.specs.Drafts.{Contents}
use Rattle.psa_model.specs.PathNames.{is_path}
use Rattle.psa_model.specs.declared.draft.DraftReference.{DraftReference}
use Rattle.psa_model.specs.declared.draft.EventKind.TheVariants as asked
use Rattle.psa_names.specs.Outlines.{event, Reference, Outline, Outlines, element, none, and, Entry}
use Rattle.psa_names.specs.Meanings.{members_of}
use Rattle.psa_cycles.specs.declared.levels.Levels.{Levels}

-- ---- the elements of a definition that stand inside so many others

abbrev pub own_level : ℕ → Option Reference → List ℕ
own_level level None = []
own_level level (Some reference) = level ∷ []

-- the levels of the references
abbrev mutual
  pub levels_in : ℕ → Outline → List ℕ
  levels_in around (element reference inside) = own_level (around + 1) reference ++ levels_in_all (around + 1) inside

  pub levels_in_all : ℕ → Outlines → List ℕ
  levels_in_all around none = []
  levels_in_all around (and one others) = levels_in around one ++ levels_in_all around others

-- the greatest level of an element
abbrev mutual
  pub deepest_in : ℕ → Outline → ℕ
  deepest_in around (element reference inside) = max (around + 1) (deepest_in_all (around + 1) inside)

  pub deepest_in_all : ℕ → Outlines → ℕ
  deepest_in_all around none = 0
  deepest_in_all around (and one others) = max (deepest_in around one) (deepest_in_all around others)

-- a reference, as an element in which nothing stands
abbrev pub naming_alone : Reference → Outline
naming_alone reference = element (Some reference) none

-- members of a group that are paths, as elements of the group that refer to basic events
abbrev pub path_member : DraftReference → Option Outline
path_member member =
    if is_path member.name then Some (naming_alone (record { kind = event asked.Basic; written = member })) else None

abbrev pub members_of_paths : List DraftReference → List Outline
members_of_paths members = filter_map path_member members

-- the elements of a definition, of a group first the members that are paths
abbrev pub elements_of : Entry → List Outline
elements_of one = members_of_paths (members_of one.body) ++ one.outlines

-- ---- what was seen of elements

-- these levels of references are added, and elements of this greatest level
abbrev pub added : Levels → List ℕ → ℕ → Levels
added before levels deepest =
    record { references = before.references ++ levels; deepest = max before.deepest deepest }

abbrev pub with_outline : ℕ → Outline → Levels → Levels
with_outline around outline before = added before (levels_in around outline) (deepest_in around outline)

abbrev pub with_outlines : ℕ → Outlines → Levels → Levels
with_outlines around outlines before = added before (levels_in_all around outlines) (deepest_in_all around outlines)

-- the levels of these contents inside so many elements are machine numbers
abbrev pub HasRoom : ℕ → Contents → Type 0
HasRoom around contents = around + contents.nesting < 2 ^ 31
