-- The graph of a draft: which definitions each one refers to, and how deep its elements are nested. (This project's
-- own.)
use Rattle.std.specs.Prelude.{ℕ, List, [], ◌∷◌, Option, Some, None, map, if◌then◌else◌}
use Rattle.psa_chains.specs.declared.reference.Reference.{Reference}
use Rattle.psa_names.specs.declared.found.Sense.{Sense}
use Rattle.psa_names.specs.declared.found.Sense.TheVariants.{Definition, OfGroup}
use Rattle.psa_names.specs.Outlines.{Entry, Entries, joined}
use Rattle.psa_names.specs.Meanings.{definition}
use Rattle.psa_names.specs.Chains.{is_chained, chained_place, followed, references_of}
use Rattle.psa_cycles.specs.Levels.{levels_in_all, deepest_in_all, elements_of}

-- where a reference with this sense leads on to
abbrev pub target_of : Entries → Sense → Option ℕ
target_of entries (Definition place) = chained_place entries (definition place)
target_of entries (OfGroup number) = None

-- the references that lead on, by their levels
abbrev pub steps : List ℕ → List (Option ℕ) → List Reference
steps [] targets = []
steps (level ∷ levels) [] = []
steps (level ∷ levels) (None ∷ targets) = steps levels targets
steps (level ∷ levels) (Some target ∷ targets) = record { level = level; target = target } ∷ steps levels targets

-- what a definition refers to
abbrev pub row_by : Entries → Entry → List Reference
row_by entries one =
    if is_chained one.kind
    then steps (levels_in_all 0 (joined (elements_of one))) (map (followed entries one) (references_of one))
    else []

abbrev pub graph_by : Entries → List (List Reference)
graph_by entries = map (row_by entries) entries

-- how deep its elements are nested
abbrev pub nesting_by : Entry → ℕ
nesting_by one = if is_chained one.kind then deepest_in_all 0 (joined (elements_of one)) else 0

abbrev pub nested_by : Entries → List ℕ
nested_by entries = map nesting_by entries
