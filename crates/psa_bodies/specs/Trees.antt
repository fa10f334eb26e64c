-- The fault trees and event trees around definitions. (This project's own.)
use Rattle.std.specs.Prelude.{◌≡◌, ℕ, Bool, true, false, List, Some, map, position, slice_get}
use Rattle.std.specs.Option.{option_map_or, unwrap_or}
use Rattle.std.specs.Str.{bytes_eq}
use Rattle.psa_model.specs.PathNames.{Text}
use Rattle.psa_model.specs.declared.draft.DefinitionKind.{DefinitionKind}
use Rattle.psa_model.specs.declared.draft.DraftDefinition.{DraftDefinition}
use Rattle.psa_names.specs.Outlines.{Entry, Entries}
use Rattle.psa_names.specs.Ids.{all_of_kind}

-- the places in the draft of the definitions of a kind
abbrev pub places_of : DefinitionKind → Entries → List ℕ
places_of its entries = map (λ one. one.0) (all_of_kind its entries)

abbrev pub place_has_name : List DraftDefinition → Text → ℕ → Bool
place_has_name definitions name place = option_map_or (λ one. bytes_eq one.name name) (slice_get definitions place) false

-- the tree with this number has the name
abbrev pub tree_has_name : List DraftDefinition → List ℕ → Text → ℕ → Bool
tree_has_name definitions trees name number = option_map_or (place_has_name definitions name) (slice_get trees number) false

abbrev pub first_with_name : List DraftDefinition → List ℕ → Text → ℕ
first_with_name definitions trees name = unwrap_or (position (place_has_name definitions name) trees) 0

-- two definitions of a list with one name are one
pub record AreDistinct (all : List (ℕ × Entry)) : Type 0 where
  pub same : (i j : ℕ) (one other : ℕ × Entry) → slice_get all i ≡ Some one → slice_get all j ≡ Some other
      → bytes_eq one.1.name other.1.name ≡ true → i ≡ j
