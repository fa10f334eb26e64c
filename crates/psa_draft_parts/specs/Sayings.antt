-- What elements say as rows of the table: by the definition of the draft, element by element. (This project's own.)
use Rattle.std.specs.Prelude.{ℕ, ◌+◌, ◌<◌, ◌^◌, ◌≡◌, Bool, true, List, [], ◌∷◌, Option, Some, None, codes, ◌&&◌}
use Rattle.std.specs.List.{find, list_all}
use Rattle.std.specs.Option.{option_map_or}
use Rattle.psa_text.specs.declared.tree.Element.{Element}
use Rattle.psa_text.specs.declared.tree.Element.TheOpen.{Element-F}
use Rattle.psa_text.specs.declared.tree.Element.TheViews.{out-Element}
use Rattle.psa_text.specs.declared.tree.Element.TheFolds.{fold-Element}
use Rattle.psa_text.specs.declared.tree.Attribute.{Attribute}
use Rattle.psa_model.specs.PathNames.{Text}
use Rattle.psa_elements.specs.ElementTable.{Row, has_tag, are_digits}
use Rattle.psa_elements.specs.ShapeFaults.{value_in}
use Rattle.psa_elements.specs.DraftReading.{Surroundings, StartTag, Reading, nothing, element_reading}

-- how many elements an element is, with those in it
unfoldable pub size_of : Element → ℕ
size_of element = (element_reading element).size

abbrev pub sizes_of : List Element → ℕ
sizes_of [] = 0
sizes_of (element ∷ elements) = size_of element + sizes_of elements

-- an element by itself
abbrev pub start_tag : Surroundings → ℕ → Element → StartTag
start_tag around number element = record {
  around = around;
  line = (out-Element element).line;
  number = number;
  attributes = (out-Element element).attributes;
}

-- what an element says as an element of a row
unfoldable pub reading_as : Row → Surroundings → ℕ → Element → Reading
reading_as row around number element = (element_reading element).reading row around number

-- as a row that was found, or nothing
abbrev pub reading_found : Option Row → Surroundings → ℕ → Element → Reading
reading_found None around number element = nothing
reading_found (Some row) around number element = reading_as row around number element

-- as the row among these that has its tag
unfoldable pub reading_among : List Row → Surroundings → ℕ → Element → Reading
reading_among rows around number element = reading_found (find (has_tag (out-Element element).tag) rows) around
    number element

-- what elements say one after another, the first with this number
abbrev pub readings_among : List Row → Surroundings → ℕ → List Element → List Reading
readings_among rows around number [] = []
readings_among rows around number (element ∷ elements) =
    reading_among rows around number element ∷ readings_among rows around (number + size_of element) elements

-- an attribute that is a number where it stands
abbrev pub is_short : Text → List Attribute → Bool
is_short name given = option_map_or are_digits (value_in given name) true

abbrev pub short_layer : Element-F Bool → Bool
short_layer layer =
    (is_short (codes "min") layer.attributes && is_short (codes "max") layer.attributes
    && is_short (codes "level") layer.attributes)
    && list_all (λ inside. inside) layer.children

-- the numbers that the attributes of an element and of those in it spell have few digits
unfoldable pub are_short : Element → Bool
are_short element = fold-Element Bool short_layer element

-- an element whose numbers fit their types, where it has this number itself
pub record IsReadable (number : ℕ) (element : Element) : Type 0 where
  pub fits : number + size_of element < 2 ^ 32
  pub short : are_short element ≡ true

-- the same of elements one after another, the first with this number
pub record AreReadable (number : ℕ) (elements : List Element) : Type 0 where
  pub fits : number + sizes_of elements < 2 ^ 32
  pub short : list_all are_short elements ≡ true

-- what those in an element say, where it has this number itself
abbrev pub inside_among : List Row → Surroundings → ℕ → Element → List Reading
inside_among rows around number element = readings_among rows around (number + 1) (out-Element element).children
