-- The element that a tag begins, and the depth of an element. (This project's own.)
use Rattle.std.specs.Prelude.{ℕ, ◌+◌, max, List, [], ◌∷◌}
use Rattle.psa_text.specs.declared.tree.Element.{Element, roll-Element}
use Rattle.psa_text.specs.declared.tree.Element.TheOpen.{Element-F}
use Rattle.psa_text.specs.declared.tree.Element.TheFolds.{fold-Element}
use Rattle.psa_text.specs.declared.tag.Tag.{Tag}

-- the element that a tag begins at a line, with these elements directly in it
abbrev pub element_of : Tag → ℕ → List Element → Element
element_of tag line children = roll-Element (record { tag = tag.name; line = line; attributes = tag.attributes; children = children })

abbrev pub greatest : List ℕ → ℕ
greatest [] = 0
greatest (n ∷ ns) = max n (greatest ns)

-- the depth of an element: 1, and the depth of the deepest element in it
abbrev pub depth_step : Element-F ℕ → ℕ
depth_step layer = 1 + greatest layer.children

abbrev pub depth : Element → ℕ
depth = fold-Element ℕ depth_step
