-- How large a tree is. Its depth stands in Tree.antt. (This project's own.)
use Rattle.std.specs.Prelude.{ℕ, ◌+◌}
use Rattle.std.specs.List.{sum}
use Rattle.psa_text.specs.declared.tree.Element.{Element}
use Rattle.psa_text.specs.declared.tree.Element.TheOpen.{Element-F}
use Rattle.psa_text.specs.declared.tree.Element.TheFolds.{fold-Element}

-- the number of elements of a tree: 1, and those of each element in it
abbrev pub elements_step : Element-F ℕ → ℕ
elements_step layer = 1 + sum layer.children

abbrev pub elements_in : Element → ℕ
elements_in = fold-Element ℕ elements_step
