-- An induction over elements, and what size, depth, reading and faults are at an element by its parts.
use Rattle.std.proofs.Common.{◌≡◌, ℕ, suc, ◌+◌, List, [], ◌∷◌, map, sum, subst, ap}
use Rattle.std.specs.List.{AllByRecursion}
use Rattle.psa_text.specs.declared.tree.Element.{Element, roll-Element}
use Rattle.psa_text.specs.declared.tree.Element.TheOpen.{Element-F}
use Rattle.psa_text.specs.declared.tree.Element.TheFolds.{fold-roll-Element, ind-Element}
use Rattle.psa_text.specs.Tree.{depth, depth_step, greatest}
use Rattle.psa_text.specs.TreeSize.{elements_in, elements_step}
use Rattle.psa_elements.specs.ElementTable.{Row}
use Rattle.psa_elements.specs.DraftReading.{ElementReading, reading_layer, element_reading, Surroundings, StartTag, Reading, reading_of, children_readings, surroundings_inside}

-- what holds of an element where it holds of each element directly in it holds of all elements
pub element-induction : (P : Element → Type 0)
    → ((x : Element-F Element) → AllByRecursion P x.children → P (roll-Element x)) → (e : Element) → P e
element-induction P step =
    ind-Element P (λ x y is. step x (subst (λ z. AllByRecursion P z.children) is (each y.children)))
  where
    each : (es : List ((e : Element) × P e)) → AllByRecursion P (map (λ e. e.0) es)
    each [] = tt
    each (e ∷ es) = (e.1, each es)

pub depth-at : (x : Element-F Element) → depth (roll-Element x) ≡ 1 + greatest (map depth x.children)
depth-at x = fold-roll-Element ℕ depth_step x

pub elements-at : (x : Element-F Element) → elements_in (roll-Element x) ≡ 1 + sum (map elements_in x.children)
elements-at x = fold-roll-Element ℕ elements_step x

pub size-at : (x : Element-F Element)
    → (element_reading (roll-Element x)).size ≡ suc
    (sum (map (λ (child : ElementReading). child.size) (map element_reading x.children)))
size-at x = ap (λ (r : ElementReading). r.size) (fold-roll-Element ElementReading reading_layer x)

-- an element as it begins
abbrev pub start_of : Element-F Element → Surroundings → ℕ → StartTag
start_of x around number = record { around = around; line = x.line; number = number; attributes = x.attributes }

abbrev pub inside_of : Element-F Element → Row → Surroundings → ℕ → List Reading
inside_of x row around number =
    children_readings row (surroundings_inside row (start_of x around number)) (suc number)
    (map element_reading x.children)

pub reading-at : (x : Element-F Element) (row : Row) (around : Surroundings) (number : ℕ)
    → (element_reading (roll-Element x)).reading row around number ≡ reading_of row (start_of x around number)
    (inside_of x row around number)
reading-at x row around number =
    ap (λ (r : ElementReading). r.reading row around number) (fold-roll-Element ElementReading reading_layer x)
