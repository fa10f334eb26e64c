-- What an element says weighs at most what the elements in it, with itself, may weigh at their positions.
use Rattle.std.proofs.Common.{◌≡◌, ℕ, suc, ◌+◌, ◌≤◌, List, [], ◌∷◌, map, sum, Option, Some, None, refl, ap, subst, ◌∙◌, arith}
use Rattle.std.specs.List.{AllByRecursion}
use Rattle.psa_text.specs.declared.tree.Element.{Element, roll-Element}
use Rattle.psa_text.specs.declared.tree.Element.TheOpen.{Element-F}
use Rattle.psa_elements.specs.ElementTable.{Row, define_fault_tree, define_component, define_event_tree, row_inside}
use Rattle.psa_elements.specs.DraftReading.{ElementReading, element_reading, Surroundings, StartTag, Reading, nothing, reading_of, child_reading, children_readings, surroundings_inside}
use Rattle.psa_reader.proofs.ElementForms.{element-induction, size-at, reading-at, start_of, inside_of}
use Rattle.psa_reader.proofs.Totals.{total, total-sum, span, span-add}
use Rattle.psa_reader.proofs.Weights.{Weights, AreWeights, weigh}
use Rattle.psa_reader.proofs.RowWeights.{row-weight}

-- what stands around elements of a file is of the same file
pub same-file : (row : Row) (start : StartTag) → (surroundings_inside row start).file ≡ start.around.file
same-file define_fault_tree start = refl
same-file define_component start = refl
same-file define_event_tree start = refl
same-file _ start = refl

-- what holds of nothing, and of a child in each row, holds of a child in its row
pub child-reads : (P : Reading → Type 0) (parent : Row) (around : Surroundings) (number : ℕ) (child : ElementReading)
    → P nothing
    → ((row : Row) → row_inside parent child.tag ≡ Some row → P (child.reading row around number)) → P
    (child_reading parent around number child)
child-reads P parent around number child none some = by_row (row_inside parent child.tag) refl
  where
    by_row : (found : Option Row) → row_inside parent child.tag ≡ found → P (child_reading parent around number child)
    by_row None e = rw (e, child_reading) none
    by_row (Some row) e = rw (e, child_reading) (some row e)

-- the number of elements of an element's reading
abbrev pub size_of : Element → ℕ
size_of e = (element_reading e).size

abbrev pub own_at : Weights → ℕ → ℕ → ℕ
own_at w file number = w.own (record { file = file; tag = number })

abbrev pub IsWeighed : Weights → Element → Type 0
IsWeighed w e = (row : Row) (around : Surroundings) (number levels : ℕ)
    → weigh w levels ((element_reading e).reading row around number) ≤ span (own_at w around.file) number (size_of e)

children-weigh : (w : Weights) (parent : Row) (around : Surroundings) (levels : ℕ) (es : List Element) (number : ℕ)
    → AllByRecursion (IsWeighed w) es
    → total (weigh w levels) (children_readings parent around number (map element_reading es))
    ≤ span (own_at w around.file) number (total size_of es)
children-weigh w parent around levels [] number all = omega arith
children-weigh w parent around levels (e ∷ es) number all =
    let first : weigh w levels (child_reading parent around number (element_reading e)) ≤ span
    (own_at w around.file) number (size_of e) =
    child-reads (λ r. weigh w levels r ≤ span (own_at w around.file) number (size_of e)) parent around number
    (element_reading e) (omega arith)
    (λ row found. all.0 row around number levels) in
    omega (
      arith,
      first,
      children-weigh w parent around levels es (number + size_of e) all.1,
      span-add (own_at w around.file) number (size_of e) (total size_of es),
    )

size-total : (es : List Element)
    → sum (map (λ (child : ElementReading). child.size) (map element_reading es)) ≡ total size_of es
size-total es = total-sum (λ (child : ElementReading). child.size) (map element_reading es) ∙ mapped es
  where
    mapped : (es : List Element)
        → total (λ (child : ElementReading). child.size) (map element_reading es) ≡ total size_of es
    mapped [] = refl
    mapped (e ∷ es) = ap (λ n. size_of e + n) (mapped es)

pub size-is : (x : Element-F Element) → size_of (roll-Element x) ≡ suc (total size_of x.children)
size-is x = size-at x ∙ ap suc (size-total x.children)

element-weight-step : (w : Weights) → AreWeights w → (x : Element-F Element) → AllByRecursion (IsWeighed w) x.children
    → IsWeighed w (roll-Element x)
element-weight-step w law x all row around number levels =
    let start = start_of x around number in
    let inside : (l : ℕ) → total (weigh w l) (inside_of x row around number) ≤ span (own_at w around.file) (suc number)
    (total size_of x.children) =
    λ l. subst (λ file. total (weigh w l) (inside_of x row around number) ≤ span (own_at w file) (suc number)
    (total size_of x.children))
    (same-file row start) (children-weigh w row (surroundings_inside row start) l x.children (suc number) all) in
    let read : weigh w levels (reading_of row start (inside_of x row around number))
    ≤ own_at w around.file number + span (own_at w around.file) (suc number) (total size_of x.children) =
    row-weight w law levels row start (inside_of x row around number) _ inside in
    omega (
      arith,
      ap (weigh w levels) (reading-at x row around number),
      ap (span (own_at w around.file) number)
          (size-is x),
      read,
    )

pub element-weight : (w : Weights) → AreWeights w → (e : Element) → IsWeighed w e
element-weight w law = element-induction (IsWeighed w) (element-weight-step w law)
