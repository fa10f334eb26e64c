-- What an element without a fault of shape says has its numbers of arguments, is nested no deeper than the element, and
-- gives bodies of their kinds.
use Rattle.std.proofs.Common.{◌≡◌, ℕ, zero, suc, ◌+◌, ◌≤◌, Bool, true, false, List, [], ◌∷◌, ◌++◌, map, Option, Some, None, refl, ap, sym, subst, ◌∙◌, arith}
use Rattle.std.specs.Prelude.{find, slice_get}
use Rattle.std.specs.List.{AllByRecursion, flat_map, enumerate_from}
use Rattle.std.proofs.lemmas.Slice.Eq.{bytes_eq-Decides}
use Rattle.psa_text.specs.declared.tree.Element.{Element, roll-Element}
use Rattle.psa_text.specs.declared.tree.Element.TheOpen.{Element-F}
use Rattle.psa_text.specs.declared.tree.Element.TheFolds.{fold-roll-Element}
use Rattle.psa_text.specs.declared.tree.Attribute.{Attribute}
use Rattle.psa_text.specs.Tree.{depth, greatest}
use Rattle.psa_model.specs.PathNames.{Text}
use Rattle.psa_model.specs.declared.draft.DraftDefinition.{DraftDefinition}
use Rattle.psa_elements.specs.ElementTable.{Row, opsa_mef, rows_inside, row_inside, has_tag, tag_of}
use Rattle.psa_elements.specs.ShapeFaults.{ElementFaults, element_faults, faults_layer, own_faults, child_faults, shape_fault_of, fault_at, is_well_shaped, root_faults, shape_faults, shape_fault}
use Rattle.psa_elements.specs.DraftReading.{ElementReading, element_reading, reading_layer, Surroundings, Reading, reading_of, child_reading, children_readings, surroundings_inside, whole_file, file_definitions, draft_of}
use Rattle.psa_reader.proofs.ElementForms.{element-induction, depth-at, reading-at, start_of, inside_of}
use Rattle.psa_reader.proofs.ElementWeights.{size_of}
use Rattle.psa_reader.proofs.Containers.{found-passes}
use Rattle.psa_reader.proofs.RowKinds.{kind_of, kind_of_row, IsRead, AreRead}
use Rattle.psa_reader.proofs.RowCounts.{counted}
use Rattle.psa_reader.proofs.Fits.{IsFit, AreFit, AllFit, Fits, HasBody, HasBodies, all-append, given-fit, definition_in}
use Rattle.psa_reader.proofs.RowShapes.{HasShape, row-kind, row-bodies, row-fit}

append-empty : {A : Type 0} (xs ys : List A) → xs ++ ys ≡ [] → (xs ≡ []) × (ys ≡ [])
append-empty [] ys h = (refl, h)
append-empty (x ∷ xs) ys h = absurd (cc)

-- ---- faults at an element by its parts

faults-at : (file : ℕ) (x : Element-F Element) (row : Row) → (element_faults file (roll-Element x)).faults row
    ≡ (map (fault_at file x.line) (own_faults row x.tag x.attributes) ++ flat_map (child_faults file row)
    (map (element_faults file) x.children))
    ++ map (fault_at file x.line)
    (shape_fault_of row x.tag x.attributes
    (counted (map (λ (child : ElementFaults). child.tag) (map (element_faults file) x.children))))
faults-at file x row = ap (λ (f : ElementFaults). f.faults row) (fold-roll-Element ElementFaults (faults_layer file) x)

-- an element has one tag
same-tag : (file : ℕ) (e : Element) → (element_reading e).tag ≡ (element_faults file e).tag
same-tag file = element-induction (λ e. (element_reading e).tag ≡ (element_faults file e).tag) (λ x all.
    ap (λ (r : ElementReading). r.tag) (fold-roll-Element ElementReading reading_layer x)
    ∙ sym (ap (λ (f : ElementFaults). f.tag) (fold-roll-Element ElementFaults (faults_layer file) x)))

-- a child without a fault has a row
record HasRow (file : ℕ) (parent : Row) (child : ElementFaults) : Type 0 where
  pub row : Row
  pub found : row_inside parent child.tag ≡ Some row
  pub none : child.faults row ≡ []

child-row : (file : ℕ) (parent : Row) (child : ElementFaults) → child_faults file parent child ≡ []
    → HasRow file parent child
child-row file parent child h = by_row (row_inside parent child.tag) refl
  where
    by_row : (o : Option Row) → row_inside parent child.tag ≡ o → HasRow file parent child
    by_row None e = let bad = rw (e, child_faults) at h in absurd (cc)
    by_row (Some row) e = record { row = row; found = e; none = rw (e, child_faults) at h }

child-reading : (parent row : Row) (around : Surroundings) (number : ℕ) (child : ElementReading)
    → row_inside parent child.tag ≡ Some row
    → child_reading parent around number child ≡ child.reading row around number
child-reading parent row around number child e = rw (e, child_reading) refl

find-holds : {A : Type 0} (test : A → Bool) (xs : List A) (x : A) → find test xs ≡ Some x → test x ≡ true
find-holds test [] x h = absurd (cc)
find-holds test (y ∷ ys) x h = by_test (test y) refl (λ k. find-holds test ys x k)
  where
    by_test : (b : Bool) → test y ≡ b → (find test ys ≡ Some x → test x ≡ true) → test x ≡ true
    by_test true e rest =
        let same : Some y ≡ Some x = rw e at h in
        let one : y ≡ x = cc in
        subst (λ z. test z ≡ true) one e
    by_test false e rest = rest (rw e at h)

well-shaped : (file line : ℕ) (row : Row) (tag : Text) (given : List Attribute) (tags : List Text)
    → map (fault_at file line) (shape_fault_of row tag given tags) ≡ [] → is_well_shaped row given tags ≡ true
well-shaped file line row tag given tags h = by_test (is_well_shaped row given tags) refl
  where
    by_test : (b : Bool) → is_well_shaped row given tags ≡ b → is_well_shaped row given tags ≡ true
    by_test true e = e
    by_test false e = let bad = rw e at h in absurd (cc)

-- ---- elements

-- what an element of a row says, nested to a bound
record Says (row : Row) (bound : ℕ) (r : Reading) : Type 0 where
  pub kind : kind_of r ≡ kind_of_row row
  pub fit : (levels : ℕ) → bound ≤ levels → Fits bound levels r
  pub bodies : HasBodies r

abbrev IsSound : Element → Type 0
IsSound e = (file : ℕ) (row : Row) (around : Surroundings) (number bound : ℕ) → (element_faults file e).faults row ≡ []
    → depth e ≤ bound → bound ≤ 64
    → Says row bound ((element_reading e).reading row around number)

record Children (parent : Row) (bound : ℕ) (tags : List Text) (inside : List Reading) : Type 0 where
  pub read : AreRead parent tags inside
  pub fit : (levels : ℕ) → bound ≤ levels → AllFit bound levels inside
  pub bodies : AllByRecursion HasBodies inside

children-sound : (file : ℕ) (parent : Row) (around : Surroundings) (bound : ℕ) (es : List Element) (number : ℕ)
    → flat_map (child_faults file parent) (map (element_faults file) es) ≡ [] → greatest (map depth es) ≤ bound → bound
    ≤ 64 → AllByRecursion IsSound es
    → Children parent bound (map (λ (child : ElementFaults). child.tag) (map (element_faults file) es))
    (children_readings parent around number (map element_reading es))
children-sound file parent around bound [] number none deep few all =
    record { read = tt; fit = λ levels enough. tt; bodies = tt }
children-sound file parent around bound (e ∷ es) number none deep few all =
    let parts = append-empty (child_faults file parent (element_faults file e))
    (flat_map (child_faults file parent) (map (element_faults file) es)) none in
    let has = child-row file parent (element_faults file e) parts.0 in
    let says = all.0 file has.row around number bound has.none (omega (arith, deep)) few in
    let found : row_inside parent (element_reading e).tag ≡ Some has.row =
    ap (row_inside parent) (same-tag file e) ∙ has.found in
    let same : (element_reading e).reading has.row around number ≡ child_reading parent around number
    (element_reading e) =
    sym (child-reading parent has.row around number (element_reading e) found) in
    let rest = children-sound file parent around bound es (number + size_of e) parts.1
    (omega (arith, deep)) few all.1 in
    let said : Says has.row bound (child_reading parent around number (element_reading e)) =
    subst (Says has.row bound) same says in
    let tag = (element_faults file e).tag in
    let read : IsRead parent tag (child_reading parent around number (element_reading e)) = record {
      row = has.row;
      tagged = (bytes_eq-Decides (tag_of has.row) tag).0
          (find-holds (has_tag tag) (rows_inside parent) has.row has.found);
      among = λ test passes. found-passes (has_tag tag) test (rows_inside parent) has.row has.found passes;
      kind = said.kind;
    } in
    record {
      read = (read, rest.read);
      fit = λ levels enough. (said.fit levels enough, rest.fit levels enough);
      bodies =
          (said.bodies, rest.bodies);
    }

sound-step : (x : Element-F Element) → AllByRecursion IsSound x.children → IsSound (roll-Element x)
sound-step x all file row around number zero none deep few = absurd (omega (arith, depth-at x, deep))
sound-step x all file row around number (suc bound) none deep few =
    let start = start_of x around number in
    let inside = inside_of x row around number in
    let tags = map (λ (child : ElementFaults). child.tag) (map (element_faults file) x.children) in
    let whole = append-empty
    (map (fault_at file x.line) (own_faults row x.tag x.attributes) ++ flat_map (child_faults file row)
    (map (element_faults file) x.children))
    (map (fault_at file x.line) (shape_fault_of row x.tag x.attributes (counted tags)))
    (sym (faults-at file x row) ∙ none) in
    let parts = append-empty (map (fault_at file x.line) (own_faults row x.tag x.attributes))
    (flat_map (child_faults file row) (map (element_faults file) x.children)) whole.0 in
    let children = children-sound file row (surroundings_inside row start) bound x.children (suc number) parts.1
    (omega (arith, depth-at x, deep)) (omega (arith, few)) all in
    let shape : HasShape row start bound inside = record {
      tags = tags;
      read = children.read;
      well = well-shaped file x.line row x.tag x.attributes (counted tags) whole.1;
      fit = children.fit;
      bodies = children.bodies;
    } in
    let says : Says row (suc bound) (reading_of row start inside) = record {
      kind = row-kind row start bound inside shape;
      fit = row-fit row start bound inside few shape;
      bodies = row-bodies row start bound inside shape;
    } in
    subst (Says row (suc bound)) (sym (reading-at x row around number)) says

element-sound : (e : Element) → IsSound e
element-sound = element-induction IsSound sound-step

-- ---- files

root-none : (file : ℕ) (root : ElementFaults) → root_faults file root ≡ [] → root.faults opsa_mef ≡ []
root-none file root h = by_test (has_tag root.tag opsa_mef) refl
  where
    by_test : (b : Bool) → has_tag root.tag opsa_mef ≡ b → root.faults opsa_mef ≡ []
    by_test true e = rw e at h
    by_test false e = let bad = rw e at h in absurd (cc)

-- what the definitions of files are
pub record Sound (ds : List DraftDefinition) : Type 0 where
  pub fit : AreFit 64 definition_in ds
  pub bodies : AllByRecursion HasBody ds

files-sound : (file : ℕ) (roots : List Element)
    → flat_map (λ one. root_faults one.0 (element_faults one.0 one.1)) (enumerate_from file roots) ≡ []
    → AllByRecursion (λ root. depth root ≤ 64) roots → Sound (flat_map file_definitions (enumerate_from file roots))
files-sound file [] none deep = record { fit = tt; bodies = tt }
files-sound file (root ∷ roots) none deep =
    let parts = append-empty (root_faults file (element_faults file root))
    (flat_map (λ one. root_faults one.0 (element_faults one.0 one.1)) (enumerate_from (file + 1) roots)) none in
    let says = element-sound root file opsa_mef (whole_file file) 0 64
    (root-none file (element_faults file root) parts.0) deep.0 (omega arith) in
    let rest = files-sound (file + 1) roots parts.1 deep.1 in
    record {
      fit = all-append (λ (d : DraftDefinition). IsFit 64 (definition_in d)) (file_definitions (file, root))
          (flat_map file_definitions (enumerate_from (file + 1) roots))
          (given-fit 64 64 ((element_reading root).reading opsa_mef (whole_file file) 0)
          (says.fit 64 (omega arith))) rest.fit;
      bodies = all-append HasBody (file_definitions (file, root))
          (flat_map file_definitions (enumerate_from (file + 1) roots)) says.bodies rest.bodies;
    }

none-first : {A : Type 0} (xs : List A) → slice_get xs 0 ≡ None → xs ≡ []
none-first [] h = refl
none-first (x ∷ xs) h = absurd (cc)

-- The definitions of files without a fault of shape are sound.
pub draft-sound : (roots : List Element) → shape_fault roots ≡ None → AllByRecursion (λ root. depth root ≤ 64) roots
    → Sound (draft_of roots).definitions
draft-sound roots none deep = files-sound 0 roots (none-first (shape_faults roots) none) deep
