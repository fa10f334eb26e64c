-- A fault of shape is of the file of its tree.
use Rattle.std.proofs.Common.{◌≡◌, ℕ, ◌+◌, ◌<◌, ◌≤◌, Bool, true, false, List, [], ◌∷◌, Option, Some, None, map, length, if◌then◌else◌, refl, sym, subst, arith}
use Rattle.std.specs.List.{AllByRecursion, flat_map, enumerate_from}
use Rattle.psa_text.specs.declared.tree.Element.{Element, roll-Element}
use Rattle.psa_text.specs.declared.tree.Element.TheOpen.{Element-F}
use Rattle.psa_text.specs.declared.tree.Element.TheFolds.{fold-roll-Element, ind-Element}
use Rattle.psa_model.specs.declared.fault.FaultKind.{FaultKind}
use Rattle.psa_model.specs.declared.fault.FaultKind.TheVariants.{UnknownElement}
use Rattle.psa_model.specs.declared.fault.ModelFault.{ModelFault}
use Rattle.psa_model.specs.PathNames.{Text}
use Rattle.psa_elements.specs.ElementTable.{Row, opsa_mef, has_tag, row_inside}
use Rattle.psa_elements.specs.ShapeFaults.{ElementFaults, fault_at, child_faults, own_faults, faults_layer, element_faults, root_faults, shape_faults, shape_fault}
use Rattle.psa_load.proofs.EachOf.{each-append, each-weaker, at-place}

abbrev Of : ℕ → ModelFault → Type 0
Of file found = found.file ≡ file

-- the faults of an element are of its file, whatever its row
abbrev OfFile : ℕ → Element → Type 0
OfFile file e = (row : Row) → AllByRecursion (Of file) ((element_faults file e).faults row)

placed : (file line : ℕ) (all : List (FaultKind × Text)) → AllByRecursion (Of file) (map (fault_at file line) all)
placed file line [] = tt
placed file line (one ∷ all) = (refl, placed file line all)

child-of : (file : ℕ) (parent : Row) (child : ElementFaults) → ((row : Row) → AllByRecursion (Of file) (child.faults row)) → AllByRecursion (Of file) (child_faults file parent child)
child-of file parent child each = by-row (row_inside parent child.tag) refl
  where
    by-row : (o : Option Row) → row_inside parent child.tag ≡ o → AllByRecursion (Of file) (child_faults file parent child)
    by-row None e = rw (e, child_faults) (refl, tt)
    by-row (Some row) e = rw (e, child_faults) (each row)

children-of : (file : ℕ) (parent : Row) (es : List Element) → AllByRecursion (OfFile file) es → AllByRecursion (Of file) (flat_map (child_faults file parent) (map (element_faults file) es))
children-of file parent [] all = tt
children-of file parent (e ∷ es) all =
    each-append (Of file) (child_faults file parent (element_faults file e)) (flat_map (child_faults file parent) (map (element_faults file) es))
    (child-of file parent (element_faults file e) all.0) (children-of file parent es all.1)

element-step : (file : ℕ) (x : Element-F Element) → AllByRecursion (OfFile file) x.children → OfFile file (roll-Element x)
element-step file x all row =
    subst (λ (r : ElementFaults). AllByRecursion (Of file) (r.faults row)) (sym (fold-roll-Element ElementFaults (faults_layer file) x))
    (each-append (Of file) _ _
    (each-append (Of file) _ _ (placed file x.line (own_faults row x.tag x.attributes)) (children-of file row x.children all))
    (placed file x.line _))

element-of-file : (file : ℕ) (e : Element) → OfFile file e
element-of-file file =
    ind-Element (OfFile file) (λ x y is. element-step file x (subst (λ z. AllByRecursion (OfFile file) z.children) is (each y.children)))
  where
    each : (es : List ((e : Element) × OfFile file e)) → AllByRecursion (OfFile file) (map (λ e. e.0) es)
    each [] = tt
    each (e ∷ es) = (e.1, each es)

root-of : (file : ℕ) (e : Element) → AllByRecursion (Of file) (root_faults file (element_faults file e))
root-of file e = by-test (has_tag (element_faults file e).tag opsa_mef)
  where
    by-test : (b : Bool) → AllByRecursion (Of file) (if b then (element_faults file e).faults opsa_mef else fault_at file (element_faults file e).line (UnknownElement, (element_faults file e).tag) ∷ [])
    by-test true = element-of-file file e opsa_mef
    by-test false = (refl, tt)

-- the faults of all trees are of their files
faults-from : (n file : ℕ) (roots : List Element) → file + length roots ≤ n → AllByRecursion (λ (f : ModelFault). f.file < n) (flat_map (λ one. root_faults one.0 (element_faults one.0 one.1)) (enumerate_from file roots))
faults-from n file [] fits = tt
faults-from n file (root ∷ roots) fits =
    each-append (λ (f : ModelFault). f.file < n) (root_faults file (element_faults file root)) (flat_map (λ one. root_faults one.0 (element_faults one.0 one.1)) (enumerate_from (file + 1) roots))
    (each-weaker (Of file) (λ (f : ModelFault). f.file < n) (λ f same. omega (arith, same, fits)) (root_faults file (element_faults file root)) (root-of file root))
    (faults-from n (file + 1) roots (omega (arith, fits)))

-- the first fault of shape is of the files
pub shape-in : (roots : List Element) (found : ModelFault) → shape_fault roots ≡ Some found → found.file < length roots
shape-in roots found e =
    at-place (λ (f : ModelFault). f.file < length roots) (shape_faults roots) 0 found (faults-from (length roots) 0 roots (omega arith)) e
