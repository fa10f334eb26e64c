-- The first fault of elements: of an element by itself, of its children, then of their number and order.
use Rattle.std.proofs.Common.{◌≡◌, ◌+◌, ◌<◌, ◌++◌, ℕ, Bool, true, false, List, [], ◌∷◌, Option, Some, None, Result, Err, cond, drop, find, get_or, length, map, not, refl, sym, ap, ap₂, ◌∙◌, subst}
use Rattle.std.specs.Prelude.{⊤}
use Rattle.std.specs.List.{enumerate_from, filter, flat_map, slice_get}
use Rattle.std.specs.Option.{option_map, option_map_or}
use Rattle.std.proofs.lemmas.List.{at_drop_more}
use Rattle.std.proofs.lemmas.Option.{slice_get-map}
use Rattle.psa_text.specs.declared.tree.Element.{Element}
use Rattle.psa_text.specs.declared.tree.Element.TheViews.{out-Element}
use Rattle.psa_text.specs.declared.tree.Element.TheFolds.{fold_out-Element}
use Rattle.psa_text.specs.declared.tree.Attribute.{Attribute}
use Rattle.psa_text.specs.declared.tree.Document.{Document}
use Rattle.psa_model.specs.PathNames.{Text}
use Rattle.psa_model.specs.declared.fault.FaultKind.{FaultKind}
use Rattle.psa_model.specs.declared.fault.FaultKind.TheVariants.{BadShape, UnknownElement}
use Rattle.psa_model.specs.declared.fault.ModelFault.{ModelFault}
use Rattle.psa_elements.specs.declared.error.ReadError.{ReadError}
use Rattle.psa_elements.specs.declared.error.ReadError.TheVariants.{Fault, Memory}
use Rattle.psa_elements.specs.ElementTable.{AttributeRule, Row, Rule, has_tag, row_inside, rule_of}
use Rattle.psa_elements.specs.ShapeFaults.{ElementFaults, attribute_faults, child_faults, element_faults, fault_at, faults_layer, is_label, own_faults, root_faults, shape_fault_of}
use Rattle.psa_shape.specs.TableRules.{rows_by}
use Rattle.psa_shape.specs.FoundFaults.{Finds, Tells, child_faults_by, counted, own_faults_by, tags_of, well_shaped_by}

-- ---- what is found of faults

-- a list without a first element is empty
pub empty : {A : Type 0} (xs : List A) → None ≡ slice_get xs 0 → xs ≡ []
empty [] e = refl
empty (x ∷ xs) e = absurd (cc)

-- a fault that is told is the first
told : (error : ReadError) (one : ModelFault) (faults : List ModelFault) → slice_get faults 0 ≡ Some one
    → Tells error (λ f. f ≡ one) → Finds faults (Err error)
told (Fault f) one faults first is = first ∙ ap Some (sym is)
told Memory one faults first is = tt

-- what is found in the first faults is found in all
finds-first : (faults more : List ModelFault) (error : ReadError) → Finds faults (Err error)
    → Finds (faults ++ more) (Err error)
finds-first faults more Memory h = tt
finds-first [] more (Fault f) h = absurd (cc)
finds-first (fault ∷ faults) more (Fault f) h = h

-- where the first faults are none, the others decide
finds-next : (faults more : List ModelFault) (result : Result ⊤ ReadError) → faults ≡ [] → Finds more result
    → Finds (faults ++ more) result
finds-next faults more result none h = subst (λ (l : List ModelFault). Finds (l ++ more) result) (sym none) h

-- ---- an element by its rule

own-by : (row : Row) (tag : Text) (given : List Attribute) (rules : Option (List AttributeRule))
    → (rule_of row).attribute_rules ≡ rules → own_faults row tag given ≡ option_map_or
    (λ some. attribute_faults tag some given) rules []
own-by row tag given None e = rw e refl
own-by row tag given (Some rules) e = rw e refl

child-by : (file : ℕ) (parent : Row) (child : ElementFaults) (found : Option Row) → row_inside parent child.tag ≡ found
    → child_faults file parent child ≡ option_map_or child.faults found
    (fault_at file child.line (UnknownElement, child.tag) ∷ [])
child-by file parent child None e = rw e refl
child-by file parent child (Some row) e = rw e refl

children-by : (file : ℕ) (parent : Row) (children : List ElementFaults)
    → flat_map (child_faults file parent) children ≡ flat_map (child_faults_by file (rule_of parent)) children
children-by file parent [] = refl
children-by file parent (child ∷ more) =
    ap₂ (λ (x y : List ModelFault). x ++ y) (child-by file parent child (row_inside parent child.tag) refl)
    (children-by file parent more)

tag-is : (file : ℕ) (element : Element) → (element_faults file element).tag ≡ (out-Element element).tag
tag-is file element = ap (λ (f : ElementFaults). f.tag) (fold_out-Element ElementFaults (faults_layer file) element)

line-is : (file : ℕ) (element : Element) → (element_faults file element).line ≡ (out-Element element).line
line-is file element = ap (λ (f : ElementFaults). f.line) (fold_out-Element ElementFaults (faults_layer file) element)

tags-are : (file : ℕ) (elements : List Element)
    → map (λ (c : ElementFaults). c.tag) (map (element_faults file) elements) ≡ tags_of elements
tags-are file [] = refl
tags-are file (element ∷ more) = ap₂ (λ (t : Text) (ts : List Text). t ∷ ts) (tag-is file element) (tags-are file more)

-- the faults of an element of a rule
faults_by : ℕ → ℕ → Row → Rule → Text → List Attribute → List Element → List ModelFault
faults_by file line row rule tag given children =
    map (fault_at file line) (own_faults_by rule tag given)
    ++ flat_map (child_faults_by file rule) (map (element_faults file) children)
    ++ map (fault_at file line) (cond (well_shaped_by rule row given (counted children)) [] ((BadShape, tag) ∷ []))

faults-are : (file : ℕ) (element : Element) (row : Row)
    → (element_faults file element).faults row ≡ faults_by file (out-Element element).line row (rule_of row)
    (out-Element element).tag (out-Element element).attributes (out-Element element).children
unfolding faults_by
faults-are file element row =
    let layer = out-Element element in
    ap (λ (f : ElementFaults). f.faults row) (fold_out-Element ElementFaults (faults_layer file) element)
    ∙ ap (λ (tags : List Text).
    map (fault_at file layer.line) (own_faults row layer.tag layer.attributes)
    ++ flat_map (child_faults file row) (map (element_faults file) layer.children)
    ++ map (fault_at file layer.line) (shape_fault_of row layer.tag layer.attributes
    (filter (λ tag. not (is_label tag)) tags))) (tags-are file layer.children)
    ∙ ap₂ (λ (own : List (FaultKind × Text)) (inside : List ModelFault).
    map (fault_at file layer.line) own
    ++ inside
    ++ map (fault_at file layer.line) (shape_fault_of row layer.tag layer.attributes (counted layer.children)))
    (own-by row layer.tag layer.attributes (rule_of row).attribute_rules refl)
    (children-by file row (map (element_faults file) layer.children))

module _ (file : ℕ) (element : Element) (row : Row) (rule : Rule) (tag : Text) (given : List Attribute)
    (children : List Element) (by : rule ≡ rule_of row) (tagged : tag ≡ (out-Element element).tag)
    (has : given ≡ (out-Element element).attributes) (holds : children ≡ (out-Element element).children) where
  layers : (element_faults file element).faults row ≡ faults_by file
      (out-Element element).line row rule tag given children
  layers = rw (by, tagged, has, holds) (faults-are file element row)

  -- a fault of the element by itself
  pub own-found : (one : FaultKind × Text) (error : ReadError) → Some one ≡ slice_get (own_faults_by rule tag given) 0
      → Tells error (λ f. f ≡ fault_at file (out-Element element).line one)
      → Finds ((element_faults file element).faults row) (Err error)
  unfolding faults_by
  own-found one error first tells =
      let own = map (fault_at file (out-Element element).line) (own_faults_by rule tag given) in
      let is : slice_get own 0 ≡ Some (fault_at file (out-Element element).line one) =
      slice_get-map (fault_at file (out-Element element).line) (own_faults_by rule tag given) 0
      ∙ ap (option_map (fault_at file (out-Element element).line)) (sym first) in
      subst (λ (l : List ModelFault). Finds l (Err error)) (sym layers)
      (finds-first (own ++ flat_map (child_faults_by file rule) (map (element_faults file) children)) _ error
      (finds-first own _ error (told error (fault_at file (out-Element element).line one) own is tells)))

  module _ (no_own : None ≡ slice_get (own_faults_by rule tag given) 0) where
    own_none : map (fault_at file (out-Element element).line) (own_faults_by rule tag given) ≡ []
    own_none = ap (map (fault_at file (out-Element element).line)) (empty (own_faults_by rule tag given) no_own)

    -- a fault of a child
    pub children-found : (error : ReadError) → Finds
        (flat_map (child_faults_by file rule) (map (element_faults file) children)) (Err error)
        → Finds ((element_faults file element).faults row) (Err error)
    unfolding faults_by
    children-found error h =
        subst (λ (l : List ModelFault). Finds l (Err error)) (sym layers)
        (finds-first (map (fault_at file (out-Element element).line) (own_faults_by rule tag given) ++ flat_map
        (child_faults_by file rule) (map (element_faults file) children)) _ error
        (finds-next _ (flat_map (child_faults_by file rule) (map (element_faults file) children))
        (Err error) own_none h))

    module _ (no_child : flat_map (child_faults_by file rule) (map (element_faults file) children) ≡ []) where
      shape_alone : (element_faults file element).faults row ≡ map (fault_at file (out-Element element).line)
          (cond (well_shaped_by rule row given (counted children)) [] ((BadShape, tag) ∷ []))
      unfolding faults_by
      shape_alone =
          layers
          ∙ ap₂ (λ (own inside : List ModelFault). own ++ inside ++ map (fault_at file (out-Element element).line)
          (cond (well_shaped_by rule row given (counted children)) [] ((BadShape, tag) ∷ []))) own_none no_child

      shape_as : (good : Bool) → good ≡ well_shaped_by rule row given (counted children)
          → (element_faults file element).faults row ≡ map (fault_at file (out-Element element).line)
          (cond good [] ((BadShape, tag) ∷ []))
      shape_as good e = shape_alone ∙ ap (λ b. map (fault_at file (out-Element element).line)
          (cond b [] ((BadShape, tag) ∷ []))) (sym e)

      -- a wrong number or order of children
      pub shape-found : (error : ReadError) → false ≡ well_shaped_by rule row given (counted children)
          → Tells error (λ f. f ≡ fault_at file (out-Element element).line (BadShape, tag))
          → Finds ((element_faults file element).faults row) (Err error)
      shape-found error bad tells =
          subst (λ (l : List ModelFault). Finds l (Err error)) (sym (shape_as false bad))
          (told error (fault_at file (out-Element element).line (BadShape, tag))
          (fault_at file (out-Element element).line (BadShape, tag) ∷ []) refl tells)

      -- nothing is wrong
      pub nothing-found : true ≡ well_shaped_by rule row given (counted children)
          → (element_faults file element).faults row ≡ []
      nothing-found good = shape_as true good

-- ---- children, one after another

module _ (file : ℕ) (rule : Rule) (children : List Element) (i : ℕ) (child : Element) (inside : i < length children)
    (is : child ≡ get_or children i child) where
  at_child : flat_map (child_faults_by file rule)
      (map (element_faults file) (drop i children)) ≡ child_faults_by file rule (element_faults file child) ++ flat_map
      (child_faults_by file rule) (map (element_faults file) (drop (i + 1) children))
  at_child =
      at_drop_more (λ (es : List Element). flat_map (child_faults_by file rule)
      (map (element_faults file) es)) children i child inside
      ∙ ap (λ (e : Element). flat_map (child_faults_by file rule)
      (map (element_faults file) (e ∷ drop (i + 1) children))) (sym is)

  judged : (found : Option Row) → found ≡ find (has_tag (out-Element child).tag) (rows_by rule)
      → child_faults_by file rule (element_faults file child) ≡ option_map_or (element_faults file child).faults found
      (fault_at file (out-Element child).line (UnknownElement, (out-Element child).tag) ∷ [])
  judged found e =
      ap₂ (λ (t : Text) (l : ℕ). option_map_or (element_faults file child).faults (find (has_tag t) (rows_by rule))
      (fault_at file l (UnknownElement, t) ∷ [])) (tag-is file child) (line-is file child)
      ∙ ap (λ (o : Option Row). option_map_or (element_faults file child).faults o
      (fault_at file (out-Element child).line (UnknownElement, (out-Element child).tag) ∷ [])) (sym e)

  -- an unknown child
  pub child-unknown : (error : ReadError) → None ≡ find (has_tag (out-Element child).tag) (rows_by rule)
      → Tells error (λ f. f ≡ fault_at file (out-Element child).line (UnknownElement, (out-Element child).tag))
      → Finds (flat_map (child_faults_by file rule) (map (element_faults file) (drop i children))) (Err error)
  child-unknown error missing tells =
      subst (λ (l : List ModelFault). Finds l (Err error))
      (sym (at_child ∙ ap (λ (l : List ModelFault). l ++ flat_map (child_faults_by file rule)
      (map (element_faults file) (drop (i + 1) children))) (judged None missing)))
      (finds-first (fault_at file (out-Element child).line (UnknownElement, (out-Element child).tag) ∷ [])
      (flat_map (child_faults_by file rule) (map (element_faults file) (drop (i + 1) children))) error
      (told error (fault_at file (out-Element child).line (UnknownElement, (out-Element child).tag))
      (fault_at file (out-Element child).line (UnknownElement, (out-Element child).tag) ∷ []) refl tells))

  -- a fault of a child
  pub child-found : (row : Row) (error : ReadError) → Some row ≡ find (has_tag (out-Element child).tag) (rows_by rule)
      → Finds ((element_faults file child).faults row) (Err error)
      → Finds (flat_map (child_faults_by file rule) (map (element_faults file) (drop i children))) (Err error)
  child-found row error found h =
      subst (λ (l : List ModelFault). Finds l (Err error))
      (sym (at_child ∙ ap (λ (l : List ModelFault). l ++ flat_map (child_faults_by file rule)
      (map (element_faults file) (drop (i + 1) children))) (judged (Some row) found)))
      (finds-first ((element_faults file child).faults row)
      (flat_map (child_faults_by file rule) (map (element_faults file) (drop (i + 1) children))) error h)

  -- a child without a fault
  pub child-passed : (row : Row) → Some row ≡ find (has_tag (out-Element child).tag) (rows_by rule)
      → (element_faults file child).faults row ≡ []
      → flat_map (child_faults_by file rule) (map (element_faults file) (drop i children)) ≡ flat_map
      (child_faults_by file rule) (map (element_faults file) (drop (i + 1) children))
  child-passed row found none =
      at_child ∙ ap (λ (l : List ModelFault). l ++ flat_map (child_faults_by file rule)
      (map (element_faults file) (drop (i + 1) children))) (judged (Some row) found ∙ none)

-- ---- roots, one after another

-- the faults of the roots from a number on
abbrev pub roots_faults : ℕ → List Element → List ModelFault
roots_faults file roots = flat_map (λ one. root_faults one.0 (element_faults one.0 one.1)) (enumerate_from file roots)

module _ (docs : List Document) (i : ℕ) (doc : Document) (inside : i < length docs) (is : doc ≡ get_or docs i doc) where
  at_doc : roots_faults i (map (λ (d : Document). d.root) (drop i docs)) ≡ root_faults i
      (element_faults i doc.root) ++ roots_faults (i + 1) (map (λ (d : Document). d.root) (drop (i + 1) docs))
  at_doc =
      at_drop_more (λ (ds : List Document). roots_faults i (map (λ (d : Document). d.root) ds)) docs i doc inside
      ∙ ap (λ (d : Document). roots_faults i (map (λ (e : Document). e.root) (d ∷ drop (i + 1) docs))) (sym is)

  -- a fault of a root
  pub root-found : (error : ReadError) → Finds (root_faults i (element_faults i doc.root)) (Err error)
      → Finds (roots_faults i (map (λ (d : Document). d.root) (drop i docs))) (Err error)
  root-found error h = subst (λ (l : List ModelFault). Finds l (Err error)) (sym at_doc)
      (finds-first (root_faults i (element_faults i doc.root)) _ error h)
