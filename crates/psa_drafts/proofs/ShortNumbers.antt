-- Where no element has a fault of shape, the numbers that attributes spell have few digits.
use Rattle.std.proofs.Common.{◌≡◌, ℕ, zero, suc, ◌+◌, ◌≤◌, Bool, true, false, cond, Option, Some, None, List, [], ◌∷◌, ◌++◌, map, codes, slice_get, refl, sym, ap, ◌∙◌, ◌&&◌, arith}
use Rattle.std.specs.List.{list_all, list_any, find, filter_map, flat_map, cons_option, enumerate_from}
use Rattle.std.specs.Option.{option_map, option_map_or, unwrap_or, is_some}
use Rattle.std.specs.Str.{bytes_eq}
use Rattle.std.proofs.lemmas.Bool.{and_parts}
use Rattle.std.proofs.lemmas.Slice.Eq.{bytes_eq-Decides}
use Rattle.psa_text.specs.declared.tree.Attribute.{Attribute}
use Rattle.psa_text.specs.declared.tree.Element.{Element}
use Rattle.psa_text.specs.declared.tree.Element.TheViews.{out-Element}
use Rattle.psa_text.specs.declared.tree.Element.TheFolds.{fold_out-Element}
use Rattle.psa_text.specs.Tree.{depth, depth_step, greatest}
use Rattle.psa_model.specs.PathNames.{Text}
use Rattle.psa_model.specs.declared.fault.FaultKind.{FaultKind}
use Rattle.psa_model.specs.declared.fault.FaultKind.TheVariants.{BadAttribute}
use Rattle.psa_model.specs.declared.fault.ModelFault.{ModelFault}
use Rattle.psa_model.specs.declared.formula.Connective.TheVariants.{And, Atleast, Cardinality}
use Rattle.psa_model.specs.declared.expression.ExpressionOperator.TheVariants as operation
use Rattle.psa_elements.specs.ElementTable.{Row, opsa_mef, label, connective, operator, factor, AttributeRule, a_number, are_digits, rule_of, rows_inside, row_inside, has_tag}
use Rattle.psa_elements.specs.ShapeFaults.{has_name, value_in, unknown_or_repeated, missing, wrong_value, attribute_faults, own_faults, fault_at, child_faults, faults_layer, ElementFaults, element_faults, root_faults, shape_faults, shape_fault}
use Rattle.psa_draft_parts.specs.Sayings.{is_short, are_short}
use Rattle.psa_draft_parts.proofs.Passing.{own_short, are_short-back}

-- ---- lists without an element

front-empty : {A : Type 0} (xs ys : List A) → xs ++ ys ≡ [] → xs ≡ []
front-empty [] ys h = refl
front-empty (x ∷ xs) ys h = absurd (cc)

back-empty : {A : Type 0} (xs ys : List A) → xs ++ ys ≡ [] → ys ≡ []
back-empty [] ys h = h
back-empty (x ∷ xs) ys h = absurd (cc)

map-empty : {A B : Type 0} (f : A → B) (xs : List A) → map f xs ≡ [] → xs ≡ []
map-empty f [] h = refl
map-empty f (x ∷ xs) h = absurd (cc)

option-empty : {A : Type 0} (o : Option A) (xs : List A) → cons_option o xs ≡ [] → o ≡ None
option-empty None xs h = refl
option-empty (Some x) xs h = absurd (cc)

rest-empty : {A : Type 0} (o : Option A) (xs : List A) → cons_option o xs ≡ [] → xs ≡ []
rest-empty None xs h = h
rest-empty (Some x) xs h = absurd (cc)

no-first : {A : Type 0} (xs : List A) → slice_get xs 0 ≡ None → xs ≡ []
no-first [] h = refl
no-first (x ∷ xs) h = absurd (cc)

-- ---- attributes

-- an attribute whose name no rule has doesn't stand
unknown-none : (rules : List AttributeRule) (before given : List Attribute) (name : Text)
    → unknown_or_repeated rules before given ≡ [] → list_any (λ (rule : AttributeRule). bytes_eq rule.name name)
    rules ≡ false → find (has_name name) given ≡ None
unknown-none rules before [] name h free = refl
unknown-none rules before (one ∷ more) name h free = by_test (has_name name one) refl (unknown-none rules (one ∷
    before) more name)
  where
    by_test : (b : Bool) → has_name name one ≡ b
        → (unknown_or_repeated rules (one ∷ before) more ≡ [] → list_any (λ (rule : AttributeRule). bytes_eq
        rule.name name) rules ≡ false → find (has_name name) more ≡ None)
        → cond b (Some one) (find (has_name name) more) ≡ None
    by_test false is later = later (back-empty _ (unknown_or_repeated rules (one ∷ before) more) h) free
    by_test true is later =
        let same : one.name ≡ name = (bytes_eq-Decides one.name name).0 is in
        let unknown : list_any (λ (rule : AttributeRule). bytes_eq rule.name one.name) rules ≡ false =
        ap (λ (n : Text). list_any (λ (rule : AttributeRule). bytes_eq rule.name n) rules) same ∙ free in
        let found = rw unknown at h in
        absurd (cc found)

free-short : (name : Text) (rules : List AttributeRule) (tag : Text) (given : List Attribute)
    → attribute_faults tag rules given ≡ [] → list_any (λ (rule : AttributeRule). bytes_eq rule.name name) rules ≡
    false → is_short name given ≡ true
free-short name rules tag given h free =
    let known : unknown_or_repeated rules [] given ≡ [] =
    front-empty (unknown_or_repeated rules [] given) (missing rules given)
    (map-empty (λ (n : Text). (BadAttribute, n)) (unknown_or_repeated rules [] given ++ missing rules given)
    (front-empty (map (λ (n : Text). (BadAttribute, n)) (unknown_or_repeated rules [] given ++ missing rules
    given)) (filter_map (wrong_value tag given) rules) h)) in
    ap (λ (found : Option Attribute). option_map_or are_digits (option_map (λ (a : Attribute). a.value) found)
    true) (unknown-none rules [] given name known free)

values-right : (rules : List AttributeRule) (tag : Text) (given : List Attribute) → attribute_faults tag rules
    given ≡ [] → filter_map (wrong_value tag given) rules ≡ []
values-right rules tag given h =
    back-empty (map (λ (n : Text). (BadAttribute, n)) (unknown_or_repeated rules [] given ++ missing rules given))
    (filter_map (wrong_value tag given) rules) h

bound-short : (name : Text) (is_required : Bool) (tag : Text) (given : List Attribute)
    → wrong_value tag given (record { name = name; is_required = is_required; allowed = a_number are_digits }) ≡
    None → is_short name given ≡ true
bound-short name is_required tag given h = by_value (value_in given name) refl
  where
    by_value : (o : Option Text) → value_in given name ≡ o → option_map_or are_digits o true ≡ true
    by_value None is = refl
    by_value (Some value) is = by_test (are_digits value) refl
      where
        by_test : (b : Bool) → are_digits value ≡ b → are_digits value ≡ true
        by_test true digits = digits
        by_test false digits = let wrong = rw (is, digits) at h in absurd (cc wrong)

three : (given : List Attribute) → is_short (codes "min") given ≡ true → is_short (codes "max") given ≡ true →
    is_short (codes "level") given ≡ true → own_short given ≡ true
unfolding own_short
three given a b c = ap (λ (x : Bool). (x && is_short (codes "max") given) && is_short (codes "level") given) a ∙ ap
    (λ (x : Bool). x && is_short (codes "level") given) b ∙ c

-- ---- rows

has_rules : Row → Bool
has_rules row = is_some (rule_of row).attribute_rules

free-row : (rules : List AttributeRule) (tag : Text) (given : List Attribute) → attribute_faults tag rules given ≡ []
    → list_any (λ (rule : AttributeRule). bytes_eq rule.name (codes "min")) rules ≡ false
    → list_any (λ (rule : AttributeRule). bytes_eq rule.name (codes "max")) rules ≡ false
    → list_any (λ (rule : AttributeRule). bytes_eq rule.name (codes "level")) rules ≡ false
    → own_short given ≡ true
free-row rules tag given h a b c =
    three given (free-short (codes "min") rules tag given h a) (free-short (codes "max") rules tag given h b)
    (free-short (codes "level") rules tag given h c)

abbrev row_rules : Row → List AttributeRule
row_rules row = unwrap_or (rule_of row).attribute_rules []

abbrev number_rule : Text → Bool → AttributeRule
number_rule name is_required = record { name = name; is_required = is_required; allowed = a_number are_digits }

own-short : (row : Row) (tag : Text) (given : List Attribute) → has_rules row ≡ true → own_faults row tag given ≡
    [] → own_short given ≡ true
unfolding has_rules
own-short opsa_mef tag given ruled h = absurd (cc)
own-short (connective Atleast) tag given ruled h =
    let rules : List AttributeRule = number_rule (codes "min") true ∷ [] in
    three given (bound-short (codes "min") true tag given (option-empty (wrong_value tag given (number_rule (codes
    "min") true)) [] (values-right rules tag given h)))
    (free-short (codes "max") rules tag given h refl) (free-short (codes "level") rules tag given h refl)
own-short (connective Cardinality) tag given ruled h =
    let min : AttributeRule = number_rule (codes "min") true in
    let max : AttributeRule = number_rule (codes "max") true in
    let wrong : List (FaultKind × Text) = cons_option (wrong_value tag given max) [] in
    three given (bound-short (codes "min") true tag given (option-empty (wrong_value tag given min) wrong
    (values-right (min ∷ max ∷ []) tag given h)))
    (bound-short (codes "max") true tag given (option-empty (wrong_value tag given max) []
    (rest-empty (wrong_value tag given min) wrong (values-right (min ∷ max ∷ []) tag given h))))
    (free-short (codes "level") (min ∷ max ∷ []) tag given h refl)
own-short factor tag given ruled h =
    let rules : List AttributeRule = number_rule (codes "level") false ∷ [] in
    three given (free-short (codes "min") rules tag given h refl) (free-short (codes "max") rules tag given h refl)
    (bound-short (codes "level") false tag given (option-empty (wrong_value tag given (number_rule (codes "level")
    false)) [] (values-right rules tag given h)))
own-short (connective And) tag given ruled h = free-row (row_rules (connective And)) tag given h refl refl refl
own-short (operator operation.Neg) tag given ruled h = free-row (row_rules (operator operation.Neg)) tag given h
    refl refl refl
own-short row tag given ruled h = free-row (row_rules row) tag given h refl refl refl

rows-ruled : (row : Row) → list_all has_rules (rows_inside row) ≡ true
unfolding has_rules
rows-ruled label = refl
rows-ruled (connective And) = refl
rows-ruled (operator operation.Neg) = refl
rows-ruled _ = refl

found-ruled : (test : Row → Bool) (rows : List Row) (row : Row) → find test rows ≡ Some row → list_all has_rules
    rows ≡ true → has_rules row ≡ true
found-ruled test [] row h ruled = absurd (cc)
found-ruled test (r ∷ rows) row h ruled =
    let both = and_parts (has_rules r) (list_all has_rules rows) ruled in
    by_test (test r) h both.0 (λ is. found-ruled test rows row is both.1)
  where
    by_test : (b : Bool) → cond b (Some r) (find test rows) ≡ Some row → has_rules r ≡ true → (find test rows ≡
        Some row → has_rules row ≡ true) → has_rules row ≡ true
    by_test true is mine others = let same : r ≡ row = cc in ap has_rules (sym same) ∙ mine
    by_test false is mine others = others is

-- ---- elements

faults-out : (file : ℕ) (e : Element)
    → element_faults file e ≡ faults_layer file (record {
      tag = (out-Element e).tag;
      line = (out-Element e).line;
      attributes = (out-Element e).attributes;
      children = map (element_faults file) (out-Element e).children;
    })
faults-out file e = fold_out-Element ElementFaults (faults_layer file) e

depth-out : (e : Element) → depth e ≡ 1 + greatest (map depth (out-Element e).children)
depth-out e = fold_out-Element ℕ depth_step e

-- a child without a fault is an element of a row inside its parent's
child-row : (file : ℕ) (parent : Row) (child : ElementFaults) → child_faults file parent child ≡ [] → (row : Row) ×
    ((has_rules row ≡ true) × (child.faults row ≡ []))
child-row file parent child h = by_row (row_inside parent child.tag) refl
  where
    by_row : (r : Option Row) → row_inside parent child.tag ≡ r → (row : Row) × ((has_rules row ≡ true) ×
        (child.faults row ≡ []))
    by_row None is = let fault = rw is at h in absurd (cc fault)
    by_row (Some row) is = (
      row,
      (
        found-ruled (has_tag child.tag) (rows_inside parent) row is (rows-ruled parent),
        rw is at h,
      ),
    )

children-short : (d file : ℕ) (row : Row) → ((e : Element) (r : Row) → depth e ≤ d → has_rules r ≡ true →
    (element_faults file e).faults r ≡ [] → are_short e ≡ true)
    → (es : List Element) → greatest (map depth es) ≤ d → flat_map (child_faults file row) (map (element_faults
    file) es) ≡ [] → list_all are_short es ≡ true
children-short d file row each [] shallow h = refl
children-short d file row each (e ∷ es) shallow h =
    let mine = child-row file row (element_faults file e) (front-empty (child_faults file row (element_faults file
    e)) _ h) in
    let first : are_short e ≡ true = each e mine.0 (omega arith) mine.1.0 mine.1.1 in
    let others : list_all are_short es ≡ true = children-short d file row each es (omega arith) (back-empty
    (child_faults file row (element_faults file e)) _ h) in
    ap (λ (b : Bool). b && list_all are_short es) first ∙ others

-- the faults of an element are its own, and those of its children
inside-faultless : (file : ℕ) (e : Element) (row : Row) → (element_faults file e).faults row ≡ []
    → flat_map (child_faults file row) (map (element_faults file) (out-Element e).children) ≡ []
inside-faultless file e row h =
    let layer = sym (ap (λ (one : ElementFaults). one.faults row) (faults-out file e)) ∙ h in
    let own : List ModelFault = map (fault_at file (out-Element e).line) (own_faults row (out-Element e).tag
    (out-Element e).attributes) in
    let inside : List ModelFault = flat_map (child_faults file row) (map (element_faults file) (out-Element
    e).children) in
    back-empty own inside (front-empty (own ++ inside) _ layer)

own-faultless : (file : ℕ) (e : Element) (row : Row) → (element_faults file e).faults row ≡ [] → own_faults row
    (out-Element e).tag (out-Element e).attributes ≡ []
own-faultless file e row h =
    let layer = sym (ap (λ (one : ElementFaults). one.faults row) (faults-out file e)) ∙ h in
    let faults = own_faults row (out-Element e).tag (out-Element e).attributes in
    let own : List ModelFault = map (fault_at file (out-Element e).line) faults in
    let inside : List ModelFault = flat_map (child_faults file row) (map (element_faults file) (out-Element
    e).children) in
    map-empty (fault_at file (out-Element e).line) faults (front-empty own inside (front-empty (own ++ inside) _ layer))

short-within : (d file : ℕ) (e : Element) (row : Row) → depth e ≤ d → has_rules row ≡ true → (element_faults file
    e).faults row ≡ [] → are_short e ≡ true
short-within zero file e row shallow ruled h = absurd (omega (arith, depth-out e))
short-within (suc d) file e row shallow ruled h =
    are_short-back e
    (own-short row (out-Element e).tag (out-Element e).attributes ruled (own-faultless file e row h))
    (children-short d file row (λ x r s ru fs. short-within d file x r s ru fs) (out-Element e).children (omega
    (arith, depth-out e)) (inside-faultless file e row h))

-- the numbers in a root without a fault
root-short : (file : ℕ) (e : Element) → root_faults file (element_faults file e) ≡ [] → list_all are_short
    (out-Element e).children ≡ true
root-short file e h = by_test (has_tag (element_faults file e).tag opsa_mef) _ h
  where
    by_test : (b : Bool) (f : ModelFault) → cond b ((element_faults file e).faults opsa_mef) (f ∷ []) ≡ [] →
        list_all are_short (out-Element e).children ≡ true
    by_test false f is = absurd (cc)
    by_test true f is =
        children-short (depth e) file opsa_mef (λ x r s ru fs. short-within (depth e) file x r s ru fs)
        (out-Element e).children (omega (arith, depth-out e)) (inside-faultless file e opsa_mef is)

roots-short : (place : ℕ) (roots : List Element) → flat_map (λ (one : ℕ × Element). root_faults one.0
    (element_faults one.0 one.1)) (enumerate_from place roots) ≡ []
    → list_all (λ (root : Element). list_all are_short (out-Element root).children) roots ≡ true
roots-short place [] h = refl
roots-short place (root ∷ roots) h =
    ap (λ (b : Bool). b && list_all (λ (r : Element). list_all are_short (out-Element r).children) roots)
    (root-short place root (front-empty (root_faults place (element_faults place root)) _ h))
    ∙ roots-short (place + 1) roots (back-empty (root_faults place (element_faults place root)) _ h)

-- the numbers in roots without a fault of shape
pub short-roots : (roots : List Element) → shape_fault roots ≡ None → list_all (λ (root : Element). list_all
    are_short (out-Element root).children) roots ≡ true
short-roots roots h = roots-short 0 roots (no-first (shape_faults roots) h)
