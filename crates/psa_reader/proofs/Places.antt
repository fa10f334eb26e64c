-- Definitions stand in document order: those of an element, from its own number on, before the number behind it.
use Rattle.std.proofs.Common.{◌≡◌, ◌⊎◌, inl, inr, ℕ, suc, ◌+◌, ◌<◌, ◌≤◌, ◌==◌, nat_lt, true, ◌&&◌, List, [], ◌∷◌, ◌++◌, map, refl, ap, sym, subst, arith}
use Rattle.std.specs.List.{AllByRecursion, flat_map, enumerate_from}
use Rattle.std.proofs.lemmas.Bool.{eq-eqb, lt-ltb, or_left, or_right}
use Rattle.psa_text.specs.declared.tree.Element.{Element, roll-Element}
use Rattle.psa_text.specs.declared.tree.Element.TheOpen.{Element-F}
use Rattle.psa_model.specs.declared.draft.DraftDefinition.{DraftDefinition}
use Rattle.psa_model.specs.declared.draft.DraftTest.{DraftTest}
use Rattle.psa_model.specs.declared.draft.DraftInstruction.{DraftInstruction}
use Rattle.psa_model.specs.Drafts.{Position, position_of, stands_before, are_ascending}
use Rattle.psa_elements.specs.ElementTable.{Row, opsa_mef, define_fault_tree, define_component, model_data, define_gate, define_basic_event, define_house_event, define_parameter, public_basic_event, public_house_event, public_parameter, define_group, define_initiating_event, define_event_tree, define_functional_event, define_sequence, define_branch, define_rule, if_instruction}
use Rattle.psa_elements.specs.DraftReading.{element_reading, Surroundings, StartTag, Reading, reading_of, conditional, definitions_of, definitions_in, child_reading, children_readings, surroundings_inside, whole_file, file_definitions, draft_of}
use Rattle.psa_reader.proofs.ElementForms.{element-induction, reading-at, start_of, inside_of}
use Rattle.psa_reader.proofs.Totals.{total}
use Rattle.psa_reader.proofs.RowWeights.{at}
use Rattle.psa_reader.proofs.ElementWeights.{same-file, child-reads, size_of, size-is}

-- ---- which definitions an element gives

pub data Gives (start : StartTag) (inside : List Reading) : List DraftDefinition → Type 0 where
  none : Gives start inside []
  alone : (d : DraftDefinition) → position_of d ≡ at start → Gives start inside (d ∷ [])
  inner : Gives start inside (definitions_in inside)
  before_inner : (d : DraftDefinition) → position_of d ≡ at start → Gives start inside (d ∷ definitions_in inside)

conditional-gives : (start : StartTag) (inside : List Reading) (tests : List DraftTest) (steps : List DraftInstruction)
    → Gives start inside (definitions_of (conditional tests steps))
conditional-gives start inside [] steps = none
conditional-gives start inside (one ∷ tests) [] = none
conditional-gives start inside (one ∷ tests) (first ∷ others) = none

pub row-gives : (row : Row) (start : StartTag) (inside : List Reading)
    → Gives start inside (definitions_of (reading_of row start inside))
row-gives opsa_mef start inside = inner
row-gives model_data start inside = inner
row-gives define_fault_tree start inside = before_inner _ refl
row-gives define_component start inside = before_inner _ refl
row-gives define_event_tree start inside = before_inner _ refl
row-gives define_gate start inside = alone _ refl
row-gives define_basic_event start inside = alone _ refl
row-gives define_house_event start inside = alone _ refl
row-gives define_parameter start inside = alone _ refl
row-gives public_basic_event start inside = alone _ refl
row-gives public_house_event start inside = alone _ refl
row-gives public_parameter start inside = alone _ refl
row-gives define_group start inside = alone _ refl
row-gives define_initiating_event start inside = alone _ refl
row-gives define_functional_event start inside = alone _ refl
row-gives define_sequence start inside = alone _ refl
row-gives define_branch start inside = alone _ refl
row-gives define_rule start inside = alone _ refl
row-gives if_instruction start inside = conditional-gives start inside _ _
row-gives _ start inside = none

-- ---- positions of a file that rise, from a number on and below another

abbrev pub Rise : ℕ → ℕ → List DraftDefinition → ℕ → Type 0
Rise file low [] high = low ≤ high
Rise file low (d ∷ ds) high = (d.place.file ≡ file) × (low ≤ d.tag) × Rise file (suc d.tag) ds high

rise-append : (file low middle high : ℕ) (xs ys : List DraftDefinition) → Rise file low xs middle
    → Rise file middle ys high → Rise file low (xs ++ ys) high
rise-append file low middle high [] [] a b = omega (arith, a, b)
rise-append file low middle high [] (y ∷ ys) a b = (b.0, omega (arith, a, b.1), b.2)
rise-append file low middle high (x ∷ xs) ys a b = (a.0, a.1, rise-append file (suc x.tag) middle high xs ys a.2 b)

rise-from : (file low lower high : ℕ) (xs : List DraftDefinition) → lower ≤ low → Rise file low xs high
    → Rise file lower xs high
rise-from file low lower high [] below a = omega (arith, below, a)
rise-from file low lower high (x ∷ xs) below a = (a.0, omega (arith, below, a.1), a.2)

abbrev IsRising : Element → Type 0
IsRising e = (row : Row) (around : Surroundings) (number : ℕ)
    → Rise around.file number (definitions_of ((element_reading e).reading row around number)) (number + size_of e)

children-rise : (parent : Row) (around : Surroundings) (es : List Element) (number : ℕ) → AllByRecursion IsRising es
    → Rise around.file number (definitions_in (children_readings parent around number (map element_reading es)))
    (number + total size_of es)
children-rise parent around [] number all = omega arith
children-rise parent around (e ∷ es) number all =
    let first : Rise around.file number (definitions_of (child_reading parent around number (element_reading e)))
    (number + size_of e) =
    child-reads (λ r. Rise around.file number (definitions_of r) (number + size_of e)) parent around number
    (element_reading e) (omega arith)
    (λ row found. all.0 row around number) in
    let rest : Rise around.file (number + size_of e)
    (definitions_in (children_readings parent around (number + size_of e) (map element_reading es)))
    (number + (size_of e + total size_of es)) =
    subst (λ high. Rise around.file (number + size_of e)
    (definitions_in (children_readings parent around (number + size_of e) (map element_reading es))) high)
    (over number (size_of e) (total size_of es)) (children-rise parent around es (number + size_of e) all.1) in
    rise-append around.file number (number + size_of e) (number + (size_of e + total size_of es))
    (definitions_of (child_reading parent around number (element_reading e)))
    (definitions_in (children_readings parent around (number + size_of e) (map element_reading es))) first rest
  where
    over : (a b c : ℕ) → a + b + c ≡ a + (b + c)
    over a b c = omega arith

given-rise : (start : StartTag) (inside : List Reading) (ds : List DraftDefinition) (high : ℕ) → Gives start inside ds
    → Rise start.around.file (suc start.number) (definitions_in inside) high → suc start.number ≤ high
    → Rise start.around.file start.number ds high
given-rise start inside _ high none rest some = omega (arith, some)
given-rise start inside _ high (alone d e) rest some =
    let tagged = ap (λ (p : Position). p.tag) e in
    (ap (λ (p : Position). p.file) e, omega (arith, tagged), omega (arith, tagged, some))
given-rise start inside _ high inner rest some =
    rise-from start.around.file (suc start.number) start.number high (definitions_in inside) (omega arith) rest
given-rise start inside _ high (before_inner d e) rest some =
    let tagged = ap (λ (p : Position). p.tag) e in (
      ap (λ (p : Position). p.file) e,
      omega (arith, tagged),
      rise-from start.around.file (suc start.number)
          (suc d.tag) high (definitions_in inside) (omega (arith, tagged)) rest,
    )

rising-step : (x : Element-F Element) → AllByRecursion IsRising x.children → IsRising (roll-Element x)
rising-step x all row around number =
    let start = start_of x around number in
    let inside = inside_of x row around number in
    let ended : number + size_of (roll-Element x) ≡ suc number + total size_of x.children = omega (arith, size-is x) in
    let rest : Rise around.file (suc number) (definitions_in inside) (suc number + total size_of x.children) =
    subst (λ file. Rise file (suc number) (definitions_in inside) (suc number + total size_of x.children))
    (same-file row start)
    (children-rise row (surroundings_inside row start) x.children (suc number) all) in
    subst (λ r. Rise around.file number (definitions_of r) (number + size_of (roll-Element x)))
    (sym (reading-at x row around number))
    (subst (λ high. Rise around.file number (definitions_of (reading_of row start inside)) high) (sym ended)
    (given-rise start inside (definitions_of (reading_of row start inside)) (suc number + total size_of x.children)
    (row-gives row start inside) rest (omega arith)))

element-rises : (e : Element) → IsRising e
element-rises = element-induction IsRising rising-step

-- ---- over files

-- positions that rise, the first at this one or later
abbrev Follow : ℕ → ℕ → List DraftDefinition → Type 0
Follow file low [] = Unit {0}
Follow file low (d ∷ ds) = ((file < d.place.file) ⊎ ((file ≡ d.place.file) × (low ≤ d.tag))) × Follow d.place.file
    (suc d.tag) ds

later : (file low : ℕ) (ds : List DraftDefinition) → Follow (file + 1) 0 ds → Follow file low ds
later file low [] h = tt
later file low (d ∷ ds) h =
    (elim h.0 [ inl above ↦ inl (omega (arith, above)) | inr same ↦ inl (omega (arith, same.0)) ], h.1)

join-files : (file low high : ℕ) (xs ys : List DraftDefinition) → Rise file low xs high → Follow (file + 1) 0 ys
    → Follow file low (xs ++ ys)
join-files file low high [] ys a b = later file low ys b
join-files file low high (x ∷ xs) ys a b = (
  inr (sym a.0, a.1),
  subst (λ f. Follow f (suc x.tag) (xs ++ ys)) (sym a.0)
      (join-files file (suc x.tag) high xs ys a.2 b),
)

files-follow : (file : ℕ) (roots : List Element) → Follow file 0 (flat_map file_definitions (enumerate_from file roots))
files-follow file [] = tt
files-follow file (root ∷ roots) =
    join-files file 0 (0 + size_of root) (file_definitions (file, root))
    (flat_map file_definitions (enumerate_from (file + 1) roots))
    (element-rises root opsa_mef (whole_file file) 0) (files-follow (file + 1) roots)

before-next : (p q : Position) → (p.file < q.file) ⊎ ((p.file ≡ q.file) × (suc p.tag ≤ q.tag))
    → stands_before p q ≡ true
before-next p q (inl above) =
    or_left (nat_lt p.file q.file) (p.file == q.file && nat_lt p.tag q.tag) (lt-ltb p.file q.file above)
before-next p q (inr same) =
    or_right (nat_lt p.file q.file) (p.file == q.file && nat_lt p.tag q.tag)
    (rw (eq-eqb p.file q.file same.0, lt-ltb p.tag q.tag (omega (arith, same.1))) refl)

ascends : (d : DraftDefinition) (ds : List DraftDefinition) → Follow d.place.file (suc d.tag) ds
    → are_ascending (position_of d ∷ map position_of ds) ≡ true
ascends d [] h = refl
ascends d (e ∷ ds) h = rw (before-next (position_of d) (position_of e) h.0) (ascends e ds h.1)

follow-ascends : (file low : ℕ) (ds : List DraftDefinition) → Follow file low ds
    → are_ascending (map position_of ds) ≡ true
follow-ascends file low [] h = refl
follow-ascends file low (d ∷ ds) h = ascends d ds h.1

-- The definitions of a draft stand in document order.
pub draft-ascends : (roots : List Element) → are_ascending (map position_of (draft_of roots).definitions) ≡ true
draft-ascends roots = follow-ascends 0 0 (draft_of roots).definitions (files-follow 0 roots)
