-- The references of a draft stand at different positions, its definitions and paths do, and it is of limited size: no
-- element says more than one of each.
use Rattle.std.proofs.Common.{◌≡◌, inl, inr, ℕ, zero, suc, ◌+◌, ◌*◌, ◌<◌, ◌≤◌, ◌==◌, Bool, true, false, ◌&&◌, List, [], ◌∷◌, ◌++◌, map, length, refl, ap, ◌∙◌, arith}
use Rattle.std.specs.List.{AllByRecursion, list_any, flat_map, enumerate_from}
use Rattle.std.proofs.lemmas.Bool.{eq-eqb, ne_eqb, cases_eq}
use Rattle.psa_text.specs.declared.tree.Element.{Element}
use Rattle.psa_text.specs.TreeSize.{elements_in}
use Rattle.psa_model.specs.declared.draft.DraftBody.{DraftBody}
use Rattle.psa_model.specs.declared.draft.DraftBody.TheVariants as body
use Rattle.psa_model.specs.declared.draft.DraftDefinition.{DraftDefinition}
use Rattle.psa_model.specs.declared.draft.DraftReference.{DraftReference}
use Rattle.psa_model.specs.Drafts.{Contents, Position, position_of, reference_position, same_position, are_apart, together, body_contents, contents_of, member_count, draft_size}
use Rattle.psa_elements.specs.ElementTable.{opsa_mef}
use Rattle.psa_elements.specs.DraftReading.{Reading, some_definitions, definitions_of, element_reading, whole_file, file_definitions, draft_of}
use Rattle.psa_reader.proofs.ElementForms.{element-induction, elements-at}
use Rattle.psa_reader.proofs.Totals.{total, total-append, total-map, total-sum, total-le, span}
use Rattle.psa_reader.proofs.Weights.{Weights, AreWeights, weight, weight-together, weigh, definition_weight, members_in}
use Rattle.psa_reader.proofs.ElementWeights.{size_of, size-is, own_at, element-weight}

abbrev pub one_if : Bool → ℕ
one_if true = 1
one_if false = 0

one_if-one : (b : Bool) → one_if b ≤ 1
one_if-one true = omega arith
one_if-one false = omega arith

-- ---- the definitions of all files

definitions-weigh : (w : Weights) (levels : ℕ) (r : Reading)
    → total (definition_weight w) (definitions_of r) ≤ weigh w levels r
definitions-weigh w levels (some_definitions ds) = omega arith
definitions-weigh w levels _ = omega arith

-- what the elements of files may weigh, the first file by its number
abbrev file_spans : Weights → ℕ → List Element → ℕ
file_spans w file [] = 0
file_spans w file (root ∷ roots) = span (own_at w file) 0 (size_of root) + file_spans w (file + 1) roots

files-weigh : (w : Weights) → AreWeights w → (file : ℕ) (roots : List Element)
    → total (definition_weight w) (flat_map file_definitions (enumerate_from file roots)) ≤ file_spans w file roots
files-weigh w law file [] = omega arith
files-weigh w law file (root ∷ roots) =
    omega (
      arith,
      total-append (definition_weight w) (file_definitions (file, root))
          (flat_map file_definitions (enumerate_from (file + 1) roots)),
      definitions-weigh w 0 ((element_reading root).reading opsa_mef (whole_file file) 0),
      element-weight w law root opsa_mef (whole_file file) 0 0,
      files-weigh w law (file + 1) roots,
    )

contents-weigh : (w : Weights) → AreWeights w → (ds : List DraftDefinition)
    → weight w (together (map (λ definition. body_contents definition.body) ds)) ≡ total
    (λ (d : DraftDefinition). weight w (body_contents d.body)) ds
contents-weigh w law ds =
    weight-together w law (map (λ (definition : DraftDefinition). body_contents definition.body) ds)
    ∙ total-map (weight w) (λ (definition : DraftDefinition). body_contents definition.body) ds

-- ---- positions that are apart

none-same : (p : Position) (ps : List Position) → total (λ q. one_if (same_position p q)) ps ≡ 0
    → list_any (same_position p) ps ≡ false
none-same p [] h = refl
none-same p (q ∷ qs) h = by_test (same_position p q) refl (λ k. none-same p qs k)
  where
    by_test : (b : Bool) → same_position p q ≡ b
        → (total (λ q. one_if (same_position p q)) qs ≡ 0 → list_any (same_position p) qs ≡ false)
        → list_any (same_position p) (q ∷ qs) ≡ false
    by_test true e rest = absurd (omega (arith, h, ap one_if e))
    by_test false e rest = rw e (rest (omega (arith, h)))

same-itself : (p : Position) → same_position p p ≡ true
same-itself p = rw (eq-eqb p.file p.file refl, eq-eqb p.tag p.tag refl) refl

-- positions of which none stands twice are apart
pub apart-by-count : (ps : List Position) → ((p : Position) → total (λ q. one_if (same_position p q)) ps ≤ 1)
    → are_apart ps ≡ true
apart-by-count [] h = refl
apart-by-count (p ∷ ps) h =
    let here : total (λ q. one_if (same_position p q)) ps ≡ 0 = omega (arith, h p, ap one_if (same-itself p)) in
    rw (none-same p ps here) (apart-by-count ps (λ q. omega (arith, h q)))

-- ---- a position stands once among the elements of files

abbrev spot : Position → ℕ → ℕ → ℕ
spot p file number = one_if (same_position p (record { file = file; tag = number }))

other-file : (p : Position) (file number : ℕ) → (p.file ≡ file → ⊥) → spot p file number ≡ 0
other-file p file number apart = rw (ne_eqb p.file file apart) refl

other-number : (p : Position) (file number : ℕ) → (p.tag ≡ number → ⊥) → spot p file number ≡ 0
other-number p file number apart = by_file (p.file == file)
  where
    by_file : (b : Bool) → one_if (b && (p.tag == number)) ≡ 0
    by_file true = rw (ne_eqb p.tag number apart) refl
    by_file false = refl

none-other : (p : Position) (file from count : ℕ) → (p.file ≡ file → ⊥) → span (spot p file) from count ≡ 0
none-other p file from zero apart = refl
none-other p file from (suc count) apart =
    omega (arith, other-file p file from apart, none-other p file (suc from) count apart)

none-past : (p : Position) (file from count : ℕ) → p.tag < from → span (spot p file) from count ≡ 0
none-past p file from zero past = refl
none-past p file from (suc count) past =
    let apart : p.tag ≡ from → ⊥ = λ e. omega (arith, e, past) in
    omega (arith, other-number p file from apart, none-past p file (suc from) count (omega (arith, past)))

once : (p : Position) (file from count : ℕ) → span (spot p file) from count ≤ 1
once p file from zero = omega arith
once p file from (suc count) = elim (cases_eq p.tag from) [
  | inl same ↦ omega (
    arith,
    one_if-one (same_position p (record { file = file; tag = from })),
    none-past p file
        (suc from) count (omega (arith, same)),
  )
  | inr other ↦ omega (arith, other-number p file from other, once p file (suc from) count)
]

-- the weights by which references, or definitions and paths, at a position are counted
abbrev reference_weights : Position → Weights
reference_weights p = record {
  own = λ q. one_if (same_position p q);
  reference = λ q. one_if (same_position p q);
  path = λ q. 0;
  definition = λ q. 0;
  member = 0;
  formulas = λ n. 0;
}

reference_law : (p : Position) → AreWeights (reference_weights p)
reference_law p = record {
  none = refl;
  more = λ a b. refl;
  one = λ q. omega arith;
  refers = λ q. omega arith;
  goes = λ q. omega arith;
  defines = λ q. omega arith;
}

abbrev definition_weights : Position → Weights
definition_weights p = record {
  own = λ q. one_if (same_position p q);
  reference = λ q. 0;
  path = λ q. one_if (same_position p q);
  definition = λ q. one_if (same_position p q);
  member = 0;
  formulas = λ n. 0;
}

definition_law : (p : Position) → AreWeights (definition_weights p)
definition_law p = record {
  none = refl;
  more = λ a b. refl;
  one = λ q. omega arith;
  refers = λ q. omega arith;
  goes = λ q. omega arith;
  defines = λ q. omega arith;
}

passed : (p : Position) (w : Weights) → ((q : Position) → w.own q ≡ one_if (same_position p q)) → (file from count : ℕ)
    → span (own_at w file) from count ≡ span (spot p file) from count
passed p w same file from zero = refl
passed p w same file from (suc count) =
    omega (arith, same (record { file = file; tag = from }), passed p w same file (suc from) count)

none-before : (p : Position) (w : Weights) → ((q : Position) → w.own q ≡ one_if (same_position p q))
    → (file : ℕ) (roots : List Element) → p.file < file → file_spans w file roots ≡ 0
none-before p w same file [] before = refl
none-before p w same file (root ∷ roots) before =
    let apart : p.file ≡ file → ⊥ = λ e. omega (arith, e, before) in
    omega (
      arith,
      passed p w same file 0 (size_of root),
      none-other p file 0 (size_of root) apart,
      none-before p w same
          (file + 1) roots (omega (arith, before)),
    )

once-in-files : (p : Position) (w : Weights) → ((q : Position) → w.own q ≡ one_if (same_position p q))
    → (file : ℕ) (roots : List Element) → file_spans w file roots ≤ 1
once-in-files p w same file [] = omega arith
once-in-files p w same file (root ∷ roots) = elim (cases_eq p.file file) [
  | inl here ↦
      omega (
        arith,
        passed p w same file 0 (size_of root),
        once p file 0 (size_of root),
        none-before p w same
            (file + 1) roots (omega (arith, here)),
      )
  | inr other ↦
      omega (
        arith,
        passed p w same file 0 (size_of root),
        none-other p file 0 (size_of root) other,
        once-in-files p w same (file + 1) roots,
      )
]

-- No two references of a draft have one position.
pub references-apart : (roots : List Element)
    → are_apart (map reference_position (contents_of (draft_of roots)).references) ≡ true
references-apart roots = apart-by-count (map reference_position (contents_of (draft_of roots)).references) (λ p.
    let w = reference_weights p in
    let ds = (draft_of roots).definitions in
    omega (
      arith,
      total-map (λ q. one_if (same_position p q)) reference_position (contents_of (draft_of roots)).references,
      contents-weigh w (reference_law p) ds,
      total-le (λ (d : DraftDefinition). weight w (body_contents d.body)) (definition_weight w) (λ d. omega arith) ds,
      files-weigh w (reference_law p) 0 roots,
      once-in-files p w (λ q. refl) 0 roots,
    ))

-- No two definitions and paths of a draft have one position.
pub definitions-apart : (roots : List Element)
    → are_apart (map position_of (draft_of roots).definitions ++ (contents_of (draft_of roots)).paths) ≡ true
definitions-apart roots =
    apart-by-count (map position_of (draft_of roots).definitions ++ (contents_of (draft_of roots)).paths) (λ p.
    let w = definition_weights p in
    let ds = (draft_of roots).definitions in
    omega (
      arith,
      total-append (λ q. one_if (same_position p q)) (map position_of ds) (contents_of (draft_of roots)).paths,
      total-map (λ q. one_if (same_position p q)) position_of ds,
      contents-weigh w (definition_law p) ds,
      parts p ds,
      files-weigh w (definition_law p) 0 roots,
      once-in-files p w (λ q. refl) 0 roots,
    ))
  where
    parts : (p : Position) (ds : List DraftDefinition)
        → total (λ (d : DraftDefinition). one_if (same_position p (position_of d))) ds + total
        (λ (d : DraftDefinition). weight (definition_weights p) (body_contents d.body)) ds
        ≤ total (definition_weight (definition_weights p)) ds
    parts p [] = omega arith
    parts p (d ∷ ds) = omega (arith, parts p ds)

-- ---- the size

total-each : {A : Type 0} (f g : A → ℕ) (xs : List A) → AllByRecursion (λ x. f x ≡ g x) xs → total f xs ≡ total g xs
total-each f g [] all = refl
total-each f g (x ∷ xs) all = omega (arith, all.0, total-each f g xs all.1)

-- each element is counted once
pub size-is-elements : (e : Element) → size_of e ≡ elements_in e
size-is-elements = element-induction (λ e. size_of e ≡ elements_in e) (λ x all.
    omega (
      arith,
      size-is x,
      elements-at x,
      total-sum elements_in x.children,
      total-each size_of elements_in x.children all,
    ))

abbrev size_weights : Weights
size_weights = record {
  own = λ q. 1;
  reference = λ q. 0;
  path = λ q. 0;
  definition = λ q. 1;
  member = 1;
  formulas = λ n. n;
}

size_law : AreWeights size_weights
size_law = record {
  none = refl;
  more = λ a b. refl;
  one = λ q. omega arith;
  refers = λ q. omega arith;
  goes = λ q. omega arith;
  defines = λ q. omega arith;
}

span-ones : (file from count : ℕ) → span (own_at size_weights file) from count ≡ count
span-ones file from zero = refl
span-ones file from (suc count) = omega (arith, span-ones file (suc from) count)

files-size : (most file : ℕ) (roots : List Element) → AllByRecursion (λ root. elements_in root ≤ most) roots
    → file_spans size_weights file roots ≤ most * length roots
files-size most file [] all = omega arith
files-size most file (root ∷ roots) all =
    omega (
      arith,
      span-ones file 0 (size_of root),
      size-is-elements root,
      all.0,
      files-size most (file + 1) roots all.1,
      product most (length roots),
    )
  where
    product : (m n : ℕ) → m * suc n ≡ m + m * n
    product m n = omega arith

ones : {A : Type 0} (xs : List A) → total (λ x. 1) xs ≡ length xs
ones [] = refl
ones (x ∷ xs) = omega (arith, ones xs)

member-ones : (b : DraftBody) → total (λ (r : DraftReference). 1) (members_in b) ≡ member_count b
member-ones (body.Group group) = ones group.members
member-ones body.Nothing = refl
member-ones (body.Formula f) = refl
member-ones (body.Value v) = refl
member-ones (body.State s) = refl
member-ones (body.Start r) = refl
member-ones (body.Steps i l) = refl
member-ones (body.Walk b) = refl

-- A draft has at most as many definitions, members and collected formulas as elements.
pub draft-few : (most : ℕ) (roots : List Element) → AllByRecursion (λ root. elements_in root ≤ most) roots
    → draft_size (draft_of roots) ≤ most * length roots
draft-few most roots all =
    let ds = (draft_of roots).definitions in
    omega (
      arith,
      total-sum (λ (d : DraftDefinition). member_count d.body) ds,
      formulas-weigh (contents_of (draft_of roots)),
      contents-weigh size_weights size_law ds,
      parts ds,
      files-weigh size_weights size_law 0 roots,
      files-size most 0 roots all,
    )
  where
    zeros : {A : Type 0} (xs : List A) → total (λ x. 0) xs ≡ 0
    zeros [] = refl
    zeros (x ∷ xs) = omega (arith, zeros xs)

    formulas-weigh : (c : Contents) → c.formulas ≡ weight size_weights c
    formulas-weigh c = omega (arith, zeros c.references, zeros c.paths)

    parts : (ds : List DraftDefinition)
        → length ds + total (λ (d : DraftDefinition). member_count d.body) ds + total
        (λ (d : DraftDefinition). weight size_weights (body_contents d.body)) ds
        ≤ total (definition_weight size_weights) ds
    parts [] = omega arith
    parts (d ∷ ds) = omega (arith, parts ds, member-ones d.body)
