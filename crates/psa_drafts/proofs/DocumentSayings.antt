-- What files say one after another, and how large they are.
use Rattle.std.proofs.Common.{◌≡◌, ℕ, zero, suc, ◌+◌, ◌<◌, ◌≤◌, ◌^◌, true, List, [], ◌∷◌, ◌++◌, length, map, get_or, take, refl, sym, ap, ◌∙◌, append-nil, arith}
use Rattle.std.specs.List.{list_all, flat_map, enumerate_from, sum}
use Rattle.std.proofs.lemmas.Bool.{and_parts}
use Rattle.std.proofs.lemmas.Grind.{flat_map-append}
use Rattle.std.proofs.lemmas.List.{take_more, map-append, length-map, length-take-le}
use Rattle.std.proofs.lemmas.List.Sums.{sum_by-cons}
use Rattle.psa_text.specs.Tree.{depth, depth_step, greatest}
use Rattle.psa_text.specs.TreeSize.{elements_in, elements_step}
use Rattle.psa_text.specs.declared.tree.Document.{Document}
use Rattle.psa_text.specs.declared.tree.Element.{Element}
use Rattle.psa_text.specs.declared.tree.Element.TheViews.{out-Element}
use Rattle.psa_text.specs.declared.tree.Element.TheFolds.{fold_out-Element}
use Rattle.psa_elements.specs.ElementTable.{in_root}
use Rattle.psa_elements.specs.DraftReading.{definitions_of, definitions_in, file_definitions, whole_file}
use Rattle.psa_model.specs.declared.draft.DraftDefinition.{DraftDefinition}
use Rattle.psa_draft_parts.specs.Sayings.{size_of, sizes_of, are_short, reading_as, inside_among, AreReadable}
use Rattle.psa_draft_parts.proofs.Readings.{size-out}
use Rattle.psa_drafts.proofs.DefinitionSayings.{says-root}

-- ---- sizes

elements-out : (e : Element) → elements_in e ≡ 1 + sum (map elements_in (out-Element e).children)
elements-out e = fold_out-Element ℕ elements_step e

depth-out : (e : Element) → depth e ≡ 1 + greatest (map depth (out-Element e).children)
depth-out e = fold_out-Element ℕ depth_step e

sizes-as : (d : ℕ) → ((e : Element) → depth e ≤ d → size_of e ≡ elements_in e) → (es : List Element) → greatest
    (map depth es) ≤ d → sizes_of es ≡ sum (map elements_in es)
sizes-as d each [] shallow = refl
sizes-as d each (e ∷ es) shallow =
    let first : size_of e ≡ elements_in e = each e (omega arith) in
    let others : sizes_of es ≡ sum (map elements_in es) = sizes-as d each es (omega arith) in
    let whole : sum (map elements_in (e ∷ es)) ≡ elements_in e + sum (map elements_in es) = sum_by-cons (λ x. x)
    (elements_in e) (map elements_in es) in
    omega arith

size-within : (d : ℕ) (e : Element) → depth e ≤ d → size_of e ≡ elements_in e
size-within zero e shallow = absurd (omega (arith, depth-out e))
size-within (suc d) e shallow =
    let inside : sizes_of (out-Element e).children ≡ sum (map elements_in (out-Element e).children) =
    sizes-as d (λ x s. size-within d x s) (out-Element e).children (omega (arith, depth-out e)) in
    omega (arith, size-out e, elements-out e)

-- the size of an element is the number of elements that it has
pub size-as : (e : Element) → size_of e ≡ elements_in e
size-as e = size-within (depth e) e (omega arith)

-- what stands in the root of a file can be read
pub root-readable : (e : Element) → size_of e < 2 ^ 32 → list_all are_short (out-Element e).children ≡ true →
    AreReadable 1 (out-Element e).children
root-readable e small short = record { fits = omega (arith, size-out e); short = short }

-- ---- files

-- what a file says
pub says-file : (file : ℕ) (e : Element) → file_definitions (file, e) ≡ definitions_in (inside_among in_root
    (whole_file file) 0 e)
unfolding reading_as
says-file file e = ap definitions_of (says-root (whole_file file) 0 e)

enumerate-append : (n : ℕ) (xs : List Element) (x : Element) → enumerate_from n (xs ++ x ∷ []) ≡ enumerate_from n
    xs ++ (n + length xs, x) ∷ []
enumerate-append n [] x = ap (λ (m : ℕ). (m, x) ∷ []) (omega arith)
enumerate-append n (y ∷ ys) x =
    ap (λ (more : List (ℕ × Element)). (n, y) ∷ more)
    (enumerate-append (n + 1) ys x ∙ ap (λ (m : ℕ). enumerate_from (n + 1) ys ++ (m, x) ∷ []) (omega arith))

-- one more file says its definitions behind those before
pub files-more : (docs : List Document) (i : ℕ) (d : Document) → i < length docs → d ≡ get_or docs i d
    → flat_map file_definitions (enumerate_from 0 (map (λ (doc : Document). doc.root) (take (i + 1) docs)))
    ≡ flat_map file_definitions (enumerate_from 0 (map (λ (doc : Document). doc.root) (take i docs))) ++
    file_definitions (i, d.root)
files-more docs i d l d_is =
    let root : Document → Element = λ (doc : Document). doc.root in
    let before : List Element = map root (take i docs) in
    let count : length before ≡ i = length-map (take i docs) root ∙ length-take-le i docs (omega arith) in
    ap (λ (part : List Document). flat_map file_definitions (enumerate_from 0 (map root part)))
    (take_more docs i d l ∙ ap (λ (one : Document). take i docs ++ one ∷ []) (sym d_is))
    ∙ ap (λ (roots : List Element). flat_map file_definitions (enumerate_from 0 roots)) (map-append root (take i
    docs) (d ∷ []))
    ∙ ap (λ (files : List (ℕ × Element)). flat_map file_definitions files) (enumerate-append 0 before d.root)
    ∙ flat_map-append file_definitions (enumerate_from 0 before) ((0 + length before, d.root) ∷ [])
    ∙ append-after (enumerate_from 0 before) (0 + length before) i (omega arith)
  where
    append-after : (files : List (ℕ × Element)) (m k : ℕ) → m ≡ k
        → flat_map file_definitions files ++ (file_definitions (m, d.root) ++ []) ≡ flat_map file_definitions files
        ++ file_definitions (k, d.root)
    append-after files m k same =
        ap (λ (last : List DraftDefinition). flat_map file_definitions files ++ last) (append-nil (file_definitions
        (m, d.root)) ∙ ap (λ (p : ℕ). file_definitions (p, d.root)) same)

-- ---- facts of each document

-- the numbers in each document have few digits
pub short-doc : (docs : List Document) (i : ℕ) (d : Document) → i < length docs → d ≡ get_or docs i d
    → list_all (λ (root : Element). list_all are_short (out-Element root).children) (map (λ (doc : Document).
    doc.root) docs) ≡ true
    → list_all are_short (out-Element d.root).children ≡ true
short-doc [] i d l d_is h = absurd (omega arith)
short-doc (doc ∷ docs) zero d l d_is h =
    ap (λ (one : Document). list_all are_short (out-Element one.root).children) d_is
    ∙ (and_parts (list_all are_short (out-Element doc.root).children) (list_all (λ (root : Element). list_all
    are_short (out-Element root).children) (map (λ (one : Document). one.root) docs)) h).0
short-doc (doc ∷ docs) (suc i) d l d_is h =
    short-doc docs i d (omega arith) d_is
    (and_parts (list_all are_short (out-Element doc.root).children) (list_all (λ (root : Element). list_all
    are_short (out-Element root).children) (map (λ (one : Document). one.root) docs)) h).1
