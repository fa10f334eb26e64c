-- What an element says, by one layer of its tree: by its row, its start tag, and what those in it say.
use Rattle.std.proofs.Common.{◌≡◌, ℕ, suc, ◌+◌, Bool, true, false, cond, ◌||◌, Option, Some, None, List, [], ◌∷◌, ◌++◌, map, codes, refl, sym, ap, ◌∙◌, add-one}
use Rattle.std.specs.List.{find, list_any, sum}
use Rattle.std.specs.Str.{bytes_eq}
use Rattle.std.proofs.lemmas.List.Folds.{find-append}
use Rattle.std.proofs.lemmas.List.Sums.{sum_by-cons}
use Rattle.std.specs.Option.{option_or}
use Rattle.std.proofs.lemmas.Slice.Eq.{bytes_eq-Decides}
use Rattle.psa_text.specs.declared.tree.Element.{Element}
use Rattle.psa_text.specs.declared.tree.Element.TheViews.{out-Element}
use Rattle.psa_text.specs.declared.tree.Element.TheFolds.{fold_out-Element}
use Rattle.psa_model.specs.PathNames.{Text}
use Rattle.psa_elements.specs.ElementTable.{Row, label, attributes, has_tag, tag_of, rows_inside}
use Rattle.psa_elements.specs.DraftReading.{Surroundings, nothing, reading_of, ElementReading, element_reading, reading_layer, child_reading, children_readings, surroundings_inside}
use Rattle.psa_draft_parts.specs.Sayings.{size_of, sizes_of, start_tag, reading_as, reading_found, reading_among, readings_among, inside_among}

reading-out : (e : Element) → element_reading e ≡ reading_layer (record {
  tag = (out-Element e).tag;
  line =
      (out-Element e).line;
  attributes = (out-Element e).attributes;
  children = map element_reading (out-Element
      e).children;
})
reading-out e = fold_out-Element ElementReading reading_layer e

tag-out : (e : Element) → (element_reading e).tag ≡ (out-Element e).tag
tag-out e = ap (λ (r : ElementReading). r.tag) (reading-out e)

sum-sizes : (es : List Element) → sum (map (λ (child : ElementReading). child.size) (map element_reading es)) ≡
    sizes_of es
unfolding size_of
sum-sizes [] = refl
sum-sizes (e ∷ es) =
    sum_by-cons (λ x. x) (element_reading e).size (map (λ (child : ElementReading). child.size) (map
    element_reading es))
    ∙ ap (λ n. (element_reading e).size + n) (sum-sizes es)

-- an element is one, and those in it
pub size-out : (e : Element) → size_of e ≡ suc (sizes_of (out-Element e).children)
unfolding size_of
size-out e = ap (λ (r : ElementReading). r.size) (reading-out e) ∙ ap suc (sum-sizes (out-Element e).children)

child-found : (parent : Row) (around : Surroundings) (n : ℕ) (e : Element) → child_reading parent around n
    (element_reading e) ≡ reading_among (rows_inside parent) around n e
unfolding reading_among reading_as
child-found parent around n e = by_tag (element_reading e).tag (tag-out e) (find (has_tag (element_reading e).tag)
    (rows_inside parent)) refl
  where
    by_row : (r : Option Row) → find (has_tag (element_reading e).tag) (rows_inside parent) ≡ r → child_reading
        parent around n (element_reading e) ≡ reading_found r around n e
    by_row None h = rw h refl
    by_row (Some row) h = rw h refl

    by_tag : (tag : Text) → tag ≡ (out-Element e).tag → (r : Option Row) → find (has_tag (element_reading e).tag)
        (rows_inside parent) ≡ r → child_reading parent around n (element_reading e) ≡ reading_found (find
        (has_tag (out-Element e).tag) (rows_inside parent)) around n e
    by_tag tag h r found = by_row _ (ap (λ t. find (has_tag t) (rows_inside parent)) (tag-out e))

children-found : (parent : Row) (around : Surroundings) (n : ℕ) (es : List Element) → children_readings parent
    around n (map element_reading es) ≡ readings_among (rows_inside parent) around n es
unfolding size_of
children-found parent around n [] = refl
children-found parent around n (e ∷ es) =
    ap (λ one. one ∷ children_readings parent around (n + (element_reading e).size) (map element_reading es))
    (child-found parent around n e)
    ∙ ap (λ more. reading_among (rows_inside parent) around n e ∷ more) (children-found parent around (n +
    (element_reading e).size) es)

-- what an element says as an element of a row
pub reading-as : (row : Row) (around : Surroundings) (n : ℕ) (e : Element)
    → reading_as row around n e ≡ reading_of row (start_tag around n e) (inside_among (rows_inside row)
    (surroundings_inside row (start_tag around n e)) n e)
unfolding reading_as
reading-as row around n e =
    ap (λ (r : ElementReading). r.reading row around n) (reading-out e)
    ∙ ap (λ inside. reading_of row (start_tag around n e) inside)
    (children-found row (surroundings_inside row (start_tag around n e)) (suc n) (out-Element e).children
    ∙ ap (λ m. readings_among (rows_inside row) (surroundings_inside row (start_tag around n e)) m (out-Element
    e).children) (sym (add-one n)))

-- what it says as a row that its tag has among some
pub among-found : (rows : List Row) (around : Surroundings) (n : ℕ) (e : Element) (r : Option Row) → r ≡ find
    (has_tag (out-Element e).tag) rows → reading_among rows around n e ≡ reading_found r around n e
unfolding reading_among
among-found rows around n e r h = ap (λ found. reading_found found around n e) (sym h)

-- no row is found by a tag that none has
find-none : (tag : Text) (rows : List Row) → list_any (has_tag tag) rows ≡ false → find (has_tag tag) rows ≡ None
find-none tag [] h = refl
find-none tag (row ∷ rows) h = by_test (has_tag tag row) (find-none tag rows) h
  where
    by_test : (b : Bool) → (list_any (has_tag tag) rows ≡ false → find (has_tag tag) rows ≡ None) → (b || list_any
        (has_tag tag) rows) ≡ false → cond b (Some row) (find (has_tag tag) rows) ≡ None
    by_test true rest h = absurd (cc)
    by_test false rest h = rest h

-- none of the rows has the tag
abbrev pub AllOthers : Text → List Row → Type 0
AllOthers tag [] = Unit {0}
AllOthers tag (row ∷ rows) = (tag ≡ tag_of row → ⊥) × AllOthers tag rows

-- no row is found by a tag that is none of theirs
pub none-of : (tag : Text) (rows : List Row) → AllOthers tag rows → None ≡ find (has_tag tag) rows
none-of tag [] h = refl
none-of tag (row ∷ rows) h = by_test (has_tag tag row) refl (none-of tag rows h.1)
  where
    by_test : (b : Bool) → has_tag tag row ≡ b → None ≡ find (has_tag tag) rows → None ≡ cond b (Some row) (find
        (has_tag tag) rows)
    by_test true is rest = absurd (h.0 (sym ((bytes_eq-Decides (tag_of row) tag).0 is)))
    by_test false is rest = rest

-- a row that says nothing can be left out, where no other row has its tag
left-out : (silent : Row) (rows : List Row) (around : Surroundings) (n : ℕ) (e : Element)
    → ((n : ℕ) → reading_as silent around n e ≡ nothing) → list_any (has_tag (tag_of silent)) rows ≡ false
    → reading_among (silent ∷ rows) around n e ≡ reading_among rows around n e
unfolding reading_among
left-out silent rows around n e says h = by_test (has_tag (out-Element e).tag silent) refl
  where
    by_test : (b : Bool) → has_tag (out-Element e).tag silent ≡ b → reading_found (cond b (Some silent) (find
        (has_tag (out-Element e).tag) rows)) around n e ≡ reading_found (find (has_tag (out-Element e).tag)
        rows) around n e
    by_test true is = says n ∙ sym (ap (λ found. reading_found found around n e)
        (let same : tag_of silent ≡ (out-Element e).tag = (bytes_eq-Decides (tag_of silent) (out-Element e).tag).0 is in
        find-none (out-Element e).tag rows (ap (λ t. list_any (has_tag t) rows) (sym same) ∙ h)))
    by_test false is = refl

all-left-out : (silent : Row) (rows : List Row) (around : Surroundings) (n : ℕ) (es : List Element)
    → ((n : ℕ) (e : Element) → reading_as silent around n e ≡ nothing) → list_any (has_tag (tag_of silent)) rows ≡ false
    → readings_among (silent ∷ rows) around n es ≡ readings_among rows around n es
all-left-out silent rows around n [] says h = refl
all-left-out silent rows around n (e ∷ es) says h =
    ap (λ one. one ∷ readings_among (silent ∷ rows) around (n + size_of e) es) (left-out silent rows around n e (λ
    m. says m e) h)
    ∙ ap (λ more. reading_among rows around n e ∷ more) (all-left-out silent rows around (n + size_of e) es says h)

-- labels say nothing
pub unlabelled : (rows : List Row) (around : Surroundings) (n : ℕ) (es : List Element)
    → list_any (has_tag (codes "label")) rows ≡ false → list_any (has_tag (codes "attributes")) rows ≡ false
    → readings_among (label ∷ attributes ∷ rows) around n es ≡ readings_among rows around n es
unlabelled rows around n es no_label no_attributes =
    all-left-out label (attributes ∷ rows) around n es (λ m e. reading-as label around m e) no_label
    ∙ all-left-out attributes rows around n es (λ m e. reading-as attributes around m e) no_attributes

-- a row that is found by a text that is the tag
pub among-known : (rows : List Row) (around : Surroundings) (n : ℕ) (e : Element) (tag : Text) (r : Option Row)
    → tag ≡ (out-Element e).tag → r ≡ find (has_tag tag) rows → reading_among rows around n e ≡ reading_found r
    around n e
among-known rows around n e tag r tag_is h = among-found rows around n e r (h ∙ ap (λ t. find (has_tag t) rows) tag_is)

-- found among the first rows
pub among-first : (rows others : List Row) (around : Surroundings) (n : ℕ) (e : Element) (tag : Text) (row : Row)
    → tag ≡ (out-Element e).tag → Some row ≡ find (has_tag tag) rows → reading_among (rows ++ others) around n e ≡
    reading_as row around n e
among-first rows others around n e tag row tag_is h =
    among-known (rows ++ others) around n e tag (Some row) tag_is
    (sym (find-append (has_tag tag) rows others ∙ ap (λ found. option_or found (find (has_tag tag) others)) (sym h)))

-- or else among the others
pub among-others : (rows others : List Row) (around : Surroundings) (n : ℕ) (e : Element) (tag : Text) (r : Option Row)
    → tag ≡ (out-Element e).tag → None ≡ find (has_tag tag) rows → r ≡ find (has_tag tag) others → reading_among
    (rows ++ others) around n e ≡ reading_found r around n e
among-others rows others around n e tag r tag_is h found =
    among-known (rows ++ others) around n e tag r tag_is
    (sym (find-append (has_tag tag) rows others ∙ ap (λ first. option_or first (find (has_tag tag) others)) (sym h)
    ∙ sym found))

-- the one row of a tag, or none
pub one-row : (row : Row) (tag : Text) → bytes_eq tag (tag_of row) ≡ true → Some row ≡ find (has_tag tag) (row ∷ [])
one-row row tag is =
    let same : tag ≡ tag_of row = (bytes_eq-Decides tag (tag_of row)).0 is in
    let back : bytes_eq (tag_of row) tag ≡ true = ap (λ t. bytes_eq (tag_of row) t) same ∙ ap (λ t. bytes_eq t
    (tag_of row)) (sym same) ∙ is in
    ap (λ b. cond b (Some row) None) (sym back)

-- a tag that is not that of the one row
pub no-row : (row : Row) (tag : Text) → bytes_eq tag (tag_of row) ≡ false → None ≡ find (has_tag tag) (row ∷ [])
no-row row tag is = by_test (has_tag tag row) refl
  where
    by_test : (b : Bool) → has_tag tag row ≡ b → None ≡ cond b (Some row) None
    by_test false h = refl
    by_test true h =
        let same : tag_of row ≡ tag = (bytes_eq-Decides (tag_of row) tag).0 h in
        let both : bytes_eq tag (tag_of row) ≡ true = ap (λ t. bytes_eq tag t) same ∙ ap (λ t. bytes_eq t tag) (sym
        same) ∙ h in
        absurd (cc)

-- a tag that none of the first rows has
pub among-rest : (rows others : List Row) (around : Surroundings) (n : ℕ) (e : Element) (tag : Text)
    → tag ≡ (out-Element e).tag → None ≡ find (has_tag tag) rows → reading_among (rows ++ others) around n e ≡
    reading_among others around n e
among-rest rows others around n e tag tag_is h =
    among-others rows others around n e tag (find (has_tag tag) others) tag_is h refl
    ∙ sym (among-known others around n e tag (find (has_tag tag) others) tag_is refl)
