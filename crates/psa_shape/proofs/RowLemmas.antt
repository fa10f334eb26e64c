-- Rows that are found by their tag, in one list after another.
use Rattle.std.proofs.Common.{◌≡◌, ◌+◌, ◌<◌, ◌++◌, ℕ, List, [], ◌∷◌, Option, Some, None, false, cond, drop, find, get_or, length, map, refl, sym, ap, ◌∙◌}
use Rattle.std.specs.List.{AllByRecursion, flat_map}
use Rattle.std.specs.Option.{option_or}
use Rattle.std.specs.Str.{bytes_eq}
use Rattle.std.proofs.lemmas.Bool.{false_from_ne_true}
use Rattle.std.proofs.lemmas.List.{at_drop_more}
use Rattle.std.proofs.lemmas.List.Folds.{find-append}
use Rattle.std.proofs.lemmas.Slice.Eq.{bytes_eq-Decides}
use Rattle.psa_model.specs.PathNames.{Text}
use Rattle.psa_elements.specs.ElementTable.{Row, tag_of, has_tag}
use Rattle.psa_shape.specs.declared.rules.Part.{Part}
use Rattle.psa_shape.specs.TableRows.{rows_of}
use Rattle.psa_shape.specs.TableRules.{seen_part}

-- a row with another tag is not found
missed : (tag own : Text) → (tag ≡ own → ⊥) → bytes_eq own tag ≡ false
missed tag own other = false_from_ne_true (bytes_eq own tag) (λ e. other (sym ((bytes_eq-Decides own tag).0 e)))

-- where each row has another tag none is found
pub find-none : (tag : Text) (rows : List Row) → AllByRecursion (λ row. tag ≡ tag_of row → ⊥) rows
    → find (has_tag tag) rows ≡ None
find-none tag [] others = refl
find-none tag (row ∷ rows) others =
    ap (λ b. cond b (Some row) (find (has_tag tag) rows)) (missed tag (tag_of row) others.0)
    ∙ find-none tag rows others.1

-- what is found in the first list is found in both
pub find-first : (tag : Text) (rows more : List Row) (row : Row) → find (has_tag tag) rows ≡ Some row
    → find (has_tag tag) (rows ++ more) ≡ Some row
find-first tag rows more row found = find-append (has_tag tag) rows more
    ∙ ap (λ o. option_or o (find (has_tag tag) more)) found

-- what the first list doesn't have is searched in the others
find-next : (tag : Text) (rows more : List Row) → find (has_tag tag) rows ≡ None
    → find (has_tag tag) (rows ++ more) ≡ find (has_tag tag) more
find-next tag rows more missing = find-append (has_tag tag) rows more
    ∙ ap (λ o. option_or o (find (has_tag tag) more)) missing

-- the row that a tag has in parts
abbrev found_in : Text → List Part → Option Row
found_in tag parts = find (has_tag tag) (flat_map (λ part. part.rows) (map seen_part parts))

-- what is found in a part is found in the parts from it on
pub find-in_part : (tag : Text) (parts : List Part) (i : ℕ) (d : Part) (row : Row) → i < length parts
    → find (has_tag tag) (rows_of (get_or parts i d).rows) ≡ Some row
    → find (has_tag tag) (flat_map (λ part. part.rows) (map seen_part (drop i parts))) ≡ Some row
find-in_part tag parts i d row inside found =
    at_drop_more (found_in tag) parts i d inside
    ∙ find-first tag (rows_of (get_or parts i d).rows)
    (flat_map (λ part. part.rows) (map seen_part (drop (i + 1) parts))) row found

-- what a part doesn't have is searched in the parts behind it
pub find-past_part : (tag : Text) (parts : List Part) (i : ℕ) (d : Part) → i < length parts
    → find (has_tag tag) (rows_of (get_or parts i d).rows) ≡ None
    → find (has_tag tag) (flat_map (λ part. part.rows) (map seen_part (drop i parts))) ≡ find (has_tag tag)
    (flat_map (λ part. part.rows) (map seen_part (drop (i + 1) parts)))
find-past_part tag parts i d inside missing =
    at_drop_more (found_in tag) parts i d inside
    ∙ find-next tag (rows_of (get_or parts i d).rows)
    (flat_map (λ part. part.rows) (map seen_part (drop (i + 1) parts))) missing
