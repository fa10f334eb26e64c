-- The number and order of children, one child after another.
use Rattle.std.proofs.Common.{◌≡◌, ◌+◌, ◌||◌, ◌&&◌, ℕ, suc, Bool, true, false, List, [], ◌∷◌, Option, Some, None, cond, find, length, not, count_by, refl, sym, ap, ◌∙◌, zero-add}
use Rattle.std.specs.List.{filter, list_all, list_any}
use Rattle.std.specs.Option.{is_some, option_map}
use Rattle.std.proofs.lemmas.List.Sums.{sum_by-cons}
use Rattle.psa_text.specs.declared.tree.Element.{Element}
use Rattle.psa_text.specs.declared.tree.Element.TheViews.{out-Element}
use Rattle.psa_model.specs.PathNames.{Text}
use Rattle.psa_elements.specs.ElementTable as definition
use Rattle.psa_elements.specs.ElementTable.{Part, has_tag}
use Rattle.psa_elements.specs.ShapeFaults.{is_in_part, is_label, stand_in_order}
use Rattle.psa_shape.specs.declared.rows.Row.{Row}
use Rattle.psa_shape.specs.TableRows.{row_of}
use Rattle.psa_shape.specs.FoundFaults.{counted, counts_in}

-- ---- whether a row is found

is_some-map : (found : Option Row) → is_some (option_map row_of found) ≡ is_some found
is_some-map None = refl
is_some-map (Some row) = refl

found_at : (b : Bool) (row : definition.Row) (found : Option definition.Row) (more : Bool) → is_some found ≡ more
    → is_some (cond b (Some row) found) ≡ (b || more)
found_at true row found more e = refl
found_at false row found more e = e

is_some-find : (tag : Text) (rows : List definition.Row)
    → is_some (find (has_tag tag) rows) ≡ list_any (has_tag tag) rows
is_some-find tag [] = refl
is_some-find tag (row ∷ rows) = found_at (has_tag tag row) row (find (has_tag tag) rows) (list_any (has_tag tag) rows)
    (is_some-find tag rows)

-- a row is found where one of the rows has the tag
pub is_some-found : (found : Option Row) (tag : Text) (rows : List definition.Row)
    → option_map row_of found ≡ find (has_tag tag) rows → is_some found ≡ list_any (has_tag tag) rows
is_some-found found tag rows e = sym (is_some-map found) ∙ ap (λ (o : Option definition.Row). is_some o) e
    ∙ is_some-find tag rows

-- ---- children that count

count_at : (label : Bool) (tag : Text) (tags : List Text) (part : Part) (n : ℕ) → count_by (is_in_part part) tags ≡ n
    → count_by (is_in_part part) (cond (not label) (tag ∷ tags) tags) ≡ cond (not label && is_in_part part tag) 1 0 + n
count_at true tag tags part n e = e ∙ sym (zero-add n)
count_at false tag tags part n e =
    sum_by-cons (λ (t : Text). cond (is_in_part part t) 1 0) tag tags
    ∙ ap (λ (m : ℕ). cond (is_in_part part tag) 1 0 + m) e

-- the children of a part are counted one after another
pub count_by-counted : (part : Part) (children : List Element)
    → count_by (is_in_part part) (counted children) ≡ count_by (counts_in part) children
count_by-counted part [] = refl
count_by-counted part (child ∷ more) =
    count_at (is_label (out-Element child).tag) (out-Element child).tag (counted more) part
    (count_by (counts_in part) more) (count_by-counted part more)
    ∙ sym (sum_by-cons (λ (e : Element). cond (counts_in part e) 1 0) child more)

length_at : (label : Bool) (tag : Text) (tags : List Text) (child : Element) (children : List Element)
    → length tags ≡ length children → length (cond (not label) (tag ∷ tags) tags) ≡ length
    (cond (not label) (child ∷ children) children)
length_at true tag tags child children e = e
length_at false tag tags child children e = ap suc e

-- as many tags count as children
pub length-counted : (children : List Element)
    → length (counted children) ≡ length (filter (λ child. not (is_label (out-Element child).tag)) children)
length-counted [] = refl
length-counted (child ∷ more) =
    length_at (is_label (out-Element child).tag) (out-Element child).tag (counted more) child
    (filter (λ e. not (is_label (out-Element e).tag)) more) (length-counted more)

-- ---- order

order_at : (label : Bool) (tag : Text) (tags : List Text) (rest : Bool) → stand_in_order [] tags ≡ rest
    → stand_in_order [] (cond (not label) (tag ∷ tags) tags) ≡ (label && rest)
order_at true tag tags rest e = e
order_at false tag tags rest e = refl

-- nothing may be left behind the last part but what doesn't count
pub stand_in_order-labels : (children : List Element)
    → stand_in_order [] (counted children) ≡ list_all (λ child. is_label (out-Element child).tag) children
stand_in_order-labels [] = refl
stand_in_order-labels (child ∷ more) =
    order_at (is_label (out-Element child).tag) (out-Element child).tag (counted more)
    (list_all (λ e. is_label (out-Element e).tag) more) (stand_in_order-labels more)
