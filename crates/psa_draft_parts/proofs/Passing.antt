-- A loop over the elements in an element: their numbers, and what those that were passed said.
use Rattle.std.proofs.Common.{◌≡◌, ℕ, zero, suc, ◌+◌, ◌<◌, ◌≤◌, ◌^◌, Bool, true, false, Option, Some, None, List, [], ◌∷◌, ◌++◌, length, get_or, take, refl, sym, ap, subst, ◌∙◌, append-nil, map, codes, slice_get, ◌&&◌, not, Result, Ok, Err, OnOk, arith}
use Rattle.std.specs.List.{list_all, filter_map, flat_map, cons_option}
use Rattle.std.specs.Option.{option_or, option_to_list}
use Rattle.std.proofs.lemmas.Bool.{and_parts}
use Rattle.std.proofs.lemmas.Grind.{flat_map-append}
use Rattle.std.proofs.lemmas.List.{take_all, take_more}
use Rattle.std.proofs.lemmas.List.Elements.{filter_map-append}
use Rattle.psa_text.specs.declared.tree.Element.{Element}
use Rattle.psa_text.specs.declared.tree.Attribute.{Attribute}
use Rattle.psa_text.specs.declared.tree.Element.TheFolds.{fold_out-Element}
use Rattle.psa_text.specs.declared.tree.Element.TheViews.{out-Element}
use Rattle.psa_elements.specs.ElementTable.{Row}
use Rattle.psa_elements.specs.DraftReading.{Surroundings, Reading}
use Rattle.psa_draft_parts.specs.Sayings.{size_of, sizes_of, reading_among, readings_among, inside_among, is_short, short_layer, are_short, IsReadable, AreReadable}
use Rattle.psa_draft_parts.proofs.Readings.{size-out}

sizes-append : (xs ys : List Element) → sizes_of (xs ++ ys) ≡ sizes_of xs + sizes_of ys
sizes-append [] ys = omega arith
sizes-append (x ∷ xs) ys = let more : sizes_of (xs ++ ys) ≡ sizes_of xs + sizes_of ys = sizes-append xs ys in omega
    arith

-- elements behind others say what they say behind them
pub readings-append : (rows : List Row) (around : Surroundings) (n : ℕ) (xs ys : List Element)
    → readings_among rows around n (xs ++ ys) ≡ readings_among rows around n xs ++ readings_among rows around (n +
    sizes_of xs) ys
readings-append rows around n [] ys = ap (λ m. readings_among rows around m ys) (omega arith)
readings-append rows around n (x ∷ xs) ys =
    ap (λ more. reading_among rows around n x ∷ more)
    (readings-append rows around (n + size_of x) xs ys
    ∙ ap (λ m. readings_among rows around (n + size_of x) xs ++ readings_among rows around m ys) (omega arith))

-- the elements up to a place, and the one at it
up-to : (cs : List Element) (i : ℕ) (x : Element) → i < length cs → x ≡ get_or cs i x → take (i + 1) cs ≡ take i cs
    ++ x ∷ []
up-to cs i x l e = take_more cs i x l ∙ ap (λ y. take i cs ++ y ∷ []) (sym e)

-- one more element adds its size
pub sizes-more : (cs : List Element) (i : ℕ) (x : Element) → i < length cs → x ≡ get_or cs i x → sizes_of (take (i
    + 1) cs) ≡ sizes_of (take i cs) + size_of x
sizes-more cs i x l e =
    let all : sizes_of (take i cs ++ x ∷ []) ≡ sizes_of (take i cs) + sizes_of (x ∷ []) = sizes-append (take i cs)
    (x ∷ []) in
    ap sizes_of (up-to cs i x l e) ∙ omega arith

-- what elements say up to a place, and at it
pub readings-more : (rows : List Row) (around : Surroundings) (n : ℕ) (cs : List Element) (i : ℕ) (x : Element) → i
    < length cs → x ≡ get_or cs i x
    → readings_among rows around n (take (i + 1) cs) ≡ readings_among rows around n (take i cs) ++ reading_among
    rows around (n + sizes_of (take i cs)) x ∷ []
readings-more rows around n cs i x l e =
    ap (λ part. readings_among rows around n part) (up-to cs i x l e) ∙ readings-append rows around n (take i cs)
    (x ∷ [])

-- one more is within the whole
pub sizes-within : (cs : List Element) (i : ℕ) (x : Element) → i < length cs → x ≡ get_or cs i x → sizes_of (take i
    cs) + size_of x ≤ sizes_of cs
sizes-within [] i x l e = absurd (omega arith)
sizes-within (c ∷ cs) zero x l e = let same : size_of x ≡ size_of c = ap size_of e in omega arith
sizes-within (c ∷ cs) (suc i) x l e = let more : sizes_of (take i cs) + size_of x ≤ sizes_of cs = sizes-within cs i
    x (omega arith) e in omega arith

short-at : (cs : List Element) (i : ℕ) (x : Element) → i < length cs → x ≡ get_or cs i x → list_all are_short cs ≡
    true → are_short x ≡ true
short-at [] i x l e h = absurd (omega arith)
short-at (c ∷ cs) zero x l e h = ap are_short e ∙ (and_parts (are_short c) (list_all are_short cs) h).0
short-at (c ∷ cs) (suc i) x l e h = short-at cs i x (omega arith) e (and_parts (are_short c) (list_all are_short
    cs) h).1

-- each of readable elements is readable
pub readable-at : (first : ℕ) (cs : List Element) (i : ℕ) (x : Element) (n : ℕ) → AreReadable first cs → n ≡ first
    + sizes_of (take i cs) → i < length cs → x ≡ get_or cs i x → IsReadable n x
readable-at first cs i x n whole n_is l e = record {
  fits = let within : sizes_of (take i cs) + size_of x ≤ sizes_of cs = sizes-within cs i x l e in omega (
    arith,
    whole.fits,
  );
  short = short-at cs i x l e whole.short;
}

are_short-out : (e : Element) → are_short e ≡ short_layer (record {
  tag = (out-Element e).tag;
  line = (out-Element
      e).line;
  attributes = (out-Element e).attributes;
  children = map are_short (out-Element e).children;
})
unfolding are_short
are_short-out e = fold_out-Element Bool short_layer e

all-of : (es : List Element) → list_all (λ (inside : Bool). inside) (map are_short es) ≡ list_all are_short es
all-of [] = refl
all-of (e ∷ es) = ap (λ more. are_short e && more) (all-of es)

unfoldable pub own_short : List Attribute → Bool
own_short given = is_short (codes "min") given && is_short (codes "max") given && is_short (codes "level") given

short-parts : (e : Element) → are_short e ≡ true → (own_short (out-Element e).attributes ≡ true) × (list_all
    are_short (out-Element e).children ≡ true)
unfolding own_short
short-parts e h =
    let parts = and_parts (own_short (out-Element e).attributes) (list_all (λ (inside : Bool). inside) (map
    are_short (out-Element e).children)) (sym (are_short-out e) ∙ h) in
    (parts.0, sym (all-of (out-Element e).children) ∙ parts.1)

-- the numbers of an element that can be read
pub short-min : (n : ℕ) (e : Element) → IsReadable n e → is_short (codes "min") (out-Element e).attributes ≡ true
unfolding own_short
short-min n e h =
    let given = (out-Element e).attributes in
    let both = and_parts (is_short (codes "min") given && is_short (codes "max") given) (is_short (codes "level")
    given) (short-parts e h.short).0 in
    (and_parts (is_short (codes "min") given) (is_short (codes "max") given) both.0).0

-- the `max` of a readable element has few digits
pub short-max : (n : ℕ) (e : Element) → IsReadable n e → is_short (codes "max") (out-Element e).attributes ≡ true
unfolding own_short
short-max n e h =
    let given = (out-Element e).attributes in
    let both = and_parts (is_short (codes "min") given && is_short (codes "max") given) (is_short (codes "level")
    given) (short-parts e h.short).0 in
    (and_parts (is_short (codes "min") given) (is_short (codes "max") given) both.0).1

-- the `level` of a readable element has few digits
pub short-level : (n : ℕ) (e : Element) → IsReadable n e → is_short (codes "level") (out-Element e).attributes ≡ true
unfolding own_short
short-level n e h =
    let given = (out-Element e).attributes in
    (and_parts (is_short (codes "min") given && is_short (codes "max") given) (is_short (codes "level") given)
    (short-parts e h.short).0).1

-- those in an element that can be read can be read
pub inside-readable : (n : ℕ) (e : Element) → IsReadable n e → AreReadable (n + 1) (out-Element e).children
inside-readable n e h = record {
  fits = omega (arith, h.fits, size-out e);
  short = (short-parts e h.short).1;
}

-- an element in a readable one is readable, with the number that the loop has for it
pub child-readable : (n : ℕ) (e : Element) (cs : List Element) (i : ℕ) (x : Element) (m : ℕ) → IsReadable n e → cs
    ≡ (out-Element e).children
    → m ≡ (n + 1) + sizes_of (take i cs) → i < length cs → x ≡ get_or cs i x → IsReadable m x
child-readable n e cs i x m h cs_is m_is l x_is =
    readable-at (n + 1) cs i x m (let P : List Element → Type 0 = λ es. AreReadable (n + 1) es in subst P (sym
    cs_is) (inside-readable n e h)) m_is l x_is

-- one more is counted
pub counted-more : (first : ℕ) (cs : List Element) (i : ℕ) (x : Element) (n after : ℕ) → n ≡ first + sizes_of (take
    i cs) → i < length cs → x ≡ get_or cs i x
    → after ≡ n + size_of x → after ≡ first + sizes_of (take (i + 1) cs)
counted-more first cs i x n after n_is l x_is after_is =
    let more : sizes_of (take (i + 1) cs) ≡ sizes_of (take i cs) + size_of x = sizes-more cs i x l x_is in omega arith

-- all in an element are counted
pub counted-all : (n : ℕ) (e : Element) (cs : List Element) (i : ℕ) (after : ℕ) → cs ≡ (out-Element e).children →
    length cs ≤ i
    → after ≡ (n + 1) + sizes_of (take i cs) → after ≡ n + size_of e
counted-all n e cs i after cs_is l after_is =
    let all : sizes_of (take i cs) ≡ sizes_of (out-Element e).children = ap sizes_of (take_all i cs l ∙ cs_is) in
    let whole : size_of e ≡ suc (sizes_of (out-Element e).children) = size-out e in
    omega arith

-- at the end of the loop all elements in an element were passed
pub inside-all : (rows : List Row) (around : Surroundings) (n : ℕ) (e : Element) (cs : List Element) (i : ℕ) → cs ≡
    (out-Element e).children → length cs ≤ i
    → readings_among rows around (n + 1) (take i cs) ≡ inside_among rows around n e
inside-all rows around n e cs i cs_is l = ap (λ es. readings_among rows around (n + 1) es) (take_all i cs l ∙ cs_is)

-- one more element says one more thing
pub next-reading : (rows : List Row) (around : Surroundings) (first : ℕ) (cs : List Element) (i : ℕ) (x : Element)
    (n : ℕ) → n ≡ first + sizes_of (take i cs) → i < length cs → x ≡ get_or cs i x
    → readings_among rows around first (take (i + 1) cs) ≡ readings_among rows around first (take i cs) ++
    reading_among rows around n x ∷ []
next-reading rows around first cs i x n n_is l x_is =
    readings-more rows around first cs i x l x_is
    ∙ ap (λ m. readings_among rows around first (take i cs) ++ reading_among rows around m x ∷ []) (sym n_is)

-- what one more says is behind what was picked before
pub picked-more : {A : Type 0} (pick : Reading → Option A) (rows : List Row) (around : Surroundings) (first : ℕ)
    (cs : List Element) (i : ℕ) (x : Element) (n : ℕ) (so_far : List A) (found : Option A)
    → n ≡ first + sizes_of (take i cs) → i < length cs → x ≡ get_or cs i x
    → so_far ≡ filter_map pick (readings_among rows around first (take i cs)) → found ≡ pick (reading_among rows
    around n x)
    → so_far ++ option_to_list found ≡ filter_map pick (readings_among rows around first (take (i + 1) cs))
picked-more {A} pick rows around first cs i x n so_far found n_is l x_is so_far_is found_is =
    ap (λ (xs : List A). xs ++ option_to_list found) so_far_is
    ∙ ap (λ (o : Option A). filter_map pick (readings_among rows around first (take i cs)) ++ option_to_list o) found_is
    ∙ ap (λ (xs : List A). filter_map pick (readings_among rows around first (take i cs)) ++ xs) (sym (single (pick
    (reading_among rows around n x))))
    ∙ sym (filter_map-append pick (readings_among rows around first (take i cs)) (reading_among rows around n x ∷ []))
    ∙ ap (λ (rs : List Reading). filter_map pick rs) (sym (next-reading rows around first cs i x n n_is l x_is))
  where
    single : (o : Option A) → cons_option o [] ≡ option_to_list o
    single None = refl
    single (Some y) = refl

-- the first that was picked, or else what one more says
pub first-more : {A : Type 0} (pick : Reading → Option A) (rows : List Row) (around : Surroundings) (first : ℕ) (cs
    : List Element) (i : ℕ) (x : Element) (n : ℕ) (so_far found : Option A)
    → n ≡ first + sizes_of (take i cs) → i < length cs → x ≡ get_or cs i x
    → so_far ≡ slice_get (filter_map pick (readings_among rows around first (take i cs))) 0 → found ≡ pick
    (reading_among rows around n x)
    → option_or so_far found ≡ slice_get (filter_map pick (readings_among rows around first (take (i + 1) cs))) 0
first-more {A} pick rows around first cs i x n so_far found n_is l x_is so_far_is found_is =
    ap (λ (o : Option A). option_or o found) so_far_is
    ∙ front (filter_map pick (readings_among rows around first (take i cs))) found
    ∙ ap (λ (xs : List A). slice_get xs 0) (picked-more pick rows around first cs i x n _ found n_is l x_is refl
    found_is)
  where
    front : (xs : List A) (o : Option A) → option_or (slice_get xs 0) o ≡ slice_get (xs ++ option_to_list o) 0
    front [] None = refl
    front [] (Some y) = refl
    front (y ∷ ys) o = refl

-- the same for what says several things at once
pub several-more : {A : Type 0} (pick : Reading → List A) (rows : List Row) (around : Surroundings) (first : ℕ) (cs
    : List Element) (i : ℕ) (x : Element) (n : ℕ) (so_far found : List A)
    → n ≡ first + sizes_of (take i cs) → i < length cs → x ≡ get_or cs i x
    → so_far ≡ flat_map pick (readings_among rows around first (take i cs)) → found ≡ pick (reading_among rows
    around n x)
    → so_far ++ found ≡ flat_map pick (readings_among rows around first (take (i + 1) cs))
several-more {A} pick rows around first cs i x n so_far found n_is l x_is so_far_is found_is =
    ap (λ (xs : List A). xs ++ found) so_far_is
    ∙ ap (λ (ys : List A). flat_map pick (readings_among rows around first (take i cs)) ++ ys) (found_is ∙ sym
    (append-nil (pick (reading_among rows around n x))))
    ∙ sym (flat_map-append pick (readings_among rows around first (take i cs)) (reading_among rows around n x ∷ []))
    ∙ ap (λ (rs : List Reading). flat_map pick rs) (sym (next-reading rows around first cs i x n n_is l x_is))

-- what makes the numbers of an element short
pub are_short-back : (e : Element) → own_short (out-Element e).attributes ≡ true → list_all are_short (out-Element
    e).children ≡ true → are_short e ≡ true
unfolding own_short
are_short-back e own inside =
    are_short-out e ∙ ap (λ (b : Bool). b && list_all (λ (one : Bool). one) (map are_short (out-Element
    e).children)) own ∙ all-of (out-Element e).children ∙ inside

-- the number behind an element's own fits
pub next-fits : (n : ℕ) (e : Element) → IsReadable n e → n + 1 < 2 ^ 32
next-fits n e h = omega (arith, h.fits, size-out e)

-- all of some elements are counted, and have said what they say
pub list-counted : (n : ℕ) (cs : List Element) (i after : ℕ) → length cs ≤ i → after ≡ n + sizes_of (take i cs) →
    after ≡ n + sizes_of cs
list-counted n cs i after l after_is = after_is ∙ ap (λ (es : List Element). n + sizes_of es) (take_all i cs l)

-- at the end of a loop over elements all were passed
pub list-all : (rows : List Row) (around : Surroundings) (n : ℕ) (cs : List Element) (i : ℕ) → length cs ≤ i
    → readings_among rows around n (take i cs) ≡ readings_among rows around n cs
list-all rows around n cs i l = ap (λ (es : List Element). readings_among rows around n es) (take_all i cs l)

-- ---- small facts of answers

-- nothing behind a first changes nothing
pub or-none : {A : Type 0} (o : Option A) → option_or o None ≡ o
or-none None = refl
or-none (Some x) = refl

-- a fact that always holds holds where the answer is Ok
pub always-ok : {T E : Type 0} (r : Result T E) {P : Type 0} → P → OnOk r P
always-ok (Ok x) p = p
always-ok (Err e) p = tt

-- what a test of `!=` says
pub not-so : (found same : Bool) → found ≡ not same → found ≡ true → same ≡ false
not-so found true is h = absurd (cc)
not-so found false is h = refl

-- what a test of `!=` says that failed
pub is-so : (found same : Bool) → found ≡ not same → found ≡ false → same ≡ true
is-so found true is h = refl
is-so found false is h = absurd (cc)

-- all in an element are counted at once
pub inside-counted : (n : ℕ) (e : Element) (cs : List Element) → cs ≡ (out-Element e).children → (n + 1) + sizes_of
    cs ≡ n + size_of e
inside-counted n e cs cs_is =
    let same : sizes_of cs ≡ sizes_of (out-Element e).children = ap sizes_of cs_is in
    omega (arith, size-out e)

-- the elements in a readable element are readable
pub children-readable : (n : ℕ) (e : Element) (cs : List Element) → cs ≡ (out-Element e).children → IsReadable n e
    → AreReadable (n + 1) cs
children-readable n e cs cs_is h = let P : List Element → Type 0 = λ es. AreReadable (n + 1) es in subst P (sym
    cs_is) (inside-readable n e h)
