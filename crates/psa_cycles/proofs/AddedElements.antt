-- Elements that are added one after another.
use Rattle.std.proofs.Common.{◌≡◌, ◌≤◌, ◌<◌, ◌+◌, ℕ, max, List, [], ◌∷◌, ◌++◌, length, get_or, take, map, Option, Result, Ok, Err, OnOk, refl, sym, ap, ◌∙◌, arith, append_assoc}
use Rattle.std.proofs.lemmas.List.{append-nil, map_more, take_all}
use Rattle.psa_names.specs.Outlines.{Reference, Outline, Outlines, element, none, joined}
use Rattle.psa_cycles.specs.declared.levels.Levels.{Levels}
use Rattle.psa_cycles.specs.Levels.{own_level, levels_in, levels_in_all, deepest_in, deepest_in_all, added, with_outline, with_outlines}

-- what follows where all went well
pub on-ok : {A E : Type 0} (r : Result A E) (P Q : Type 0) → (P → Q) → OnOk r P → OnOk r Q
on-ok (Ok x) P Q f h = f h
on-ok (Err e) P Q f h = tt

max-assoc : (a b c : ℕ) → max (max a b) c ≡ max a (max b c)
max-assoc a b c = omega arith

max-zero : (a : ℕ) → max a 0 ≡ a
max-zero a = omega arith

-- equal additions
pub same-added : (s : Levels) (ls ms : List ℕ) (d e : ℕ) → ls ≡ ms → d ≡ e → added s ls d ≡ added s ms e
same-added s ls ms d e p q = rw (p, q) refl

added-twice : (s : Levels) (ls ms : List ℕ) (d e : ℕ) → added (added s ls d) ms e ≡ added s (ls ++ ms) (max d e)
added-twice s ls ms d e = rw (append_assoc s.references ls ms, max-assoc s.deepest d e) refl

levels-joined : (a : ℕ) (xs ys : List Outline) → levels_in_all a (joined (xs ++ ys)) ≡ levels_in_all a (joined xs) ++ levels_in_all a (joined ys)
levels-joined a [] ys = refl
levels-joined a (x ∷ xs) ys = ap (λ ls. levels_in a x ++ ls) (levels-joined a xs ys) ∙ sym (append_assoc (levels_in a x) (levels_in_all a (joined xs)) (levels_in_all a (joined ys)))

deepest-joined : (a : ℕ) (xs ys : List Outline) → deepest_in_all a (joined (xs ++ ys)) ≡ max (deepest_in_all a (joined xs)) (deepest_in_all a (joined ys))
deepest-joined a [] ys = omega arith
deepest-joined a (x ∷ xs) ys = ap (λ d. max (deepest_in a x) d) (deepest-joined a xs ys) ∙ sym (max-assoc (deepest_in a x) (deepest_in_all a (joined xs)) (deepest_in_all a (joined ys)))

-- no element
pub pushed-none : (a : ℕ) (s : Levels) → s ≡ with_outlines a none s
pushed-none a s = rw (append-nil s.references, max-zero s.deepest) refl

-- some elements, and then others
pub pushed-both : (a : ℕ) (xs ys : List Outline) (s t u : Levels) → t ≡ with_outlines a (joined xs) s → u ≡ with_outlines a (joined ys) t → u ≡ with_outlines a (joined (xs ++ ys)) s
pushed-both a xs ys s t u first second =
    second ∙ ap (with_outlines a (joined ys)) first
    ∙ added-twice s (levels_in_all a (joined xs)) (levels_in_all a (joined ys)) (deepest_in_all a (joined xs)) (deepest_in_all a (joined ys))
    ∙ same-added s _ _ _ _ (sym (levels-joined a xs ys)) (sym (deepest-joined a xs ys))

-- an element, and then others
pub pushed-cons : (a : ℕ) (one : Outline) (others : List Outline) (s t u : Levels) → t ≡ with_outline a one s → u ≡ with_outlines a (joined others) t → u ≡ with_outlines a (joined (one ∷ others)) s
pushed-cons a one others s t u first second =
    second ∙ ap (with_outlines a (joined others)) first
    ∙ added-twice s (levels_in a one) (levels_in_all a (joined others)) (deepest_in a one) (deepest_in_all a (joined others))

-- one element alone
pub pushed-one : (a : ℕ) (one : Outline) (s t : Levels) → t ≡ with_outline a one s → t ≡ with_outlines a (joined (one ∷ [])) s
pushed-one a one s t first = pushed-cons a one [] s t t first (pushed-none a t)

-- elements of a list up to one of them, and that one
pub pushed-more : {X : Type 0} (f : X → Outline) (a : ℕ) (xs : List X) (i : ℕ) (x : X) (s t u : Levels) → i < length xs → x ≡ get_or xs i x → t ≡ with_outlines a (joined (map f (take i xs))) s → u ≡ with_outline a (f x) t → u ≡ with_outlines a (joined (map f (take (i + 1) xs))) s
pushed-more f a xs i x s t u low is before here =
    pushed-both a (map f (take i xs)) (f x ∷ []) s t u before (pushed-one a (f x) t u here)
    ∙ ap (λ os. with_outlines a (joined os) s) (sym (map_more f xs i x low ∙ ap (λ y. map f (take i xs) ++ f y ∷ []) (sym is)))

-- all elements of a list
pub pushed-all : {X : Type 0} (f : X → Outline) (a : ℕ) (xs ys : List X) (i : ℕ) (s t : Levels) → xs ≡ ys → length xs ≤ i → t ≡ with_outlines a (joined (map f (take i xs))) s → t ≡ with_outlines a (joined (map f ys)) s
pushed-all f a xs ys i s t same past all = all ∙ ap (λ zs. with_outlines a (joined (map f zs)) s) (take_all i xs past ∙ same)

-- an element, and then what stands in it
pub pushed-inside : (a : ℕ) (reference : Option Reference) (inside : Outlines) (s t u : Levels) → t ≡ added s (own_level (a + 1) reference) (a + 1) → u ≡ with_outlines (a + 1) inside t → u ≡ with_outline a (element reference inside) s
pushed-inside a reference inside s t u first second =
    second ∙ ap (with_outlines (a + 1) inside) first
    ∙ added-twice s (own_level (a + 1) reference) (levels_in_all (a + 1) inside) (a + 1) (deepest_in_all (a + 1) inside)

-- an element in which nothing stands
pub pushed-alone : (a : ℕ) (reference : Option Reference) (s t : Levels) → t ≡ added s (own_level (a + 1) reference) (a + 1) → t ≡ with_outline a (element reference none) s
pushed-alone a reference s t first = pushed-inside a reference none s t t first (pushed-none (a + 1) t)
