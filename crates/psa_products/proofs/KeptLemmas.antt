-- The products that a rule keeps.
use Rattle.std.proofs.Common.{◌≡◌, ℕ, Bool, true, false, List, [], ◌∷◌, ◌++◌, Option, None, Some, IfSome, IfNone, if◌then◌else◌, map, append_assoc, refl, sym, ap, subst, ◌∙◌, inl, inr, true≢false}
use Rattle.std.proofs.lemmas.Bool.{and_parts, and_from, cases_Bool}
use Rattle.std.proofs.lemmas.List.{append-nil}
use mathlib.Core.Path.{path_j}
use Rattle.arrayvec.specs.ArrayVec.{ArrayVec}
use Rattle.psa_logic.specs.Sets.{Has}
use Rattle.psa_logic.specs.Products.{is_before_all, is_in_order, IsListing}
use Rattle.psa_logic.proofs.ListingLemmas.{before_all-each, before_all-from}
use Rattle.psa_model.specs.declared.product.Literal.{Literal}
use Rattle.psa_logic.proofs.LiteralLemmas.{rank-literal, positive-literal}
use Rattle.psa_model.specs.Literals.{literals_of}
use Rattle.psa_products.specs.Products.{literal_of, product_of}
use Rattle.psa_products.specs.Rules.{IsRuled, AllCallable, AllAnswered, AllAnswered-prop, kept, AllRejected, IsNextKept}

-- a rule that may be asked about each set of a list, and has one answer
pub callable-from : (may : List ℕ → Type 0) (says : List ℕ → Bool → Type 0) (sets : List (List ℕ)) → ((set : List ℕ) → Has sets set → IsRuled may says set) → AllCallable may sets
callable-from may says [] each = tt
callable-from may says (set ∷ sets) each = ((each set (inl refl)).callable, callable-from may says sets (λ s h. each s (inr h)))

-- and so has one answer at each
pub answered-from : (may : List ℕ → Type 0) (says : List ℕ → Bool → Type 0) (sets : List (List ℕ)) → ((set : List ℕ) → Has sets set → IsRuled may says set) → AllAnswered says sets
answered-from may says [] each = tt
answered-from may says (set ∷ sets) each =
    let r = each set (inl refl) in
    ((r.answer, (∣ r.answers ∣₁, r.only)), answered-from may says sets (λ s h. each s (inr h)))

-- of the rest of a list
pub callable-rest : (may : List ℕ → Type 0) (front sets : List (List ℕ)) → AllCallable may (front ++ sets) → AllCallable may sets
callable-rest may [] sets h = h
callable-rest may (set ∷ front) sets h = callable-rest may front sets h.1

module _ (says : List ℕ → Bool → Type 0) where
  -- the answers at the rest of a list
  abbrev pub answered-rest : (front sets : List (List ℕ)) → AllAnswered says (front ++ sets) → AllAnswered says sets
  answered-rest [] sets h = h
  answered-rest (set ∷ front) sets h = answered-rest front sets h.1

  -- the proof of the answers does not matter
  pub kept-same : (sets : List (List ℕ)) (h k : AllAnswered says sets) → kept says sets h ≡ kept says sets k
  kept-same sets h k = ap (kept says sets) (AllAnswered-prop says sets h k)

  -- equal lists keep the same, by whatever proofs
  pub kept-path : (before after : List (List ℕ)) → before ≡ after → (h : AllAnswered says before) (k : AllAnswered says after) → kept says before h ≡ kept says after k
  kept-path before after e = path_j (λ (x : List (List ℕ)) (p : before ≡ x). (h : AllAnswered says before) (k : AllAnswered says x) → kept says before h ≡ kept says x k) (kept-same before) e

  -- rejected sets are not kept, and a set with the answer true is
  pub kept-rejected : (front sets : List (List ℕ)) → AllRejected says front → (h : AllAnswered says (front ++ sets)) → kept says (front ++ sets) h ≡ kept says sets (answered-rest front sets h)
  kept-rejected [] sets r h = refl
  kept-rejected (set ∷ front) sets r h =
      let off : h.0.0 ≡ false = sym (h.0.1.1 false r.0) in
      rw off (kept-rejected front sets r.1 h.1)

  -- a set with the answer true is kept
  pub kept-found : (set : List ℕ) (sets : List (List ℕ)) → says set true → (h : AllAnswered says (set ∷ sets)) → kept says (set ∷ sets) h ≡ set ∷ kept says sets h.1
  kept-found set sets r h =
      let on : h.0.0 ≡ true = sym (h.0.1.1 true r) in
      rw on refl

  -- exactly the sets with the answer true are kept, in their order
  kept-has : (sets : List (List ℕ)) (h : AllAnswered says sets) (set : List ℕ) → Has (kept says sets h) set → Has sets set
  kept-has [] h set m = m
  kept-has (s ∷ sets) h set m = elim (cases_Bool h.0.0) [
    | inl p ↦ elim (rw p at m) [ inl e ↦ inl e | inr r ↦ inr (kept-has sets h.1 set r) ]
    | inr p ↦ inr (kept-has sets h.1 set (rw p at m))
  ]

  module _ (keeps : List ℕ → Bool) where
    -- each set that is kept has the answer true
    pub kept-sound : (sets : List (List ℕ)) (h : AllAnswered says sets) → ((set : List ℕ) → Has sets set → says set (keeps set)) → (set : List ℕ) → Has (kept says sets h) set → keeps set ≡ true
    kept-sound [] h answers set m = absurd m
    kept-sound (s ∷ sets) h answers set m = elim (cases_Bool h.0.0) [
      | inl p ↦ elim (rw p at m) [
        | inl e ↦ ap keeps (sym e) ∙ h.0.1.1 (keeps s) (answers s (inl refl)) ∙ p
        | inr r ↦ kept-sound sets h.1 (λ x n. answers x (inr n)) set r
      ]
      | inr p ↦ kept-sound sets h.1 (λ x n. answers x (inr n)) set (rw p at m)
    ]

    -- each set with the answer true is kept
    pub kept-whole : (sets : List (List ℕ)) (h : AllAnswered says sets) → ((set : List ℕ) → Has sets set → says set (keeps set)) → (set : List ℕ) → Has sets set → keeps set ≡ true → Has (kept says sets h) set
    kept-whole [] h answers set m keep = absurd m
    kept-whole (s ∷ sets) h answers set m keep = elim (cases_Bool h.0.0) [
      | inl p ↦ rw p (elim m [ inl e ↦ inl e | inr r ↦ inr (kept-whole sets h.1 (λ x n. answers x (inr n)) set r keep) ])
      | inr p ↦ rw p (elim m [
        | inl e ↦ absurd (true≢false (sym keep ∙ ap keeps (sym e) ∙ h.0.1.1 (keeps s) (answers s (inl refl)) ∙ p))
        | inr r ↦ kept-whole sets h.1 (λ x n. answers x (inr n)) set r keep
      ])
    ]

  kept-before : (one : List ℕ) (sets : List (List ℕ)) (h : AllAnswered says sets) → is_before_all one sets ≡ true → is_before_all one (kept says sets h) ≡ true
  kept-before one sets h b = before_all-from one (kept says sets h) (λ other m. before_all-each one sets b other (kept-has sets h other m))

  -- those that are kept stand in order
  pub kept-order : (sets : List (List ℕ)) (h : AllAnswered says sets) → is_in_order sets ≡ true → is_in_order (kept says sets h) ≡ true
  kept-order [] h o = refl
  kept-order (s ∷ sets) h o =
      let p = and_parts (is_before_all s sets) (is_in_order sets) o in
      elim (cases_Bool h.0.0) [
        | inl q ↦ rw q (and_from (is_before_all s (kept says sets h.1)) (is_in_order (kept says sets h.1)) (kept-before s sets h.1 p.0) (kept-order sets h.1 p.1))
        | inr q ↦ rw q (kept-order sets h.1 p.1)
      ]

  -- a listing of some sets gives one of those that are kept
  pub kept-listing : (IsOne : List ℕ → Type 0) (sets : List (List ℕ)) (h : AllAnswered says sets) (keeps : List ℕ → Bool) → IsListing IsOne sets → ((set : List ℕ) → IsOne set → says set (keeps set))
      → IsListing (λ set. IsOne set × (keeps set ≡ true)) (kept says sets h)
  kept-listing IsOne sets h keeps l answers = record {
    ordered = kept-order sets h l.ordered;
    sound = λ set m. (l.sound set (kept-has sets h set m), kept-sound keeps sets h (λ s n. answers s (l.sound s n)) set m);
    whole = λ set m. kept-whole keeps sets h (λ s n. answers s (l.sound s n)) set (l.whole set m.0) m.1;
  }

  -- a search has come past rejected sets alone
  pub record IsSkipped (before now : List (List ℕ)) : Type 0 where
    pub front : List (List ℕ)
    pub rejected : AllRejected says front
    pub is : before ≡ front ++ now

  rejected-push : (front : List (List ℕ)) (set : List ℕ) → AllRejected says front → says set false → AllRejected says (front ++ set ∷ [])
  rejected-push [] set h off = (off, tt)
  rejected-push (s ∷ front) set h off = (h.0, rejected-push front set h.1 off)

  -- at first nothing is skipped
  pub skipped-none : (before : List (List ℕ)) → IsSkipped before before
  skipped-none before = record { front = []; rejected = tt; is = refl }

  -- one more rejected set is skipped
  pub skipped-more : (before now rest : List (List ℕ)) (set : List ℕ) → IsSkipped before now → now ≡ set ∷ rest → says set false → IsSkipped before rest
  skipped-more before now rest set s e off = record {
    front = s.front ++ set ∷ [];
    rejected = rejected-push s.front set s.rejected off;
    is = s.is ∙ ap (λ (sets : List (List ℕ)). s.front ++ sets) e ∙ sym (append_assoc s.front (set ∷ []) rest);
  }

  -- the search ends at a set with the answer true
  pub next-found : (before now rest : List (List ℕ)) (product : ArrayVec Literal) → IsSkipped before now → now ≡ literals_of product.items ∷ rest → says (literals_of product.items) true → IsNextKept says before rest (Some product)
  next-found before now rest product s e on = record {
    skipped = s.front;
    rejected = s.rejected;
    found = (s.is ∙ ap (λ (sets : List (List ℕ)). s.front ++ sets) e, on);
  }

  -- or at the end of the list
  pub next-none : (before now rest : List (List ℕ)) → IsSkipped before now → now ≡ [] → rest ≡ [] → IsNextKept says before rest None
  next-none before now rest s e none = record {
    skipped = s.front;
    rejected = s.rejected;
    found = (s.is ∙ ap (λ (sets : List (List ℕ)). s.front ++ sets) e ∙ append-nil s.front, none);
  }

  -- what the search leaves answered, and what it gives of the list that is kept
  pub next-answered : (before after : List (List ℕ)) (answer : Option (ArrayVec Literal)) → IsNextKept says before after answer → AllAnswered says before → AllAnswered says after
  next-answered before after None n h = subst (AllAnswered says) (sym n.found.1) tt
  next-answered before after (Some product) n h =
      (answered-rest n.skipped (literals_of product.items ∷ after) (subst (AllAnswered says) n.found.0 h)).1

  -- a product that is found is the first of those that are kept
  pub next-some : (before after : List (List ℕ)) (answer : Option (ArrayVec Literal)) (n : IsNextKept says before after answer) (h : AllAnswered says before) (k : AllAnswered says after)
      → IfSome answer (λ product. kept says before h ≡ literals_of product.items ∷ kept says after k)
  next-some before after None n h k = tt
  next-some before after (Some product) n h k =
      let all : AllAnswered says (n.skipped ++ literals_of product.items ∷ after) = subst (AllAnswered says) n.found.0 h in
      let rest = answered-rest n.skipped (literals_of product.items ∷ after) all in
      kept-path before (n.skipped ++ literals_of product.items ∷ after) n.found.0 h all
      ∙ kept-rejected n.skipped (literals_of product.items ∷ after) n.rejected all
      ∙ kept-found (literals_of product.items) after n.found.1 rest
      ∙ ap (λ (sets : List (List ℕ)). literals_of product.items ∷ sets) (kept-same after rest.1 k)

  rejected-none : (front : List (List ℕ)) → AllRejected says front → (h : AllAnswered says front) → kept says front h ≡ []
  rejected-none [] r h = refl
  rejected-none (set ∷ front) r h =
      let off : h.0.0 ≡ false = sym (h.0.1.1 false r.0) in
      rw off (rejected-none front r.1 h.1)

  -- where none is found, none is kept
  pub next-end : (before after : List (List ℕ)) (answer : Option (ArrayVec Literal)) (n : IsNextKept says before after answer) (h : AllAnswered says before) (k : AllAnswered says after)
      → IfNone answer ((kept says before h ≡ []) × (kept says after k ≡ []))
  next-end before after None n h k =
      let all : AllAnswered says n.skipped = subst (AllAnswered says) n.found.0 h in
      (kept-path before n.skipped n.found.0 h all ∙ rejected-none n.skipped n.rejected all, kept-path after [] n.found.1 k tt)
  next-end before after (Some product) n h k = tt

  -- the same of the value that a contract sees
  pub value-some : (value before after : List (List ℕ)) (is_found : Bool) (product : ArrayVec Literal) (n : IsNextKept says before after (if is_found then Some product else None)) (h : AllAnswered says before) (k : AllAnswered says after)
      → kept says before h ≡ value → is_found ≡ true → value ≡ literals_of product.items ∷ kept says after k
  value-some value before after true product n h k e told = sym e ∙ next-some before after (Some product) n h k
  value-some value before after false product n h k e told = absurd (cc)

  -- and at its end
  pub value-end : (value before after : List (List ℕ)) (is_found : Bool) (product : ArrayVec Literal) (n : IsNextKept says before after (if is_found then Some product else None)) (h : AllAnswered says before) (k : AllAnswered says after)
      → kept says before h ≡ value → is_found ≡ false → (value ≡ []) × (kept says after k ≡ [])
  value-end value before after true product n h k e told = absurd (cc)
  value-end value before after false product n h k e told = let r = next-end before after None n h k in (sym e ∙ r.0, r.1)

-- a literal is read back from its number
pub read-back : (literals : List Literal) → map (λ number. literal_of number) (literals_of literals) ≡ literals
read-back [] = refl
read-back (l ∷ literals) =
    λ i. (record { rank = rank-literal l.rank l.occurs i; occurs = positive-literal l.rank l.occurs i }) ∷ read-back literals i

-- and so is a product from its numbers
pub product-back : (product : ArrayVec Literal) → product_of (literals_of product.items) ≡ product
product-back product = λ i. record { items = read-back product.items i }

-- what the search leaves may be asked about
pub next-callable : (may : List ℕ → Type 0) (says : List ℕ → Bool → Type 0) (before after : List (List ℕ)) (answer : Option (ArrayVec Literal)) → IsNextKept says before after answer → AllCallable may before → AllCallable may after
next-callable may says before after None n h = subst (AllCallable may) (sym n.found.1) tt
next-callable may says before after (Some product) n h =
    (callable-rest may n.skipped (literals_of product.items ∷ after) (subst (AllCallable may) n.found.0 h)).1
