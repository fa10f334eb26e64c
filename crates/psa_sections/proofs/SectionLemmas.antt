-- Intervals of ranked events, the totals of products, and the listing of those that the cutoff keeps.
use Rattle.std.proofs.Common.{◌≡◌, ◌+◌, ◌↔◌, codes, flat_map, ℕ, ℤ, Bool, true, false, List, [], ◌∷◌, ◌++◌, map, get_or, length, min, length-append, append_assoc, append-nil, Option, Some, None, option_and_then, unwrap_or, filter, IfSome, refl, sym, ap, subst, ◌∙◌, inl, inr, arith, if◌then◌else◌}
use Rattle.std.specs.Fmt.{decimal}
use Rattle.std.specs.Option.{option_map, option_map_or}
use Rattle.std.specs.List.{All, slice_get}
use Rattle.std.proofs.lemmas.Bool.{and_parts, and_from, cases_Bool, false≢true}
use Rattle.std.proofs.lemmas.Int.{ints}
use Rattle.std.proofs.lemmas.List.{map-append}
use Rattle.std.proofs.lemmas.List.Elements.{All-from_get_or, All-get_or}
use Rattle.std.proofs.lemmas.List.Sums.{fold-append}
use Rattle.std.proofs.lemmas.Option.{slice_get_cases}
use Rattle.psa_logic.specs.Sets.{Has}
use Rattle.psa_logic.specs.Products.{is_before_all, is_in_order, IsListing}
use Rattle.psa_logic.proofs.LiteralLemmas.{literal-read}
use Rattle.psa_logic.proofs.ListingLemmas.{before_all-each, before_all-from, listing-only}
use Rattle.psa_number.specs.Ends.{Ends}
use Rattle.psa_number.specs.Operations.{IsInUnit, complement_ends, decimal_ends, unit_product_ends, unit_sum_ends}
use Rattle.psa_number.specs.Scaled.{Scaled}
use Rattle.psa_model.specs.declared.expanded.Expanded.{Expanded}
use Rattle.psa_model.specs.declared.ids.EventNumber.{EventNumber}
use Rattle.psa_model.specs.declared.product.Literal.{Literal}
use Rattle.psa_model.specs.declared.product.TheConstants.{MAX_COUNT}
use Rattle.psa_model.specs.declared.settings.Settings.{Settings}
use Rattle.psa_model.specs.declared.targets.Target.{Target}
use Rattle.psa_model.specs.Literals.{literals_of}
use Rattle.psa_model.specs.Quantities.{at_rank, bound_of, is_kept, rare_event_of, zero_ends, one_ends}
use Rattle.psa_model.specs.Ranks.{ranks_of}
use Rattle.psa_model.specs.Report.{Analysis, IsProductOf, count_line, is_kept_in, section_text, target_line, total_line, total_lines, totals_text}
use Rattle.psa_products.specs.Products.{product_of}
use Rattle.psa_products.specs.Sums.{Sums, rest_of, taken}
use Rattle.psa_sections.specs.ProductNodes.{analysis_by}
use Rattle.psa_sections.specs.Writing.{AreAsked, bound_by, line_by, reaches, text_by, totals_by}

-- ---- intervals

zero-in_unit : IsInUnit zero_ends
zero-in_unit = record { low = omega (arith, ints); high = omega (arith, ints) }

place-in_unit : (values : List Ends) → All IsInUnit values → (place : ℕ) → IsInUnit (unwrap_or (slice_get values place) zero_ends)
place-in_unit values all place = elim (slice_get_cases values place).1 [
  | inl there ↦ rw there.2 (subst IsInUnit there.3 (All-get_or IsInUnit values place there.0 there.1 all))
  | inr past ↦ rw past.1 zero-in_unit
]

-- the interval of each rank is within 0 and 1 where all are
pub rank-in_unit : (values : List Ends) → All IsInUnit values → (ranks : List EventNumber) (rank : ℕ) → IsInUnit (at_rank zero_ends values ranks rank)
rank-in_unit values all ranks rank = on (slice_get ranks rank)
  where
    on : (number : Option EventNumber) → IsInUnit (unwrap_or (option_and_then (λ (n : EventNumber). slice_get values n.0) number) zero_ends)
    on None = zero-in_unit
    on (Some number) = place-in_unit values all number.0

-- the intervals of a product's events are within 0 and 1
pub events-in_unit : (values : Option (List Ends)) (ranks : List EventNumber) (literals : List Literal) → IfSome values (All IsInUnit)
    → IfSome values (λ (some : List Ends). All (λ (literal : Literal). IsInUnit (at_rank zero_ends some ranks literal.rank)) literals)
events-in_unit None ranks literals all = tt
events-in_unit (Some some) ranks literals all =
    All-from_get_or (λ (literal : Literal). IsInUnit (at_rank zero_ends some ranks literal.rank)) literals (record { rank = 0; occurs = true })
    (λ i within. rank-in_unit some all ranks (get_or literals i (record { rank = 0; occurs = true })).rank)

-- a product without a bound counts as one with the bound 0
pub counted-in_unit : (bound : Option Ends) → IfSome bound IsInUnit → IsInUnit (unwrap_or bound zero_ends)
counted-in_unit None is = zero-in_unit
counted-in_unit (Some bound) is = is

-- ---- totals

count-more : (n : ℕ) → min (min n MAX_COUNT + 1) MAX_COUNT ≡ min (n + 1) MAX_COUNT
count-more n = omega arith

-- a bound of 0 changes no sum
zero-sum : unit_sum_ends zero_ends zero_ends ≡ zero_ends
zero-sum = refl

zero-rest : unit_product_ends one_ends (complement_ends zero_ends) ≡ one_ends
zero-rest = refl

-- the totals with one product more
pub totals-more : (values : Option (List Ends)) (ranks : List EventNumber) (products : List (List ℕ)) (product : List ℕ)
    → taken (totals_by values ranks products) (unwrap_or (bound_by values ranks product) zero_ends) ≡ totals_by values ranks (products ++ product ∷ [])
totals-more None ranks products product = λ i. record {
  count = (count-more (length products) ∙ ap (λ n. min n MAX_COUNT) (sym (length-append products (product ∷ [])))) i;
  rare_event = zero-sum i;
  rest = zero-rest i;
}
totals-more (Some values) ranks products product =
    let bounds : map (bound_of values ranks) (products ++ product ∷ []) ≡ map (bound_of values ranks) products ++ bound_of values ranks product ∷ [] =
    map-append (bound_of values ranks) products (product ∷ []) in
    let rare = sym (ap rare_event_of bounds ∙ fold-append unit_sum_ends zero_ends (map (bound_of values ranks) products) (bound_of values ranks product ∷ [])) in
    let rest = sym (ap rest_of bounds ∙ fold-append (λ rest bound. unit_product_ends rest (complement_ends bound)) one_ends (map (bound_of values ranks) products) (bound_of values ranks product ∷ [])) in
    λ i. record {
      count = (count-more (length products) ∙ ap (λ n. min n MAX_COUNT) (sym (length-append products (product ∷ [])))) i;
      rare_event = rare i;
      rest = rest i;
    }

-- a count that is held stays so
pub count-held : (n : ℕ) → min (min n MAX_COUNT) MAX_COUNT ≡ min n MAX_COUNT
count-held n = omega arith

-- ---- the cutoff

-- what the cutoff keeps reaches its ceiling
pub reaches-kept : (cut_off : Option Scaled) (bound : Option Ends)
    → reaches (option_map (λ decimal. (decimal_ends decimal).hi) cut_off) bound ≡ option_map_or (is_kept cut_off) bound true
reaches-kept None None = refl
reaches-kept None (Some bound) = refl
reaches-kept (Some cut_off) None = refl
reaches-kept (Some cut_off) (Some bound) = refl

-- ---- the listing of those that a test keeps

module _ (keeps : List ℕ → Bool) where
  filter-has : (sets : List (List ℕ)) (set : List ℕ) → Has (filter keeps sets) set → Has sets set × (keeps set ≡ true)
  filter-has [] set h = absurd h
  filter-has (s ∷ sets) set h = elim (cases_Bool (keeps s)) [
    | inl p ↦ elim (rw p at h) [
      | inl e ↦ (inl e, ap keeps (sym e) ∙ p)
      | inr r ↦ let rest = filter-has sets set r in (inr rest.0, rest.1)
    ]
    | inr p ↦ let rest = filter-has sets set (rw p at h) in (inr rest.0, rest.1)
  ]

  filter-whole : (sets : List (List ℕ)) (set : List ℕ) → Has sets set → keeps set ≡ true → Has (filter keeps sets) set
  filter-whole [] set h k = absurd h
  filter-whole (s ∷ sets) set h k = elim (cases_Bool (keeps s)) [
    | inl p ↦ rw p (elim h [ inl e ↦ inl e | inr r ↦ inr (filter-whole sets set r k) ])
    | inr p ↦ rw p (elim h [
      | inl e ↦ absurd (false≢true (sym p ∙ ap keeps e ∙ k))
      | inr r ↦ filter-whole sets set r k
    ])
  ]

  filter-order : (sets : List (List ℕ)) → is_in_order sets ≡ true → is_in_order (filter keeps sets) ≡ true
  filter-order [] o = refl
  filter-order (s ∷ sets) o =
      let parts = and_parts (is_before_all s sets) (is_in_order sets) o in
      elim (cases_Bool (keeps s)) [
        | inl p ↦ rw p (and_from (is_before_all s (filter keeps sets)) (is_in_order (filter keeps sets))
            (before_all-from s (filter keeps sets) (λ other m. before_all-each s sets parts.0 other (filter-has sets other m).0))
            (filter-order sets parts.1))
        | inr p ↦ rw p (filter-order sets parts.1)
      ]

  -- a listing without what the test does not keep
  pub filter-listing : (IsOne : List ℕ → Type 0) (sets : List (List ℕ)) → IsListing IsOne sets → IsListing (λ set. IsOne set × (keeps set ≡ true)) (filter keeps sets)
  filter-listing IsOne sets l = record {
    ordered = filter-order sets l.ordered;
    sound = λ set m. let h = filter-has sets set m in (l.sound set h.0, h.1);
    whole = λ set is. filter-whole sets set (l.whole set is.0) is.1;
  }

-- ---- the products that are written

-- the same totals are those that are asked for
pub asked-same : (settings : Settings) (sums totals : Sums) → sums ≡ totals → AreAsked settings sums totals
asked-same settings sums totals same = record {
  count = ap (λ (s : Sums). s.count) same;
  rare_event = ap (λ (s : Sums). s.rare_event) same;
  rest = λ asked. ap (λ (s : Sums). s.rest) same;
}

-- one bound more, where totals are those that are asked for
asked-more : (settings : Settings) (sums more totals : Sums) (bound : Ends) → AreAsked settings sums totals → AreAsked settings more (taken sums bound)
    → AreAsked settings more (taken totals bound)
asked-more settings sums more totals bound are takes = record {
  count = takes.count ∙ ap (λ (n : ℕ). min (n + 1) MAX_COUNT) are.count;
  rare_event = takes.rare_event ∙ ap (λ (sum : Ends). unit_sum_ends sum bound) are.rare_event;
  rest = λ asked. takes.rest asked ∙ ap (λ (rest : Ends). unit_product_ends rest (complement_ends bound)) (are.rest asked);
}

-- a total that is written only where it is asked for
line-asked : (is_asked : Bool) (line : Ends → List ℕ) (sum total : Ends) → (is_asked ≡ true → sum ≡ total)
    → (if is_asked then line (complement_ends sum) else []) ≡ (if is_asked then line (complement_ends total) else [])
line-asked true line sum total same = ap (λ (e : Ends). line (complement_ends e)) (same refl)
line-asked false line sum total same = refl

-- the text of totals is that of those that are asked for
pub text-asked : (settings : Settings) (sums totals : Sums) → AreAsked settings sums totals
    → totals_text settings sums.count sums.rare_event (complement_ends sums.rest) ≡ totals_text settings totals.count totals.rare_event (complement_ends totals.rest)
text-asked settings sums totals are =
    ap (λ (n : ℕ). totals_text settings n sums.rare_event (complement_ends sums.rest)) are.count
    ∙ ap (λ (sum : Ends). totals_text settings totals.count sum (complement_ends sums.rest)) are.rare_event
    ∙ ap (λ (last : List ℕ). count_line totals.count ++ ((if settings.rare_event then total_line (codes "rare-event") totals.rare_event else []) ++ last))
    (line-asked settings.mcub (total_line (codes "mcub")) sums.rest totals.rest are.rest)

-- The products of a listing up to the rest are taken into the totals that the settings ask for.
pub record AreDone (settings : Settings) (values : Option (List Ends)) (ranks : List EventNumber) (all rest : List (List ℕ)) (sums : Sums) : Type 0 where
  pub done : List (List ℕ)
  pub splits : done ++ rest ≡ all
  pub are_totals : AreAsked settings sums (totals_by values ranks done)

-- at first none is
pub done-none : (settings : Settings) (values : Option (List Ends)) (ranks : List EventNumber) (all : List (List ℕ)) (sums : Sums) → sums ≡ totals_by values ranks []
    → AreDone settings values ranks all all sums
done-none settings values ranks all sums are = record { done = []; splits = refl; are_totals = asked-same settings sums (totals_by values ranks []) are }

-- one product more
pub done-more : (settings : Settings) (values : Option (List Ends)) (ranks : List EventNumber) (all now rest : List (List ℕ)) (sums more : Sums) (product : List ℕ) (counted : Ends)
    → AreDone settings values ranks all now sums → now ≡ product ∷ rest → counted ≡ unwrap_or (bound_by values ranks product) zero_ends → AreAsked settings more (taken sums counted)
    → AreDone settings values ranks all rest more
done-more settings values ranks all now rest sums more product counted d is counts takes = record {
  done = d.done ++ product ∷ [];
  splits = append_assoc d.done (product ∷ []) rest ∙ ap (λ (sets : List (List ℕ)). d.done ++ sets) (sym is) ∙ d.splits;
  are_totals =
      subst (AreAsked settings more) (ap (taken (totals_by values ranks d.done)) counts ∙ totals-more values ranks d.done product)
      (asked-more settings sums more (totals_by values ranks d.done) counted d.are_totals takes);
}

-- at the end all are
pub done-all : (settings : Settings) (values : Option (List Ends)) (ranks : List EventNumber) (all rest : List (List ℕ)) (sums : Sums) → AreDone settings values ranks all rest sums → rest ≡ []
    → AreAsked settings sums (totals_by values ranks all)
done-all settings values ranks all rest sums d none =
    subst (λ (sets : List (List ℕ)). AreAsked settings sums (totals_by values ranks sets))
    (sym (append-nil d.done) ∙ ap (λ (sets : List (List ℕ)). d.done ++ sets) (sym none) ∙ d.splits) d.are_totals

-- ---- the section

-- a listing of the family's sets that the cutoff keeps is what is kept of each listing of the target's products
pub kept-section : (analysis : Analysis) (target : Target) (HasSet : List ℕ → Type 0) (products kept : List (List ℕ))
    → ((product : List ℕ) → HasSet product ↔ IsProductOf analysis target product)
    → IsListing (IsProductOf analysis target) products
    → IsListing (λ set. HasSet set × (is_kept_in analysis target set ≡ true)) kept
    → kept ≡ filter (is_kept_in analysis target) products
kept-section analysis target HasSet products kept same all some =
    let keeps = is_kept_in analysis target in
    let own = filter-listing keeps (IsProductOf analysis target) products all in
    listing-only (λ set. IsProductOf analysis target set × (keeps set ≡ true)) kept (filter keeps products)
    (record {
      ordered = some.ordered;
      sound = λ set m. let h = some.sound set m in ((same set).0 h.0, h.1);
      whole = λ set is. some.whole set ((same set).1 is.0, is.1);
    })
    own

-- the numbers of the literals of a set's product are the set
pub literals-back : (set : List ℕ) → literals_of (product_of set).items ≡ set
literals-back [] = refl
literals-back (n ∷ set) = λ i. literal-read n i ∷ literals-back set i

-- what reaches the ceiling of the cutoff is what the cutoff keeps
pub kept-reaches : (settings : Settings) (expanded : Expanded) (values : Option (List Ends)) (target : Target) (ranks : List EventNumber) (least : Option ℤ) (set : List ℕ)
    → ranks ≡ ranks_of expanded target → least ≡ option_map (λ decimal. (decimal_ends decimal).hi) settings.cut_off
    → reaches least (bound_by values ranks (literals_of (product_of set).items)) ≡ is_kept_in (analysis_by settings expanded values) target set
kept-reaches settings expanded values target ranks least set are is =
    ap (λ (l : Option ℤ). reaches l (bound_by values ranks (literals_of (product_of set).items))) is
    ∙ ap (λ (literals : List ℕ). reaches (option_map (λ decimal. (decimal_ends decimal).hi) settings.cut_off) (bound_by values ranks literals)) (literals-back set)
    ∙ ap (λ (rs : List EventNumber). reaches (option_map (λ decimal. (decimal_ends decimal).hi) settings.cut_off) (bound_by values rs set)) are
    ∙ reaches-kept settings.cut_off (bound_by values (ranks_of expanded target) set)

-- the text by parts is that of the section
pub text-section : (settings : Settings) (expanded : Expanded) (values : Option (List Ends)) (target : Target) (kept : List (List ℕ))
    → text_by settings expanded values target (ranks_of expanded target) kept ≡ section_text (analysis_by settings expanded values) target kept
text-section settings expanded values target kept =
    let ranks = ranks_of expanded target in
    let totals = totals_by values ranks kept in
    let front = target_line expanded.model target in
    let lines = flat_map (line_by expanded values ranks) kept in
    let back = total_lines settings totals.rare_event (complement_ends totals.rest) in
    ap (λ n. front ++ (lines ++ ((codes "count " ++ decimal n ++ codes "\n") ++ back))) (count-held (length kept))
    ∙ sym (append_assoc front lines ((codes "count " ++ decimal (min (length kept) MAX_COUNT) ++ codes "\n") ++ back))
