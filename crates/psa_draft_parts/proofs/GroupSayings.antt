-- What the elements in a common cause group say, row by row, and what they don't.
use Rattle.std.proofs.Common.{◌≡◌, ℕ, ◌+◌, ◌<◌, true, false, Some, None, List, [], ◌∷◌, ◌++◌, length, get_or, take, codes, refl, sym, ap, ◌∙◌, append_assoc}
use Rattle.std.specs.List.{filter_map, flat_map}
use Rattle.std.specs.Str.{bytes_eq}
use Rattle.std.proofs.lemmas.Grind.{flat_map-append}
use Rattle.std.proofs.lemmas.List.Elements.{filter_map-append}
use Rattle.psa_text.specs.declared.tree.Element.TheViews.{out-Element}
use Rattle.psa_model.specs.PathNames.{Text}
use Rattle.psa_model.specs.declared.draft.DraftReference.{DraftReference}
use Rattle.psa_model.specs.declared.draft.DraftFactor.{DraftFactor}
use Rattle.psa_model.specs.declared.draft.EventKind.TheVariants as asked
use Rattle.psa_model.specs.declared.draft.DraftFormula.{DraftFormula}
use Rattle.psa_model.specs.declared.draft.DraftFormula.TheOpen.{DraftFormula-F}
use Rattle.psa_model.specs.declared.draft.DraftFormula.TheVariants as formula
use Rattle.psa_model.specs.declared.draft.DraftFormula.TheViews.{out-DraftFormula, out-roll-DraftFormula}
use Rattle.psa_model.specs.declared.draft.EventKind.{EventKind}
use Rattle.psa_text.specs.declared.tree.Element.{Element}
use Rattle.psa_elements.specs.ElementTable as table
use Rattle.psa_elements.specs.ElementTable.{expressions}
use Rattle.psa_elements.specs.DraftReading.{Surroundings, Reading, factors_of, a_distribution, some_members, some_factors, expression_in, level_in, formula_of, reference, references_of}
use Rattle.psa_draft_parts.specs.Groups.{members_in}
use Rattle.psa_draft_parts.specs.Sayings.{sizes_of, start_tag, reading_as, reading_among, readings_among, inside_among}
use Rattle.psa_draft_parts.proofs.Readings.{reading-as, among-known, one-row, no-row}
use Rattle.psa_draft_parts.proofs.Passing.{next-reading, several-more}

out-event : (its : EventKind) (name : DraftReference) → out-DraftFormula (formula.Event its name) ≡
    DraftFormula-F.Event its name
out-event its name = ap out-DraftFormula (sym (formula.rolls-Event its name)) ∙ out-roll-DraftFormula
    (DraftFormula-F.Event its name)

-- what an element of this row says: members
pub says-members : (around : Surroundings) (n : ℕ) (e : Element) → reading_as table.members around n e ≡
    some_members (members_in (inside_among (table.basic_event ∷ []) around n e))
says-members around n e = reading-as table.members around n e

-- what an element of this row says: distribution
pub says-distribution : (around : Surroundings) (n : ℕ) (e : Element) → reading_as table.distribution around n e ≡
    a_distribution (expression_in (inside_among expressions around n e))
says-distribution around n e = reading-as table.distribution around n e

-- what an element of this row says: factors
pub says-factors : (around : Surroundings) (n : ℕ) (e : Element) → reading_as table.factors around n e ≡
    some_factors (flat_map factors_of (inside_among (table.factor ∷ []) around n e))
says-factors around n e = reading-as table.factors around n e

-- what an element of this row says: factor
pub says-factor : (around : Surroundings) (n : ℕ) (e : Element)
    → reading_as table.factor around n e ≡ some_factors (record {
      level = level_in (start_tag around n e);
      expression = expression_in (inside_among expressions around n e);
    } ∷ [])
says-factor around n e = reading-as table.factor around n e

-- ---- one more in a group

-- what one more says of members, behind those before
pub members-more : (rows : List table.Row) (around : Surroundings) (first : ℕ) (cs : List Element) (i : ℕ) (x :
    Element) (n : ℕ) (before found : List DraftReference)
    → n ≡ first + sizes_of (take i cs) → i < length cs → x ≡ get_or cs i x → found ≡ members_in (reading_among rows
    around n x ∷ [])
    → (before ++ members_in (readings_among rows around first (take i cs))) ++ found ≡ before ++ members_in
    (readings_among rows around first (take (i + 1) cs))
members-more rows around first cs i x n before found n_is l x_is found_is =
    append_assoc before (members_in (readings_among rows around first (take i cs))) found
    ∙ ap (λ (xs : List DraftReference). before ++ xs)
    (ap (λ (ys : List DraftReference). members_in (readings_among rows around first (take i cs)) ++ ys) found_is
    ∙ sym (members-append (readings_among rows around first (take i cs)) (reading_among rows around n x ∷ []))
    ∙ ap (λ (rs : List Reading). members_in rs) (sym (next-reading rows around first cs i x n n_is l x_is)))
  where
    members-append : (xs ys : List Reading) → members_in (xs ++ ys) ≡ members_in xs ++ members_in ys
    members-append xs ys =
        ap (λ (fs : List DraftFormula). flat_map (λ (one : DraftFormula). references_of (out-DraftFormula one)) fs)
        (filter_map-append formula_of xs ys)
        ∙ flat_map-append (λ (one : DraftFormula). references_of (out-DraftFormula one)) (filter_map formula_of xs)
        (filter_map formula_of ys)

-- what one more says of factors, behind those before
pub factors-more : (rows : List table.Row) (around : Surroundings) (first : ℕ) (cs : List Element) (i : ℕ) (x :
    Element) (n : ℕ) (before found : List DraftFactor)
    → n ≡ first + sizes_of (take i cs) → i < length cs → x ≡ get_or cs i x → found ≡ factors_of (reading_among rows
    around n x)
    → (before ++ flat_map factors_of (readings_among rows around first (take i cs))) ++ found ≡ before ++ flat_map
    factors_of (readings_among rows around first (take (i + 1) cs))
factors-more rows around first cs i x n before found n_is l x_is found_is =
    append_assoc before (flat_map factors_of (readings_among rows around first (take i cs))) found
    ∙ ap (λ (xs : List DraftFactor). before ++ xs)
    (several-more factors_of rows around first cs i x n (flat_map factors_of (readings_among rows around first
    (take i cs))) found n_is l x_is refl found_is)

-- the member that an element names, or none
pub says-member : (around : Surroundings) (n : ℕ) (e : Element) (tag : Text) → tag ≡ (out-Element e).tag → bytes_eq
    tag (codes "basic-event") ≡ true
    → reference (start_tag around n e) ∷ [] ≡ members_in (reading_among (table.basic_event ∷ []) around n e ∷ [])
says-member around n e tag tag_is is =
    ap (λ (f : DraftFormula-F DraftFormula). references_of f ++ []) (sym (out-event asked.Basic (reference
    (start_tag around n e))))
    ∙ ap (λ (r : Reading). members_in (r ∷ [])) (sym (among-known (table.basic_event ∷ []) around n e tag (Some
    table.basic_event) tag_is (one-row table.basic_event tag is) ∙ reading-as table.basic_event around n e))

-- an element that is no basic event names no member
pub no-member : (around : Surroundings) (n : ℕ) (e : Element) (tag : Text) → tag ≡ (out-Element e).tag → bytes_eq
    tag (codes "basic-event") ≡ false
    → [] ≡ members_in (reading_among (table.basic_event ∷ []) around n e ∷ [])
no-member around n e tag tag_is is =
    ap (λ (r : Reading). members_in (r ∷ [])) (sym (among-known (table.basic_event ∷ []) around n e tag None tag_is
    (no-row table.basic_event tag is)))
