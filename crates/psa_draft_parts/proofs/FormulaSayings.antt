-- What the elements of a formula say, row by row.
use Rattle.std.proofs.Common.{◌≡◌, ℕ, ◌+◌, Some, None, List, [], ◌∷◌, ◌++◌, Bool, true, false, ◌||◌, take, length, get_or, ◌<◌, codes, refl, sym, ap, ◌∙◌}
use Rattle.psa_text.specs.declared.tree.Element.{Element}
use Rattle.psa_text.specs.declared.tree.Element.TheViews.{out-Element}
use Rattle.psa_model.specs.declared.formula.Connective.{Connective}
use Rattle.psa_model.specs.declared.formula.Connective.TheVariants.{And, Or, Not, Xor, Iff, Nand, Nor, Imply, Atleast, Cardinality}
use Rattle.psa_model.specs.declared.draft.EventKind.{EventKind}
use Rattle.psa_model.specs.declared.draft.EventKind.TheVariants as asked
use Rattle.psa_model.specs.declared.draft.DraftFormula.TheVariants as formula
use Rattle.psa_elements.specs.ElementTable as table
use Rattle.psa_elements.specs.ElementTable.{Row, rows_inside, formulas}
use Rattle.psa_elements.specs.DraftReading.{Surroundings, Reading, formula_of, formulas_in, least_of, most_of, has_value}
use Rattle.psa_draft_parts.specs.declared.rows.FormulaRow.TheVariants.{Event}
use Rattle.psa_draft_parts.specs.Rows.{row_of_formula}
use Rattle.psa_draft_parts.specs.Events.{event_as}
use Rattle.psa_draft_parts.specs.Sayings.{start_tag, reading_as, inside_among}
use Rattle.psa_draft_parts.proofs.Readings.{reading-as, among-known, one-row, no-row}
use Rattle.psa_draft_parts.proofs.Passing.{next-reading}
use Rattle.psa_draft_parts.specs.Sayings.{reading_among, readings_among, sizes_of}
use Rattle.std.specs.List.{list_any, filter_map}
use Rattle.std.specs.Str.{bytes_eq}
use Rattle.std.proofs.lemmas.List.Elements.{filter_map-append}
use Rattle.std.proofs.lemmas.List.Folds.{list_any-append}
use Rattle.psa_model.specs.PathNames.{Text}
use Rattle.psa_model.specs.declared.draft.DraftFormula.{DraftFormula}
use Rattle.psa_model.specs.declared.draft.DraftFormula.TheOpen.{DraftFormula-F}
use Rattle.psa_model.specs.declared.draft.DraftFormula.TheViews.{out-DraftFormula, out-roll-DraftFormula}
use Rattle.psa_elements.specs.DraftReading.{is_true_constant, state_in}

rows-connective : (operator : Connective) → rows_inside (table.connective operator) ≡ formulas
rows-connective And = refl
rows-connective Or = refl
rows-connective Not = refl
rows-connective Xor = refl
rows-connective Iff = refl
rows-connective Nand = refl
rows-connective Nor = refl
rows-connective Imply = refl
rows-connective Atleast = refl
rows-connective Cardinality = refl

-- what a connective says
pub says-connective : (operator : Connective) (around : Surroundings) (n : ℕ) (e : Element)
    → formula_of (reading_as (table.connective operator) around n e)
    ≡ Some (formula.Connective operator (least_of operator (start_tag around n e)) (most_of operator (start_tag
    around n e)) (formulas_in (inside_among formulas around n e)))
says-connective operator around n e =
    ap formula_of (reading-as (table.connective operator) around n e)
    ∙ ap (λ rows. Some (formula.Connective operator (least_of operator (start_tag around n e)) (most_of operator
    (start_tag around n e)) (formulas_in (inside_among rows around n e))))
    (rows-connective operator)

-- what an event says
pub says-event : (its : EventKind) (around : Surroundings) (n : ℕ) (e : Element)
    → formula_of (reading_as (row_of_formula (Event its)) around n e) ≡ Some (event_as its (start_tag around n e))
says-event asked.Gate around n e = ap formula_of (reading-as table.gate around n e)
says-event asked.Basic around n e = ap formula_of (reading-as table.basic_event around n e)
says-event asked.House around n e = ap formula_of (reading-as table.house_event around n e)
says-event asked.Any around n e = ap formula_of (reading-as table.event around n e)

-- what a constant says
pub says-constant : (around : Surroundings) (n : ℕ) (e : Element)
    → formula_of (reading_as table.constant around n e) ≡ Some (formula.Constant (has_value (start_tag around n e)
    (codes "value") (codes "true")))
says-constant around n e = ap formula_of (reading-as table.constant around n e)

out-constant : (state : Bool) → out-DraftFormula (formula.Constant state) ≡ DraftFormula-F.Constant state
out-constant state = ap out-DraftFormula (sym (formula.rolls-Constant state)) ∙ out-roll-DraftFormula
    (DraftFormula-F.Constant state)

or-false : (b : Bool) → (b || false) ≡ b
or-false true = refl
or-false false = refl

-- the state that a constant says, and that another element doesn't say
pub constant-state : (around : Surroundings) (n : ℕ) (e : Element) (tag : Text) → tag ≡ (out-Element e).tag →
    bytes_eq tag (codes "constant") ≡ true
    → has_value (start_tag around n e) (codes "value") (codes "true") ≡ state_in (reading_among (table.constant ∷
    []) around n e ∷ [])
constant-state around n e tag tag_is is =
    let state : Bool = has_value (start_tag around n e) (codes "value") (codes "true") in
    sym (or-false state) ∙ ap (λ (f : DraftFormula-F DraftFormula). is_true_constant f || false) (sym (out-constant
    state))
    ∙ ap (λ (r : Reading). state_in (r ∷ [])) (sym (among-known (table.constant ∷ []) around n e tag (Some
    table.constant) tag_is (one-row table.constant tag is) ∙ reading-as table.constant around n e))

-- an element that is no constant says no state
pub no-state : (around : Surroundings) (n : ℕ) (e : Element) (tag : Text) → tag ≡ (out-Element e).tag → bytes_eq
    tag (codes "constant") ≡ false
    → false ≡ state_in (reading_among (table.constant ∷ []) around n e ∷ [])
no-state around n e tag tag_is is =
    ap (λ (r : Reading). state_in (r ∷ [])) (sym (among-known (table.constant ∷ []) around n e tag None tag_is
    (no-row table.constant tag is)))

state-append : (xs ys : List Reading) → state_in (xs ++ ys) ≡ (state_in xs || state_in ys)
state-append xs ys =
    ap (λ (fs : List DraftFormula). list_any (λ (one : DraftFormula). is_true_constant (out-DraftFormula one)) fs)
    (filter_map-append formula_of xs ys)
    ∙ list_any-append (λ (one : DraftFormula). is_true_constant (out-DraftFormula one)) (filter_map formula_of xs)
    (filter_map formula_of ys)

-- one more state
pub state-more : (rows : List Row) (around : Surroundings) (first : ℕ) (cs : List Element) (i : ℕ) (x : Element) (n
    : ℕ) (so_far found : Bool)
    → n ≡ first + sizes_of (take i cs) → i < length cs → x ≡ get_or cs i x
    → so_far ≡ state_in (readings_among rows around first (take i cs)) → found ≡ state_in (reading_among rows
    around n x ∷ [])
    → (so_far || found) ≡ state_in (readings_among rows around first (take (i + 1) cs))
state-more rows around first cs i x n so_far found n_is l x_is so_far_is found_is =
    ap (λ (b : Bool). b || found) so_far_is ∙ ap (λ (b : Bool). state_in (readings_among rows around first (take i
    cs)) || b) found_is
    ∙ sym (state-append (readings_among rows around first (take i cs)) (reading_among rows around n x ∷ []))
    ∙ ap (λ (rs : List Reading). state_in rs) (sym (next-reading rows around first cs i x n n_is l x_is))

-- a state that stands already, and one that is found
pub taken : (before found after : Bool) → before ≡ true → after ≡ before → after ≡ (before || found)
taken before found after h is = is ∙ h ∙ ap (λ (b : Bool). b || found) (sym h)

-- a state that does not stand yet, and one that is found
pub passed : (before found after : Bool) → before ≡ false → after ≡ found → after ≡ (before || found)
passed before found after h is = is ∙ ap (λ (b : Bool). b || found) (sym h)
