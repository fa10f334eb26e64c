-- An expression of a draft within so many levels is within as many in the model, and so is one that is nested within so
-- many levels over parameters.
use Rattle.std.proofs.Common.{◌≡◌, ◌<◌, ◌+◌, ℕ, zero, suc, Bool, true, List, [], ◌∷◌, Option, Some, None, map, length, ◌&&◌, refl, sym, ap, ◌∙◌, subst, zero-add, suc-add, arith}
use Rattle.std.proofs.lemmas.Bool.{and_parts, and_from}
use Rattle.std.proofs.lemmas.List.{length-map}
use Rattle.std.specs.Prelude.{unwrap_or, nat_le}
use Rattle.std.specs.List.{slice_get, list_all}
use Rattle.std.specs.Option.{option_map}
use Rattle.psa_model.specs.declared.expression.Expression.{Expression}
use Rattle.psa_model.specs.declared.expression.Expression.TheOpen.{Expression-F}
use Rattle.psa_model.specs.declared.expression.Expression.TheViews.{out-Expression, out-roll-Expression}
use Rattle.psa_model.specs.declared.expression.Expression.TheVariants as expression
use Rattle.psa_model.specs.declared.ids.ParameterId.{ParameterId}
use Rattle.psa_model.specs.declared.model.Parameter.{Parameter}
use Rattle.psa_model.specs.declared.model.TheConstants.{MAX_DEPTH}
use Rattle.psa_model.specs.declared.draft.DefinitionKind.TheVariants as kind
use Rattle.psa_model.specs.declared.draft.DraftBody.{DraftBody}
use Rattle.psa_model.specs.declared.draft.DraftBody.TheVariants as body
use Rattle.psa_model.specs.declared.draft.DraftReference.{DraftReference}
use Rattle.psa_model.specs.declared.draft.DraftExpression.{DraftExpression, out-DraftExpression}
use Rattle.psa_model.specs.declared.draft.DraftExpression.TheOpen.{DraftExpression-F}
use Rattle.psa_model.specs.declared.draft.DraftExpression.TheFolds.{fold_out-DraftExpression, map-DraftExpression}
use Rattle.psa_model.specs.Drafts.{element as element_contents}
use Rattle.psa_model.specs.Drafts.{Contents, together, has_body, expression_contents, expression_step}
use Rattle.psa_model.specs.Values.{has_operands, value_within}
use Rattle.psa_model.proofs.ValueLevels.{within-more}
use Rattle.psa_model.proofs.ExpressionForms.{out-number, out-operation}
use Rattle.psa_names.specs.Outlines.{Reference, element, joined, Outline, Entry, Entries, parameter, expression_outline, expression_layer}
use Rattle.psa_names.specs.Chains.{is_chained, is_within, own_reference, references_in_all}
use Rattle.psa_names.specs.Resolved.{resolved_expression, resolved_expression_layer}
use Rattle.psa_names.specs.Ids.{referred_id}
use Rattle.psa_names.specs.ModelOfDraft.{model_from, model_name, expression_in}
use Rattle.psa_model.specs.declared.model.Model.{Model}
use Rattle.psa_names.proofs.ListPlaces.{list_all-mapped, all-append}
use Rattle.psa_checks.proofs.KindForms.{parameter-body}
use Rattle.psa_checks.proofs.Definitions.{AreEntries, stands}
use Rattle.psa_checks.proofs.ReferencesStand.{parameter-meant, referred-at, leads-on}
use Rattle.psa_checks.proofs.SoundElements.{IsSound, some-level, inside, sound-each, entry-sound, all_stand, together-numbers, stand-joined}
use Rattle.psa_names.proofs.ElementNesting.{are_shallow, inside-shallow, no-nesting}

-- the layer of a parameter
pub out-parameter : (id : ParameterId) → out-Expression (expression.Parameter id) ≡ Expression-F.Parameter id
out-parameter id = ap out-Expression (sym (expression.rolls-Parameter id))
    ∙ out-roll-Expression (Expression-F.Parameter id)

-- the layer of the mission time
pub out-time : out-Expression expression.MissionTime ≡ Expression-F.MissionTime
out-time = ap out-Expression (sym expression.rolls-MissionTime) ∙ out-roll-Expression Expression-F.MissionTime

-- what a definition with a body has as its expression
abbrev pub expression_by : Entries → Entry → DraftBody → Option Expression
expression_by entries one (body.Value its) = option_map (resolved_expression entries one) its
expression_by entries one _ = None

-- the parameter that a definition is in the model
abbrev pub parameter_of : Entries → Entry → Parameter
parameter_of entries one = record {
  name = model_name one;
  place = one.place;
  expression = unwrap_or (expression_in entries one) expression.MissionTime;
}

-- its expression, by its body
pub parameter-says : (entries : Entries) (one : Entry) (value : DraftExpression) → one.body ≡ body.Value (Some value)
    → (parameter_of entries one).expression ≡ resolved_expression entries one value
parameter-says entries one value is = ap (λ (b : DraftBody). unwrap_or (expression_by entries one b)
    expression.MissionTime) is

-- each expression of these levels in a definition is within as many in the model
abbrev pub ExpressionsAt : Entries → ℕ → Type 0
ExpressionsAt entries levels = (from : Entry) (e : DraftExpression)
    → IsSound entries levels from (expression_outline e ∷ []) (expression_contents e ∷ [])
    → value_within levels (model_from entries) (resolved_expression entries from e) ≡ true

-- the parameter that is meant is within the levels that are left
parameter-within : (levels : ℕ) (entries : Entries) (place : ℕ) (one : Entry) → AreEntries entries
    → ExpressionsAt entries levels → slice_get entries place ≡ Some one → one.kind ≡ kind.Parameter
    → list_all (is_within levels entries one) one.outlines ≡ true
    → value_within levels (model_from entries) (parameter_of entries one).expression ≡ true
parameter-within levels entries place one are below there is h =
    let entry = are place one there in
    let b = parameter-body one.body (subst (λ k. has_body k one.body ≡ true) is entry.body) in
    let fine = entry-sound entries levels place one kind.Parameter (body.Value (Some b.0)) entry is b.1 h in
    let one_fine : IsSound entries levels one (expression_outline b.0 ∷ []) (expression_contents b.0 ∷ []) = record {
      within = fine.within;
      stand = fine.stand;
      numbers = and_from _ true (and_parts (expression_contents b.0).has_numbers true
          (and_parts _ true fine.numbers).0).0 refl;
    } in
    ap (value_within levels (model_from entries)) (parameter-says entries one b.0 b.1) ∙ below one b.0 one_fine

layer-within : (levels : ℕ) (entries : Entries) (from : Entry) → AreEntries entries → ExpressionsAt entries levels
    → (x : DraftExpression-F DraftExpression)
    → IsSound entries (suc levels) from (expression_layer
    (map-DraftExpression DraftExpression Outline expression_outline x) ∷ [])
    (expression_step (map-DraftExpression DraftExpression Contents expression_contents x) ∷ [])
    → value_within (suc levels) (model_from entries)
    (resolved_expression_layer entries from (map-DraftExpression DraftExpression Expression
    (resolved_expression entries from) x)) ≡ true
unfolding value_within
layer-within levels entries from are below (DraftExpression-F.Number decimal) fine = rw (out-number decimal) refl
layer-within levels entries from are below (DraftExpression-F.Parameter name) fine =
    let inner = inside entries levels from (Some (record { kind = parameter; written = name })) [] true (Some name)
    [] fine in
    let m = parameter-meant entries from name (and_parts _ true inner.own).0 in
    let id = referred_id kind.Parameter parameter entries from name in
    let at = referred-at entries from kind.Parameter parameter name (λ one. parameter_of entries one.1) m refl in
    let on = leads-on entries from kind.Parameter parameter name
    (λ to. list_all (λ one. is_within levels entries to one) to.outlines) m refl inner.on in
    rw (out-parameter (record { 0 = id }), at)
    (parameter-within levels entries m.place m.one are below m.there m.is on)
layer-within levels entries from are below DraftExpression-F.MissionTime fine = rw out-time refl
layer-within levels entries from are below (DraftExpression-F.Operation operator arguments) fine =
    let inner = inside entries levels from None (map expression_outline arguments)
    (has_operands operator (length (map expression_contents arguments))) None (map expression_contents arguments)
    fine in
    let all = sound-each entries levels from expression_outline expression_contents
    (λ e. value_within levels (model_from entries) (resolved_expression entries from e)) (below from)
    arguments inner.fine in
    rw (out-operation operator (map (resolved_expression entries from) arguments))
    (and_from _ _
    (ap (has_operands operator) (length-map arguments (resolved_expression entries from)
    ∙ sym (length-map arguments expression_contents)) ∙ inner.right_number)
    (list_all-mapped (λ e. value_within levels (model_from entries) e) (resolved_expression entries from) arguments
    ∙ all))

-- an expression within some levels in a definition is within as many in the model
pub expression-within : (levels : ℕ) (entries : Entries) → AreEntries entries → ExpressionsAt entries levels
expression-within zero entries are from e fine = absurd (some-level entries from _ [] _ fine)
expression-within (suc levels) entries are from e fine =
    let laid = subst (λ (o : Outline). IsSound entries (suc levels) from (o ∷ []) (expression_contents e ∷ []))
    (fold_out-DraftExpression Outline expression_layer e) fine in
    let both = subst (λ (c : Contents). IsSound entries (suc levels) from
    (expression_layer (map-DraftExpression DraftExpression Outline expression_outline
    (out-DraftExpression e)) ∷ []) (c ∷ [])) (fold_out-DraftExpression Contents expression_step e) laid in
    ap (value_within (suc levels) (model_from entries))
    (fold_out-DraftExpression Expression (resolved_expression_layer entries from) e)
    ∙ layer-within levels entries from are (expression-within levels entries are) (out-DraftExpression e) both

-- ---- over parameters

-- each parameter of the model is within so many levels
abbrev pub ParametersAt : Entries → ℕ → Type 0
ParametersAt entries levels = (place : ℕ) (one : Entry) → slice_get entries place ≡ Some one
    → one.kind ≡ kind.Parameter → value_within levels (model_from entries) (parameter_of entries one).expression
    ≡ true

-- each parameter is within the greatest depth
pub parameters-within : (entries : Entries) → AreEntries entries → ParametersAt entries MAX_DEPTH
parameters-within entries are place one there is =
    parameter-within MAX_DEPTH entries place one are (expression-within MAX_DEPTH entries are) there is
    ((are place one there).within (ap is_chained is))

-- the references in these expressions stand, they have their numbers of arguments, and are nested within so many levels
pub record Shallow (entries : Entries) (levels : ℕ) (from : Entry) (outlines : List Outline)
    (contents : List Contents) : Type 0 where
  pub stand : list_all (all_stand entries from) outlines ≡ true
  pub numbers : list_all (λ one. one.has_numbers) contents ≡ true
  pub nested : are_shallow levels contents ≡ true

shallow-inside : (entries : Entries) (levels : ℕ) (from : Entry) (reference : Option Reference) (inner : List Outline)
    (right : Bool) (name : Option DraftReference) (contents : List Contents)
    → Shallow entries (suc levels) from (element reference (joined inner) ∷ [])
    (element_contents right name contents ∷ []) → (list_all (stands entries from) (own_reference reference) ≡ true)
    × (right ≡ true) × Shallow entries levels from inner contents
shallow-inside entries levels from reference inner right name contents fine =
    let stand = (and_parts (all_stand entries from (element reference (joined inner))) true fine.stand).0 in
    let references = all-append (stands entries from) (own_reference reference) (references_in_all (joined inner))
    stand in
    let numbers = and_parts right (together contents).has_numbers
    (and_parts (right && (together contents).has_numbers) true fine.numbers).0 in (
      references.0,
      numbers.0,
      record {
        stand = stand-joined (stands entries from) inner references.1;
        numbers = sym (together-numbers contents) ∙ numbers.1;
        nested = inside-shallow levels right name contents fine.nested;
      },
    )

shallow-each : (entries : Entries) (levels : ℕ) (from : Entry) (test : DraftExpression → Bool)
    → ((e : DraftExpression) → Shallow entries levels from (expression_outline e ∷ []) (expression_contents e ∷ [])
    → test e ≡ true) → (all : List DraftExpression)
    → Shallow entries levels from (map expression_outline all) (map expression_contents all)
    → list_all test all ≡ true
shallow-each entries levels from test each [] fine = refl
shallow-each entries levels from test each (e ∷ all) fine =
    let stand = and_parts (all_stand entries from (expression_outline e)) _ fine.stand in
    let numbers = and_parts (expression_contents e).has_numbers _ fine.numbers in
    let nested = and_parts (nat_le (expression_contents e).nesting levels) _ fine.nested in
    and_from (test e) _
    (each e (record {
      stand = and_from _ true stand.0 refl;
      numbers = and_from _ true numbers.0 refl;
      nested = and_from _ true nested.0 refl;
    }))
    (shallow-each entries levels from test each all
    (record { stand = stand.1; numbers = numbers.1; nested = nested.1 }))

more-levels : (more levels : ℕ) (model : Model) (e : Expression) → value_within levels model e ≡ true
    → value_within (more + levels) model e ≡ true
more-levels zero levels model e h = ap (λ n. value_within n model e) (zero-add levels) ∙ h
more-levels (suc more) levels model e h = ap (λ n. value_within n model e) (suc-add more levels)
    ∙ within-more (more + levels) model e (more-levels more levels model e h)

value-layer : (depth levels : ℕ) (entries : Entries) (from : Entry) → ParametersAt entries depth
    → ((e : DraftExpression) → Shallow entries levels from (expression_outline e ∷ []) (expression_contents e ∷ [])
    → value_within (levels + depth) (model_from entries) (resolved_expression entries from e) ≡ true)
    → (x : DraftExpression-F DraftExpression)
    → Shallow entries (suc levels) from (expression_layer
    (map-DraftExpression DraftExpression Outline expression_outline x) ∷ [])
    (expression_step (map-DraftExpression DraftExpression Contents expression_contents x) ∷ [])
    → value_within (suc (levels + depth)) (model_from entries)
    (resolved_expression_layer entries from (map-DraftExpression DraftExpression Expression
    (resolved_expression entries from) x)) ≡ true
unfolding value_within
value-layer depth levels entries from parameters below (DraftExpression-F.Number decimal) fine =
    rw (out-number decimal) refl
value-layer depth levels entries from parameters below (DraftExpression-F.Parameter name) fine =
    let inner = shallow-inside entries levels from (Some (record { kind = parameter; written = name })) [] true
    (Some name) [] fine in
    let m = parameter-meant entries from name (and_parts _ true inner.0).0 in
    let id = referred_id kind.Parameter parameter entries from name in
    let at = referred-at entries from kind.Parameter parameter name (λ one. parameter_of entries one.1) m refl in
    rw (out-parameter (record { 0 = id }), at)
    (more-levels levels depth (model_from entries) (parameter_of entries m.one).expression
    (parameters m.place m.one m.there m.is))
value-layer depth levels entries from parameters below DraftExpression-F.MissionTime fine = rw out-time refl
value-layer depth levels entries from parameters below (DraftExpression-F.Operation operator arguments) fine =
    let inner = shallow-inside entries levels from None (map expression_outline arguments)
    (has_operands operator (length (map expression_contents arguments))) None (map expression_contents arguments)
    fine in
    let all = shallow-each entries levels from
    (λ e. value_within (levels + depth) (model_from entries) (resolved_expression entries from e))
    below arguments inner.2 in
    rw (out-operation operator (map (resolved_expression entries from) arguments))
    (and_from _ _
    (ap (has_operands operator) (length-map arguments (resolved_expression entries from)
    ∙ sym (length-map arguments expression_contents)) ∙ inner.1)
    (list_all-mapped (λ e. value_within (levels + depth) (model_from entries) e) (resolved_expression entries from)
    arguments ∙ all))

-- an expression that is nested within some levels is within these and the depth of the parameters
pub value-within : (depth levels : ℕ) (entries : Entries) (from : Entry) → ParametersAt entries depth
    → (e : DraftExpression) → Shallow entries levels from (expression_outline e ∷ []) (expression_contents e ∷ [])
    → value_within (levels + depth) (model_from entries) (resolved_expression entries from e) ≡ true
value-within depth zero entries from parameters e fine =
    absurd (no-nesting (expression_contents e)
    (ap (λ (c : Contents). c.nesting) (fold_out-DraftExpression Contents expression_step e))
    (some-nesting (out-DraftExpression e)) fine.nested)
  where
    some-nesting : (x : DraftExpression-F DraftExpression)
        → 0 < (expression_step (map-DraftExpression DraftExpression Contents expression_contents x)).nesting
    some-nesting (DraftExpression-F.Number decimal) = omega arith
    some-nesting (DraftExpression-F.Parameter name) = omega arith
    some-nesting DraftExpression-F.MissionTime = omega arith
    some-nesting (DraftExpression-F.Operation operator arguments) = omega arith
value-within depth (suc levels) entries from parameters e fine =
    let laid = subst (λ (o : Outline). Shallow entries (suc levels) from (o ∷ []) (expression_contents e ∷ []))
    (fold_out-DraftExpression Outline expression_layer e) fine in
    let both = subst (λ (c : Contents). Shallow entries (suc levels) from
    (expression_layer (map-DraftExpression DraftExpression Outline expression_outline
    (out-DraftExpression e)) ∷ []) (c ∷ [])) (fold_out-DraftExpression Contents expression_step e) laid in
    ap (λ n. value_within n (model_from entries) (resolved_expression entries from e)) (suc-add levels depth)
    ∙ ap (value_within (suc (levels + depth)) (model_from entries))
    (fold_out-DraftExpression Expression (resolved_expression_layer entries from) e)
    ∙ value-layer depth levels entries from parameters (value-within depth levels entries from parameters)
    (out-DraftExpression e) both
