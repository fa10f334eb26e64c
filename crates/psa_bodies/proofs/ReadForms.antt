-- Readings of formulas, expressions and tests, by their forms.
use Rattle.std.proofs.Common.{◌≡◌, ℕ, Bool, List, [], ◌∷◌, map, refl, ap, sym, ◌∙◌}
use Rattle.std.specs.List.{flat_map}
use Rattle.psa_number.specs.Scaled.{Scaled}
use Rattle.psa_model.specs.PathNames.{Text}
use Rattle.psa_model.specs.declared.formula.Connective.{Connective}
use Rattle.psa_model.specs.declared.formula.Formula.{Formula}
use Rattle.psa_model.specs.declared.formula.Formula.TheVariants as formula_made
use Rattle.psa_model.specs.declared.expression.Expression.{Expression}
use Rattle.psa_model.specs.declared.expression.Expression.TheVariants as expression_made
use Rattle.psa_model.specs.declared.expression.ExpressionOperator.{ExpressionOperator}
use Rattle.psa_model.specs.declared.walks.Test.{Test}
use Rattle.psa_model.specs.declared.walks.Test.TheVariants as test_made
use Rattle.psa_model.specs.declared.draft.DefinitionKind.TheVariants as kind
use Rattle.psa_model.specs.declared.draft.DraftReference.{DraftReference}
use Rattle.psa_model.specs.declared.draft.EventKind.{EventKind}
use Rattle.psa_model.specs.declared.draft.DraftFormula.{DraftFormula}
use Rattle.psa_model.specs.declared.draft.DraftFormula.TheVariants as formula
use Rattle.psa_model.specs.declared.draft.DraftExpression.{DraftExpression}
use Rattle.psa_model.specs.declared.draft.DraftExpression.TheVariants as expression
use Rattle.psa_model.specs.declared.draft.DraftTest.{DraftTest}
use Rattle.psa_model.specs.declared.draft.DraftTest.TheVariants as test
use Rattle.psa_names.specs.declared.found.Sense.{Sense}
use Rattle.psa_names.specs.Outlines.{Reference, event, parameter, initiating_event, functional_event_anywhere, formula_outline, formula_layer, expression_outline, expression_layer, test_outline, test_layer}
use Rattle.psa_names.specs.Meanings.{meaning_of}
use Rattle.psa_names.specs.Chains.{references_in}
use Rattle.psa_names.specs.Ids.{id_of_meaning}
use Rattle.psa_names.specs.Resolved.{event_formula, resolved_formula, resolved_formula_layer, resolved_expression, resolved_expression_layer, resolved_test, resolved_test_layer}
use Rattle.psa_names.proofs.Forms.{at-event, at-constant, at-connective, at-number, at-initiating, at-functional, at-all}
use Rattle.psa_bodies.specs.declared.numbers.Numbers.{Numbers}
use Rattle.psa_bodies.specs.Reading.{Reads}
use Rattle.psa_bodies.proofs.DraftForms.{at-parameter, at-mission, at-operation, at-any, at-not}
use Rattle.psa_bodies.proofs.ReadingInOrder.{reads-as, reads-none, reads-map, references-inside}

-- ---- formulas

abbrev pub FormulaRead : Numbers → List Sense → List Sense → DraftFormula → Formula → Type 0
FormulaRead numbers senses left one made =
    Reads numbers senses left (references_in (formula_outline one)) (λ entries from. resolved_formula entries from one) made

pub read-event : (numbers : Numbers) (senses left : List Sense) (one : DraftFormula) (its : EventKind) (name : DraftReference) (made : Formula) → one ≡ formula.Event its name → ((reference : Reference) → Reads numbers senses left (reference ∷ []) (λ entries from. event_formula entries (meaning_of entries from reference)) made) → FormulaRead numbers senses left one made
read-event numbers senses left one its name made is read =
    let reference : Reference = record { kind = event its; written = name } in
    reads-as numbers senses left (reference ∷ []) (references_in (formula_outline one)) (λ entries from. event_formula entries (meaning_of entries from reference)) (λ entries from. resolved_formula entries from one) made
    (sym (ap (λ f. references_in (formula_outline f)) is ∙ ap references_in (at-event formula_layer its name)))
    (λ entries from. sym (ap (resolved_formula entries from) is ∙ at-event (resolved_formula_layer entries from) its name))
    (read reference)

pub read-constant : (numbers : Numbers) (senses : List Sense) (one : DraftFormula) (state : Bool) → one ≡ formula.Constant state → FormulaRead numbers senses senses one (formula_made.Constant state)
read-constant numbers senses one state is =
    reads-as numbers senses senses [] (references_in (formula_outline one)) (λ entries from. formula_made.Constant state) (λ entries from. resolved_formula entries from one) (formula_made.Constant state)
    (sym (ap (λ f. references_in (formula_outline f)) is ∙ ap references_in (at-constant formula_layer state)))
    (λ entries from. sym (ap (resolved_formula entries from) is ∙ at-constant (resolved_formula_layer entries from) state))
    (reads-none numbers senses (λ entries from. formula_made.Constant state) (formula_made.Constant state) (λ entries from. refl))

pub read-connective : (numbers : Numbers) (senses left : List Sense) (one : DraftFormula) (operator : Connective) (least most : ℕ) (arguments items : List DraftFormula) (made : List Formula) → one ≡ formula.Connective operator least most arguments → items ≡ arguments → Reads numbers senses left (flat_map (λ f. references_in (formula_outline f)) items) (λ entries from. map (resolved_formula entries from) items) made → FormulaRead numbers senses left one (formula_made.Connective operator least most made)
read-connective numbers senses left one operator least most arguments items made is same read =
    reads-as numbers senses left (flat_map (λ f. references_in (formula_outline f)) items) (references_in (formula_outline one)) (λ entries from. formula_made.Connective operator least most (map (resolved_formula entries from) items)) (λ entries from. resolved_formula entries from one) (formula_made.Connective operator least most made)
    (sym (ap (λ f. references_in (formula_outline f)) is ∙ ap references_in (at-connective formula_layer operator least most arguments) ∙ references-inside formula_outline arguments ∙ ap (flat_map (λ f. references_in (formula_outline f))) (sym same)))
    (λ entries from. sym (ap (resolved_formula entries from) is ∙ at-connective (resolved_formula_layer entries from) operator least most arguments ∙ ap (λ fs. formula_made.Connective operator least most (map (resolved_formula entries from) fs)) (sym same)))
    (reads-map numbers senses left (flat_map (λ f. references_in (formula_outline f)) items) (λ entries from. map (resolved_formula entries from) items) made (formula_made.Connective operator least most) read)

-- ---- expressions

abbrev pub ExpressionRead : Numbers → List Sense → List Sense → DraftExpression → Expression → Type 0
ExpressionRead numbers senses left one made =
    Reads numbers senses left (references_in (expression_outline one)) (λ entries from. resolved_expression entries from one) made

pub read-number : (numbers : Numbers) (senses : List Sense) (one : DraftExpression) (decimal : Scaled) → one ≡ expression.Number decimal → ExpressionRead numbers senses senses one (expression_made.Number decimal)
read-number numbers senses one decimal is =
    reads-as numbers senses senses [] (references_in (expression_outline one)) (λ entries from. expression_made.Number decimal) (λ entries from. resolved_expression entries from one) (expression_made.Number decimal)
    (sym (ap (λ f. references_in (expression_outline f)) is ∙ ap references_in (at-number expression_layer decimal)))
    (λ entries from. sym (ap (resolved_expression entries from) is ∙ at-number (resolved_expression_layer entries from) decimal))
    (reads-none numbers senses (λ entries from. expression_made.Number decimal) (expression_made.Number decimal) (λ entries from. refl))

pub read-mission : (numbers : Numbers) (senses : List Sense) (one : DraftExpression) → one ≡ expression.MissionTime → ExpressionRead numbers senses senses one expression_made.MissionTime
read-mission numbers senses one is =
    reads-as numbers senses senses [] (references_in (expression_outline one)) (λ entries from. expression_made.MissionTime) (λ entries from. resolved_expression entries from one) expression_made.MissionTime
    (sym (ap (λ f. references_in (expression_outline f)) is ∙ ap references_in (at-mission expression_layer)))
    (λ entries from. sym (ap (resolved_expression entries from) is ∙ at-mission (resolved_expression_layer entries from)))
    (reads-none numbers senses (λ entries from. expression_made.MissionTime) expression_made.MissionTime (λ entries from. refl))

pub read-parameter : (numbers : Numbers) (senses left : List Sense) (one : DraftExpression) (name : DraftReference) (id : ℕ) → one ≡ expression.Parameter name → ((reference : Reference) → Reads numbers senses left (reference ∷ []) (λ entries from. id_of_meaning kind.Parameter entries (meaning_of entries from reference)) id) → ExpressionRead numbers senses left one (expression_made.Parameter (record { 0 = id }))
read-parameter numbers senses left one name id is read =
    let reference : Reference = record { kind = parameter; written = name } in
    reads-as numbers senses left (reference ∷ []) (references_in (expression_outline one)) (λ entries from. expression_made.Parameter (record { 0 = id_of_meaning kind.Parameter entries (meaning_of entries from reference) })) (λ entries from. resolved_expression entries from one) (expression_made.Parameter (record { 0 = id }))
    (sym (ap (λ f. references_in (expression_outline f)) is ∙ ap references_in (at-parameter expression_layer name)))
    (λ entries from. sym (ap (resolved_expression entries from) is ∙ at-parameter (resolved_expression_layer entries from) name))
    (reads-map numbers senses left (reference ∷ []) (λ entries from. id_of_meaning kind.Parameter entries (meaning_of entries from reference)) id (λ n. expression_made.Parameter (record { 0 = n })) (read reference))

pub read-operation : (numbers : Numbers) (senses left : List Sense) (one : DraftExpression) (operator : ExpressionOperator) (arguments items : List DraftExpression) (made : List Expression) → one ≡ expression.Operation operator arguments → items ≡ arguments → Reads numbers senses left (flat_map (λ f. references_in (expression_outline f)) items) (λ entries from. map (resolved_expression entries from) items) made → ExpressionRead numbers senses left one (expression_made.Operation operator made)
read-operation numbers senses left one operator arguments items made is same read =
    reads-as numbers senses left (flat_map (λ f. references_in (expression_outline f)) items) (references_in (expression_outline one)) (λ entries from. expression_made.Operation operator (map (resolved_expression entries from) items)) (λ entries from. resolved_expression entries from one) (expression_made.Operation operator made)
    (sym (ap (λ f. references_in (expression_outline f)) is ∙ ap references_in (at-operation expression_layer operator arguments) ∙ references-inside expression_outline arguments ∙ ap (flat_map (λ f. references_in (expression_outline f))) (sym same)))
    (λ entries from. sym (ap (resolved_expression entries from) is ∙ at-operation (resolved_expression_layer entries from) operator arguments ∙ ap (λ fs. expression_made.Operation operator (map (resolved_expression entries from) fs)) (sym same)))
    (reads-map numbers senses left (flat_map (λ f. references_in (expression_outline f)) items) (λ entries from. map (resolved_expression entries from) items) made (expression_made.Operation operator) read)

-- ---- tests

abbrev pub TestRead : Numbers → List Sense → List Sense → DraftTest → Test → Type 0
TestRead numbers senses left one made =
    Reads numbers senses left (references_in (test_outline one)) (λ entries from. resolved_test entries from one) made

abbrev pub TestsRead : Numbers → List Sense → List Sense → List DraftTest → List Test → Type 0
TestsRead numbers senses left all made =
    Reads numbers senses left (flat_map (λ one. references_in (test_outline one)) all) (λ entries from. map (resolved_test entries from) all) made

pub read-initiating : (numbers : Numbers) (senses left : List Sense) (one : DraftTest) (name : DraftReference) (id : ℕ) → one ≡ test.Initiating name → ((reference : Reference) → Reads numbers senses left (reference ∷ []) (λ entries from. id_of_meaning kind.InitiatingEvent entries (meaning_of entries from reference)) id) → TestRead numbers senses left one (test_made.Initiating (record { 0 = id }))
read-initiating numbers senses left one name id is read =
    let reference : Reference = record { kind = initiating_event; written = name } in
    reads-as numbers senses left (reference ∷ []) (references_in (test_outline one)) (λ entries from. test_made.Initiating (record { 0 = id_of_meaning kind.InitiatingEvent entries (meaning_of entries from reference) })) (λ entries from. resolved_test entries from one) (test_made.Initiating (record { 0 = id }))
    (sym (ap (λ f. references_in (test_outline f)) is ∙ ap references_in (at-initiating test_layer name)))
    (λ entries from. sym (ap (resolved_test entries from) is ∙ at-initiating (resolved_test_layer entries from) name))
    (reads-map numbers senses left (reference ∷ []) (λ entries from. id_of_meaning kind.InitiatingEvent entries (meaning_of entries from reference)) id (λ n. test_made.Initiating (record { 0 = n })) (read reference))

pub read-functional : (numbers : Numbers) (senses left : List Sense) (one : DraftTest) (name : DraftReference) (state its_name its_state : Text) → one ≡ test.Functional name state → ((reference : Reference) → Reads {A = ℕ} numbers senses left (reference ∷ []) (λ entries from. 0) 0) → its_name ≡ name.name → its_state ≡ state → TestRead numbers senses left one (test_made.Functional its_name its_state)
read-functional numbers senses left one name state its_name its_state is read same equal =
    let reference : Reference = record { kind = functional_event_anywhere; written = name } in
    reads-as numbers senses left (reference ∷ []) (references_in (test_outline one)) (λ entries from. test_made.Functional its_name its_state) (λ entries from. resolved_test entries from one) (test_made.Functional its_name its_state)
    (sym (ap (λ f. references_in (test_outline f)) is ∙ ap references_in (at-functional test_layer name state)))
    (λ entries from. ap (λ n. test_made.Functional n its_state) same ∙ ap (test_made.Functional name.name) equal ∙ sym (ap (resolved_test entries from) is ∙ at-functional (resolved_test_layer entries from) name state))
    (reads-map numbers senses left (reference ∷ []) (λ entries from. 0) 0 (λ (u : ℕ). test_made.Functional its_name its_state) (read reference))

pub read-all : (numbers : Numbers) (senses left : List Sense) (one : DraftTest) (tests items : List DraftTest) (made : List Test) → one ≡ test.All tests → items ≡ tests → TestsRead numbers senses left items made → TestRead numbers senses left one (test_made.All made)
read-all numbers senses left one tests items made is same read =
    reads-as numbers senses left (flat_map (λ f. references_in (test_outline f)) items) (references_in (test_outline one)) (λ entries from. test_made.All (map (resolved_test entries from) items)) (λ entries from. resolved_test entries from one) (test_made.All made)
    (sym (ap (λ f. references_in (test_outline f)) is ∙ ap references_in (at-all test_layer tests) ∙ references-inside test_outline tests ∙ ap (flat_map (λ f. references_in (test_outline f))) (sym same)))
    (λ entries from. sym (ap (resolved_test entries from) is ∙ at-all (resolved_test_layer entries from) tests ∙ ap (λ fs. test_made.All (map (resolved_test entries from) fs)) (sym same)))
    (reads-map numbers senses left (flat_map (λ f. references_in (test_outline f)) items) (λ entries from. map (resolved_test entries from) items) made test_made.All read)

pub read-any : (numbers : Numbers) (senses left : List Sense) (one : DraftTest) (tests items : List DraftTest) (made : List Test) → one ≡ test.Any tests → items ≡ tests → TestsRead numbers senses left items made → TestRead numbers senses left one (test_made.Any made)
read-any numbers senses left one tests items made is same read =
    reads-as numbers senses left (flat_map (λ f. references_in (test_outline f)) items) (references_in (test_outline one)) (λ entries from. test_made.Any (map (resolved_test entries from) items)) (λ entries from. resolved_test entries from one) (test_made.Any made)
    (sym (ap (λ f. references_in (test_outline f)) is ∙ ap references_in (at-any test_layer tests) ∙ references-inside test_outline tests ∙ ap (flat_map (λ f. references_in (test_outline f))) (sym same)))
    (λ entries from. sym (ap (resolved_test entries from) is ∙ at-any (resolved_test_layer entries from) tests ∙ ap (λ fs. test_made.Any (map (resolved_test entries from) fs)) (sym same)))
    (reads-map numbers senses left (flat_map (λ f. references_in (test_outline f)) items) (λ entries from. map (resolved_test entries from) items) made test_made.Any read)

pub read-not : (numbers : Numbers) (senses left : List Sense) (one : DraftTest) (tests items : List DraftTest) (made : List Test) → one ≡ test.Not tests → items ≡ tests → TestsRead numbers senses left items made → TestRead numbers senses left one (test_made.Not made)
read-not numbers senses left one tests items made is same read =
    reads-as numbers senses left (flat_map (λ f. references_in (test_outline f)) items) (references_in (test_outline one)) (λ entries from. test_made.Not (map (resolved_test entries from) items)) (λ entries from. resolved_test entries from one) (test_made.Not made)
    (sym (ap (λ f. references_in (test_outline f)) is ∙ ap references_in (at-not test_layer tests) ∙ references-inside test_outline tests ∙ ap (flat_map (λ f. references_in (test_outline f))) (sym same)))
    (λ entries from. sym (ap (resolved_test entries from) is ∙ at-not (resolved_test_layer entries from) tests ∙ ap (λ fs. test_made.Not (map (resolved_test entries from) fs)) (sym same)))
    (reads-map numbers senses left (flat_map (λ f. references_in (test_outline f)) items) (λ entries from. map (resolved_test entries from) items) made test_made.Not read)
