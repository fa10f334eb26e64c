-- What is nested within so many levels in a draft is nested within as many in the model.
use Rattle.std.proofs.Common.{◌≡◌, ◌≤◌, ◌<◌, ◌==◌, ℕ, zero, suc, Bool, true, false, List, [], ◌∷◌, Option, Some, None, map, length, refl, sym, ap, ◌∙◌, subst, arith}
use Rattle.std.proofs.lemmas.Bool.{and_parts, and_from, le-leb, cond_both}
use Rattle.std.specs.Prelude.{nat_le}
use Rattle.std.specs.List.{slice_get, list_all}
use Rattle.psa_number.specs.Scaled.{Scaled}
use Rattle.psa_model.specs.PathNames.{Text}
use Rattle.psa_model.specs.declared.formula.Connective.{Connective}
use Rattle.psa_model.specs.declared.formula.Formula.{Formula}
use Rattle.psa_model.specs.declared.formula.Formula.TheOpen.{Formula-F}
use Rattle.psa_model.specs.declared.formula.Formula.TheFolds.{fold-roll-Formula}
use Rattle.psa_model.specs.declared.formula.Formula.TheVariants as formula
use Rattle.psa_model.specs.declared.expression.Expression.{Expression}
use Rattle.psa_model.specs.declared.expression.Expression.TheOpen.{Expression-F}
use Rattle.psa_model.specs.declared.expression.Expression.TheFolds.{fold-roll-Expression}
use Rattle.psa_model.specs.declared.expression.Expression.TheVariants as expression
use Rattle.psa_model.specs.declared.expression.ExpressionOperator.{ExpressionOperator}
use Rattle.psa_model.specs.declared.walks.Test.{Test}
use Rattle.psa_model.specs.declared.walks.Test.TheOpen.{Test-F}
use Rattle.psa_model.specs.declared.walks.Test.TheFolds.{fold-roll-Test}
use Rattle.psa_model.specs.declared.walks.Test.TheVariants as test
use Rattle.psa_model.specs.declared.ids.EventId.{EventId}
use Rattle.psa_model.specs.declared.ids.GateId.{GateId}
use Rattle.psa_model.specs.declared.ids.HouseId.{HouseId}
use Rattle.psa_model.specs.declared.ids.InitiatingId.{InitiatingId}
use Rattle.psa_model.specs.declared.ids.ParameterId.{ParameterId}
use Rattle.psa_model.specs.declared.draft.DefinitionKind.TheVariants as kind
use Rattle.psa_model.specs.declared.draft.DraftFormula.{DraftFormula, out-DraftFormula}
use Rattle.psa_model.specs.declared.draft.DraftFormula.TheOpen.{DraftFormula-F}
use Rattle.psa_model.specs.declared.draft.DraftFormula.TheFolds.{fold_out-DraftFormula, map-DraftFormula}
use Rattle.psa_model.specs.declared.draft.DraftExpression.{DraftExpression, out-DraftExpression}
use Rattle.psa_model.specs.declared.draft.DraftExpression.TheOpen.{DraftExpression-F}
use Rattle.psa_model.specs.declared.draft.DraftExpression.TheFolds.{fold_out-DraftExpression, map-DraftExpression}
use Rattle.psa_model.specs.declared.draft.DraftTest.{DraftTest, out-DraftTest}
use Rattle.psa_model.specs.declared.draft.DraftTest.TheOpen.{DraftTest-F}
use Rattle.psa_model.specs.declared.draft.DraftTest.TheFolds.{fold_out-DraftTest, map-DraftTest}
use Rattle.psa_model.specs.Drafts.{Contents, formula_contents, formula_step, expression_contents, expression_step, test_contents, test_contents_step}
use Rattle.psa_model.specs.Models.{greatest, formula_nesting, formula_nesting_step, expression_nesting, expression_nesting_step, test_nesting, test_nesting_step}
use Rattle.psa_names.proofs.ListPlaces.{map-map}
use Rattle.psa_names.specs.Outlines.{Entry, Entries, event, parameter, initiating_event}
use Rattle.psa_names.specs.Meanings.{Meaning, definition, of_group, meaning_of}
use Rattle.psa_names.specs.Ids.{is_kind, id_of, basic_id, referred_id}
use Rattle.psa_names.specs.Resolved.{event_formula, resolved_formula, resolved_formula_layer, resolved_expression, resolved_expression_layer, resolved_test, resolved_test_layer}
use Rattle.psa_model.specs.Formulas.{has_arity}
use Rattle.psa_model.specs.Values.{has_operands}
use Rattle.psa_names.proofs.ElementNesting.{are_shallow, inside-shallow, no-nesting, greatest-below}

-- each of some parts is nested within the levels
pub each-below : {A : Type 0} (levels : ℕ) (contents : A → Contents) (nesting : A → ℕ)
    → ((x : A) → are_shallow levels (contents x ∷ []) ≡ true → nesting x ≤ levels) → (all : List A)
    → are_shallow levels (map contents all) ≡ true → list_all (λ x. nat_le (nesting x) levels) all ≡ true
each-below levels contents nesting each [] h = refl
each-below levels contents nesting each (x ∷ all) h =
    let parts = and_parts (nat_le (contents x).nesting levels) _ h in
    and_from _ _ (le-leb (nesting x) levels (each x (and_from _ true parts.0 refl)))
    (each-below levels contents nesting each all parts.1)

greatest-mapped : {A B : Type 0} (levels : ℕ) (f : A → B) (contents : A → Contents) (nesting : B → ℕ)
    → ((x : A) → are_shallow levels (contents x ∷ []) ≡ true → nesting (f x) ≤ levels) → (all : List A)
    → are_shallow levels (map contents all) ≡ true → greatest (map nesting (map f all)) ≤ levels
greatest-mapped levels f contents nesting each all h =
    subst (λ (ns : List ℕ). greatest ns ≤ levels) (sym (map-map nesting f all))
    (greatest-below (λ x. nesting (f x)) levels all (each-below levels contents (λ x. nesting (f x)) each all h))

-- ---- formulas

nests-gate : (id : GateId) → formula_nesting (formula.Gate id) ≡ 1
nests-gate id = ap formula_nesting (sym (formula.rolls-Gate id))
    ∙ fold-roll-Formula ℕ formula_nesting_step (Formula-F.Gate id)

nests-basic : (id : EventId) → formula_nesting (formula.Basic id) ≡ 1
nests-basic id = ap formula_nesting (sym (formula.rolls-Basic id))
    ∙ fold-roll-Formula ℕ formula_nesting_step (Formula-F.Basic id)

nests-house : (id : HouseId) → formula_nesting (formula.House id) ≡ 1
nests-house id = ap formula_nesting (sym (formula.rolls-House id))
    ∙ fold-roll-Formula ℕ formula_nesting_step (Formula-F.House id)

nests-constant : (state : Bool) → formula_nesting (formula.Constant state) ≡ 1
nests-constant state = ap formula_nesting (sym (formula.rolls-Constant state))
    ∙ fold-roll-Formula ℕ formula_nesting_step (Formula-F.Constant state)

nests-connective : (operator : Connective) (least most : ℕ) (arguments : List Formula)
    → formula_nesting (formula.Connective operator least most arguments)
    ≡ suc (greatest (map formula_nesting arguments))
nests-connective operator least most arguments =
    ap formula_nesting (sym (formula.rolls-Connective operator least most arguments))
    ∙ fold-roll-Formula ℕ formula_nesting_step (Formula-F.Connective operator least most arguments)

nests-event : (entries : Entries) (o : Option Meaning) → formula_nesting (event_formula entries o) ≡ 1
nests-event entries None = nests-constant false
nests-event entries (Some (of_group name)) = nests-basic (record { 0 = basic_id entries (of_group name) })
nests-event entries (Some (definition place)) = by_entry (slice_get entries place) refl
  where
    by_entry : (found : Option Entry) → slice_get entries place ≡ found
        → formula_nesting (event_formula entries (Some (definition place))) ≡ 1
    by_entry None at = rw at (nests-constant false)
    by_entry (Some one) at = rw at (
        cond_both (is_kind kind.Gate one) _ _ (λ (f : Formula). formula_nesting f ≡ 1)
        (λ h. nests-gate (record { 0 = id_of kind.Gate entries place }))
        (λ h. cond_both (is_kind kind.HouseEvent one) _ _ (λ (f : Formula). formula_nesting f ≡ 1)
        (λ k. nests-house (record { 0 = id_of kind.HouseEvent entries place }))
        (λ k. nests-basic (record { 0 = basic_id entries (definition place) }))))

formula-layer : (levels : ℕ) (entries : Entries) (from : Entry)
    → ((f : DraftFormula) → are_shallow levels (formula_contents f ∷ []) ≡ true
    → formula_nesting (resolved_formula entries from f) ≤ levels) → (x : DraftFormula-F DraftFormula)
    → are_shallow (suc levels) (formula_step (map-DraftFormula DraftFormula Contents formula_contents x) ∷ []) ≡ true
    → formula_nesting (resolved_formula_layer entries from
    (map-DraftFormula DraftFormula Formula (resolved_formula entries from) x)) ≤ suc levels
formula-layer levels entries from below (DraftFormula-F.Event its name) h =
    let one = nests-event entries (meaning_of entries from (record { kind = event its; written = name })) in omega
    (arith, one)
formula-layer levels entries from below (DraftFormula-F.Constant state) h = let one =
    nests-constant state in omega (arith, one)
formula-layer levels entries from below (DraftFormula-F.Connective operator least most arguments) h =
    let inner = inside-shallow levels (has_arity operator least most (length (map formula_contents arguments))) None
    (map formula_contents arguments) h in
    let all = greatest-mapped levels (resolved_formula entries from)
    formula_contents formula_nesting below arguments inner in
    let more = nests-connective operator least most (map (resolved_formula entries from) arguments) in
    omega (arith, all, more)

some-formula : (x : DraftFormula-F DraftFormula)
    → 0 < (formula_step (map-DraftFormula DraftFormula Contents formula_contents x)).nesting
some-formula (DraftFormula-F.Event its name) = omega arith
some-formula (DraftFormula-F.Constant state) = omega arith
some-formula (DraftFormula-F.Connective operator least most arguments) = omega arith

-- a formula nested within some levels in a draft is nested within as many in the model
pub formula-nested : (levels : ℕ) (entries : Entries) (from : Entry) (f : DraftFormula)
    → are_shallow levels (formula_contents f ∷ []) ≡ true → formula_nesting (resolved_formula entries from f) ≤ levels
formula-nested zero entries from f h =
    absurd (no-nesting (formula_contents f) (ap (λ (c : Contents). c.nesting)
    (fold_out-DraftFormula Contents formula_step f)) (some-formula (out-DraftFormula f)) h)
formula-nested (suc levels) entries from f h =
    let own = subst (λ (c : Contents). are_shallow (suc levels) (c ∷ []) ≡ true)
    (fold_out-DraftFormula Contents formula_step f) h in
    subst (λ (g : Formula). formula_nesting g ≤ suc levels)
    (sym (fold_out-DraftFormula Formula (resolved_formula_layer entries from) f))
    (formula-layer levels entries from (formula-nested levels entries from) (out-DraftFormula f) own)

-- ---- expressions

nests-number : (d : Scaled) → expression_nesting (expression.Number d) ≡ 1
nests-number d = ap expression_nesting (sym (expression.rolls-Number d))
    ∙ fold-roll-Expression ℕ expression_nesting_step (Expression-F.Number d)

nests-parameter : (id : ParameterId) → expression_nesting (expression.Parameter id) ≡ 1
nests-parameter id = ap expression_nesting (sym (expression.rolls-Parameter id))
    ∙ fold-roll-Expression ℕ expression_nesting_step (Expression-F.Parameter id)

nests-time : expression_nesting expression.MissionTime ≡ 1
nests-time = ap expression_nesting (sym expression.rolls-MissionTime)
    ∙ fold-roll-Expression ℕ expression_nesting_step Expression-F.MissionTime

nests-operation : (operator : ExpressionOperator) (arguments : List Expression)
    → expression_nesting (expression.Operation operator arguments) ≡ suc (greatest (map expression_nesting arguments))
nests-operation operator arguments =
    ap expression_nesting (sym (expression.rolls-Operation operator arguments))
    ∙ fold-roll-Expression ℕ expression_nesting_step (Expression-F.Operation operator arguments)

expression-layer : (levels : ℕ) (entries : Entries) (from : Entry)
    → ((e : DraftExpression) → are_shallow levels (expression_contents e ∷ []) ≡ true
    → expression_nesting (resolved_expression entries from e) ≤ levels) → (x : DraftExpression-F DraftExpression)
    → are_shallow (suc levels) (expression_step
    (map-DraftExpression DraftExpression Contents expression_contents x) ∷ []) ≡ true
    → expression_nesting (resolved_expression_layer entries from
    (map-DraftExpression DraftExpression Expression (resolved_expression entries from) x)) ≤ suc levels
expression-layer levels entries from below (DraftExpression-F.Number decimal) h = let one =
    nests-number decimal in omega (arith, one)
expression-layer levels entries from below (DraftExpression-F.Parameter name) h = let one =
    nests-parameter (record { 0 = referred_id kind.Parameter parameter entries from name }) in omega (arith, one)
expression-layer levels entries from below DraftExpression-F.MissionTime h = let one =
    nests-time in omega (arith, one)
expression-layer levels entries from below (DraftExpression-F.Operation operator arguments) h =
    let inner = inside-shallow levels (has_operands operator (length (map expression_contents arguments))) None
    (map expression_contents arguments) h in
    let all = greatest-mapped levels (resolved_expression entries from)
    expression_contents expression_nesting below arguments inner in
    let more = nests-operation operator (map (resolved_expression entries from) arguments) in
    omega (arith, all, more)

some-expression : (x : DraftExpression-F DraftExpression)
    → 0 < (expression_step (map-DraftExpression DraftExpression Contents expression_contents x)).nesting
some-expression (DraftExpression-F.Number decimal) = omega arith
some-expression (DraftExpression-F.Parameter name) = omega arith
some-expression DraftExpression-F.MissionTime = omega arith
some-expression (DraftExpression-F.Operation operator arguments) = omega arith

-- an expression nested within some levels in a draft is nested within as many in the model
pub expression-nested : (levels : ℕ) (entries : Entries) (from : Entry) (e : DraftExpression)
    → are_shallow levels (expression_contents e ∷ []) ≡ true
    → expression_nesting (resolved_expression entries from e) ≤ levels
expression-nested zero entries from e h =
    absurd (no-nesting (expression_contents e)
    (ap (λ (c : Contents). c.nesting) (fold_out-DraftExpression Contents expression_step e))
    (some-expression (out-DraftExpression e)) h)
expression-nested (suc levels) entries from e h =
    let own = subst (λ (c : Contents). are_shallow (suc levels) (c ∷ []) ≡ true)
    (fold_out-DraftExpression Contents expression_step e) h in
    subst (λ (g : Expression). expression_nesting g ≤ suc levels)
    (sym (fold_out-DraftExpression Expression (resolved_expression_layer entries from) e))
    (expression-layer levels entries from (expression-nested levels entries from) (out-DraftExpression e) own)

-- ---- tests

nests-initiating : (id : InitiatingId) → test_nesting (test.Initiating id) ≡ 1
nests-initiating id = ap test_nesting (sym (test.rolls-Initiating id))
    ∙ fold-roll-Test ℕ test_nesting_step (Test-F.Initiating id)

nests-functional : (name state : Text) → test_nesting (test.Functional name state) ≡ 1
nests-functional name state = ap test_nesting (sym (test.rolls-Functional name state))
    ∙ fold-roll-Test ℕ test_nesting_step (Test-F.Functional name state)

nests-all : (tests : List Test) → test_nesting (test.All tests) ≡ suc (greatest (map test_nesting tests))
nests-all tests = ap test_nesting (sym (test.rolls-All tests)) ∙ fold-roll-Test ℕ test_nesting_step (Test-F.All tests)

nests-any : (tests : List Test) → test_nesting (test.Any tests) ≡ suc (greatest (map test_nesting tests))
nests-any tests = ap test_nesting (sym (test.rolls-Any tests)) ∙ fold-roll-Test ℕ test_nesting_step (Test-F.Any tests)

nests-not : (tests : List Test) → test_nesting (test.Not tests) ≡ suc (greatest (map test_nesting tests))
nests-not tests = ap test_nesting (sym (test.rolls-Not tests)) ∙ fold-roll-Test ℕ test_nesting_step (Test-F.Not tests)

test-layer : (levels : ℕ) (entries : Entries) (from : Entry)
    → ((t : DraftTest) → are_shallow levels (test_contents t ∷ []) ≡ true
    → test_nesting (resolved_test entries from t) ≤ levels) → (x : DraftTest-F DraftTest)
    → are_shallow (suc levels) (test_contents_step (map-DraftTest DraftTest Contents test_contents x) ∷ []) ≡ true
    → test_nesting (resolved_test_layer entries from (map-DraftTest DraftTest Test (resolved_test entries from) x))
    ≤ suc levels
test-layer levels entries from below (DraftTest-F.Initiating name) h = let one =
    nests-initiating (record { 0 = referred_id kind.InitiatingEvent initiating_event entries from name }) in omega
    (arith, one)
test-layer levels entries from below (DraftTest-F.Functional name state) h = let one =
    nests-functional name.name state in omega (arith, one)
test-layer levels entries from below (DraftTest-F.All tests) h =
    let inner = inside-shallow levels (nat_le 1 (length (map test_contents tests))) None (map test_contents tests)
    h in
    let all = greatest-mapped levels (resolved_test entries from) test_contents test_nesting below tests inner in
    let more = nests-all (map (resolved_test entries from) tests) in
    omega (arith, all, more)
test-layer levels entries from below (DraftTest-F.Any tests) h =
    let inner = inside-shallow levels (nat_le 1 (length (map test_contents tests))) None (map test_contents tests)
    h in
    let all = greatest-mapped levels (resolved_test entries from) test_contents test_nesting below tests inner in
    let more = nests-any (map (resolved_test entries from) tests) in
    omega (arith, all, more)
test-layer levels entries from below (DraftTest-F.Not tests) h =
    let inner = inside-shallow levels (length (map test_contents tests) == 1) None (map test_contents tests) h in
    let all = greatest-mapped levels (resolved_test entries from) test_contents test_nesting below tests inner in
    let more = nests-not (map (resolved_test entries from) tests) in
    omega (arith, all, more)

some-test : (x : DraftTest-F DraftTest)
    → 0 < (test_contents_step (map-DraftTest DraftTest Contents test_contents x)).nesting
some-test (DraftTest-F.Initiating name) = omega arith
some-test (DraftTest-F.Functional name state) = omega arith
some-test (DraftTest-F.All tests) = omega arith
some-test (DraftTest-F.Any tests) = omega arith
some-test (DraftTest-F.Not tests) = omega arith

-- a test nested within some levels in a draft is nested within as many in the model
pub test-nested : (levels : ℕ) (entries : Entries) (from : Entry) (t : DraftTest)
    → are_shallow levels (test_contents t ∷ []) ≡ true → test_nesting (resolved_test entries from t) ≤ levels
test-nested zero entries from t h =
    absurd (no-nesting (test_contents t) (ap (λ (c : Contents). c.nesting)
    (fold_out-DraftTest Contents test_contents_step t)) (some-test (out-DraftTest t)) h)
test-nested (suc levels) entries from t h =
    let own = subst (λ (c : Contents). are_shallow (suc levels) (c ∷ []) ≡ true)
    (fold_out-DraftTest Contents test_contents_step t) h in
    subst (λ (g : Test). test_nesting g ≤ suc levels)
    (sym (fold_out-DraftTest Test (resolved_test_layer entries from) t))
    (test-layer levels entries from (test-nested levels entries from) (out-DraftTest t) own)
