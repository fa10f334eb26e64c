-- The elements of formulas, expressions, tests, instructions and branches at each form.
use Rattle.std.proofs.Common.{◌≡◌, ◌≤◌, ◌<◌, ◌+◌, ◌-◌, ℕ, zero, suc, max, Bool, List, [], ◌∷◌, ◌++◌, length, get_or, map, take, Option, Some, None, true, false, ◌==◌, refl, sym, ap, ◌∙◌, inl, inr, sub-one, arith}
use Rattle.std.proofs.lemmas.Bool.{cases_Bool, le-leb}
use Rattle.std.proofs.lemmas.List.{map_more, take_more, take_all}
use Rattle.std.proofs.lemmas.List.Elements.{filter_map-append}
use Rattle.std.proofs.lemmas.List.Splits.{length-slice_split}
use Rattle.std.specs.Prelude.{filter_map, if◌then◌else◌}
use Rattle.std.specs.List.{list_any, onto_first}
use Rattle.psa_model.specs.Drafts.{Contents, together, formula_step, formula_contents, expression_step, expression_contents, test_contents_step, test_contents, instruction_step, instruction_contents, branch_contents, end_contents, path_contents, body_contents, some_reference, is_event_tree}
use Rattle.psa_model.specs.declared.draft.DraftReference.{DraftReference}
use Rattle.psa_model.specs.declared.draft.EventKind.{EventKind}
use Rattle.psa_model.specs.declared.draft.EventKind.TheVariants as asked
use Rattle.psa_model.specs.declared.formula.Connective.{Connective}
use Rattle.psa_model.specs.declared.expression.ExpressionOperator.{ExpressionOperator}
use Rattle.psa_model.specs.declared.draft.DraftFormula.{DraftFormula}
use Rattle.psa_model.specs.declared.draft.DraftFormula.TheVariants as formula
use Rattle.psa_model.specs.declared.draft.DraftExpression.{DraftExpression}
use Rattle.psa_model.specs.declared.draft.DraftExpression.TheOpen.{DraftExpression-F}
use Rattle.psa_model.specs.declared.draft.DraftExpression.TheVariants as expression
use Rattle.psa_model.specs.declared.draft.DraftExpression.TheFolds.{fold-DraftExpression, fold-roll-DraftExpression, map-DraftExpression}
use Rattle.psa_model.specs.declared.draft.DraftTest.{DraftTest}
use Rattle.psa_model.specs.declared.draft.DraftTest.TheOpen.{DraftTest-F}
use Rattle.psa_model.specs.declared.draft.DraftTest.TheVariants as test
use Rattle.psa_model.specs.declared.draft.DraftTest.TheFolds.{fold-DraftTest, fold-roll-DraftTest, map-DraftTest}
use Rattle.psa_model.specs.declared.draft.DraftInstruction.{DraftInstruction}
use Rattle.psa_model.specs.declared.draft.DraftInstruction.TheOpen.{DraftInstruction-F}
use Rattle.psa_model.specs.declared.draft.DraftInstruction.TheVariants as instruction
use Rattle.psa_model.specs.declared.draft.DraftInstruction.TheFolds.{fold-DraftInstruction, fold-roll-DraftInstruction, map-DraftInstruction}
use Rattle.psa_model.specs.declared.draft.DraftBranch.{DraftBranch}
use Rattle.psa_model.specs.declared.draft.DraftForkPath.{DraftForkPath}
use Rattle.psa_model.specs.declared.draft.DraftBranchEnd.{DraftBranchEnd}
use Rattle.psa_model.specs.declared.draft.DraftBranchEnd.TheOpen.{DraftBranchEnd-F}
use Rattle.psa_model.specs.declared.draft.DraftBranchEnd.TheViews.{out-DraftBranchEnd, out-roll-DraftBranchEnd}
use Rattle.psa_model.specs.declared.draft.DraftBranchEnd.TheVariants as end
use Rattle.psa_model.specs.PathNames.{dot, is_path, name_parts}
use Rattle.psa_model.specs.declared.draft.DefinitionKind.{DefinitionKind}
use Rattle.psa_model.specs.declared.draft.DefinitionKind.TheVariants as kind
use Rattle.psa_model.specs.declared.draft.DraftBody.{DraftBody}
use Rattle.psa_model.specs.declared.draft.DraftBody.TheVariants as body
use Rattle.psa_model.specs.declared.draft.DraftDefinition.{DraftDefinition}
use Rattle.psa_model.specs.declared.draft.DraftFactor.{DraftFactor}
use Rattle.psa_model.specs.declared.draft.DraftGroup.{DraftGroup}
use Rattle.psa_names.specs.Meanings.{members_of}
use Rattle.psa_names.specs.Outlines.{event, parameter, rule, initiating_event, functional_event, functional_event_anywhere, sequence, branch, Outline, joined, plain, body_outlines, link_outlines, entry_of, formula_layer, formula_outline, expression_layer, expression_outline, test_layer, test_outline, instruction_layer, instruction_outline, branch_outlines, end_outline}
use Rattle.psa_names.proofs.Forms.{at-event, at-constant, at-connective, at-initiating, at-functional, at-all, at-collect, at-rule, at-if, out-fork, out-sequence}
use Rattle.psa_cycles.specs.declared.levels.Levels.{Levels}
use Rattle.psa_cycles.specs.Levels.{added, with_outline, with_outlines, naming_alone, path_member, members_of_paths, elements_of}
use Rattle.psa_cycles.proofs.AddedElements.{pushed-none, pushed-both, pushed-cons, pushed-one, pushed-all, pushed-inside, pushed-alone}
use Rattle.psa_cycles.proofs.RoomInside.{nesting-append, nesting-at}

-- ---- formulas

-- an argument is not nested as deep as its formula
pub formula-inside : (f : DraftFormula) (operator : Connective) (least most : ℕ) (arguments slice : List DraftFormula) (i : ℕ) (x : DraftFormula) → f ≡ formula.Connective operator least most arguments → slice ≡ arguments → i < length slice → x ≡ get_or slice i x → (formula_contents x).nesting < (formula_contents f).nesting
formula-inside f operator least most arguments slice i x form same low is =
    let whole : (formula_contents f).nesting ≡ suc (together (map formula_contents arguments)).nesting =
    ap (λ (c : Contents). c.nesting) (ap formula_contents form ∙ at-connective formula_step operator least most arguments) in
    let one = nesting-at formula_contents slice arguments i x same low is in
    omega arith

-- the elements of an event
pub formula-event : (a : ℕ) (f : DraftFormula) (its : EventKind) (name : DraftReference) (s t : Levels) → f ≡ formula.Event its name → t ≡ added s ((a + 1) ∷ []) (a + 1) → t ≡ with_outline a (formula_outline f) s
formula-event a f its name s t form first =
    pushed-alone a (Some (record { kind = event its; written = name })) s t first
    ∙ ap (λ o. with_outline a o s) (sym (ap formula_outline form ∙ at-event formula_layer its name))

-- the elements of a constant
pub formula-constant : (a : ℕ) (f : DraftFormula) (state : Bool) (s t : Levels) → f ≡ formula.Constant state → t ≡ added s [] (a + 1) → t ≡ with_outline a (formula_outline f) s
formula-constant a f state s t form first =
    pushed-alone a None s t first ∙ ap (λ o. with_outline a o s) (sym (ap formula_outline form ∙ at-constant formula_layer state))

-- the elements of a connective
pub formula-connective : (a : ℕ) (f : DraftFormula) (operator : Connective) (least most : ℕ) (arguments slice : List DraftFormula) (i : ℕ) (s t : Levels) → f ≡ formula.Connective operator least most arguments → slice ≡ arguments → length slice ≤ i → t ≡ with_outlines (a + 1) (joined (map formula_outline (take i slice))) (added s [] (a + 1)) → t ≡ with_outline a (formula_outline f) s
formula-connective a f operator least most arguments slice i s t form same past all =
    pushed-inside a None (joined (map formula_outline arguments)) s (added s [] (a + 1)) t refl (pushed-all formula_outline (a + 1) slice arguments i (added s [] (a + 1)) t same past all)
    ∙ ap (λ o. with_outline a o s) (sym (ap formula_outline form ∙ at-connective formula_layer operator least most arguments))

-- ---- expressions

at-parameter : {A : Type 0} (step : DraftExpression-F A → A) (name : DraftReference) → fold-DraftExpression A step (expression.Parameter name) ≡ step (DraftExpression-F.Parameter name)
at-parameter {A} step name = ap (fold-DraftExpression A step) (sym (expression.rolls-Parameter name)) ∙ fold-roll-DraftExpression A step (DraftExpression-F.Parameter name)

at-mission : {A : Type 0} (step : DraftExpression-F A → A) → fold-DraftExpression A step expression.MissionTime ≡ step DraftExpression-F.MissionTime
at-mission {A} step = ap (fold-DraftExpression A step) (sym expression.rolls-MissionTime) ∙ fold-roll-DraftExpression A step DraftExpression-F.MissionTime

at-operation : {A : Type 0} (step : DraftExpression-F A → A) (operator : ExpressionOperator) (arguments : List DraftExpression) → fold-DraftExpression A step (expression.Operation operator arguments) ≡ step (map-DraftExpression DraftExpression A (fold-DraftExpression A step) (DraftExpression-F.Operation operator arguments))
at-operation {A} step operator arguments =
    ap (fold-DraftExpression A step) (sym (expression.rolls-Operation operator arguments)) ∙ fold-roll-DraftExpression A step (DraftExpression-F.Operation operator arguments)

-- an operand is not nested as deep as its expression
pub expression-inside : (e : DraftExpression) (operator : ExpressionOperator) (arguments slice : List DraftExpression) (i : ℕ) (x : DraftExpression) → e ≡ expression.Operation operator arguments → slice ≡ arguments → i < length slice → x ≡ get_or slice i x → (expression_contents x).nesting < (expression_contents e).nesting
expression-inside e operator arguments slice i x form same low is =
    let whole : (expression_contents e).nesting ≡ suc (together (map expression_contents arguments)).nesting =
    ap (λ (c : Contents). c.nesting) (ap expression_contents form ∙ at-operation expression_step operator arguments) in
    let one = nesting-at expression_contents slice arguments i x same low is in
    omega arith

-- the elements of an expression without operands or a name
pub expression-number : (a : ℕ) (e : DraftExpression) (s t : Levels) → expression_outline e ≡ plain [] → t ≡ added s [] (a + 1) → t ≡ with_outline a (expression_outline e) s
expression-number a e s t form first = pushed-alone a None s t first ∙ ap (λ o. with_outline a o s) (sym form)

-- the elements of a parameter
pub expression-parameter : (a : ℕ) (e : DraftExpression) (name : DraftReference) (s t : Levels) → e ≡ expression.Parameter name → t ≡ added s ((a + 1) ∷ []) (a + 1) → t ≡ with_outline a (expression_outline e) s
expression-parameter a e name s t form first =
    pushed-alone a (Some (record { kind = parameter; written = name })) s t first
    ∙ ap (λ o. with_outline a o s) (sym (ap expression_outline form ∙ at-parameter expression_layer name))

-- the outline of the mission time
pub mission-outline : (e : DraftExpression) → e ≡ expression.MissionTime → expression_outline e ≡ plain []
mission-outline e form = ap expression_outline form ∙ at-mission expression_layer

-- the elements of an operation
pub expression-operation : (a : ℕ) (e : DraftExpression) (operator : ExpressionOperator) (arguments slice : List DraftExpression) (i : ℕ) (s t : Levels) → e ≡ expression.Operation operator arguments → slice ≡ arguments → length slice ≤ i → t ≡ with_outlines (a + 1) (joined (map expression_outline (take i slice))) (added s [] (a + 1)) → t ≡ with_outline a (expression_outline e) s
expression-operation a e operator arguments slice i s t form same past all =
    pushed-inside a None (joined (map expression_outline arguments)) s (added s [] (a + 1)) t refl (pushed-all expression_outline (a + 1) slice arguments i (added s [] (a + 1)) t same past all)
    ∙ ap (λ o. with_outline a o s) (sym (ap expression_outline form ∙ at-operation expression_layer operator arguments))

-- ---- tests

at-any : {A : Type 0} (step : DraftTest-F A → A) (tests : List DraftTest) → fold-DraftTest A step (test.Any tests) ≡ step (map-DraftTest DraftTest A (fold-DraftTest A step) (DraftTest-F.Any tests))
at-any {A} step tests = ap (fold-DraftTest A step) (sym (test.rolls-Any tests)) ∙ fold-roll-DraftTest A step (DraftTest-F.Any tests)

at-not : {A : Type 0} (step : DraftTest-F A → A) (tests : List DraftTest) → fold-DraftTest A step (test.Not tests) ≡ step (map-DraftTest DraftTest A (fold-DraftTest A step) (DraftTest-F.Not tests))
at-not {A} step tests = ap (fold-DraftTest A step) (sym (test.rolls-Not tests)) ∙ fold-roll-DraftTest A step (DraftTest-F.Not tests)

-- a test that holds others
pub data Holds (tests : List DraftTest) (one : DraftTest) : Type 0 where
  holds_all : one ≡ test.All tests → Holds tests one
  holds_any : one ≡ test.Any tests → Holds tests one
  holds_not : one ≡ test.Not tests → Holds tests one

holds-outline : (tests : List DraftTest) (one : DraftTest) → Holds tests one → test_outline one ≡ plain (map test_outline tests)
holds-outline tests one (holds_all is) = ap test_outline is ∙ at-all test_layer tests
holds-outline tests one (holds_any is) = ap test_outline is ∙ at-any test_layer tests
holds-outline tests one (holds_not is) = ap test_outline is ∙ at-not test_layer tests

-- tests are not nested as deep as the test that holds them
pub tests-inside : (tests slice : List DraftTest) (one : DraftTest) → slice ≡ tests → Holds tests one → (together (map test_contents slice)).nesting < (test_contents one).nesting
tests-inside tests slice one same (holds_all is) =
    let whole : (test_contents one).nesting ≡ suc (together (map test_contents slice)).nesting =
    ap (λ (c : Contents). c.nesting) (ap test_contents (is ∙ ap test.All (sym same)) ∙ at-all test_contents_step slice) in
    omega arith
tests-inside tests slice one same (holds_any is) =
    let whole : (test_contents one).nesting ≡ suc (together (map test_contents slice)).nesting =
    ap (λ (c : Contents). c.nesting) (ap test_contents (is ∙ ap test.Any (sym same)) ∙ at-any test_contents_step slice) in
    omega arith
tests-inside tests slice one same (holds_not is) =
    let whole : (test_contents one).nesting ≡ suc (together (map test_contents slice)).nesting =
    ap (λ (c : Contents). c.nesting) (ap test_contents (is ∙ ap test.Not (sym same)) ∙ at-not test_contents_step slice) in
    omega arith

-- the elements of a test that holds others
pub tests-pushed : (a : ℕ) (tests slice : List DraftTest) (one : DraftTest) (s t : Levels) → slice ≡ tests → Holds tests one → t ≡ with_outlines (a + 1) (joined (map test_outline slice)) (added s [] (a + 1)) → t ≡ with_outline a (test_outline one) s
tests-pushed a tests slice one s t same holds inside =
    pushed-inside a None (joined (map test_outline tests)) s (added s [] (a + 1)) t refl (inside ∙ ap (λ ts. with_outlines (a + 1) (joined (map test_outline ts)) (added s [] (a + 1))) same)
    ∙ ap (λ o. with_outline a o s) (sym (holds-outline tests one holds))

-- the elements of a test of the initiating event
pub test-initiating : (a : ℕ) (one : DraftTest) (name : DraftReference) (s t : Levels) → one ≡ test.Initiating name → t ≡ added s ((a + 1) ∷ []) (a + 1) → t ≡ with_outline a (test_outline one) s
test-initiating a one name s t form first =
    pushed-alone a (Some (record { kind = initiating_event; written = name })) s t first
    ∙ ap (λ o. with_outline a o s) (sym (ap test_outline form ∙ at-initiating test_layer name))

-- the elements of a test of a functional event
pub test-functional : (a : ℕ) (one : DraftTest) (name : DraftReference) (state : List ℕ) (s t : Levels) → one ≡ test.Functional name state → t ≡ added s ((a + 1) ∷ []) (a + 1) → t ≡ with_outline a (test_outline one) s
test-functional a one name state s t form first =
    pushed-alone a (Some (record { kind = functional_event_anywhere; written = name })) s t first
    ∙ ap (λ o. with_outline a o s) (sym (ap test_outline form ∙ at-functional test_layer name state))

-- ---- instructions

at-set : {A : Type 0} (step : DraftInstruction-F A → A) (name : DraftReference) (state : Bool) → fold-DraftInstruction A step (instruction.SetHouse name state) ≡ step (DraftInstruction-F.SetHouse name state)
at-set {A} step name state = ap (fold-DraftInstruction A step) (sym (instruction.rolls-SetHouse name state)) ∙ fold-roll-DraftInstruction A step (DraftInstruction-F.SetHouse name state)

at-block : {A : Type 0} (step : DraftInstruction-F A → A) (inside : List DraftInstruction) → fold-DraftInstruction A step (instruction.Block inside) ≡ step (map-DraftInstruction DraftInstruction A (fold-DraftInstruction A step) (DraftInstruction-F.Block inside))
at-block {A} step inside = ap (fold-DraftInstruction A step) (sym (instruction.rolls-Block inside)) ∙ fold-roll-DraftInstruction A step (DraftInstruction-F.Block inside)

-- a collected formula is not nested as deep as its instruction
pub collect-inside : (i : DraftInstruction) (f : DraftFormula) → i ≡ instruction.Collect f → (formula_contents f).nesting < (instruction_contents i).nesting
collect-inside i f form =
    let whole : (instruction_contents i).nesting ≡ suc (max (formula_contents f).nesting 0) =
    ap (λ (c : Contents). c.nesting) (ap instruction_contents form ∙ at-collect instruction_step f) in
    omega arith

-- the elements of an instruction that collects a formula
pub collect-pushed : (a : ℕ) (i : DraftInstruction) (f : DraftFormula) (s t u : Levels) → i ≡ instruction.Collect f → t ≡ added s [] (a + 1) → u ≡ with_outline (a + 1) (formula_outline f) t → u ≡ with_outline a (instruction_outline i) s
collect-pushed a i f s t u form first second =
    pushed-inside a None (joined (formula_outline f ∷ [])) s t u first (pushed-one (a + 1) (formula_outline f) t u second)
    ∙ ap (λ o. with_outline a o s) (sym (ap instruction_outline form ∙ at-collect instruction_layer f))

-- the elements of an instruction that sets a house event
pub set-pushed : (a : ℕ) (i : DraftInstruction) (name : DraftReference) (state : Bool) (s t u : Levels) → i ≡ instruction.SetHouse name state → t ≡ added s ((a + 1) ∷ []) (a + 1) → u ≡ added t [] (a + 2) → u ≡ with_outline a (instruction_outline i) s
set-pushed a i name state s t u form first second =
    let two : a + 2 ≡ a + 1 + 1 = omega arith in
    pushed-inside a (Some (record { kind = event asked.House; written = name })) (joined (plain [] ∷ [])) s t u first
    (pushed-one (a + 1) (plain []) t u (pushed-alone (a + 1) None t u (second ∙ ap (added t []) two)))
    ∙ ap (λ o. with_outline a o s) (sym (ap instruction_outline form ∙ at-set instruction_layer name state))

-- instructions are not nested as deep as their block
pub block-inside : (i : DraftInstruction) (inside slice : List DraftInstruction) → i ≡ instruction.Block inside → slice ≡ inside → (together (map instruction_contents slice)).nesting < (instruction_contents i).nesting
block-inside i inside slice form same =
    let whole : (instruction_contents i).nesting ≡ suc (together (map instruction_contents slice)).nesting =
    ap (λ (c : Contents). c.nesting) (ap instruction_contents (form ∙ ap instruction.Block (sym same)) ∙ at-block instruction_step slice) in
    omega arith

-- the elements of a block
pub block-pushed : (a : ℕ) (i : DraftInstruction) (inside slice : List DraftInstruction) (s t u : Levels) → i ≡ instruction.Block inside → slice ≡ inside → t ≡ added s [] (a + 1) → u ≡ with_outlines (a + 1) (joined (map instruction_outline slice)) t → u ≡ with_outline a (instruction_outline i) s
block-pushed a i inside slice s t u form same first second =
    pushed-inside a None (joined (map instruction_outline slice)) s t u first second
    ∙ ap (λ o. with_outline a o s) (sym (ap instruction_outline (form ∙ ap instruction.Block (sym same)) ∙ at-block instruction_layer slice))

-- the elements of an instruction that names a rule
pub rule-pushed : (a : ℕ) (i : DraftInstruction) (name : DraftReference) (s t : Levels) → i ≡ instruction.Rule name → t ≡ added s ((a + 1) ∷ []) (a + 1) → t ≡ with_outline a (instruction_outline i) s
rule-pushed a i name s t form first =
    pushed-alone a (Some (record { kind = rule; written = name })) s t first
    ∙ ap (λ o. with_outline a o s) (sym (ap instruction_outline form ∙ at-rule instruction_layer name))

if-nesting : (i : DraftInstruction) (condition : DraftTest) (first second : List DraftInstruction) → i ≡ instruction.If condition first second → (instruction_contents i).nesting ≡ suc (max (test_contents condition).nesting (max (together (map instruction_contents first)).nesting (together (map instruction_contents second)).nesting))
if-nesting i condition first second form =
    ap (λ (c : Contents). c.nesting) (ap instruction_contents form ∙ at-if instruction_step condition first second)
    ∙ ap (λ n. suc (max (test_contents condition).nesting n)) (nesting-append (map instruction_contents first) (map instruction_contents second))

-- the test of a conditional is not nested as deep
pub if-inside-test : (i : DraftInstruction) (condition : DraftTest) (first second : List DraftInstruction) → i ≡ instruction.If condition first second → (test_contents condition).nesting < (instruction_contents i).nesting
if-inside-test i condition first second form = let whole = if-nesting i condition first second form in omega arith

-- nor are the instructions where it is true
pub if-inside-first : (i : DraftInstruction) (condition : DraftTest) (first second slice : List DraftInstruction) → i ≡ instruction.If condition first second → slice ≡ first → (together (map instruction_contents slice)).nesting < (instruction_contents i).nesting
if-inside-first i condition first second slice form same =
    let whole = if-nesting i condition first second form in
    let all : (together (map instruction_contents slice)).nesting ≡ (together (map instruction_contents first)).nesting = ap (λ xs. (together (map instruction_contents xs)).nesting) same in
    omega arith

-- nor those where it is not
pub if-inside-second : (i : DraftInstruction) (condition : DraftTest) (first second slice : List DraftInstruction) → i ≡ instruction.If condition first second → slice ≡ second → (together (map instruction_contents slice)).nesting < (instruction_contents i).nesting
if-inside-second i condition first second slice form same =
    let whole = if-nesting i condition first second form in
    let all : (together (map instruction_contents slice)).nesting ≡ (together (map instruction_contents second)).nesting = ap (λ xs. (together (map instruction_contents xs)).nesting) same in
    omega arith

-- the elements of a conditional
pub if-pushed : (a : ℕ) (i : DraftInstruction) (condition : DraftTest) (first second firsts seconds : List DraftInstruction) (s t u v w : Levels) → i ≡ instruction.If condition first second → firsts ≡ first → seconds ≡ second → t ≡ added s [] (a + 1) → u ≡ with_outline (a + 1) (test_outline condition) t → v ≡ with_outlines (a + 1) (joined (map instruction_outline firsts)) u → w ≡ with_outlines (a + 1) (joined (map instruction_outline seconds)) v → w ≡ with_outline a (instruction_outline i) s
if-pushed a i condition first second firsts seconds s t u v w form same same' begun tested one other =
    let one' = one ∙ ap (λ xs. with_outlines (a + 1) (joined (map instruction_outline xs)) u) same in
    let other' = other ∙ ap (λ xs. with_outlines (a + 1) (joined (map instruction_outline xs)) v) same' in
    pushed-inside a None (joined (test_outline condition ∷ map instruction_outline first ++ map instruction_outline second)) s t w begun
    (pushed-cons (a + 1) (test_outline condition) (map instruction_outline first ++ map instruction_outline second) t u w tested
    (pushed-both (a + 1) (map instruction_outline first) (map instruction_outline second) u v w one' other'))
    ∙ ap (λ o. with_outline a o s) (sym (ap instruction_outline form ∙ at-if instruction_layer condition first second))

-- ---- branches

-- no level, no element
pub branch-none : (depth : ℕ) (one : DraftBranch) → depth ≡ 0 → branch_outlines depth one ≡ []
unfolding branch_outlines
branch-none zero one h = refl
branch-none (suc depth) one h = absurd (omega arith)

branch-some : (depth : ℕ) (one : DraftBranch) → 0 < depth → branch_outlines depth one ≡ map instruction_outline one.instructions ++ end_outline (λ below. branch_outlines (depth - 1) below) (out-DraftBranchEnd one.end) ∷ []
unfolding branch_outlines
branch-some zero one h = absurd (omega arith)
branch-some (suc depth) one h = rw sub-one refl

branch-nesting : (depth : ℕ) (one : DraftBranch) → 0 < depth → (branch_contents depth one).nesting ≡ max (together (map instruction_contents one.instructions)).nesting (max (end_contents (λ below. branch_contents (depth - 1) below) (out-DraftBranchEnd one.end)).nesting 0)
unfolding branch_contents
branch-nesting zero one h = absurd (omega arith)
branch-nesting (suc depth) one h = rw sub-one (nesting-append (map instruction_contents one.instructions) (end_contents (λ below. branch_contents depth below) (out-DraftBranchEnd one.end) ∷ []))

-- the instructions of a branch are not nested deeper than the branch
pub branch-inside-instructions : (depth : ℕ) (one : DraftBranch) (slice : List DraftInstruction) → 0 < depth → slice ≡ one.instructions → (together (map instruction_contents slice)).nesting ≤ (branch_contents depth one).nesting
branch-inside-instructions depth one slice some same =
    let whole = branch-nesting depth one some in
    let all : (together (map instruction_contents slice)).nesting ≡ (together (map instruction_contents one.instructions)).nesting = ap (λ xs. (together (map instruction_contents xs)).nesting) same in
    omega arith

-- nor is its end
pub branch-inside-end : (depth : ℕ) (one : DraftBranch) → 0 < depth → (end_contents (λ below. branch_contents (depth - 1) below) (out-DraftBranchEnd one.end)).nesting ≤ (branch_contents depth one).nesting
branch-inside-end depth one some = let whole = branch-nesting depth one some in omega arith

-- the elements of a branch
pub branch-pushed : (a depth : ℕ) (one : DraftBranch) (slice : List DraftInstruction) (s t u : Levels) → 0 < depth → slice ≡ one.instructions → t ≡ with_outlines a (joined (map instruction_outline slice)) s → u ≡ with_outline a (end_outline (λ below. branch_outlines (depth - 1) below) (out-DraftBranchEnd one.end)) t → u ≡ with_outlines a (joined (branch_outlines depth one)) s
branch-pushed a depth one slice s t u some same first second =
    pushed-both a (map instruction_outline one.instructions) _ s t u (first ∙ ap (λ xs. with_outlines a (joined (map instruction_outline xs)) s) same) (pushed-one a _ t u second)
    ∙ ap (λ os. with_outlines a (joined os) s) (sym (branch-some depth one some))

-- the end at a named branch, opened
pub out-branch : (name : DraftReference) → out-DraftBranchEnd (end.Branch name) ≡ DraftBranchEnd-F.Branch name
out-branch name = ap out-DraftBranchEnd (sym (end.rolls-Branch name)) ∙ out-roll-DraftBranchEnd (DraftBranchEnd-F.Branch name)

-- the paths of a fork are not nested as deep as the fork
pub fork-inside : (depth : ℕ) (one : DraftBranchEnd) (name : DraftReference) (paths slice : List DraftForkPath) → one ≡ end.Fork name paths → slice ≡ paths → (together (map (path_contents (λ below. branch_contents depth below)) slice)).nesting < (end_contents (λ below. branch_contents depth below) (out-DraftBranchEnd one)).nesting
fork-inside depth one name paths slice form same =
    let whole : (end_contents (λ below. branch_contents depth below) (out-DraftBranchEnd one)).nesting ≡ suc (together (map (path_contents (λ below. branch_contents depth below)) slice)).nesting =
    ap (λ e. (end_contents (λ below. branch_contents depth below) e).nesting) (ap out-DraftBranchEnd (form ∙ ap (end.Fork name) (sym same)) ∙ out-fork name slice) in
    omega arith

-- the elements of a fork
pub fork-pushed : (a depth : ℕ) (one : DraftBranchEnd) (name : DraftReference) (paths slice : List DraftForkPath) (s t u : Levels) → one ≡ end.Fork name paths → slice ≡ paths → t ≡ added s ((a + 1) ∷ []) (a + 1) → u ≡ with_outlines (a + 1) (joined (map (λ path. plain (branch_outlines depth path.branch)) slice)) t → u ≡ with_outline a (end_outline (λ below. branch_outlines depth below) (out-DraftBranchEnd one)) s
fork-pushed a depth one name paths slice s t u form same first second =
    pushed-inside a (Some (record { kind = functional_event; written = name })) _ s t u first second
    ∙ ap (λ o. with_outline a (end_outline (λ below. branch_outlines depth below) o) s) (sym (ap out-DraftBranchEnd (form ∙ ap (end.Fork name) (sym same)) ∙ out-fork name slice))

-- the elements of an end at a sequence
pub sequence-pushed : (a depth : ℕ) (one : DraftBranchEnd) (name : DraftReference) (s t : Levels) → one ≡ end.Sequence name → t ≡ added s ((a + 1) ∷ []) (a + 1) → t ≡ with_outline a (end_outline (λ below. branch_outlines depth below) (out-DraftBranchEnd one)) s
sequence-pushed a depth one name s t form first =
    pushed-alone a (Some (record { kind = sequence; written = name })) s t first
    ∙ ap (λ o. with_outline a (end_outline (λ below. branch_outlines depth below) o) s) (sym (ap out-DraftBranchEnd form ∙ out-sequence name))

-- the elements of an end at a named branch
pub named-pushed : (a depth : ℕ) (one : DraftBranchEnd) (name : DraftReference) (s t : Levels) → one ≡ end.Branch name → t ≡ added s ((a + 1) ∷ []) (a + 1) → t ≡ with_outline a (end_outline (λ below. branch_outlines depth below) (out-DraftBranchEnd one)) s
named-pushed a depth one name s t form first =
    pushed-alone a (Some (record { kind = branch; written = name })) s t first
    ∙ ap (λ o. with_outline a (end_outline (λ below. branch_outlines depth below) o) s) (sym (ap out-DraftBranchEnd form ∙ out-branch name))

-- the branch of a path is not nested as deep as the paths
pub path-inside : (depth : ℕ) (paths : List DraftForkPath) (i : ℕ) (path : DraftForkPath) → i < length paths → path ≡ get_or paths i path → (branch_contents depth path.branch).nesting < (together (map (path_contents (λ below. branch_contents depth below)) paths)).nesting
path-inside depth paths i path low is =
    let whole = nesting-at (path_contents (λ below. branch_contents depth below)) paths paths i path refl low is in omega arith

-- the elements of a path
pub path-pushed : (a depth : ℕ) (path : DraftForkPath) (s t u : Levels) → t ≡ added s [] (a + 1) → u ≡ with_outlines (a + 1) (joined (branch_outlines depth path.branch)) t → u ≡ with_outline a (plain (branch_outlines depth path.branch)) s
path-pushed a depth path s t u first second = pushed-inside a None (joined (branch_outlines depth path.branch)) s t u first second

-- ---- bodies

-- how deep a group is nested
pub group-nesting : (group : DraftGroup) → (body_contents (body.Group group)).nesting ≡ max (together (map (λ member. some_reference (Some member)) group.members)).nesting (max (expression_contents group.distribution).nesting (together (map (λ factor. expression_contents factor.expression) group.factors)).nesting)
group-nesting group =
    nesting-append (map (λ member. some_reference (Some member)) group.members) (expression_contents group.distribution ∷ map (λ factor. expression_contents factor.expression) group.factors)

-- a factor is not nested deeper than its group
pub factor-inside : (group : DraftGroup) (slice : List DraftFactor) (i : ℕ) (factor : DraftFactor) → slice ≡ group.factors → i < length slice → factor ≡ get_or slice i factor → (expression_contents factor.expression).nesting ≤ (body_contents (body.Group group)).nesting
factor-inside group slice i factor same low is =
    let whole = group-nesting group in
    let one = nesting-at (λ factor. expression_contents factor.expression) slice group.factors i factor same low is in
    omega arith

-- the elements of one factor more
pub factor-pushed : (a : ℕ) (first : Outline) (xs : List DraftFactor) (i : ℕ) (x : DraftFactor) (s t u : Levels) → i < length xs → x ≡ get_or xs i x → t ≡ with_outlines a (joined (first ∷ map (λ factor. expression_outline factor.expression) (take i xs))) s → u ≡ with_outline a (expression_outline x.expression) t → u ≡ with_outlines a (joined (first ∷ map (λ factor. expression_outline factor.expression) (take (i + 1) xs))) s
factor-pushed a first xs i x s t u low is before here =
    pushed-both a (first ∷ map (λ factor. expression_outline factor.expression) (take i xs)) (expression_outline x.expression ∷ []) s t u before (pushed-one a (expression_outline x.expression) t u here)
    ∙ ap (λ os. with_outlines a (joined (first ∷ os)) s)
    (sym (map_more (λ (factor : DraftFactor). expression_outline factor.expression) xs i x low ∙ ap (λ (y : DraftFactor). map (λ factor. expression_outline factor.expression) (take i xs) ++ expression_outline y.expression ∷ []) (sym is)))

-- the instructions of a sequence or rule are not nested deeper than its body
pub steps-inside : (one : DraftBody) (instructions slice : List DraftInstruction) (link : Option DraftReference) → one ≡ body.Steps instructions link → slice ≡ instructions → (together (map instruction_contents slice)).nesting ≤ (body_contents one).nesting
steps-inside one instructions slice link form same =
    let whole : (body_contents one).nesting ≡ max (together (map instruction_contents slice)).nesting (max (some_reference link).nesting 0) =
    ap (λ b. (body_contents b).nesting) (form ∙ ap (λ is. body.Steps is link) (sym same)) ∙ nesting-append (map instruction_contents slice) (some_reference link ∷ []) in
    omega arith

-- the elements of a sequence or rule
pub steps-pushed : (a : ℕ) (one : DraftBody) (instructions slice : List DraftInstruction) (link : Option DraftReference) (s t u : Levels) → one ≡ body.Steps instructions link → slice ≡ instructions → t ≡ with_outlines a (joined (map instruction_outline slice)) s → u ≡ with_outlines a (joined (link_outlines link)) t → u ≡ with_outlines a (joined (body_outlines one)) s
steps-pushed a one instructions slice link s t u form same first second =
    pushed-both a (map instruction_outline slice) (link_outlines link) s t u first second
    ∙ ap (λ b. with_outlines a (joined (body_outlines b)) s) (sym (form ∙ ap (λ is. body.Steps is link) (sym same)))

-- ---- definitions

-- a kind that is not the event tree
pub not-tree : (k : DefinitionKind) → (k ≡ kind.EventTree → ⊥) → is_event_tree k ≡ false
not-tree kind.EventTree other = absurd (other refl)
not-tree _ other = refl

-- the elements of an event tree
pub tree-pushed : (d : DraftDefinition) (members : List DraftReference) (s t u v : Levels) → d.kind ≡ kind.EventTree → members ≡ members_of d.body → t ≡ with_outlines 0 (joined (members_of_paths members)) s → u ≡ added t [] 1 → v ≡ with_outlines 1 (joined (body_outlines d.body)) u → v ≡ with_outlines 0 (joined (elements_of (entry_of d))) s
tree-pushed d members s t u v tree same first second third =
    pushed-both 0 (members_of_paths members) (plain (body_outlines d.body) ∷ []) s t v first
    (pushed-one 0 (plain (body_outlines d.body)) t v (pushed-inside 0 None (joined (body_outlines d.body)) t u v second third))
    ∙ ap (λ ms. with_outlines 0 (joined (members_of_paths ms ++ (plain (body_outlines d.body) ∷ []))) s) same
    ∙ ap (λ k. with_outlines 0 (joined (members_of_paths (members_of d.body) ++ (if is_event_tree k then plain (body_outlines d.body) ∷ [] else body_outlines d.body))) s) (sym tree)

-- the elements of another definition
pub other-pushed : (d : DraftDefinition) (members : List DraftReference) (s t v : Levels) → (d.kind ≡ kind.EventTree → ⊥) → members ≡ members_of d.body → t ≡ with_outlines 0 (joined (members_of_paths members)) s → v ≡ with_outlines 0 (joined (body_outlines d.body)) t → v ≡ with_outlines 0 (joined (elements_of (entry_of d))) s
other-pushed d members s t v other same first second =
    pushed-both 0 (members_of_paths members) (body_outlines d.body) s t v first second
    ∙ ap (λ ms. with_outlines 0 (joined (members_of_paths ms ++ body_outlines d.body)) s) same
    ∙ ap (λ b. with_outlines 0 (joined (members_of_paths (members_of d.body) ++ (if b then plain (body_outlines d.body) ∷ [] else body_outlines d.body))) s) (sym (not-tree d.kind other))

-- a member that is a path
pub member-path : (member : DraftReference) (s t : Levels) → is_path member.name ≡ true → t ≡ added s (1 ∷ []) 1 → t ≡ with_outlines 0 (joined (members_of_paths (member ∷ []))) s
member-path member s t is_so first =
    pushed-one 0 (naming_alone (record { kind = event asked.Basic; written = member })) s t (pushed-alone 0 (Some (record { kind = event asked.Basic; written = member })) s t first)
    ∙ ap (λ b. with_outlines 0 (joined (filter_map (λ m. if b then Some (naming_alone (record { kind = event asked.Basic; written = m })) else None) (member ∷ []))) s) (sym is_so)

-- a member that is none
pub member-plain : (member : DraftReference) (s : Levels) → is_path member.name ≡ false → s ≡ with_outlines 0 (joined (members_of_paths (member ∷ []))) s
member-plain member s is_not =
    pushed-none 0 s
    ∙ ap (λ b. with_outlines 0 (joined (filter_map (λ m. if b then Some (naming_alone (record { kind = event asked.Basic; written = m })) else None) (member ∷ []))) s) (sym is_not)

-- one member more
pub members-more : (members : List DraftReference) (i : ℕ) (member : DraftReference) (s t u : Levels) → i < length members → member ≡ get_or members i member → t ≡ with_outlines 0 (joined (members_of_paths (take i members))) s → u ≡ with_outlines 0 (joined (members_of_paths (member ∷ []))) t → u ≡ with_outlines 0 (joined (members_of_paths (take (i + 1) members))) s
members-more members i member s t u low is before here =
    pushed-both 0 (members_of_paths (take i members)) (members_of_paths (member ∷ [])) s t u before here
    ∙ ap (λ os. with_outlines 0 (joined os) s)
    (sym (ap members_of_paths (take_more members i member low ∙ ap (λ m. take i members ++ m ∷ []) (sym is)) ∙ filter_map-append path_member (take i members) (member ∷ [])))

-- all members
pub members-all : (members : List DraftReference) (i : ℕ) (s t : Levels) → length members ≤ i → t ≡ with_outlines 0 (joined (members_of_paths (take i members))) s → t ≡ with_outlines 0 (joined (members_of_paths members)) s
members-all members i s t past all = all ∙ ap (λ ms. with_outlines 0 (joined (members_of_paths ms)) s) (take_all i members past)

-- a name has a dot exactly where it has two parts
parts-some : (x : ℕ) (parts : List (List ℕ)) → 0 < length parts → length (onto_first x parts) ≡ length parts
parts-some x [] some = absurd (omega arith)
parts-some x (part ∷ parts) some = refl

-- a name is a path exactly where it has a dot
pub path-dot : (name : List ℕ) → is_path name ≡ list_any (λ b. b == dot) name
path-dot [] = refl
path-dot (x ∷ xs) =
    let size = length-slice_split (λ b. b == dot) xs in
    let some : 0 < length (name_parts xs) = omega arith in
    elim (cases_Bool (x == dot)) [
      | inl is_so ↦ rw is_so (le-leb 2 (suc (length (name_parts xs))) (omega arith))
      | inr is_not ↦ rw (is_not, parts-some x (name_parts xs) some) (path-dot xs)
    ]
