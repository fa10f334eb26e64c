-- What an element with the shape of its row says is of the row's kind, has its numbers of arguments, is nested no deeper
-- than the element, and gives bodies of their kinds, row by row.
use Rattle.std.proofs.Common.{◌≡◌, ℕ, zero, suc, ◌≤◌, ◌==◌, ◌&&◌, nat_le, Bool, true, false, List, [], ◌∷◌, ◌++◌, map, length, Option, Some, None, refl, sym, subst, ◌∙◌, arith}
use Rattle.std.specs.Prelude.{codes, filter_map, slice_get}
use Rattle.std.specs.List.{AllByRecursion, flat_map}
use Rattle.std.specs.Option.{option_to_list}
use Rattle.std.proofs.lemmas.Bool.{le-leb}
use Rattle.std.proofs.lemmas.List.{length-map}
use Rattle.psa_model.specs.PathNames.{Text}
use Rattle.psa_model.specs.declared.draft.DefinitionKind.TheVariants as kind
use Rattle.psa_model.specs.declared.draft.DraftBody.TheVariants as body
use Rattle.psa_model.specs.declared.draft.DraftReference.{DraftReference}
use Rattle.psa_model.specs.declared.draft.EventKind.{EventKind}
use Rattle.psa_model.specs.declared.draft.EventKind.TheVariants as asked
use Rattle.psa_model.specs.declared.draft.DraftFormula.{DraftFormula}
use Rattle.psa_model.specs.declared.draft.DraftFormula.TheVariants as formula
use Rattle.psa_model.specs.declared.draft.DraftExpression.{DraftExpression}
use Rattle.psa_model.specs.declared.draft.DraftExpression.TheVariants as expression
use Rattle.psa_model.specs.declared.draft.DraftTest.{DraftTest}
use Rattle.psa_model.specs.declared.draft.DraftInstruction.{DraftInstruction}
use Rattle.psa_model.specs.declared.draft.DraftInstruction.TheVariants as instruction
use Rattle.psa_model.specs.declared.draft.DraftBranch.{DraftBranch}
use Rattle.psa_model.specs.declared.draft.DraftForkPath.{DraftForkPath}
use Rattle.psa_model.specs.declared.draft.DraftBranchEnd.{DraftBranchEnd}
use Rattle.psa_model.specs.declared.draft.DraftBranchEnd.TheVariants as ends
use Rattle.psa_model.specs.declared.limits.TheConstants.{MAX_NESTING}
use Rattle.psa_model.specs.Formulas.{has_arity}
use Rattle.psa_model.specs.Values.{has_operands}
use Rattle.psa_model.specs.Drafts.{together, element, collecting, some_reference, formula_contents, expression_contents, test_contents, instruction_contents, end_contents, branch_contents, body_contents, has_body}
use Rattle.psa_elements.specs.ElementTable.{Row, opsa_mef, define_fault_tree, define_component, model_data, define_gate, define_basic_event, define_house_event, define_parameter, public_basic_event, public_house_event, public_parameter, define_group, distribution, factors, factor, define_initiating_event, define_event_tree, define_functional_event, define_sequence, define_branch, define_rule, initial_state, fork, path, to_sequence, to_branch, collect_formula, set_house_event, block, rule, if_instruction, test_initiating_event, test_functional_event, all_tests, any_test, not_test, gate, basic_event, house_event, event, constant, connective, float, int, parameter, mission_time, operator}
use Rattle.psa_elements.specs.ShapeFaults.{is_well_shaped}
use Rattle.psa_elements.specs.DraftReading.{StartTag, Reading, reading_of, reference, reference_by, branch_in, group_in, formula_in, expression_in, formulas_in, expressions_in, instructions_in, definitions_in, first_in, conditional, state_in, event_tree_of, event_kind, decimal_in, has_value, least_of, most_of, text_in, test_of, end_of, path_of, initial_state_of, link_of, distribution_of, factors_of}
use Rattle.psa_reader.proofs.ContentForms.{formula-event, formula-constant, formula-connective, expression-number, expression-parameter, expression-time, expression-operation, test-initiating, test-functional, test-all, test-any, test-not, instruction-collect, instruction-set, instruction-block, instruction-rule, instruction-if, out-fork, out-sequence, out-branch}
use Rattle.psa_reader.proofs.RowKinds.{kind_of, kind_of_row, instructions, AreRead, formulas-said, expressions-said, tests-said, instructions-said, endings-said}
use Rattle.psa_reader.proofs.RowCounts.{counted, arity, has-formula, operands, has-expression, has-public-expression, all-tests-some, any-test-some, not-test-one, is-conditional, path-ends}
use Rattle.psa_reader.proofs.Fits.{IsFit, AreFit, AllFit, Fits, HasBodies, fit-together, fit-element, fit-map, all-fit-more, all-append, first-holds, some-first-holds, first-option-holds, end_in, path_in, factor_in, definition_in, formulas-fit, expressions-fit, tests-fit, instructions-fit, ends-fit, paths-fit, states-fit, distributions-fit, factors-fit, definitions-fit, bodies-inside}

-- ---- things that say one thing

one-fit : (b : ℕ) (name : Option DraftReference) → IsFit (suc b) (element true name [])
one-fit b name = fit-element b true name [] refl tt

event-fit : (b : ℕ) (its : EventKind) (name : DraftReference)
    → IsFit (suc b) (formula_contents (formula.Event its name))
event-fit b its name = subst (IsFit (suc b)) (sym (formula-event its name)) (one-fit b (Some name))

constant-fit : (b : ℕ) (state : Bool) → IsFit (suc b) (formula_contents (formula.Constant state))
constant-fit b state = subst (IsFit (suc b)) (sym (formula-constant state)) (one-fit b None)

time-fit : (b : ℕ) → IsFit (suc b) (expression_contents expression.MissionTime)
time-fit b = subst (IsFit (suc b)) (sym expression-time) (one-fit b None)

formula-in-fit : (b l : ℕ) (inside : List Reading) → AllFit b l inside
    → IsFit (suc b) (formula_contents (formula_in inside))
formula-in-fit b l inside all =
    first-holds (λ (f : DraftFormula). IsFit (suc b) (formula_contents f)) (formula.Constant false) (formulas_in inside)
    (constant-fit b false)
    (all-fit-more b formula_contents (formulas_in inside) (formulas-fit b l inside all))

expression-in-fit : (b l : ℕ) (inside : List Reading) → AllFit b l inside
    → IsFit (suc b) (expression_contents (expression_in inside))
expression-in-fit b l inside all =
    first-holds (λ (f : DraftExpression). IsFit (suc b) (expression_contents f)) expression.MissionTime
    (expressions_in inside) (time-fit b)
    (all-fit-more b expression_contents (expressions_in inside) (expressions-fit b l inside all))

value-fit : (b l : ℕ) (inside : List Reading) → AllFit b l inside
    → IsFit (suc b) (together (map expression_contents (option_to_list (slice_get (expressions_in inside) 0))))
value-fit b l inside all =
    fit-together (suc b) (map expression_contents (option_to_list (slice_get (expressions_in inside) 0)))
    (fit-map (suc b) expression_contents (option_to_list (slice_get (expressions_in inside) 0))
    (first-option-holds (λ (e : DraftExpression). IsFit (suc b) (expression_contents e)) (expressions_in inside)
    (all-fit-more b expression_contents (expressions_in inside) (expressions-fit b l inside all))))

name-fit : (b : ℕ) (name : Option DraftReference) → IsFit b (some_reference name)
name-fit b name = record { nested = omega arith; numbered = refl }

steps-fit : (b l : ℕ) (inside : List Reading) (name : Option DraftReference) → AllFit b l inside
    → IsFit (suc b) (together (map instruction_contents (instructions_in inside) ++ some_reference name ∷ []))
steps-fit b l inside name all =
    fit-together (suc b) (map instruction_contents (instructions_in inside) ++ some_reference name ∷ [])
    (all-append (IsFit (suc b)) (map instruction_contents (instructions_in inside)) (some_reference name ∷ [])
    (fit-map (suc b) instruction_contents (instructions_in inside)
    (all-fit-more b instruction_contents (instructions_in inside) (instructions-fit b l inside all)))
    (name-fit (suc b) name, tt))

names-fit : (b : ℕ) (names : List DraftReference)
    → AllByRecursion (IsFit b) (map (λ member. some_reference (Some member)) names)
names-fit b [] = tt
names-fit b (one ∷ names) = (name-fit b (Some one), names-fit b names)

group-fit : (b l : ℕ) (start : StartTag) (inside : List Reading) → AllFit b l inside
    → IsFit (suc b) (body_contents (body.Group (group_in start inside)))
group-fit b l start inside all =
    let g = group_in start inside in
    fit-together (suc b)
    (map (λ member. some_reference (Some member)) g.members ++ expression_contents g.distribution ∷ map
    (λ factor. expression_contents factor.expression) g.factors)
    (all-append (IsFit (suc b)) (map (λ member. some_reference (Some member)) g.members)
    (expression_contents g.distribution ∷ map (λ factor. expression_contents factor.expression) g.factors)
    (names-fit (suc b) g.members) (
      first-holds (λ (e : DraftExpression). IsFit (suc b) (expression_contents e)) expression.MissionTime
          (filter_map distribution_of inside) (time-fit b)
          (all-fit-more b expression_contents (filter_map distribution_of inside) (distributions-fit b l inside all)),
      fit-map (suc b) factor_in g.factors (all-fit-more b factor_in g.factors (factors-fit b l inside all)),
    ))

-- ---- ends and branches

sequence-fit : (b l : ℕ) (name : DraftReference) → IsFit (suc b) (end_in l (ends.Sequence name))
sequence-fit b l name =
    subst (λ x. IsFit (suc b) (end_contents (λ c. branch_contents l c) x)) (sym (out-sequence name))
    (one-fit b (Some name))

branch-end-fit : (b l : ℕ) (name : DraftReference) → IsFit (suc b) (end_in l (ends.Branch name))
branch-end-fit b l name =
    subst (λ x. IsFit (suc b) (end_contents (λ c. branch_contents l c) x)) (sym (out-branch name))
    (one-fit b (Some name))

fork-fit : (b l : ℕ) (name : DraftReference) (paths : List DraftForkPath) → AreFit b (path_in l) paths
    → IsFit (suc b) (end_in l (ends.Fork name paths))
fork-fit b l name paths all =
    subst (λ x. IsFit (suc b) (end_contents (λ c. branch_contents l c) x)) (sym (out-fork name paths))
    (fit-element b true (Some name) (map (path_in l) paths) refl (fit-map b (path_in l) paths all))

-- a branch fits as its instructions and its end do
branch-of-fit : (b c levels : ℕ) (start : StartTag) (inside : List Reading) → suc b ≤ levels
    → AreFit c instruction_contents (instructions_in inside)
    → ((l : ℕ) → b ≤ l → IsFit c (end_in l (first_in end_of (ends.Sequence (reference start)) inside))) → IsFit c
    (branch_contents levels (branch_in start inside))
unfolding branch_contents
branch-of-fit b c zero start inside enough steps ended = absurd (omega (arith, enough))
branch-of-fit b c (suc levels) start inside enough steps ended =
    let last = end_in levels (first_in end_of (ends.Sequence (reference start)) inside) in
    fit-together c (map instruction_contents (instructions_in inside) ++ last ∷ [])
    (all-append (IsFit c) (map instruction_contents (instructions_in inside)) (last ∷ [])
    (fit-map c instruction_contents (instructions_in inside) steps)
    (ended levels (omega (arith, enough)), tt))

-- a branch on an element
branch-fit : (b levels : ℕ) (start : StartTag) (inside : List Reading) → suc b ≤ levels
    → ((l : ℕ) → b ≤ l → AllFit b l inside)
    → IsFit (suc b) (branch_contents levels (branch_in start inside))
branch-fit b levels start inside enough all =
    branch-of-fit b (suc b) levels start inside enough
    (all-fit-more b instruction_contents (instructions_in inside) (instructions-fit b b inside (all b (omega arith))))
    (λ l more. first-holds (λ (e : DraftBranchEnd). IsFit (suc b) (end_in l e)) (ends.Sequence (reference start))
    (filter_map end_of inside)
    (sequence-fit b l (reference start))
    (all-fit-more b (end_in l) (filter_map end_of inside) (ends-fit b l inside (all l more))))

-- a branch that has an end
ended-branch-fit : (b levels : ℕ) (start : StartTag) (inside : List Reading) → suc b ≤ levels
    → 1 ≤ length (filter_map end_of inside) → ((l : ℕ) → b ≤ l → AllFit b l inside)
    → IsFit b (branch_contents levels (branch_in start inside))
ended-branch-fit b levels start inside enough some all =
    branch-of-fit b b levels start inside enough (instructions-fit b b inside (all b (omega arith)))
    (λ l more. some-first-holds (λ (e : DraftBranchEnd). IsFit b (end_in l e)) (ends.Sequence (reference start))
    (filter_map end_of inside) some
    (ends-fit b l inside (all l more)))

path-fit : (b levels : ℕ) (p : DraftForkPath) → IsFit b (branch_contents levels p.branch)
    → IsFit (suc b) (path_in levels p)
path-fit b levels p fit =
    let around = fit-element b true None (branch_contents levels p.branch ∷ []) refl (fit, tt) in
    record { nested = around.nested; numbered = around.numbered }

-- ---- conditionals

conditional-fit : (b l : ℕ) (some : List DraftTest) (steps : List DraftInstruction) → length steps ≤ 2
    → AreFit b test_contents some → AreFit b instruction_contents steps
    → Fits (suc b) l (conditional some steps)
conditional-fit b l [] steps few are all = tt
conditional-fit b l (one ∷ some) [] few are all = tt
conditional-fit b l (one ∷ some) (first ∷ others) few are all =
    let right : (1 == 1 && nat_le (length (map instruction_contents others)) 1) ≡ true =
    le-leb (length (map instruction_contents others)) 1 (omega (arith, few, length-map others instruction_contents)) in
    subst (IsFit (suc b)) (sym (instruction-if one (first ∷ []) others))
    (fit-element b (1 == 1 && nat_le (length (map instruction_contents others)) 1) None
    (test_contents one ∷ instruction_contents first ∷ map instruction_contents others) right
    (are.0, (all.0, fit-map b instruction_contents others all.1)))

conditional-kind : (some : List DraftTest) (steps : List DraftInstruction) → 1 ≤ length some → 1 ≤ length steps
    → kind_of (conditional some steps) ≡ instructions
conditional-kind [] steps tested first = absurd (omega (arith, tested))
conditional-kind (one ∷ some) [] tested first = absurd (omega (arith, first))
conditional-kind (one ∷ some) (step ∷ steps) tested first = refl

conditional-bodies : (some : List DraftTest) (steps : List DraftInstruction) → HasBodies (conditional some steps)
conditional-bodies [] steps = tt
conditional-bodies (one ∷ some) [] = tt
conditional-bodies (one ∷ some) (step ∷ steps) = tt

collect-fit : (b : ℕ) (f : DraftFormula) → IsFit b (formula_contents f)
    → IsFit (suc b) (instruction_contents (instruction.Collect f))
collect-fit b f fit =
    let around = fit-element b true None (formula_contents f ∷ []) refl (fit, tt) in
    let held : IsFit (suc b) (collecting (formula_contents f)) =
    record { nested = around.nested; numbered = around.numbered } in
    subst (IsFit (suc b)) (sym (instruction-collect f)) held

-- ---- rows

-- what is known of the elements inside an element with its shape
pub record HasShape (row : Row) (start : StartTag) (bound : ℕ) (inside : List Reading) : Type 0 where
  pub tags : List Text
  pub read : AreRead row tags inside
  pub well : is_well_shaped row start.attributes (counted tags) ≡ true
  pub fit : (levels : ℕ) → bound ≤ levels → AllFit bound levels inside
  pub bodies : AllByRecursion HasBodies inside

pub row-kind : (row : Row) (start : StartTag) (bound : ℕ) (inside : List Reading) → HasShape row start bound inside
    → kind_of (reading_of row start inside) ≡ kind_of_row row
row-kind if_instruction start bound inside shape =
    let is = is-conditional start.attributes shape.tags inside shape.read shape.well in
    conditional-kind (filter_map test_of inside) (instructions_in inside) (omega (arith, tests-said inside, is.tested))
    (omega (arith, instructions-said inside, is.first))
row-kind _ start bound inside shape = refl

parameter-body : (its : List DraftExpression) → 1 ≤ length its
    → has_body kind.Parameter (body.Value (slice_get its 0)) ≡ true
parameter-body [] some = absurd (omega (arith, some))
parameter-body (e ∷ es) some = refl

pub row-bodies : (row : Row) (start : StartTag) (bound : ℕ) (inside : List Reading) → HasShape row start bound inside
    → HasBodies (reading_of row start inside)
row-bodies opsa_mef start bound inside shape = bodies-inside inside shape.bodies
row-bodies model_data start bound inside shape = bodies-inside inside shape.bodies
row-bodies define_fault_tree start bound inside shape = (refl, bodies-inside inside shape.bodies)
row-bodies define_component start bound inside shape = (refl, bodies-inside inside shape.bodies)
row-bodies define_event_tree start bound inside shape = (refl, bodies-inside inside shape.bodies)
row-bodies define_gate start bound inside shape = (refl, tt)
row-bodies define_basic_event start bound inside shape = (refl, tt)
row-bodies define_house_event start bound inside shape = (refl, tt)
row-bodies define_parameter start bound inside shape = (
  parameter-body (expressions_in inside)
      (omega (arith, expressions-said inside, has-expression start.attributes shape.tags inside shape.read shape.well)),
  tt,
)
row-bodies public_basic_event start bound inside shape = (refl, tt)
row-bodies public_house_event start bound inside shape = (refl, tt)
row-bodies public_parameter start bound inside shape = (
  parameter-body (expressions_in inside)
      (omega (
        arith,
        expressions-said inside,
        has-public-expression start.attributes shape.tags inside shape.read shape.well,
      )),
  tt,
)
row-bodies define_group start bound inside shape = (refl, tt)
row-bodies define_initiating_event start bound inside shape = (refl, tt)
row-bodies define_functional_event start bound inside shape = (refl, tt)
row-bodies define_sequence start bound inside shape = (refl, tt)
row-bodies define_branch start bound inside shape = (refl, tt)
row-bodies define_rule start bound inside shape = (refl, tt)
row-bodies if_instruction start bound inside shape =
    conditional-bodies (filter_map test_of inside) (instructions_in inside)
row-bodies _ start bound inside shape = tt

nothing-fit : (b : ℕ) → IsFit b (together [])
nothing-fit b = record { nested = omega arith; numbered = refl }

pub row-fit : (row : Row) (start : StartTag) (b : ℕ) (inside : List Reading) → suc b ≤ 64 → HasShape row start b inside
    → (levels : ℕ) → suc b ≤ levels → Fits (suc b) levels (reading_of row start inside)
row-fit opsa_mef start b inside few shape levels enough =
    all-fit-more b definition_in (definitions_in inside)
    (definitions-fit b levels inside (shape.fit levels (omega (arith, enough))))
row-fit model_data start b inside few shape levels enough =
    all-fit-more b definition_in (definitions_in inside)
    (definitions-fit b levels inside (shape.fit levels (omega (arith, enough))))
row-fit define_fault_tree start b inside few shape levels enough = (
  nothing-fit (suc b),
  all-fit-more b definition_in (definitions_in inside)
      (definitions-fit b levels inside (shape.fit levels (omega (arith, enough)))),
)
row-fit define_component start b inside few shape levels enough = (
  nothing-fit (suc b),
  all-fit-more b definition_in (definitions_in inside)
      (definitions-fit b levels inside (shape.fit levels (omega (arith, enough)))),
)
row-fit define_event_tree start b inside few shape levels enough = (
  first-holds (λ (s : DraftBranch). IsFit (suc b) (branch_contents MAX_NESTING s)) (branch_in start inside)
      (filter_map initial_state_of inside)
      (branch-fit b MAX_NESTING start inside few shape.fit)
      (all-fit-more b (λ (s : DraftBranch). branch_contents MAX_NESTING s) (filter_map initial_state_of inside)
      (states-fit b MAX_NESTING inside (shape.fit MAX_NESTING (omega (arith, few))))),
  all-fit-more b definition_in (definitions_in inside)
      (definitions-fit b levels inside (shape.fit levels (omega (arith, enough)))),
)
row-fit define_gate start b inside few shape levels enough =
    (formula-in-fit b levels inside (shape.fit levels (omega (arith, enough))), tt)
row-fit define_basic_event start b inside few shape levels enough =
    (value-fit b levels inside (shape.fit levels (omega (arith, enough))), tt)
row-fit define_house_event start b inside few shape levels enough = (nothing-fit (suc b), tt)
row-fit define_parameter start b inside few shape levels enough =
    (value-fit b levels inside (shape.fit levels (omega (arith, enough))), tt)
row-fit public_basic_event start b inside few shape levels enough =
    (value-fit b levels inside (shape.fit levels (omega (arith, enough))), tt)
row-fit public_house_event start b inside few shape levels enough = (nothing-fit (suc b), tt)
row-fit public_parameter start b inside few shape levels enough =
    (value-fit b levels inside (shape.fit levels (omega (arith, enough))), tt)
row-fit define_group start b inside few shape levels enough =
    (group-fit b levels start inside (shape.fit levels (omega (arith, enough))), tt)
row-fit distribution start b inside few shape levels enough =
    expression-in-fit b levels inside (shape.fit levels (omega (arith, enough)))
row-fit factors start b inside few shape levels enough =
    all-fit-more b factor_in (flat_map factors_of inside)
    (factors-fit b levels inside (shape.fit levels (omega (arith, enough))))
row-fit factor start b inside few shape levels enough =
    (expression-in-fit b levels inside (shape.fit levels (omega (arith, enough))), tt)
row-fit define_initiating_event start b inside few shape levels enough = (name-fit (suc b) (event_tree_of start), tt)
row-fit define_functional_event start b inside few shape levels enough = (nothing-fit (suc b), tt)
row-fit define_sequence start b inside few shape levels enough =
    (steps-fit b levels inside (slice_get (filter_map link_of inside) 0) (shape.fit levels (omega (arith, enough))), tt)
row-fit define_branch start b inside few shape levels enough = (branch-fit b MAX_NESTING start inside few shape.fit, tt)
row-fit define_rule start b inside few shape levels enough =
    (steps-fit b levels inside None (shape.fit levels (omega (arith, enough))), tt)
row-fit initial_state start b inside few shape levels enough = branch-fit b levels start inside enough shape.fit
row-fit fork start b inside few shape levels enough =
    fork-fit b levels (reference_by (codes "functional-event") start) (filter_map path_of inside)
    (paths-fit b levels inside (shape.fit levels (omega (arith, enough))))
row-fit path start b inside few shape levels enough =
    path-fit b levels (record {
      state = text_in start (codes "state");
      place =
          record { file = start.around.file; line = start.line };
      tag = start.number;
      branch = branch_in start inside;
    })
    (ended-branch-fit b levels start inside enough
    (omega (arith, endings-said inside, path-ends start.attributes shape.tags inside shape.read shape.well)) shape.fit)
row-fit to_sequence start b inside few shape levels enough = sequence-fit b levels (reference start)
row-fit to_branch start b inside few shape levels enough = branch-end-fit b levels (reference start)
row-fit collect_formula start b inside few shape levels enough =
    let some : 1 ≤ length (formulas_in inside) =
    omega (arith, formulas-said inside, has-formula start.attributes shape.tags inside shape.read shape.well) in
    collect-fit b (formula_in inside)
    (some-first-holds (λ (f : DraftFormula). IsFit b (formula_contents f)) (formula.Constant false)
    (formulas_in inside) some
    (formulas-fit b levels inside (shape.fit levels (omega (arith, enough)))))
row-fit set_house_event start b inside few shape levels enough =
    subst (IsFit (suc b)) (sym (instruction-set (reference start) (state_in inside)))
    (one-fit b (Some (reference start)))
row-fit block start b inside few shape levels enough =
    subst (IsFit (suc b)) (sym (instruction-block (instructions_in inside)))
    (fit-element b true None (map instruction_contents (instructions_in inside)) refl
    (fit-map b instruction_contents (instructions_in inside)
    (instructions-fit b levels inside (shape.fit levels (omega (arith, enough))))))
row-fit rule start b inside few shape levels enough =
    subst (IsFit (suc b)) (sym (instruction-rule (reference start))) (one-fit b (Some (reference start)))
row-fit if_instruction start b inside few shape levels enough =
    let is = is-conditional start.attributes shape.tags inside shape.read shape.well in
    let all = shape.fit levels (omega (arith, enough)) in
    conditional-fit b levels (filter_map test_of inside) (instructions_in inside)
    (omega (arith, instructions-said inside, is.few)) (tests-fit b levels inside all)
    (instructions-fit b levels inside all)
row-fit test_initiating_event start b inside few shape levels enough =
    subst (IsFit (suc b)) (sym (test-initiating (reference start))) (one-fit b (Some (reference start)))
row-fit test_functional_event start b inside few shape levels enough =
    subst (IsFit (suc b)) (sym (test-functional (reference start) (text_in start (codes "state"))))
    (one-fit b (Some (reference start)))
row-fit all_tests start b inside few shape levels enough =
    let some = filter_map test_of inside in
    let right : nat_le 1 (length (map test_contents some)) ≡ true =
    subst (λ n. nat_le 1 n ≡ true) (sym (length-map some test_contents ∙ tests-said inside))
    (all-tests-some start.attributes shape.tags inside shape.read shape.well) in
    subst (IsFit (suc b)) (sym (test-all some))
    (fit-element b (nat_le 1 (length (map test_contents some))) None (map test_contents some) right
    (fit-map b test_contents some (tests-fit b levels inside (shape.fit levels (omega (arith, enough))))))
row-fit any_test start b inside few shape levels enough =
    let some = filter_map test_of inside in
    let right : nat_le 1 (length (map test_contents some)) ≡ true =
    subst (λ n. nat_le 1 n ≡ true) (sym (length-map some test_contents ∙ tests-said inside))
    (any-test-some start.attributes shape.tags inside shape.read shape.well) in
    subst (IsFit (suc b)) (sym (test-any some))
    (fit-element b (nat_le 1 (length (map test_contents some))) None (map test_contents some) right
    (fit-map b test_contents some (tests-fit b levels inside (shape.fit levels (omega (arith, enough))))))
row-fit not_test start b inside few shape levels enough =
    let some = filter_map test_of inside in
    let right : (length (map test_contents some) == 1) ≡ true =
    subst (λ n. (n == 1) ≡ true) (sym (length-map some test_contents ∙ tests-said inside))
    (not-test-one start.attributes shape.tags inside shape.read shape.well) in
    subst (IsFit (suc b)) (sym (test-not some))
    (fit-element b (length (map test_contents some) == 1) None (map test_contents some) right
    (fit-map b test_contents some (tests-fit b levels inside (shape.fit levels (omega (arith, enough))))))
row-fit gate start b inside few shape levels enough = event-fit b asked.Gate (reference start)
row-fit basic_event start b inside few shape levels enough = event-fit b asked.Basic (reference start)
row-fit house_event start b inside few shape levels enough = event-fit b asked.House (reference start)
row-fit event start b inside few shape levels enough = event-fit b (event_kind start) (reference start)
row-fit constant start b inside few shape levels enough =
    constant-fit b (has_value start (codes "value") (codes "true"))
row-fit (connective c) start b inside few shape levels enough =
    let some = formulas_in inside in
    let right : has_arity c (least_of c start) (most_of c start) (length (map formula_contents some)) ≡ true =
    subst (λ n. has_arity c (least_of c start) (most_of c start) n ≡ true)
    (sym (length-map some formula_contents ∙ formulas-said inside))
    (arity c start shape.tags inside shape.read shape.well) in
    subst (IsFit (suc b)) (sym (formula-connective c (least_of c start) (most_of c start) some))
    (fit-element b (has_arity c (least_of c start) (most_of c start) (length (map formula_contents some))) None
    (map formula_contents some) right
    (fit-map b formula_contents some (formulas-fit b levels inside (shape.fit levels (omega (arith, enough))))))
row-fit float start b inside few shape levels enough =
    subst (IsFit (suc b)) (sym (expression-number (decimal_in start))) (one-fit b None)
row-fit int start b inside few shape levels enough =
    subst (IsFit (suc b)) (sym (expression-number (decimal_in start))) (one-fit b None)
row-fit parameter start b inside few shape levels enough =
    subst (IsFit (suc b)) (sym (expression-parameter (reference start))) (one-fit b (Some (reference start)))
row-fit mission_time start b inside few shape levels enough = time-fit b
row-fit (operator o) start b inside few shape levels enough =
    let some = expressions_in inside in
    let right : has_operands o (length (map expression_contents some)) ≡ true =
    subst (λ n. has_operands o n ≡ true) (sym (length-map some expression_contents ∙ expressions-said inside))
    (operands o start.attributes shape.tags inside shape.read shape.well) in
    subst (IsFit (suc b)) (sym (expression-operation o some))
    (fit-element b (has_operands o (length (map expression_contents some))) None (map expression_contents some) right
    (fit-map b expression_contents some (expressions-fit b levels inside (shape.fit levels (omega (arith, enough))))))
row-fit _ start b inside few shape levels enough = tt
