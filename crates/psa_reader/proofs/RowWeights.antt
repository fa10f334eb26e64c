-- What an element says weighs at most what an element at its position may, and what the elements in it say, row by row.
use Rattle.std.proofs.Common.{◌≡◌, ℕ, zero, suc, ◌+◌, ◌-◌, ◌≤◌, ◌==◌, ◌&&◌, nat_le, true, false, List, [], ◌∷◌, ◌++◌, map, length, Option, Some, None, refl, ap, arith}
use Rattle.std.specs.Prelude.{codes, filter_map, slice_get}
use Rattle.std.specs.Option.{option_to_list, option_map}
use Rattle.psa_model.specs.PathNames.{Text}
use Rattle.psa_model.specs.declared.draft.DraftReference.{DraftReference}
use Rattle.psa_model.specs.declared.draft.EventKind.TheVariants as asked
use Rattle.psa_model.specs.declared.draft.DraftFormula.TheVariants as formula
use Rattle.psa_model.specs.declared.draft.DraftFormula.TheViews.{out-DraftFormula}
use Rattle.psa_model.specs.declared.draft.DraftExpression.{DraftExpression}
use Rattle.psa_model.specs.declared.draft.DraftExpression.TheVariants as expression
use Rattle.psa_model.specs.declared.draft.DraftTest.{DraftTest}
use Rattle.psa_model.specs.declared.draft.DraftInstruction.{DraftInstruction}
use Rattle.psa_model.specs.declared.draft.DraftFactor.{DraftFactor}
use Rattle.psa_model.specs.declared.draft.DraftGroup.{DraftGroup}
use Rattle.psa_model.specs.declared.draft.DraftForkPath.{DraftForkPath}
use Rattle.psa_model.specs.declared.draft.DraftBranchEnd.TheVariants as ends
use Rattle.psa_model.specs.declared.draft.DraftBranchEnd.TheViews.{out-DraftBranchEnd}
use Rattle.psa_model.specs.declared.limits.TheConstants.{MAX_NESTING}
use Rattle.psa_model.specs.Values.{has_operands}
use Rattle.psa_model.specs.Drafts.{Position, path_position, together, some_reference, formula_contents, expression_contents, test_contents, instruction_contents, end_contents, path_contents, branch_contents}
use Rattle.psa_elements.specs.ElementTable.{Row, opsa_mef, label, attributes, attribute, define_fault_tree, define_component, model_data, define_gate, define_basic_event, define_house_event, define_parameter, public_basic_event, public_house_event, public_parameter, define_group, members, distribution, factors, factor, define_initiating_event, define_event_tree, define_functional_event, define_sequence, define_branch, define_rule, initial_state, fork, path, to_sequence, to_branch, to_event_tree, collect_formula, set_house_event, block, rule, if_instruction, test_initiating_event, test_functional_event, all_tests, any_test, not_test, gate, basic_event, house_event, event, constant, connective, float, int, parameter, mission_time, operator}
use Rattle.psa_elements.specs.ShapeFaults.{value_in}
use Rattle.psa_elements.specs.DraftReading.{StartTag, Reading, reading_of, reference, reference_by, branch_in, group_in, formula_in, expression_in, formulas_in, expressions_in, instructions_in, definitions_in, first_in, conditional, references_of, state_in, event_kind, decimal_in, has_value, least_of, most_of, text_in, formula_of, expression_of, test_of, instruction_of, end_of, path_of, initial_state_of, link_of, distribution_of}
use Rattle.psa_reader.proofs.Totals.{total, total-append, total-map, total-le, total-add, total-flat_map, first-le, first-option-le}
use Rattle.psa_reader.proofs.ContentForms.{expression-number, expression-parameter, expression-time, expression-operation, test-initiating, test-functional, test-all, test-any, test-not, instruction-collect, instruction-set, instruction-block, instruction-rule, instruction-if, out-fork, out-sequence, out-branch}
use Rattle.psa_reader.proofs.Weights.{Weights, AreWeights, shares, refer, weight, weight-together, weight-element, weight-one, weight-none, weight-around, weight-name, formula_weight, expression_weight, test_weight, instruction_weight, end_weight, path_weight, state_weight, member_weight, factor_weight, definition_weight, weigh, event-weight, constant-weight, connective-weight, members-weight}

-- the position of an element
abbrev pub at : StartTag → Position
at start = record { file = start.around.file; tag = start.number }

module _ (w : Weights) (law : AreWeights w) where
  -- ---- what the first formula or expression weighs

  formula-in : (inside : List Reading) (bound : ℕ) → total (formula_weight w) (filter_map formula_of inside) ≤ bound
      → formula_weight w (formula_in inside) ≤ bound
  formula-in inside bound h =
      first-le (formula_weight w) (formula.Constant false) (filter_map formula_of inside) bound
      (omega (arith, constant-weight w law false)) h

  time-weight : expression_weight w expression.MissionTime ≡ 0
  time-weight = omega (arith, ap (weight w) expression-time, weight-none w law true)

  expression-in : (inside : List Reading) (bound : ℕ)
      → total (expression_weight w) (filter_map expression_of inside) ≤ bound → expression_weight w
      (expression_in inside) ≤ bound
  expression-in inside bound h =
      first-le (expression_weight w) expression.MissionTime (filter_map expression_of inside) bound
      (omega (arith, time-weight)) h

  distribution-in : (inside : List Reading) (bound : ℕ)
      → total (expression_weight w) (filter_map distribution_of inside) ≤ bound
      → expression_weight w (first_in distribution_of expression.MissionTime inside) ≤ bound
  distribution-in inside bound h =
      first-le (expression_weight w) expression.MissionTime (filter_map distribution_of inside) bound
      (omega (arith, time-weight)) h

  value-in : (es : List DraftExpression)
      → weight w (together (map expression_contents (option_to_list (slice_get es 0)))) ≤ total (expression_weight w) es
  value-in es =
      omega (
        arith,
        weight-together w law (map expression_contents (option_to_list (slice_get es 0))),
        total-map (weight w) expression_contents (option_to_list (slice_get es 0)),
        first-option-le (expression_weight w) es,
      )

  -- ---- expressions and tests

  number-weight : (start : StartTag) → expression_weight w (expression.Number (decimal_in start)) ≡ 0
  number-weight start = omega (arith, ap (weight w) (expression-number (decimal_in start)), weight-none w law true)

  parameter-weight : (name : DraftReference) → expression_weight w (expression.Parameter name) ≡ refer w name
  parameter-weight name = omega (arith, ap (weight w) (expression-parameter name), weight-one w law true name)

  conditional-weight : (levels : ℕ) (tests : List DraftTest) (inside : List DraftInstruction)
      → weigh w levels (conditional tests inside) ≤ total (test_weight w) tests + total (instruction_weight w) inside
  conditional-weight levels [] inside = omega arith
  conditional-weight levels (one ∷ tests) [] = omega arith
  conditional-weight levels (one ∷ tests) (first ∷ others) =
      omega (
        arith,
        ap (weight w) (instruction-if one (first ∷ []) others),
        weight-element w law (1 == 1 && nat_le (length (map instruction_contents others)) 1) None
            (test_contents one ∷ instruction_contents first ∷ map instruction_contents others),
        total-map (weight w) instruction_contents others,
      )

  -- ---- branches

  sequence-weight : (levels : ℕ) (name : DraftReference) → end_weight w levels (ends.Sequence name) ≡ refer w name
  sequence-weight levels name =
      omega (
        arith,
        ap (λ x. weight w (end_contents (λ b. branch_contents levels b) x)) (out-sequence name),
        weight-one w law true name,
      )

  branch-weight : (levels : ℕ) (name : DraftReference) → end_weight w levels (ends.Branch name) ≡ refer w name
  branch-weight levels name =
      omega (
        arith,
        ap (λ x. weight w (end_contents (λ b. branch_contents levels b) x)) (out-branch name),
        weight-one w law true name,
      )

  fork-weight : (levels : ℕ) (name : DraftReference) (paths : List DraftForkPath)
      → end_weight w levels (ends.Fork name paths) ≡ refer w name + total (path_weight w levels) paths
  fork-weight levels name paths =
      omega (
        arith,
        ap (λ x. weight w (end_contents (λ b. branch_contents levels b) x)) (out-fork name paths),
        weight-element w law true (Some name) (map (path_contents (λ b. branch_contents levels b)) paths),
        total-map (weight w) (path_contents (λ b. branch_contents levels b)) paths,
      )

  -- a path weighs what stands on it, and itself
  path-weight : (levels : ℕ) (p : DraftForkPath)
      → path_weight w levels p ≡ w.path (path_position p) + state_weight w levels p.branch
  path-weight levels p =
      omega (
        arith,
        total-append (refer w) (branch_contents levels p.branch).references [],
        law.more
            (branch_contents levels p.branch).formulas 0,
        law.none,
      )

  branch-in : (levels : ℕ) (start : StartTag) (inside : List Reading) (extra bound : ℕ)
      → ((l : ℕ) → total (instruction_weight w) (filter_map instruction_of inside) + total (end_weight w l)
      (filter_map end_of inside) + extra ≤ bound)
      → state_weight w levels (branch_in start inside) + extra ≤ refer w (reference start) + bound
  unfolding branch_contents
  branch-in zero start inside extra bound h = omega (arith, law.none, h 0)
  branch-in (suc levels) start inside extra bound h =
      let last = end_contents (λ b. branch_contents levels b)
      (out-DraftBranchEnd (first_in end_of (ends.Sequence (reference start)) inside)) in
      let ended : end_weight w levels (first_in end_of (ends.Sequence (reference start)) inside)
      ≤ refer w (reference start) + total (end_weight w levels) (filter_map end_of inside) =
      first-le (end_weight w levels) (ends.Sequence (reference start)) (filter_map end_of inside) _
      (omega (arith, sequence-weight levels (reference start))) (omega arith) in
      omega (
        arith,
        weight-together w law (map instruction_contents (instructions_in inside) ++ last ∷ []),
        total-append (weight w) (map instruction_contents (instructions_in inside)) (last ∷ []),
        total-map (weight w) instruction_contents (instructions_in inside),
        ended,
        h levels,
      )

  -- ---- bodies

  steps-weight : (inside : List DraftInstruction) (name : Option DraftReference)
      → weight w (together (map instruction_contents inside ++ some_reference name ∷ []))
      ≡ total (instruction_weight w) inside + total (refer w) (option_to_list name)
  steps-weight inside name =
      omega (
        arith,
        weight-together w law (map instruction_contents inside ++ some_reference name ∷ []),
        total-append (weight w) (map instruction_contents inside) (some_reference name ∷ []),
        total-map (weight w) instruction_contents inside,
        weight-name w law name,
      )

  some-weight : (name : Option Text) (one : DraftReference)
      → total (refer w) (option_to_list (option_map (λ (t : Text). one) name)) ≤ refer w one
  some-weight None one = omega arith
  some-weight (Some t) one = omega arith

  member-part : (names : List DraftReference)
      → total (λ (m : DraftReference). weight w (some_reference (Some m))) names ≡ total (refer w) names
  member-part [] = refl
  member-part (m ∷ names) = omega (arith, law.none, member-part names)

  group-weight : (g : DraftGroup)
      → total (λ (m : DraftReference). w.member) g.members
      + weight w (together
      (map (λ member. some_reference (Some member)) g.members ++ expression_contents g.distribution ∷ map
      (λ factor. expression_contents factor.expression) g.factors))
      ≡ total (member_weight w) g.members + expression_weight w g.distribution + total (factor_weight w) g.factors
  group-weight g =
      omega (
        arith,
        weight-together w law
            (map (λ (member : DraftReference). some_reference
            (Some member)) g.members ++ expression_contents g.distribution ∷ map
            (λ (factor : DraftFactor). expression_contents factor.expression) g.factors),
        total-append (weight w) (map (λ (member : DraftReference). some_reference (Some member)) g.members)
            (expression_contents g.distribution ∷ map
            (λ (factor : DraftFactor). expression_contents factor.expression) g.factors),
        total-map (weight w) (λ (member : DraftReference). some_reference (Some member)) g.members,
        total-map (weight w) (λ (factor : DraftFactor). expression_contents factor.expression) g.factors,
        member-part g.members,
        total-add (refer w) (λ (m : DraftReference). w.member) g.members,
      )

  -- ---- rows

  -- an element that says nothing of its own
  pub row-weight : (levels : ℕ) (row : Row) (start : StartTag) (inside : List Reading) (bound : ℕ)
      → ((l : ℕ) → total (weigh w l) inside ≤ bound) → weigh w levels (reading_of row start inside) ≤ w.own
      (at start) + bound
  row-weight levels opsa_mef start inside bound h = let s =
      shares w levels inside bound (h levels) in omega (arith, s.fit)
  row-weight levels model_data start inside bound h = let s =
      shares w levels inside bound (h levels) in omega (arith, s.fit)
  row-weight levels label start inside bound h = omega arith
  row-weight levels attributes start inside bound h = omega arith
  row-weight levels attribute start inside bound h = omega arith
  row-weight levels define_fault_tree start inside bound h =
      let s = shares w levels inside bound (h levels) in omega (arith, s.fit, law.defines (at start), law.none)
  row-weight levels define_component start inside bound h =
      let s = shares w levels inside bound (h levels) in omega (arith, s.fit, law.defines (at start), law.none)
  row-weight levels define_gate start inside bound h =
      let s = shares w levels inside bound (h levels) in
      omega (arith, formula-in inside bound (omega (arith, s.fit)), law.defines (at start))
  row-weight levels define_basic_event start inside bound h =
      let s = shares w levels inside bound (h levels) in omega
      (arith, s.fit, value-in (expressions_in inside), law.defines (at start))
  row-weight levels define_house_event start inside bound h = omega (arith, law.defines (at start), law.none)
  row-weight levels define_parameter start inside bound h =
      let s = shares w levels inside bound (h levels) in omega
      (arith, s.fit, value-in (expressions_in inside), law.defines (at start))
  row-weight levels public_basic_event start inside bound h =
      let s = shares w levels inside bound (h levels) in omega
      (arith, s.fit, value-in (expressions_in inside), law.defines (at start))
  row-weight levels public_house_event start inside bound h = omega (arith, law.defines (at start), law.none)
  row-weight levels public_parameter start inside bound h =
      let s = shares w levels inside bound (h levels) in omega
      (arith, s.fit, value-in (expressions_in inside), law.defines (at start))
  row-weight levels define_group start inside bound h =
      let s = shares w levels inside bound (h levels) in
      omega (
        arith,
        s.fit,
        group-weight (group_in start inside),
        law.defines (at start),
        distribution-in inside (total (expression_weight w) (filter_map distribution_of inside)) (omega arith),
      )
  row-weight levels members start inside bound h =
      let s = shares w levels inside bound (h levels) in
      omega (
        arith,
        s.fit,
        total-flat_map (member_weight w) (λ one. references_of (out-DraftFormula one)) (formulas_in inside),
        total-le (λ one. total (member_weight w) (references_of (out-DraftFormula one))) (formula_weight w)
            (members-weight w law) (formulas_in inside),
      )
  row-weight levels distribution start inside bound h =
      let s = shares w levels inside bound (h levels) in omega
      (arith, expression-in inside bound (omega (arith, s.fit)))
  row-weight levels factors start inside bound h = let s =
      shares w levels inside bound (h levels) in omega (arith, s.fit)
  row-weight levels factor start inside bound h =
      let s = shares w levels inside bound (h levels) in omega
      (arith, expression-in inside bound (omega (arith, s.fit)))
  row-weight levels define_initiating_event start inside bound h =
      omega (
        arith,
        law.defines (at start),
        law.none,
        some-weight (value_in start.attributes (codes "event-tree")) (reference_by (codes "event-tree") start),
      )
  row-weight levels define_event_tree start inside bound h =
      let extra = total (definition_weight w) (definitions_in inside) in
      let default : state_weight w MAX_NESTING (branch_in start inside) ≤ refer w (reference start) + (bound - extra) =
      omega (
        arith,
        branch-in MAX_NESTING start inside extra bound
            (λ l. let t = shares w l inside bound (h l) in omega (arith, t.fit)),
      ) in
      let s = shares w MAX_NESTING inside bound (h MAX_NESTING) in
      let first : state_weight w MAX_NESTING (first_in initial_state_of (branch_in start inside) inside) ≤ refer w
      (reference start) + (bound - extra) =
      first-le (state_weight w MAX_NESTING) (branch_in start inside) (filter_map initial_state_of inside) _ default
      (omega (arith, s.fit)) in
      omega (arith, s.fit, first, law.defines (at start))
  row-weight levels define_functional_event start inside bound h = omega (arith, law.defines (at start), law.none)
  row-weight levels define_sequence start inside bound h =
      let s = shares w levels inside bound (h levels) in
      omega (
        arith,
        s.fit,
        law.defines (at start),
        steps-weight (instructions_in inside) (slice_get (filter_map link_of inside) 0),
        first-option-le (refer w) (filter_map link_of inside),
      )
  row-weight levels define_branch start inside bound h =
      omega (
        arith,
        law.defines (at start),
        branch-in MAX_NESTING start inside 0 bound (λ l. let t = shares w l inside bound (h l) in omega (arith, t.fit)),
      )
  row-weight levels define_rule start inside bound h =
      let s = shares w levels inside bound (h levels) in omega
      (arith, s.fit, law.defines (at start), steps-weight (instructions_in inside) None)
  row-weight levels initial_state start inside bound h =
      omega (
        arith,
        law.refers (at start),
        branch-in levels start inside 0 bound
            (λ l. let t = shares w l inside bound (h l) in omega (arith, t.fit)),
      )
  row-weight levels fork start inside bound h =
      let s = shares w levels inside bound (h levels) in
      omega (
        arith,
        s.fit,
        law.refers (at start),
        fork-weight levels (reference_by (codes "functional-event") start)
            (filter_map path_of inside),
      )
  row-weight levels path start inside bound h =
      omega (
        arith,
        law.goes (at start),
        path-weight levels (record {
          state = text_in start (codes "state");
          place =
              record { file = start.around.file; line = start.line };
          tag = start.number;
          branch =
              branch_in start inside;
        }),
        branch-in levels start inside 0 bound (λ l. let t = shares w l inside bound (h l) in omega (arith, t.fit)),
      )
  row-weight levels to_sequence start inside bound h =
      omega (arith, law.refers (at start), sequence-weight levels (reference start))
  row-weight levels to_branch start inside bound h =
      omega (arith, law.refers (at start), branch-weight levels (reference start))
  row-weight levels to_event_tree start inside bound h = omega (arith, law.refers (at start))
  row-weight levels collect_formula start inside bound h =
      let s = shares w levels inside bound (h levels) in
      omega (
        arith,
        formula-in inside bound (omega (arith, s.fit)),
        law.one (at start),
        ap (weight w) (instruction-collect (formula_in inside)),
        total-append (refer w) (formula_contents (formula_in inside)).references [],
        total-append w.path (formula_contents (formula_in inside)).paths [],
      )
  row-weight levels set_house_event start inside bound h =
      omega (
        arith,
        law.refers (at start),
        ap (weight w) (instruction-set (reference start) (state_in inside)),
        weight-one w law true (reference start),
      )
  row-weight levels block start inside bound h =
      let s = shares w levels inside bound (h levels) in
      omega (
        arith,
        s.fit,
        ap (weight w) (instruction-block (instructions_in inside)),
        weight-around w law true instruction_contents (instructions_in inside),
      )
  row-weight levels rule start inside bound h =
      omega (
        arith,
        law.refers (at start),
        ap (weight w) (instruction-rule (reference start)),
        weight-one w law true
            (reference start),
      )
  row-weight levels if_instruction start inside bound h =
      let s = shares w levels inside bound (h levels) in omega
      (arith, s.fit, conditional-weight levels (filter_map test_of inside) (instructions_in inside))
  row-weight levels test_initiating_event start inside bound h =
      omega (
        arith,
        law.refers (at start),
        ap (weight w) (test-initiating (reference start)),
        weight-one w law true
            (reference start),
      )
  row-weight levels test_functional_event start inside bound h =
      omega (
        arith,
        law.refers (at start),
        ap (weight w)
            (test-functional (reference start) (text_in start (codes "state"))),
        weight-one w law true (reference start),
      )
  row-weight levels all_tests start inside bound h =
      let s = shares w levels inside bound (h levels) in
      omega (
        arith,
        s.fit,
        ap (weight w) (test-all (filter_map test_of inside)),
        weight-around w law
            (nat_le 1 (length (map test_contents (filter_map test_of inside)))) test_contents (filter_map test_of inside),
      )
  row-weight levels any_test start inside bound h =
      let s = shares w levels inside bound (h levels) in
      omega (
        arith,
        s.fit,
        ap (weight w) (test-any (filter_map test_of inside)),
        weight-around w law
            (nat_le 1 (length (map test_contents (filter_map test_of inside)))) test_contents (filter_map test_of inside),
      )
  row-weight levels not_test start inside bound h =
      let s = shares w levels inside bound (h levels) in
      omega (
        arith,
        s.fit,
        ap (weight w) (test-not (filter_map test_of inside)),
        weight-around w law
            (length (map test_contents (filter_map test_of inside)) == 1) test_contents (filter_map test_of inside),
      )
  row-weight levels gate start inside bound h =
      omega (arith, law.refers (at start), event-weight w law asked.Gate (reference start))
  row-weight levels basic_event start inside bound h =
      omega (arith, law.refers (at start), event-weight w law asked.Basic (reference start))
  row-weight levels house_event start inside bound h =
      omega (arith, law.refers (at start), event-weight w law asked.House (reference start))
  row-weight levels event start inside bound h =
      omega (arith, law.refers (at start), event-weight w law (event_kind start) (reference start))
  row-weight levels constant start inside bound h =
      omega (arith, constant-weight w law (has_value start (codes "value") (codes "true")))
  row-weight levels (connective c) start inside bound h =
      let s = shares w levels inside bound (h levels) in
      omega (arith, s.fit, connective-weight w law c (least_of c start) (most_of c start) (formulas_in inside))
  row-weight levels float start inside bound h = omega (arith, number-weight start)
  row-weight levels int start inside bound h = omega (arith, number-weight start)
  row-weight levels parameter start inside bound h =
      omega (arith, law.refers (at start), parameter-weight (reference start))
  row-weight levels mission_time start inside bound h = omega (arith, time-weight)
  row-weight levels (operator o) start inside bound h =
      let s = shares w levels inside bound (h levels) in
      omega (
        arith,
        s.fit,
        ap (weight w) (expression-operation o (expressions_in inside)),
        weight-around w law
            (has_operands o (length (map expression_contents (expressions_in inside)))) expression_contents
            (expressions_in inside),
      )
