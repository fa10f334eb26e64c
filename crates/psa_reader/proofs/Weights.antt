-- How much what elements say weighs, where references, paths, definitions, members of groups and collected formulas have
-- weights by their positions.
use Rattle.std.proofs.Common.{◌≡◌, ℕ, ◌+◌, ◌≤◌, Bool, true, List, [], ◌∷◌, map, length, Option, Some, None, ap, arith}
use Rattle.std.specs.Prelude.{filter_map}
use Rattle.std.specs.Option.{option_to_list}
use Rattle.psa_model.specs.declared.formula.Connective.{Connective}
use Rattle.psa_model.specs.declared.draft.DraftReference.{DraftReference}
use Rattle.psa_model.specs.declared.draft.EventKind.{EventKind}
use Rattle.psa_model.specs.declared.draft.DraftDefinition.{DraftDefinition}
use Rattle.psa_model.specs.declared.draft.DraftBody.{DraftBody}
use Rattle.psa_model.specs.declared.draft.DraftBody.TheVariants as body
use Rattle.psa_model.specs.declared.draft.DraftFormula.{DraftFormula}
use Rattle.psa_model.specs.declared.draft.DraftFormula.TheOpen.{DraftFormula-F}
use Rattle.psa_model.specs.declared.draft.DraftFormula.TheVariants as formula
use Rattle.psa_model.specs.declared.draft.DraftFormula.TheViews.{out-DraftFormula}
use Rattle.psa_model.specs.declared.draft.DraftFormula.TheFolds.{map-DraftFormula}
use Rattle.psa_model.specs.declared.draft.DraftExpression.{DraftExpression}
use Rattle.psa_model.specs.declared.draft.DraftFactor.{DraftFactor}
use Rattle.psa_model.specs.declared.draft.DraftTest.{DraftTest}
use Rattle.psa_model.specs.declared.draft.DraftInstruction.{DraftInstruction}
use Rattle.psa_model.specs.declared.draft.DraftBranch.{DraftBranch}
use Rattle.psa_model.specs.declared.draft.DraftBranchEnd.{DraftBranchEnd}
use Rattle.psa_model.specs.declared.draft.DraftBranchEnd.TheViews.{out-DraftBranchEnd}
use Rattle.psa_model.specs.declared.draft.DraftForkPath.{DraftForkPath}
use Rattle.psa_model.specs.Formulas.{has_arity}
use Rattle.psa_model.specs.Drafts.{Contents, Position, position_of, reference_position, together, element, some_reference, formula_step, formula_contents, expression_contents, test_contents, instruction_contents, end_contents, path_contents, branch_contents, body_contents}
use Rattle.psa_elements.specs.DraftReading.{Reading, nothing, a_formula, an_expression, a_test, an_instruction, an_end, a_path, an_initial_state, a_link, some_members, a_distribution, some_factors, some_definitions, references_of, formula_of, expression_of, test_of, instruction_of, end_of, path_of, initial_state_of, link_of, members_of, distribution_of, factors_of, definitions_of}
use Rattle.std.specs.List.{flat_map}
use Rattle.psa_reader.proofs.Totals.{total, total-append, total-map, total-le}
use Rattle.psa_reader.proofs.ContentForms.{formula-event, formula-constant, formula-connective, formula-opened, out-event, out-constant, out-connective}

-- the weights, and what an element at a position may weigh
pub record Weights : Type 0 where
  pub own : Position → ℕ
  pub reference : Position → ℕ
  pub path : Position → ℕ
  pub definition : Position → ℕ
  pub member : ℕ
  pub formulas : ℕ → ℕ

-- no element says more than it may weigh
pub record AreWeights (w : Weights) : Type 0 where
  pub none : w.formulas 0 ≡ 0
  pub more : (a b : ℕ) → w.formulas (a + b) ≡ w.formulas a + w.formulas b
  pub one : (p : Position) → w.formulas 1 ≤ w.own p
  pub refers : (p : Position) → w.reference p + w.member ≤ w.own p
  pub goes : (p : Position) → w.reference p + w.path p ≤ w.own p
  pub defines : (p : Position) → w.reference p + w.definition p ≤ w.own p

abbrev pub refer : Weights → DraftReference → ℕ
refer w reference = w.reference (reference_position reference)

-- the weight of what stands in some elements
abbrev pub weight : Weights → Contents → ℕ
weight w c = total (refer w) c.references + total w.path c.paths + w.formulas c.formulas

pub weight-together : (w : Weights) → AreWeights w → (cs : List Contents) → weight w (together cs) ≡ total (weight w) cs
weight-together w law [] = omega (arith, law.none)
weight-together w law (c ∷ cs) =
    omega (
      arith,
      total-append (refer w) c.references (together cs).references,
      total-append w.path c.paths
          (together cs).paths,
      law.more c.formulas (together cs).formulas,
      weight-together w law cs,
    )

pub weight-element : (w : Weights) → AreWeights w → (has : Bool) (name : Option DraftReference) (inside : List Contents)
    → weight w (element has name inside) ≡ total (refer w) (option_to_list name) + total (weight w) inside
weight-element w law has name inside =
    omega (
      arith,
      total-append (refer w) (option_to_list name) (together inside).references,
      weight-together w law inside,
    )

pub weight-one : (w : Weights) → AreWeights w → (has : Bool) (name : DraftReference)
    → weight w (element has (Some name) []) ≡ refer w name
weight-one w law has name = omega (arith, weight-element w law has (Some name) [])

pub weight-none : (w : Weights) → AreWeights w → (has : Bool) → weight w (element has None []) ≡ 0
weight-none w law has = omega (arith, weight-element w law has None [])

-- elements around others weigh what these do
pub weight-around : {A : Type 0} (w : Weights) → AreWeights w → (has : Bool) (f : A → Contents) (inside : List A)
    → weight w (element has None (map f inside)) ≡ total (λ x. weight w (f x)) inside
weight-around w law has f inside =
    omega (arith, weight-element w law has None (map f inside), total-map (weight w) f inside)

pub weight-name : (w : Weights) → AreWeights w → (name : Option DraftReference)
    → weight w (some_reference name) ≡ total (refer w) (option_to_list name)
weight-name w law name = omega (arith, law.none)

-- ---- the weight of what an element says, in branches of at most so many levels

abbrev pub formula_weight : Weights → DraftFormula → ℕ
formula_weight w f =
    weight w (formula_contents f) + total (λ (r : DraftReference). w.member) (references_of (out-DraftFormula f))

abbrev pub expression_weight : Weights → DraftExpression → ℕ
expression_weight w e = weight w (expression_contents e)

abbrev pub test_weight : Weights → DraftTest → ℕ
test_weight w t = weight w (test_contents t)

abbrev pub instruction_weight : Weights → DraftInstruction → ℕ
instruction_weight w i = weight w (instruction_contents i)

abbrev pub end_weight : Weights → ℕ → DraftBranchEnd → ℕ
end_weight w levels e = weight w (end_contents (λ b. branch_contents levels b) (out-DraftBranchEnd e))

abbrev pub path_weight : Weights → ℕ → DraftForkPath → ℕ
path_weight w levels p = weight w (path_contents (λ b. branch_contents levels b) p)

abbrev pub state_weight : Weights → ℕ → DraftBranch → ℕ
state_weight w levels b = weight w (branch_contents levels b)

abbrev pub member_weight : Weights → DraftReference → ℕ
member_weight w r = refer w r + w.member

abbrev pub factor_weight : Weights → DraftFactor → ℕ
factor_weight w f = expression_weight w f.expression

abbrev pub members_in : DraftBody → List DraftReference
members_in (body.Group group) = group.members
members_in _ = []

abbrev pub definition_weight : Weights → DraftDefinition → ℕ
definition_weight w d =
    w.definition (position_of d) + total (λ (r : DraftReference). w.member) (members_in d.body) + weight w
    (body_contents d.body)

abbrev pub weigh : Weights → ℕ → Reading → ℕ
weigh w levels nothing = 0
weigh w levels (a_formula f) = formula_weight w f
weigh w levels (an_expression e) = expression_weight w e
weigh w levels (a_test t) = test_weight w t
weigh w levels (an_instruction i) = instruction_weight w i
weigh w levels (an_end e) = end_weight w levels e
weigh w levels (a_path p) = path_weight w levels p
weigh w levels (an_initial_state b) = state_weight w levels b
weigh w levels (a_link r) = refer w r
weigh w levels (some_members rs) = total (member_weight w) rs
weigh w levels (a_distribution e) = expression_weight w e
weigh w levels (some_factors fs) = total (factor_weight w) fs
weigh w levels (some_definitions ds) = total (definition_weight w) ds

-- the weights of all that the children say, by what it is
pub record Shares (w : Weights) (levels : ℕ) (inside : List Reading) (bound : ℕ) : Type 0 where
  pub fit : total (formula_weight w) (filter_map formula_of inside) + total (expression_weight w) (filter_map expression_of inside)
      + total (test_weight w) (filter_map test_of inside) + total (instruction_weight w)
      (filter_map instruction_of inside)
      + total (end_weight w levels) (filter_map end_of inside) + total (path_weight w levels)
      (filter_map path_of inside)
      + total (state_weight w levels) (filter_map initial_state_of inside) + total (refer w) (filter_map link_of inside)
      + total (member_weight w) (flat_map members_of inside) + total (expression_weight w)
      (filter_map distribution_of inside)
      + total (factor_weight w) (flat_map factors_of inside) + total (definition_weight w)
      (flat_map definitions_of inside) ≤ bound

shared : (w : Weights) (levels : ℕ) (inside : List Reading) → Shares w levels inside (total (weigh w levels) inside)
shared w levels [] = record { fit = omega arith }
shared w levels (nothing ∷ inside) = let rest = shared w levels inside in record { fit = omega (arith, rest.fit) }
shared w levels (a_formula f ∷ inside) = let rest = shared w levels inside in record { fit = omega (arith, rest.fit) }
shared w levels (an_expression e ∷ inside) = let rest =
    shared w levels inside in record { fit = omega (arith, rest.fit) }
shared w levels (a_test t ∷ inside) = let rest = shared w levels inside in record { fit = omega (arith, rest.fit) }
shared w levels (an_instruction i ∷ inside) = let rest =
    shared w levels inside in record { fit = omega (arith, rest.fit) }
shared w levels (an_end e ∷ inside) = let rest = shared w levels inside in record { fit = omega (arith, rest.fit) }
shared w levels (a_path p ∷ inside) = let rest = shared w levels inside in record { fit = omega (arith, rest.fit) }
shared w levels (an_initial_state b ∷ inside) = let rest =
    shared w levels inside in record { fit = omega (arith, rest.fit) }
shared w levels (a_link r ∷ inside) = let rest = shared w levels inside in record { fit = omega (arith, rest.fit) }
shared w levels (some_members rs ∷ inside) =
    let rest = shared w levels inside in record {
      fit = omega
          (arith, rest.fit, total-append (member_weight w) rs (flat_map members_of inside));
    }
shared w levels (a_distribution e ∷ inside) = let rest =
    shared w levels inside in record { fit = omega (arith, rest.fit) }
shared w levels (some_factors fs ∷ inside) =
    let rest = shared w levels inside in record {
      fit = omega
          (arith, rest.fit, total-append (factor_weight w) fs (flat_map factors_of inside));
    }
shared w levels (some_definitions ds ∷ inside) =
    let rest = shared w levels inside in record {
      fit = omega
          (arith, rest.fit, total-append (definition_weight w) ds (flat_map definitions_of inside));
    }

pub shares : (w : Weights) (levels : ℕ) (inside : List Reading) (bound : ℕ) → total (weigh w levels) inside ≤ bound
    → Shares w levels inside bound
shares w levels inside bound h = let all = shared w levels inside in record { fit = omega (arith, all.fit, h) }

-- ---- formulas

pub event-weight : (w : Weights) → AreWeights w → (its : EventKind) (name : DraftReference)
    → formula_weight w (formula.Event its name) ≡ refer w name + w.member
event-weight w law its name =
    omega (
      arith,
      ap (weight w) (formula-event its name),
      weight-one w law true name,
      ap (λ x. total (λ (r : DraftReference). w.member) (references_of x)) (out-event its name),
    )

pub constant-weight : (w : Weights) → AreWeights w → (state : Bool) → formula_weight w (formula.Constant state) ≡ 0
constant-weight w law state =
    omega (
      arith,
      ap (weight w) (formula-constant state),
      weight-none w law true,
      ap (λ x. total (λ (r : DraftReference). w.member) (references_of x)) (out-constant state),
    )

pub connective-weight : (w : Weights) → AreWeights w → (c : Connective) (least most : ℕ) (inside : List DraftFormula)
    → formula_weight w (formula.Connective c least most inside) ≤ total (formula_weight w) inside
connective-weight w law c least most inside =
    omega (
      arith,
      ap (weight w) (formula-connective c least most inside),
      weight-around w law (has_arity c least most (length (map formula_contents inside))) formula_contents inside,
      ap (λ x. total (λ (r : DraftReference). w.member) (references_of x)) (out-connective c least most inside),
      total-le (λ f. weight w (formula_contents f)) (formula_weight w) (λ f. omega arith) inside,
    )

-- as members, events weigh what they do as formulas
pub members-weight : (w : Weights) → AreWeights w → (f : DraftFormula)
    → total (member_weight w) (references_of (out-DraftFormula f)) ≤ formula_weight w f
members-weight w law f = by_form (out-DraftFormula f) (ap (weight w) (formula-opened f))
  where
    by_form : (x : DraftFormula-F DraftFormula)
        → weight w (formula_contents f) ≡ weight w
        (formula_step (map-DraftFormula DraftFormula Contents formula_contents x))
        → total (member_weight w) (references_of x) ≤ weight w (formula_contents f) + total
        (λ (r : DraftReference). w.member) (references_of x)
    by_form (DraftFormula-F.Event its name) e = omega (arith, e, weight-one w law true name)
    by_form (DraftFormula-F.Constant state) e = omega arith
    by_form (DraftFormula-F.Connective c least most inside) e = omega arith
