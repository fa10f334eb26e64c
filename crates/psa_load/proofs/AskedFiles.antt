-- What the definitions of a draft refer to, and the paths of forks in them, are of no other files than its contents.
use Rattle.std.proofs.Common.{◌≡◌, ℕ, zero, suc, ◌+◌, ◌≤◌, Bool, true, false, not, List, [], ◌∷◌, ◌++◌, Option, Some, None, map, length, nat_lt, nat_le, ◌==◌, ◌&&◌, filter_map, if◌then◌else◌, refl, sym, ap, subst, subst₂, arith}
use Rattle.std.specs.List.{flat_map}
use Rattle.psa_model.specs.Formulas.{has_arity}
use Rattle.psa_model.specs.declared.draft.DraftBody.{DraftBody}
use Rattle.psa_model.specs.declared.draft.DraftBody.TheVariants as body
use Rattle.psa_model.specs.declared.draft.DraftBranch.{DraftBranch}
use Rattle.psa_model.specs.declared.draft.DraftBranchEnd.{DraftBranchEnd, out-DraftBranchEnd}
use Rattle.psa_model.specs.declared.draft.DraftBranchEnd.TheOpen.{DraftBranchEnd-F}
use Rattle.psa_model.specs.declared.draft.DraftDefinition.{DraftDefinition}
use Rattle.psa_model.specs.declared.draft.DraftExpression.{DraftExpression, roll-DraftExpression}
use Rattle.psa_model.specs.declared.draft.DraftExpression.TheOpen.{DraftExpression-F}
use Rattle.psa_model.specs.declared.draft.DraftExpression.TheFolds.{fold-roll-DraftExpression, ind-DraftExpression, map-DraftExpression}
use Rattle.psa_model.specs.declared.draft.DraftFactor.{DraftFactor}
use Rattle.psa_model.specs.declared.draft.DraftForkPath.{DraftForkPath}
use Rattle.psa_model.specs.declared.draft.DraftFormula.{DraftFormula, roll-DraftFormula}
use Rattle.psa_model.specs.declared.draft.DraftFormula.TheOpen.{DraftFormula-F}
use Rattle.psa_model.specs.declared.draft.DraftFormula.TheFolds.{fold-roll-DraftFormula, ind-DraftFormula, map-DraftFormula}
use Rattle.psa_model.specs.declared.draft.DraftGroup.{DraftGroup}
use Rattle.psa_model.specs.declared.draft.DraftInstruction.{DraftInstruction, roll-DraftInstruction}
use Rattle.psa_model.specs.declared.draft.DraftInstruction.TheOpen.{DraftInstruction-F}
use Rattle.psa_model.specs.declared.draft.DraftInstruction.TheFolds.{fold-roll-DraftInstruction, ind-DraftInstruction, map-DraftInstruction}
use Rattle.psa_model.specs.declared.draft.DraftReference.{DraftReference}
use Rattle.psa_model.specs.declared.draft.DraftTest.{DraftTest, roll-DraftTest}
use Rattle.psa_model.specs.declared.draft.DraftTest.TheOpen.{DraftTest-F}
use Rattle.psa_model.specs.declared.draft.DraftTest.TheFolds.{fold-roll-DraftTest, ind-DraftTest, map-DraftTest}
use Rattle.psa_model.specs.declared.limits.TheConstants.{MAX_NESTING}
use Rattle.psa_model.specs.Drafts as drafts
use Rattle.psa_model.specs.Drafts.{Contents, Position, reference_position, path_position, together, is_event_tree, formula_step, formula_contents, expression_step, expression_contents, test_contents_step, test_contents, instruction_step, instruction_contents, collecting, path_contents, end_contents, branch_contents, some_reference, body_contents}
use Rattle.psa_model.specs.PathNames.{is_path}
use Rattle.psa_names.specs.Chains.{references_in, references_in_all, path_members, references_of}
use Rattle.psa_names.specs.Meanings.{members_of}
use Rattle.psa_names.specs.Outlines.{ReferenceKind, event, parameter, rule, sequence, branch, functional_event, initiating_event, functional_event_anywhere, Reference, Outline, Outlines, joined, plain, naming, formula_layer, formula_outline, expression_layer, expression_outline, test_layer, test_outline, instruction_layer, instruction_outline, end_outline, branch_outlines, link_outlines, body_outlines, outlines_of, ForkState, end_states, branch_states, states_of, entry_of}
use Rattle.psa_model.specs.declared.draft.EventKind.TheVariants as asked-kind
use Rattle.psa_names.proofs.BranchLevels.{outlines-suc, contents-suc}
use Rattle.psa_model.specs.Values.{has_operands}
use Rattle.psa_reader.proofs.Totals.{total, total-append, total-flat_map}
use Rattle.psa_reader.proofs.Weights.{Weights, AreWeights, refer, weight, weight-together, weight-element}

-- ---- weights

abbrev pub one_if : Bool → ℕ
one_if true = 1
one_if false = 0

-- 1 for a position in none of so many files
abbrev pub late : ℕ → Position → ℕ
late n p = one_if (not (nat_lt p.file n))

abbrev pub late_weights : ℕ → Weights
late_weights n = record {
  own = λ p. late n p + late n p;
  reference = λ p. late n p;
  path = λ p. late n p;
  definition = λ p. late n p;
  member = 0;
  formulas = λ k. 0;
}

pub late-law : (n : ℕ) → AreWeights (late_weights n)
late-law n = record {
  none = refl;
  more = λ a b. refl;
  one = λ q. omega arith;
  refers = λ q. omega arith;
  goes = λ q. omega arith;
  defines = λ q. omega arith;
}

-- what is asked for in other files
abbrev pub asks : ℕ → Reference → ℕ
asks n r = late n (reference_position r.written)

abbrev pub asked : ℕ → Outline → ℕ
asked n o = total (asks n) (references_in o)

abbrev pub asked_all : ℕ → Outlines → ℕ
asked_all n os = total (asks n) (references_in_all os)

abbrev pub weighed : ℕ → Contents → ℕ
weighed n c = weight (late_weights n) c

abbrev pub Fits : ℕ → Outline → Contents → Type 0
Fits n o c = asked n o ≤ weighed n c

joined-total : (n : ℕ) (os : List Outline) → asked_all n (joined os) ≡ total (asked n) os
joined-total n [] = refl
joined-total n (o ∷ os) = omega (arith, total-append (asks n) (references_in o) (references_in_all (joined os)), joined-total n os)

named-fits : (n : ℕ) (kind : ReferenceKind) (written : DraftReference) (os : List Outline) (has : Bool) (cs : List Contents) → asked_all n (joined os) ≤ total (weighed n) cs → Fits n (naming kind written os) (drafts.element has (Some written) cs)
named-fits n kind written os has cs h = omega (arith, weight-element (late_weights n) (late-law n) has (Some written) cs, h)

plain-fits : (n : ℕ) (os : List Outline) (has : Bool) (cs : List Contents) → asked_all n (joined os) ≤ total (weighed n) cs → Fits n (plain os) (drafts.element has None cs)
plain-fits n os has cs h = omega (arith, weight-element (late_weights n) (late-law n) has None cs, h)

-- each of some parts fits
parts-fit : {A : Type 0} (n : ℕ) (outline : A → Outline) (contents : A → Contents) (parts : List ((x : A) × Fits n (outline x) (contents x)))
    → asked_all n (joined (map outline (map (λ e. e.0) parts))) ≤ total (weighed n) (map contents (map (λ e. e.0) parts))
parts-fit n outline contents [] = omega arith
parts-fit n outline contents (part ∷ parts) =
    let rest = parts-fit n outline contents parts in
    let one = part.1 in
    omega (arith, rest, one, total-append (asks n) (references_in (outline part.0)) (references_in_all (joined (map outline (map (λ e. e.0) parts)))))

all-fit : {A : Type 0} (n : ℕ) (outline : A → Outline) (contents : A → Contents) → ((x : A) → Fits n (outline x) (contents x)) → (xs : List A) → total (asked n) (map outline xs) ≤ total (weighed n) (map contents xs)
all-fit n outline contents fits [] = omega arith
all-fit n outline contents fits (x ∷ xs) = let one = fits x in let rest = all-fit n outline contents fits xs in omega (arith, one, rest)

-- ---- formulas

abbrev FormulaFits : ℕ → DraftFormula → Type 0
FormulaFits n f = Fits n (formula_outline f) (formula_contents f)

formula-step : (n : ℕ) (y : DraftFormula-F ((f : DraftFormula) × FormulaFits n f)) → FormulaFits n (roll-DraftFormula (map-DraftFormula ((f : DraftFormula) × FormulaFits n f) DraftFormula (λ e. e.0) y))
formula-step n (DraftFormula-F.Event its name) =
    subst₂ (Fits n) (sym (fold-roll-DraftFormula Outline formula_layer (DraftFormula-F.Event its name)))
    (sym (fold-roll-DraftFormula Contents formula_step (DraftFormula-F.Event its name)))
    (named-fits n (event its) name [] true [] (omega arith))
formula-step n (DraftFormula-F.Constant state) =
    subst₂ (Fits n) (sym (fold-roll-DraftFormula Outline formula_layer (DraftFormula-F.Constant state)))
    (sym (fold-roll-DraftFormula Contents formula_step (DraftFormula-F.Constant state)))
    (plain-fits n [] true [] (omega arith))
formula-step n (DraftFormula-F.Connective operator least most parts) =
    let arguments = map (λ (e : (f : DraftFormula) × FormulaFits n f). e.0) parts in
    subst₂ (Fits n) (sym (fold-roll-DraftFormula Outline formula_layer (DraftFormula-F.Connective operator least most arguments)))
    (sym (fold-roll-DraftFormula Contents formula_step (DraftFormula-F.Connective operator least most arguments)))
    (plain-fits n (map formula_outline arguments) (has_arity operator least most (length (map formula_contents arguments))) (map formula_contents arguments)
    (parts-fit n formula_outline formula_contents parts))

formula-fits : (n : ℕ) (f : DraftFormula) → FormulaFits n f
formula-fits n = ind-DraftFormula (FormulaFits n) (λ x y is. subst (λ z. FormulaFits n (roll-DraftFormula z)) is (formula-step n y))

-- ---- expressions

abbrev ExpressionFits : ℕ → DraftExpression → Type 0
ExpressionFits n e = Fits n (expression_outline e) (expression_contents e)

expression-step : (n : ℕ) (y : DraftExpression-F ((e : DraftExpression) × ExpressionFits n e)) → ExpressionFits n (roll-DraftExpression (map-DraftExpression ((e : DraftExpression) × ExpressionFits n e) DraftExpression (λ e. e.0) y))
expression-step n (DraftExpression-F.Number decimal) =
    subst₂ (Fits n) (sym (fold-roll-DraftExpression Outline expression_layer (DraftExpression-F.Number decimal)))
    (sym (fold-roll-DraftExpression Contents expression_step (DraftExpression-F.Number decimal)))
    (plain-fits n [] true [] (omega arith))
expression-step n (DraftExpression-F.Parameter name) =
    subst₂ (Fits n) (sym (fold-roll-DraftExpression Outline expression_layer (DraftExpression-F.Parameter name)))
    (sym (fold-roll-DraftExpression Contents expression_step (DraftExpression-F.Parameter name)))
    (named-fits n parameter name [] true [] (omega arith))
expression-step n DraftExpression-F.MissionTime =
    subst₂ (Fits n) (sym (fold-roll-DraftExpression Outline expression_layer DraftExpression-F.MissionTime))
    (sym (fold-roll-DraftExpression Contents expression_step DraftExpression-F.MissionTime))
    (plain-fits n [] true [] (omega arith))
expression-step n (DraftExpression-F.Operation operator parts) =
    let arguments = map (λ (e : (f : DraftExpression) × ExpressionFits n f). e.0) parts in
    subst₂ (Fits n) (sym (fold-roll-DraftExpression Outline expression_layer (DraftExpression-F.Operation operator arguments)))
    (sym (fold-roll-DraftExpression Contents expression_step (DraftExpression-F.Operation operator arguments)))
    (plain-fits n (map expression_outline arguments) (has_operands operator (length (map expression_contents arguments))) (map expression_contents arguments)
    (parts-fit n expression_outline expression_contents parts))

expression-fits : (n : ℕ) (e : DraftExpression) → ExpressionFits n e
expression-fits n = ind-DraftExpression (ExpressionFits n) (λ x y is. subst (λ z. ExpressionFits n (roll-DraftExpression z)) is (expression-step n y))

-- ---- tests

abbrev TestFits : ℕ → DraftTest → Type 0
TestFits n t = Fits n (test_outline t) (test_contents t)

test-step : (n : ℕ) (y : DraftTest-F ((t : DraftTest) × TestFits n t)) → TestFits n (roll-DraftTest (map-DraftTest ((t : DraftTest) × TestFits n t) DraftTest (λ e. e.0) y))
test-step n (DraftTest-F.Initiating name) =
    subst₂ (Fits n) (sym (fold-roll-DraftTest Outline test_layer (DraftTest-F.Initiating name)))
    (sym (fold-roll-DraftTest Contents test_contents_step (DraftTest-F.Initiating name)))
    (named-fits n initiating_event name [] true [] (omega arith))
test-step n (DraftTest-F.Functional name state) =
    subst₂ (Fits n) (sym (fold-roll-DraftTest Outline test_layer (DraftTest-F.Functional name state)))
    (sym (fold-roll-DraftTest Contents test_contents_step (DraftTest-F.Functional name state)))
    (named-fits n functional_event_anywhere name [] true [] (omega arith))
test-step n (DraftTest-F.All parts) =
    let tests = map (λ (e : (t : DraftTest) × TestFits n t). e.0) parts in
    subst₂ (Fits n) (sym (fold-roll-DraftTest Outline test_layer (DraftTest-F.All tests)))
    (sym (fold-roll-DraftTest Contents test_contents_step (DraftTest-F.All tests)))
    (plain-fits n (map test_outline tests) (nat_le 1 (length (map test_contents tests))) (map test_contents tests) (parts-fit n test_outline test_contents parts))
test-step n (DraftTest-F.Any parts) =
    let tests = map (λ (e : (t : DraftTest) × TestFits n t). e.0) parts in
    subst₂ (Fits n) (sym (fold-roll-DraftTest Outline test_layer (DraftTest-F.Any tests)))
    (sym (fold-roll-DraftTest Contents test_contents_step (DraftTest-F.Any tests)))
    (plain-fits n (map test_outline tests) (nat_le 1 (length (map test_contents tests))) (map test_contents tests) (parts-fit n test_outline test_contents parts))
test-step n (DraftTest-F.Not parts) =
    let tests = map (λ (e : (t : DraftTest) × TestFits n t). e.0) parts in
    subst₂ (Fits n) (sym (fold-roll-DraftTest Outline test_layer (DraftTest-F.Not tests)))
    (sym (fold-roll-DraftTest Contents test_contents_step (DraftTest-F.Not tests)))
    (plain-fits n (map test_outline tests) (length (map test_contents tests) == 1) (map test_contents tests) (parts-fit n test_outline test_contents parts))

test-fits : (n : ℕ) (t : DraftTest) → TestFits n t
test-fits n = ind-DraftTest (TestFits n) (λ x y is. subst (λ z. TestFits n (roll-DraftTest z)) is (test-step n y))

-- ---- instructions

abbrev InstructionFits : ℕ → DraftInstruction → Type 0
InstructionFits n i = Fits n (instruction_outline i) (instruction_contents i)

-- what is collected weighs as an element around it
collecting-fits : (n : ℕ) (f : DraftFormula) → Fits n (plain (formula_outline f ∷ [])) (collecting (formula_contents f))
collecting-fits n f =
    let one = formula-fits n f in
    plain-fits n (formula_outline f ∷ []) true (formula_contents f ∷ []) (omega (arith, one, joined-total n (formula_outline f ∷ [])))

conditional-fits : (n : ℕ) (test : DraftTest) (first second : List ((i : DraftInstruction) × InstructionFits n i)) (has : Bool)
    → Fits n
    (plain (test_outline test ∷ map instruction_outline (map (λ e. e.0) first) ++ map instruction_outline (map (λ e. e.0) second)))
    (drafts.element has None (test_contents test ∷ map instruction_contents (map (λ e. e.0) first) ++ map instruction_contents (map (λ e. e.0) second)))
conditional-fits n test first second has =
    let one = test-fits n test in
    let ones = map (λ (e : (i : DraftInstruction) × InstructionFits n i). e.0) first in
    let others = map (λ (e : (i : DraftInstruction) × InstructionFits n i). e.0) second in
    let os = map instruction_outline ones in
    let ps = map instruction_outline others in
    let cs = map instruction_contents ones in
    let ds = map instruction_contents others in
    let fits = parts-fit n instruction_outline instruction_contents first in
    let more = parts-fit n instruction_outline instruction_contents second in
    plain-fits n (test_outline test ∷ os ++ ps) has (test_contents test ∷ cs ++ ds)
    (omega (arith, one, fits, more, joined-total n (test_outline test ∷ os ++ ps), joined-total n os, joined-total n ps, total-append (asked n) os ps, total-append (weighed n) cs ds))

instruction-step : (n : ℕ) (y : DraftInstruction-F ((i : DraftInstruction) × InstructionFits n i)) → InstructionFits n (roll-DraftInstruction (map-DraftInstruction ((i : DraftInstruction) × InstructionFits n i) DraftInstruction (λ e. e.0) y))
instruction-step n (DraftInstruction-F.Collect f) =
    subst₂ (Fits n) (sym (fold-roll-DraftInstruction Outline instruction_layer (DraftInstruction-F.Collect f)))
    (sym (fold-roll-DraftInstruction Contents instruction_step (DraftInstruction-F.Collect f)))
    (collecting-fits n f)
instruction-step n (DraftInstruction-F.SetHouse name state) =
    subst₂ (Fits n) (sym (fold-roll-DraftInstruction Outline instruction_layer (DraftInstruction-F.SetHouse name state)))
    (sym (fold-roll-DraftInstruction Contents instruction_step (DraftInstruction-F.SetHouse name state)))
    (named-fits n (event asked-kind.House) name (plain [] ∷ []) true [] (omega arith))
instruction-step n (DraftInstruction-F.Block parts) =
    let inside = map (λ (e : (i : DraftInstruction) × InstructionFits n i). e.0) parts in
    subst₂ (Fits n) (sym (fold-roll-DraftInstruction Outline instruction_layer (DraftInstruction-F.Block inside)))
    (sym (fold-roll-DraftInstruction Contents instruction_step (DraftInstruction-F.Block inside)))
    (plain-fits n (map instruction_outline inside) true (map instruction_contents inside) (parts-fit n instruction_outline instruction_contents parts))
instruction-step n (DraftInstruction-F.Rule name) =
    subst₂ (Fits n) (sym (fold-roll-DraftInstruction Outline instruction_layer (DraftInstruction-F.Rule name)))
    (sym (fold-roll-DraftInstruction Contents instruction_step (DraftInstruction-F.Rule name)))
    (named-fits n rule name [] true [] (omega arith))
instruction-step n (DraftInstruction-F.If test first second) =
    let ones = map (λ (e : (i : DraftInstruction) × InstructionFits n i). e.0) first in
    let others = map (λ (e : (i : DraftInstruction) × InstructionFits n i). e.0) second in
    subst₂ (Fits n) (sym (fold-roll-DraftInstruction Outline instruction_layer (DraftInstruction-F.If test ones others)))
    (sym (fold-roll-DraftInstruction Contents instruction_step (DraftInstruction-F.If test ones others)))
    (conditional-fits n test first second
    ((length (map instruction_contents ones) == 1) && nat_le (length (map instruction_contents others)) 1))

instruction-fits : (n : ℕ) (i : DraftInstruction) → InstructionFits n i
instruction-fits n = ind-DraftInstruction (InstructionFits n) (λ x y is. subst (λ z. InstructionFits n (roll-DraftInstruction z)) is (instruction-step n y))

-- ---- branches

-- the paths of a fork that are of other files
abbrev pub state_late : ℕ → ForkState → ℕ
state_late n s = late n (path_position s.path)

outlines-zero : (b : DraftBranch) → branch_outlines zero b ≡ []
unfolding branch_outlines
outlines-zero b = refl

states-zero : (b : DraftBranch) → branch_states zero b ≡ []
unfolding branch_states
states-zero b = refl

states-suc : (levels : ℕ) (b : DraftBranch) → branch_states (suc levels) b ≡ end_states (λ below. branch_states levels below) (out-DraftBranchEnd b.end)
unfolding branch_states
states-suc levels b = refl

-- what a branch asks for, and its states, weigh no more than its contents
abbrev BranchFits : ℕ → ℕ → DraftBranch → Type 0
BranchFits n levels b =
    (total (asked n) (branch_outlines levels b) ≤ weighed n (branch_contents levels b))
    × (total (state_late n) (branch_states levels b) ≤ weighed n (branch_contents levels b))

abbrev outlines_below : ℕ → DraftBranch → List Outline
outlines_below levels b = branch_outlines levels b

abbrev contents_below : ℕ → DraftBranch → Contents
contents_below levels b = branch_contents levels b

abbrev path_outline : ℕ → DraftForkPath → Outline
path_outline levels path = plain (branch_outlines levels path.branch)

abbrev path_states : ℕ → DraftReference → DraftForkPath → List ForkState
path_states levels fork path = record { fork = fork; path = path } ∷ branch_states levels path.branch

path-weight : (n levels : ℕ) (path : DraftForkPath) → weighed n (path_contents (contents_below levels) path) ≡ late n (path_position path) + weighed n (branch_contents levels path.branch)
path-weight n levels path = omega (arith, total-append (refer (late_weights n)) (branch_contents levels path.branch).references [])

module _ (n levels : ℕ) (below : (b : DraftBranch) → BranchFits n levels b) where
  paths-fit : (paths : List DraftForkPath) → asked_all n (joined (map (path_outline levels) paths)) ≤ total (weighed n) (map (path_contents (contents_below levels)) paths)
  paths-fit [] = omega arith
  paths-fit (path ∷ paths) =
      let rest = paths-fit paths in
      let one = (below path.branch).0 in
      omega (
        arith,
        rest,
        one,
        joined-total n (branch_outlines levels path.branch),
        path-weight n levels path,
        total-append (asks n) (references_in_all (joined (branch_outlines levels path.branch))) (references_in_all (joined (map (path_outline levels) paths))),
      )

  paths-states : (fork : DraftReference) (paths : List DraftForkPath) → total (state_late n) (flat_map (path_states levels fork) paths) ≤ total (weighed n) (map (path_contents (contents_below levels)) paths)
  paths-states fork [] = omega arith
  paths-states fork (path ∷ paths) =
      let rest = paths-states fork paths in
      let one = (below path.branch).1 in
      omega (arith, rest, one, path-weight n levels path, total-append (state_late n) (branch_states levels path.branch) (flat_map (path_states levels fork) paths))

  end-fits : (x : DraftBranchEnd-F DraftBranchEnd DraftBranch DraftForkPath)
      → (asked n (end_outline (λ b. branch_outlines levels b) x) ≤ weighed n (end_contents (λ b. branch_contents levels b) x))
      × (total (state_late n) (end_states (λ b. branch_states levels b) x) ≤ weighed n (end_contents (λ b. branch_contents levels b) x))
  end-fits (DraftBranchEnd-F.Fork name paths) =
      let states = paths-states name paths in
      let weighs = weight-element (late_weights n) (late-law n) true (Some name) (map (path_contents (contents_below levels)) paths) in (
        named-fits n functional_event name (map (path_outline levels) paths) true (map (path_contents (contents_below levels)) paths) (paths-fit paths),
        omega (arith, states, weighs),
      )
  end-fits (DraftBranchEnd-F.Sequence name) = (named-fits n sequence name [] true [] (omega arith), omega arith)
  end-fits (DraftBranchEnd-F.Branch name) = (named-fits n branch name [] true [] (omega arith), omega arith)

branch-fits : (n levels : ℕ) (b : DraftBranch) → BranchFits n levels b
branch-fits n zero b = (omega (arith, ap (total (asked n)) (outlines-zero b)), omega (arith, ap (total (state_late n)) (states-zero b)))
branch-fits n (suc levels) b =
    let end = end-fits n levels (λ c. branch-fits n levels c) (out-DraftBranchEnd b.end) in
    let fits = all-fit n instruction_outline instruction_contents (instruction-fits n) b.instructions in
    let os = map instruction_outline b.instructions in
    let cs = map instruction_contents b.instructions in
    let o = end_outline (λ c. branch_outlines levels c) (out-DraftBranchEnd b.end) in
    let e = end_contents (λ c. branch_contents levels c) (out-DraftBranchEnd b.end) in
    let weighs = weight-together (late_weights n) (late-law n) (cs ++ e ∷ []) in
    let contents = ap (weighed n) (contents-suc levels b) in (
      omega (arith, end.0, fits, weighs, contents, ap (total (asked n)) (outlines-suc levels b), total-append (asked n) os (o ∷ []), total-append (weighed n) cs (e ∷ [])),
      omega (arith, end.1, weighs, contents, ap (total (state_late n)) (states-suc levels b), total-append (weighed n) cs (e ∷ [])),
    )

-- ---- bodies

members-weigh : (n : ℕ) (members : List DraftReference) → total (refer (late_weights n)) members ≡ total (weighed n) (map (λ member. some_reference (Some member)) members)
members-weigh n [] = refl
members-weigh n (member ∷ members) = omega (arith, members-weigh n members)

-- what a body asks for, its members and its states weigh no more than its contents
abbrev BodyFits : ℕ → DraftBody → Type 0
BodyFits n b =
    (total (refer (late_weights n)) (members_of b) + total (asked n) (body_outlines b) ≤ weighed n (body_contents b))
    × (total (state_late n) (states_of b) ≤ weighed n (body_contents b))

group-fits : (n : ℕ) (group : DraftGroup) → BodyFits n (body.Group group)
group-fits n group =
    let ms = map (λ (member : DraftReference). some_reference (Some member)) group.members in
    let fs = map (λ (factor : DraftFactor). expression_contents factor.expression) group.factors in
    let factors = all-fit n (λ (factor : DraftFactor). expression_outline factor.expression) (λ factor. expression_contents factor.expression) (λ factor. expression-fits n factor.expression) group.factors in
    let distribution = expression-fits n group.distribution in
    let weighs = weight-together (late_weights n) (late-law n) (ms ++ expression_contents group.distribution ∷ fs) in (
      omega (arith, factors, distribution, weighs, members-weigh n group.members, total-append (weighed n) ms (expression_contents group.distribution ∷ fs)),
      omega arith,
    )

steps-fit : (n : ℕ) (instructions : List DraftInstruction) (link : Option DraftReference) → BodyFits n (body.Steps instructions link)
steps-fit n instructions link =
    let fits = all-fit n instruction_outline instruction_contents (instruction-fits n) instructions in
    let os = map instruction_outline instructions in
    let cs = map instruction_contents instructions in
    let weighs = weight-together (late_weights n) (late-law n) (cs ++ some_reference link ∷ []) in
    let linked = links link in
    (omega (arith, fits, weighs, linked, total-append (asked n) os (link_outlines link), total-append (weighed n) cs (some_reference link ∷ [])), omega arith)
  where
    links : (link : Option DraftReference) → total (asked n) (link_outlines link) ≤ weighed n (some_reference link)
    links None = omega arith
    links (Some name) = omega arith

body-fits : (n : ℕ) (b : DraftBody) → BodyFits n b
body-fits n body.Nothing = (omega arith, omega arith)
body-fits n (body.Formula f) = let one = formula-fits n f in (omega (arith, one), omega arith)
body-fits n (body.Value None) = (omega arith, omega arith)
body-fits n (body.Value (Some e)) =
    let one = expression-fits n e in
    let weighs = weight-together (late_weights n) (late-law n) (expression_contents e ∷ []) in
    (omega (arith, one, weighs), omega arith)
body-fits n (body.State state) = (omega arith, omega arith)
body-fits n (body.Group group) = group-fits n group
body-fits n (body.Start None) = (omega arith, omega arith)
body-fits n (body.Start (Some name)) = (omega arith, omega arith)
body-fits n (body.Steps instructions link) = steps-fit n instructions link
body-fits n (body.Walk b) = let fits = branch-fits n MAX_NESTING b in (omega (arith, fits.0), fits.1)

-- ---- definitions

path-members-less : (n : ℕ) (members : List DraftReference) → total (asks n) (filter_map (λ member. if is_path member.name then Some (record { kind = event asked-kind.Basic; written = member }) else None) members) ≤ total (refer (late_weights n)) members
path-members-less n [] = omega arith
path-members-less n (member ∷ members) = by-test (is_path member.name) refl (path-members-less n members)
  where
    by-test : (b : Bool) → is_path member.name ≡ b
        → total (asks n) (filter_map (λ (member : DraftReference). if is_path member.name then Some (record { kind = event asked-kind.Basic; written = member }) else None) members) ≤ total (refer (late_weights n)) members
        → total (asks n) (filter_map (λ (member : DraftReference). if is_path member.name then Some (record { kind = event asked-kind.Basic; written = member }) else None) (member ∷ members)) ≤ total (refer (late_weights n)) (member ∷ members)
    by-test true e rest = rw e (omega (arith, rest))
    by-test false e rest = rw e (omega (arith, rest))

outlines-total : (n : ℕ) (tree : Bool) (os : List Outline) → total (asked n) (if tree then plain os ∷ [] else os) ≡ total (asked n) os
outlines-total n true os = omega (arith, joined-total n os)
outlines-total n false os = refl

-- what a definition asks for, and its states, weigh no more than its contents
pub definition-fits : (n : ℕ) (d : DraftDefinition)
    → (total (asks n) (references_of (entry_of d)) ≤ weighed n (body_contents d.body))
    × (total (state_late n) (states_of d.body) ≤ weighed n (body_contents d.body))
definition-fits n d =
    let fits = body-fits n d.body in
    let members = path-members-less n (members_of d.body) in (
      omega (
        arith,
        fits.0,
        members,
        total-append (asks n) (path_members (entry_of d)) (flat_map references_in (outlines_of d)),
        total-flat_map (asks n) references_in (outlines_of d),
        outlines-total n (is_event_tree d.kind) (body_outlines d.body),
      ),
      fits.1,
    )
