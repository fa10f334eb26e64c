-- The references in each part of a definition.
use Rattle.std.proofs.Common.{◌≡◌, ◌<◌, ◌+◌, ◌-◌, ℕ, zero, suc, Bool, true, false, List, [], ◌∷◌, ◌++◌, length, take, get_or, map, flat_map, Option, refl, sym, ap, ◌∙◌, arith, append_assoc, append-nil}
use Rattle.psa_number.specs.Scaled.{Scaled}
use Rattle.psa_model.specs.PathNames.{Text, is_path}
use Rattle.psa_model.specs.declared.formula.Connective.{Connective}
use Rattle.psa_model.specs.declared.expression.ExpressionOperator.{ExpressionOperator}
use Rattle.psa_model.specs.declared.draft.EventKind.{EventKind}
use Rattle.psa_model.specs.declared.draft.EventKind.TheVariants as kind
use Rattle.psa_model.specs.declared.draft.DraftReference.{DraftReference}
use Rattle.psa_model.specs.declared.draft.DraftFormula.{DraftFormula}
use Rattle.psa_model.specs.declared.draft.DraftFormula.TheVariants as formula
use Rattle.psa_model.specs.declared.draft.DraftExpression.{DraftExpression}
use Rattle.psa_model.specs.declared.draft.DraftExpression.TheOpen.{DraftExpression-F}
use Rattle.psa_model.specs.declared.draft.DraftExpression.TheVariants as expression
use Rattle.psa_model.specs.declared.draft.DraftExpression.TheFolds.{fold-roll-DraftExpression}
use Rattle.psa_model.specs.declared.draft.DraftTest.{DraftTest}
use Rattle.psa_model.specs.declared.draft.DraftTest.TheOpen.{DraftTest-F}
use Rattle.psa_model.specs.declared.draft.DraftTest.TheVariants as test
use Rattle.psa_model.specs.declared.draft.DraftTest.TheFolds.{fold-roll-DraftTest}
use Rattle.psa_model.specs.declared.draft.DraftInstruction.{DraftInstruction}
use Rattle.psa_model.specs.declared.draft.DraftInstruction.TheOpen.{DraftInstruction-F}
use Rattle.psa_model.specs.declared.draft.DraftInstruction.TheVariants as instruction
use Rattle.psa_model.specs.declared.draft.DraftInstruction.TheFolds.{fold-roll-DraftInstruction}
use Rattle.psa_model.specs.declared.draft.DraftBranch.{DraftBranch}
use Rattle.psa_model.specs.declared.draft.DraftForkPath.{DraftForkPath}
use Rattle.psa_model.specs.declared.draft.DraftBranchEnd.{DraftBranchEnd, out-DraftBranchEnd}
use Rattle.psa_model.specs.declared.draft.DraftBranchEnd.TheVariants as end
use Rattle.psa_names.specs.Outlines as outline
use Rattle.psa_names.specs.Outlines.{Reference, ReferenceKind, Outline, Outlines, element, joined, plain, naming, formula_layer, formula_outline, expression_layer, expression_outline, test_layer, test_outline, instruction_layer, instruction_outline, branch_outlines, end_outline, group_outlines, link_outlines, body_outlines, outlines_of}
use Rattle.psa_model.specs.Drafts.{is_event_tree}
use Rattle.psa_model.specs.declared.draft.DraftDefinition.{DraftDefinition}
use Rattle.psa_model.specs.declared.draft.DraftFactor.{DraftFactor}
use Rattle.psa_model.specs.declared.draft.DraftGroup.{DraftGroup}
use Rattle.psa_names.specs.Chains.{references_in, references_in_all}
use Rattle.psa_names.proofs.Forms.{at-event, at-constant, at-connective, at-number, at-initiating, at-functional, at-all, at-collect, at-rule, at-if, out-fork, out-sequence}
use Rattle.psa_lookup.specs.declared.asked.Asked.{Asked}
use Rattle.psa_lookup.specs.Asking.{asked_reference, asked_references, branch_references, paths_references, member_references, factor_references}
use Rattle.psa_lookup.proofs.BoolLemmas.{one-more-taken, map-one, flat-append, flat-one}
use Rattle.psa_lookup.proofs.StateLemmas.{out-branch}

-- ---- outlines

joined-references : (all : List Outline) → references_in_all (joined all) ≡ flat_map references_in all
joined-references [] = refl
joined-references (one ∷ others) = ap (λ (l : List Reference). references_in one ++ l) (joined-references others)

pub flat-map : {A B C : Type 0} (f : B → List C) (g : A → B) (xs : List A) → flat_map f (map g xs) ≡ flat_map (λ x. f (g x)) xs
flat-map f g [] = refl
flat-map f g (x ∷ xs) = ap (λ l. f (g x) ++ l) (flat-map f g xs)

in-all : {A : Type 0} (f : A → Outline) (xs : List A) → references_in (plain (map f xs)) ≡ flat_map (λ x. references_in (f x)) xs
in-all f xs = joined-references (map f xs) ∙ flat-map references_in f xs

abbrev pub refers : ReferenceKind → DraftReference → Reference
refers its written = record { kind = its; written = written }

-- ---- formulas

pub in-event : (its : EventKind) (written : DraftReference) → references_in (formula_outline (formula.Event its written)) ≡ refers (outline.event its) written ∷ []
in-event its written = ap references_in (at-event formula_layer its written)

pub in-constant : (state : Bool) → references_in (formula_outline (formula.Constant state)) ≡ []
in-constant state = ap references_in (at-constant formula_layer state)

pub in-connective : (operator : Connective) (least most : ℕ) (arguments : List DraftFormula) → references_in (formula_outline (formula.Connective operator least most arguments)) ≡ flat_map (λ one. references_in (formula_outline one)) arguments
in-connective operator least most arguments = ap references_in (at-connective formula_layer operator least most arguments) ∙ in-all formula_outline arguments

-- ---- expressions

pub in-number : (decimal : Scaled) → references_in (expression_outline (expression.Number decimal)) ≡ []
in-number decimal = ap references_in (at-number expression_layer decimal)

pub in-parameter : (written : DraftReference) → references_in (expression_outline (expression.Parameter written)) ≡ refers outline.parameter written ∷ []
in-parameter written = ap (λ e. references_in (expression_outline e)) (sym (expression.rolls-Parameter written)) ∙ ap references_in (fold-roll-DraftExpression Outline expression_layer (DraftExpression-F.Parameter written))

pub in-mission : references_in (expression_outline expression.MissionTime) ≡ []
in-mission = ap (λ e. references_in (expression_outline e)) (sym expression.rolls-MissionTime) ∙ ap references_in (fold-roll-DraftExpression Outline expression_layer DraftExpression-F.MissionTime)

pub in-operation : (operator : ExpressionOperator) (arguments : List DraftExpression) → references_in (expression_outline (expression.Operation operator arguments)) ≡ flat_map (λ one. references_in (expression_outline one)) arguments
in-operation operator arguments =
    ap (λ e. references_in (expression_outline e)) (sym (expression.rolls-Operation operator arguments))
    ∙ ap references_in (fold-roll-DraftExpression Outline expression_layer (DraftExpression-F.Operation operator arguments)) ∙ in-all expression_outline arguments

-- ---- tests

pub in-initiating : (written : DraftReference) → references_in (test_outline (test.Initiating written)) ≡ refers outline.initiating_event written ∷ []
in-initiating written = ap references_in (at-initiating test_layer written)

pub in-functional : (written : DraftReference) (state : Text) → references_in (test_outline (test.Functional written state)) ≡ refers outline.functional_event_anywhere written ∷ []
in-functional written state = ap references_in (at-functional test_layer written state)

pub in-all-tests : (tests : List DraftTest) → references_in (test_outline (test.All tests)) ≡ flat_map (λ one. references_in (test_outline one)) tests
in-all-tests tests = ap references_in (at-all test_layer tests) ∙ in-all test_outline tests

pub in-any-tests : (tests : List DraftTest) → references_in (test_outline (test.Any tests)) ≡ flat_map (λ one. references_in (test_outline one)) tests
in-any-tests tests =
    ap (λ e. references_in (test_outline e)) (sym (test.rolls-Any tests)) ∙ ap references_in (fold-roll-DraftTest Outline test_layer (DraftTest-F.Any tests)) ∙ in-all test_outline tests

pub in-not-tests : (tests : List DraftTest) → references_in (test_outline (test.Not tests)) ≡ flat_map (λ one. references_in (test_outline one)) tests
in-not-tests tests =
    ap (λ e. references_in (test_outline e)) (sym (test.rolls-Not tests)) ∙ ap references_in (fold-roll-DraftTest Outline test_layer (DraftTest-F.Not tests)) ∙ in-all test_outline tests

-- ---- instructions

pub in-collect : (one : DraftFormula) → references_in (instruction_outline (instruction.Collect one)) ≡ references_in (formula_outline one)
in-collect one = ap references_in (at-collect instruction_layer one) ∙ append-nil (references_in (formula_outline one))

pub in-set : (written : DraftReference) (state : Bool) → references_in (instruction_outline (instruction.SetHouse written state)) ≡ refers (outline.event kind.House) written ∷ []
in-set written state =
    ap (λ e. references_in (instruction_outline e)) (sym (instruction.rolls-SetHouse written state)) ∙ ap references_in (fold-roll-DraftInstruction Outline instruction_layer (DraftInstruction-F.SetHouse written state))

pub in-block : (inside : List DraftInstruction) → references_in (instruction_outline (instruction.Block inside)) ≡ flat_map (λ one. references_in (instruction_outline one)) inside
in-block inside =
    ap (λ e. references_in (instruction_outline e)) (sym (instruction.rolls-Block inside)) ∙ ap references_in (fold-roll-DraftInstruction Outline instruction_layer (DraftInstruction-F.Block inside)) ∙ in-all instruction_outline inside

pub in-rule : (written : DraftReference) → references_in (instruction_outline (instruction.Rule written)) ≡ refers outline.rule written ∷ []
in-rule written = ap references_in (at-rule instruction_layer written)

pub in-if : (condition : DraftTest) (first second : List DraftInstruction) → references_in (instruction_outline (instruction.If condition first second)) ≡ references_in (test_outline condition) ++ (flat_map (λ one. references_in (instruction_outline one)) first ++ flat_map (λ one. references_in (instruction_outline one)) second)
in-if condition first second =
    ap references_in (at-if instruction_layer condition first second)
    ∙ ap (λ (l : List Reference). references_in (test_outline condition) ++ l)
    (joined-references (map instruction_outline first ++ map instruction_outline second)
    ∙ flat-append references_in (map instruction_outline first) (map instruction_outline second)
    ∙ ap (λ (l : List Reference). l ++ flat_map references_in (map instruction_outline second)) (flat-map references_in instruction_outline first)
    ∙ ap (λ (l : List Reference). flat_map (λ one. references_in (instruction_outline one)) first ++ l) (flat-map references_in instruction_outline second))

-- ---- branches

pub branch-none : (levels : ℕ) (one : DraftBranch) → levels ≡ 0 → branch_references levels one ≡ []
unfolding branch_outlines
branch-none zero one h = refl
branch-none (suc levels) one h = absurd (omega arith)

pub branch-some : (levels : ℕ) (one : DraftBranch) → (levels ≡ 0 → ⊥) → branch_references levels one
    ≡ flat_map (λ its. references_in (instruction_outline its)) one.instructions ++ references_in (end_outline (λ below. branch_outlines (levels - 1) below) (out-DraftBranchEnd one.end))
unfolding branch_outlines
branch-some zero one some = absurd (some refl)
branch-some (suc levels) one some =
    let less : levels ≡ suc levels - 1 = omega arith in
    flat-append references_in (map instruction_outline one.instructions) (end_outline (λ below. branch_outlines levels below) (out-DraftBranchEnd one.end) ∷ [])
    ∙ ap (λ (l : List Reference). l ++ (references_in (end_outline (λ below. branch_outlines levels below) (out-DraftBranchEnd one.end)) ++ [])) (flat-map references_in instruction_outline one.instructions)
    ∙ ap (λ (l : List Reference). flat_map (λ its. references_in (instruction_outline its)) one.instructions ++ l) (append-nil (references_in (end_outline (λ below. branch_outlines levels below) (out-DraftBranchEnd one.end))))
    ∙ ap (λ n. flat_map (λ its. references_in (instruction_outline its)) one.instructions ++ references_in (end_outline (λ below. branch_outlines n below) (out-DraftBranchEnd one.end))) less

abbrev pub end_references : ℕ → DraftBranchEnd → List Reference
end_references levels its = references_in (end_outline (λ below. branch_outlines levels below) (out-DraftBranchEnd its))

pub end-fork : (levels : ℕ) (written : DraftReference) (paths : List DraftForkPath) → end_references levels (end.Fork written paths) ≡ refers outline.functional_event written ∷ paths_references levels paths
end-fork levels written paths =
    ap (λ e. references_in (end_outline (λ below. branch_outlines levels below) e)) (out-fork written paths)
    ∙ ap (λ (l : List Reference). refers outline.functional_event written ∷ l) (joined-references (map (λ (path : DraftForkPath). plain (branch_outlines levels path.branch)) paths) ∙ all paths)
  where
    all : (ps : List DraftForkPath) → flat_map references_in (map (λ (path : DraftForkPath). plain (branch_outlines levels path.branch)) ps) ≡ paths_references levels ps
    all [] = refl
    all (p ∷ ps) =
        ap (λ (l : List Reference). l ++ flat_map references_in (map (λ (path : DraftForkPath). plain (branch_outlines levels path.branch)) ps)) (joined-references (branch_outlines levels p.branch))
        ∙ ap (λ (l : List Reference). branch_references levels p.branch ++ l) (all ps)

pub end-sequence : (levels : ℕ) (written : DraftReference) → end_references levels (end.Sequence written) ≡ refers outline.sequence written ∷ []
end-sequence levels written = ap (λ e. references_in (end_outline (λ below. branch_outlines levels below) e)) (out-sequence written)

pub end-branch : (levels : ℕ) (written : DraftReference) → end_references levels (end.Branch written) ≡ refers outline.branch written ∷ []
end-branch levels written = ap (λ e. references_in (end_outline (λ below. branch_outlines levels below) e)) (out-branch written)

-- ---- what is added

pub none-added : (old : List Asked) (more : List Reference) → more ≡ [] → asked_references old ≡ asked_references old ++ more
none-added old more h = sym (ap (λ (l : List Reference). asked_references old ++ l) h ∙ append-nil (asked_references old))

pub one-added : (old new : List Asked) (one : Asked) (more : List Reference) → new ≡ old ++ one ∷ [] → more ≡ asked_reference one ∷ [] → asked_references new ≡ asked_references old ++ more
one-added old new one more is h = ap asked_references is ∙ map-one asked_reference old one ∙ ap (λ (l : List Reference). asked_references old ++ l) (sym h)

pub two-added : (old middle new : List Reference) (first second more : List Reference) → middle ≡ old ++ first → new ≡ middle ++ second → more ≡ first ++ second → new ≡ old ++ more
two-added old middle new first second more a b h =
    b ∙ ap (λ (l : List Reference). l ++ second) a ∙ append_assoc old first second ∙ ap (λ (l : List Reference). old ++ l) (sym h)

-- a list of parts, one more
pub more-added : {A : Type 0} (f : A → List Reference) (before middle new : List Reference) (xs : List A) (i : ℕ) (x : A) → i < length xs → x ≡ get_or xs i x → middle ≡ before ++ flat_map f (take i xs) → new ≡ middle ++ f x → new ≡ before ++ flat_map f (take (i + 1) xs)
more-added f before middle new xs i x low is so_far added =
    two-added before middle new (flat_map f (take i xs)) (f x) (flat_map f (take (i + 1) xs)) so_far added
    (ap (flat_map f) (one-more-taken xs i x low is) ∙ flat-one f (take i xs) x)

-- ---- members

pub members-more : (xs ys : List DraftReference) → member_references (xs ++ ys) ≡ member_references xs ++ member_references ys
members-more [] ys = refl
members-more (x ∷ xs) ys = by (is_path x.name) refl (members-more xs ys)
  where
    by : (b : Bool) → is_path x.name ≡ b → member_references (xs ++ ys) ≡ member_references xs ++ member_references ys → member_references ((x ∷ xs) ++ ys) ≡ member_references (x ∷ xs) ++ member_references ys
    by true e rest = rw e (ap (λ (l : List Reference). refers (outline.event kind.Basic) x ∷ l) rest)
    by false e rest = rw e rest

pub member-path : (one : DraftReference) → is_path one.name ≡ true → member_references (one ∷ []) ≡ refers (outline.event kind.Basic) one ∷ []
member-path one h = rw h refl

pub member-plain : (one : DraftReference) → is_path one.name ≡ false → member_references (one ∷ []) ≡ []
member-plain one h = rw h refl

pub member-added : (before middle new : List Reference) (xs : List DraftReference) (i : ℕ) (x : DraftReference) → i < length xs → x ≡ get_or xs i x → middle ≡ before ++ member_references (take i xs) → new ≡ middle ++ member_references (x ∷ []) → new ≡ before ++ member_references (take (i + 1) xs)
member-added before middle new xs i x low is so_far added =
    two-added before middle new (member_references (take i xs)) (member_references (x ∷ [])) (member_references (take (i + 1) xs)) so_far added
    (ap (λ (l : List DraftReference). member_references l) (one-more-taken xs i x low is) ∙ members-more (take i xs) (x ∷ []))

-- ---- bodies

pub group-references : (group : DraftGroup) → flat_map references_in (group_outlines group) ≡ references_in (expression_outline group.distribution) ++ factor_references group.factors
group-references group = ap (λ (l : List Reference). references_in (expression_outline group.distribution) ++ l) (flat-map references_in (λ (factor : DraftFactor). expression_outline factor.expression) group.factors)

pub steps-references : (instructions : List DraftInstruction) (link : Option DraftReference) → flat_map references_in (map instruction_outline instructions ++ link_outlines link) ≡ flat_map (λ one. references_in (instruction_outline one)) instructions ++ flat_map references_in (link_outlines link)
steps-references instructions link =
    flat-append references_in (map instruction_outline instructions) (link_outlines link)
    ∙ ap (λ (l : List Reference). l ++ flat_map references_in (link_outlines link)) (flat-map references_in instruction_outline instructions)

pub one-outline : (one : Outline) → flat_map references_in (one ∷ []) ≡ references_in one
one-outline one = append-nil (references_in one)

pub outline-references : (one : DraftDefinition) → flat_map references_in (outlines_of one) ≡ flat_map references_in (body_outlines one.body)
outline-references one = by (is_event_tree one.kind) refl
  where
    by : (b : Bool) → is_event_tree one.kind ≡ b → flat_map references_in (outlines_of one) ≡ flat_map references_in (body_outlines one.body)
    by true e = rw e (append-nil (references_in_all (joined (body_outlines one.body))) ∙ joined-references (body_outlines one.body))
    by false e = rw e refl
