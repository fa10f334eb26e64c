-- What is promised of a draft: each definition's body and container, numbers of arguments, nesting, places and size.
-- This project's own; the numbers of arguments are those of the Open-PSA Model Exchange Format 2.0d.
use Rattle.std.specs.Prelude.{◌≡◌, ◌==◌, ◌+◌, ◌≤◌, ℕ, zero, suc, Bool, true, false, List, [], ◌∷◌, ◌++◌, Option, Some, None, All, length, map, max, sum, nat_le, nat_lt, ◌&&◌, ◌||◌, not}
use Rattle.std.specs.List.{list_any}
use Rattle.std.specs.Option.{option_to_list}
use Rattle.std.specs.Str.{bytes_eq}
use Rattle.psa_model.specs.declared.draft.DefinitionKind.{DefinitionKind}
use Rattle.psa_model.specs.declared.draft.DefinitionKind.TheVariants as kind
use Rattle.psa_model.specs.declared.draft.Draft.{Draft}
use Rattle.psa_model.specs.declared.draft.DraftBody.{DraftBody}
use Rattle.psa_model.specs.declared.draft.DraftBody.TheVariants as body
use Rattle.psa_model.specs.declared.draft.DraftBranch.{DraftBranch}
use Rattle.psa_model.specs.declared.draft.DraftBranchEnd.{DraftBranchEnd}
use Rattle.psa_model.specs.declared.draft.DraftBranchEnd.TheOpen.{DraftBranchEnd-F}
use Rattle.psa_model.specs.declared.draft.DraftBranchEnd.TheViews.{out-DraftBranchEnd}
use Rattle.psa_model.specs.declared.draft.DraftDefinition.{DraftDefinition}
use Rattle.psa_model.specs.declared.draft.DraftExpression.{DraftExpression}
use Rattle.psa_model.specs.declared.draft.DraftExpression.TheOpen.{DraftExpression-F}
use Rattle.psa_model.specs.declared.draft.DraftExpression.TheFolds.{fold-DraftExpression}
use Rattle.psa_model.specs.declared.draft.DraftForkPath.{DraftForkPath}
use Rattle.psa_model.specs.declared.draft.DraftFormula.{DraftFormula}
use Rattle.psa_model.specs.declared.draft.DraftFormula.TheOpen.{DraftFormula-F}
use Rattle.psa_model.specs.declared.draft.DraftFormula.TheFolds.{fold-DraftFormula}
use Rattle.psa_model.specs.declared.draft.DraftInstruction.{DraftInstruction}
use Rattle.psa_model.specs.declared.draft.DraftInstruction.TheOpen.{DraftInstruction-F}
use Rattle.psa_model.specs.declared.draft.DraftInstruction.TheFolds.{fold-DraftInstruction}
use Rattle.psa_model.specs.declared.draft.DraftReference.{DraftReference}
use Rattle.psa_model.specs.declared.draft.DraftTest.{DraftTest}
use Rattle.psa_model.specs.declared.draft.DraftTest.TheOpen.{DraftTest-F}
use Rattle.psa_model.specs.declared.draft.DraftTest.TheFolds.{fold-DraftTest}
use Rattle.psa_model.specs.declared.limits.TheConstants.{MAX_NESTING, MAX_SIZE}
use Rattle.psa_model.specs.Formulas.{has_arity}
use Rattle.psa_model.specs.PathNames.{Text}
use Rattle.psa_model.specs.Values.{has_operands}

-- ---- what stands in a body

-- a place in the document: the file, and the number of elements of the file that begin before
pub record Position : Type 0 where
  pub file : ℕ
  pub tag : ℕ

-- the position of a definition: its file, and the number of its tag there
abbrev pub position_of : DraftDefinition → Position
position_of definition = record { file = definition.place.file; tag = definition.tag }

-- the position of a reference
abbrev pub reference_position : DraftReference → Position
reference_position reference = record { file = reference.place.file; tag = reference.tag }

-- the position of a path of a fork
abbrev pub path_position : DraftForkPath → Position
path_position path = record { file = path.place.file; tag = path.tag }

-- What stands in some elements: how deep they are nested, whether each has its numbers of arguments, the references,
-- the positions of the paths of forks, and the number of collected formulas.
pub record Contents : Type 0 where
  pub nesting : ℕ
  pub has_numbers : Bool
  pub references : List DraftReference
  pub paths : List Position
  pub formulas : ℕ

abbrev pub together : List Contents → Contents
together [] = record { nesting = 0; has_numbers = true; references = []; paths = []; formulas = 0 }
together (one ∷ more) = record {
  nesting = max one.nesting (together more).nesting;
  has_numbers = one.has_numbers && (together more).has_numbers;
  references = one.references ++ (together more).references;
  paths = one.paths ++ (together more).paths;
  formulas = one.formulas + (together more).formulas;
}

-- an element that has its numbers of arguments or not, with a name that refers to something or none, and what
-- stands in it
abbrev pub element : Bool → Option DraftReference → List Contents → Contents
element has_its_number reference inside = record {
  nesting = suc (together inside).nesting;
  has_numbers = has_its_number && (together inside).has_numbers;
  references = option_to_list reference ++ (together inside).references;
  paths = (together inside).paths;
  formulas = (together inside).formulas;
}

abbrev pub formula_step : DraftFormula-F Contents → Contents
formula_step (DraftFormula-F.Event asked reference) = element true (Some reference) []
formula_step (DraftFormula-F.Constant b) = element true None []
formula_step (DraftFormula-F.Connective operator min max arguments) =
    element (has_arity operator min max (length arguments)) None arguments

abbrev pub formula_contents : DraftFormula → Contents
formula_contents = fold-DraftFormula Contents formula_step

abbrev pub expression_step : DraftExpression-F Contents → Contents
expression_step (DraftExpression-F.Number decimal) = element true None []
expression_step (DraftExpression-F.Parameter reference) = element true (Some reference) []
expression_step DraftExpression-F.MissionTime = element true None []
expression_step (DraftExpression-F.Operation operator arguments) =
    element (has_operands operator (length arguments)) None arguments

abbrev pub expression_contents : DraftExpression → Contents
expression_contents = fold-DraftExpression Contents expression_step

abbrev pub test_contents_step : DraftTest-F Contents → Contents
test_contents_step (DraftTest-F.Initiating reference) = element true (Some reference) []
test_contents_step (DraftTest-F.Functional name state) = element true (Some name) []
test_contents_step (DraftTest-F.All tests) = element (nat_le 1 (length tests)) None tests
test_contents_step (DraftTest-F.Any tests) = element (nat_le 1 (length tests)) None tests
test_contents_step (DraftTest-F.Not tests) = element (length tests == 1) None tests

abbrev pub test_contents : DraftTest → Contents
test_contents = fold-DraftTest Contents test_contents_step

-- an element that collects a formula
abbrev pub collecting : Contents → Contents
collecting formula = record (element true None (formula ∷ [])) { formulas = 1 }

abbrev pub instruction_step : DraftInstruction-F Contents → Contents
instruction_step (DraftInstruction-F.Collect formula) = collecting (formula_contents formula)
instruction_step (DraftInstruction-F.SetHouse reference state) = element true (Some reference) []
instruction_step (DraftInstruction-F.Block inside) = element true None inside
instruction_step (DraftInstruction-F.Rule reference) = element true (Some reference) []
instruction_step (DraftInstruction-F.If test first second) =
    element (length first == 1 && nat_le (length second) 1) None (test_contents test ∷ first ++ second)

abbrev pub instruction_contents : DraftInstruction → Contents
instruction_contents = fold-DraftInstruction Contents instruction_step

-- a path of a fork is an element with what stands on it
abbrev pub path_contents : (DraftBranch → Contents) → DraftForkPath → Contents
path_contents below path = record (element true None (below path.branch ∷ [])) {
  paths = path_position path ∷ (below path.branch).paths;
}

abbrev pub end_contents : (DraftBranch → Contents) → DraftBranchEnd-F DraftBranchEnd DraftBranch DraftForkPath → Contents
end_contents below (DraftBranchEnd-F.Fork reference paths) = element true (Some reference) (map (path_contents below) paths)
end_contents below (DraftBranchEnd-F.Sequence reference) = element true (Some reference) []
end_contents below (DraftBranchEnd-F.Branch reference) = element true (Some reference) []

-- nothing is right of what is nested too deep
abbrev pub too_deep : Contents
too_deep = record { nesting = 0; has_numbers = false; references = []; paths = []; formulas = 0 }

-- of a branch in which at most so many branches stand in one another
unfoldable pub branch_contents : ℕ → DraftBranch → Contents
branch_contents zero branch = too_deep
branch_contents (suc levels) branch =
    together (map instruction_contents branch.instructions
    ++ end_contents (λ b. branch_contents levels b) (out-DraftBranchEnd branch.end) ∷ [])

abbrev pub some_reference : Option DraftReference → Contents
some_reference reference = record (together []) { references = option_to_list reference }

abbrev pub body_contents : DraftBody → Contents
body_contents body.Nothing = together []
body_contents (body.Formula formula) = formula_contents formula
body_contents (body.Value value) = together (map expression_contents (option_to_list value))
body_contents (body.State state) = together []
body_contents (body.Group group) =
    together (map (λ member. some_reference (Some member)) group.members
    ++ expression_contents group.distribution ∷ map (λ factor. expression_contents factor.expression) group.factors)
body_contents (body.Start reference) = some_reference reference
body_contents (body.Steps instructions link) = together (map instruction_contents instructions ++ some_reference link ∷ [])
body_contents (body.Walk branch) = branch_contents MAX_NESTING branch

-- what stands in the bodies of a draft
abbrev pub contents_of : Draft → Contents
contents_of draft = together (map (λ definition. body_contents definition.body) draft.definitions)

-- ---- bodies and containers

-- a body is that of its kind
abbrev pub has_body : DefinitionKind → DraftBody → Bool
has_body kind.FaultTree body.Nothing = true
has_body kind.Component body.Nothing = true
has_body kind.FunctionalEvent body.Nothing = true
has_body kind.Gate (body.Formula formula) = true
has_body kind.BasicEvent (body.Value value) = true
has_body kind.HouseEvent (body.State state) = true
has_body kind.Parameter (body.Value (Some value)) = true
has_body kind.Group (body.Group group) = true
has_body kind.InitiatingEvent (body.Start reference) = true
has_body kind.EventTree (body.Walk branch) = true
has_body kind.Branch (body.Walk branch) = true
has_body kind.Sequence (body.Steps instructions link) = true
has_body kind.Rule (body.Steps instructions None) = true
has_body _ _ = false

-- two lists of texts are the same
abbrev pub same_texts : List Text → List Text → Bool
same_texts [] [] = true
same_texts (x ∷ xs) (y ∷ ys) = bytes_eq x y && same_texts xs ys
same_texts _ _ = false

abbrev pub is_fault_tree : DefinitionKind → Bool
is_fault_tree kind.FaultTree = true
is_fault_tree _ = false

-- a definition of an event tree
abbrev pub is_event_tree : DefinitionKind → Bool
is_event_tree kind.EventTree = true
is_event_tree _ = false

abbrev pub is_component : DefinitionKind → Bool
is_component kind.Component = true
is_component _ = false

-- These names are those of a fault tree and of components directly inside one another, each defined before.
abbrev pub names_container : List DraftDefinition → List Text → Bool
names_container before [] = false
names_container before (tree ∷ []) = list_any (λ one. is_fault_tree one.kind && bytes_eq one.name tree) before
names_container before (tree ∷ part ∷ parts) =
    list_any (λ one. is_component one.kind && same_texts (one.container ++ one.name ∷ []) (tree ∷ part ∷ parts)) before

-- this is the name of an event tree defined before
abbrev pub names_event_tree : List DraftDefinition → List Text → Bool
names_event_tree before (tree ∷ []) = list_any (λ one. is_event_tree one.kind && bytes_eq one.name tree) before
names_event_tree before _ = false

-- What stands in a fault tree or an event tree names one, and so does whatever has a container at all.
abbrev pub has_container : List DraftDefinition → DefinitionKind → List Text → Bool
has_container before kind.Gate around = names_container before around
has_container before kind.Component around = names_container before around
has_container before kind.FunctionalEvent around = names_event_tree before around
has_container before kind.Sequence around = names_event_tree before around
has_container before kind.Branch around = names_event_tree before around
has_container before _ [] = true
has_container before _ around = names_container before around || names_event_tree before around

-- each of some definitions has its container among those before it
abbrev pub have_containers : List DraftDefinition → List DraftDefinition → Bool
have_containers before [] = true
have_containers before (one ∷ more) =
    has_container before one.kind one.container && have_containers (before ++ one ∷ []) more

-- ---- positions and size

-- a position is before another: by file, then by tag
abbrev pub stands_before : Position → Position → Bool
stands_before one other = nat_lt one.file other.file || (one.file == other.file && nat_lt one.tag other.tag)

abbrev pub are_ascending : List Position → Bool
are_ascending [] = true
are_ascending (one ∷ []) = true
are_ascending (one ∷ other ∷ more) = stands_before one other && are_ascending (other ∷ more)

-- two positions are the same
abbrev pub same_position : Position → Position → Bool
same_position one other = one.file == other.file && one.tag == other.tag

abbrev pub are_apart : List Position → Bool
are_apart [] = true
are_apart (one ∷ more) = not (list_any (same_position one) more) && are_apart more

abbrev pub member_count : DraftBody → ℕ
member_count (body.Group group) = length group.members
member_count _ = 0

-- the number of definitions, group members and collected formulas
abbrev pub draft_size : Draft → ℕ
draft_size draft =
    length draft.definitions + sum (map (λ definition. member_count definition.body) draft.definitions) + (contents_of draft).formulas

-- ---- the promise

pub record IsDraft (draft : Draft) : Type 0 where
  pub bodies : All (λ definition. has_body definition.kind definition.body ≡ true) draft.definitions
  pub containers : have_containers [] draft.definitions ≡ true
  pub numbers : (contents_of draft).has_numbers ≡ true
  pub shallow : (contents_of draft).nesting ≤ MAX_NESTING
  pub ascending : are_ascending (map position_of draft.definitions) ≡ true
  pub references_apart : are_apart (map reference_position (contents_of draft).references) ≡ true
  pub definitions_apart : are_apart (map position_of draft.definitions ++ (contents_of draft).paths) ≡ true
  pub few : draft_size draft ≤ MAX_SIZE
