-- The outlines of a definition: the elements in it, each with the name by which it refers to another definition, if
-- any. The checks of references, cycles and depths speak of outlines alone. (This project's own.)
use Rattle.std.specs.Prelude.{ℕ, zero, suc, List, [], ◌∷◌, ◌++◌, Option, Some, None, map, flat_map, if◌then◌else◌}
use Rattle.psa_model.specs.declared.draft.DraftBody.{DraftBody}
use Rattle.psa_model.specs.declared.draft.DraftBody.TheVariants as body
use Rattle.psa_model.specs.declared.draft.DraftDefinition.{DraftDefinition}
use Rattle.psa_model.specs.declared.draft.Draft.{Draft}
use Rattle.psa_model.specs.declared.draft.DraftReference.{DraftReference}
use Rattle.psa_model.specs.declared.draft.EventKind.{EventKind}
use Rattle.psa_model.specs.declared.draft.EventKind.TheVariants as asked
use Rattle.psa_model.specs.declared.draft.DraftFormula.{DraftFormula}
use Rattle.psa_model.specs.declared.draft.DraftFormula.TheOpen.{DraftFormula-F}
use Rattle.psa_model.specs.declared.draft.DraftFormula.TheFolds.{fold-DraftFormula}
use Rattle.psa_model.specs.declared.draft.DraftExpression.{DraftExpression}
use Rattle.psa_model.specs.declared.draft.DraftExpression.TheOpen.{DraftExpression-F}
use Rattle.psa_model.specs.declared.draft.DraftExpression.TheFolds.{fold-DraftExpression}
use Rattle.psa_model.specs.declared.draft.DraftTest.{DraftTest}
use Rattle.psa_model.specs.declared.draft.DraftTest.TheOpen.{DraftTest-F}
use Rattle.psa_model.specs.declared.draft.DraftTest.TheFolds.{fold-DraftTest}
use Rattle.psa_model.specs.declared.draft.DraftInstruction.{DraftInstruction}
use Rattle.psa_model.specs.declared.draft.DraftInstruction.TheOpen.{DraftInstruction-F}
use Rattle.psa_model.specs.declared.draft.DraftInstruction.TheFolds.{fold-DraftInstruction}
use Rattle.psa_model.specs.declared.draft.DraftBranch.{DraftBranch}
use Rattle.psa_model.specs.declared.draft.DraftForkPath.{DraftForkPath}
use Rattle.psa_model.specs.declared.draft.DraftBranchEnd.{DraftBranchEnd, out-DraftBranchEnd}
use Rattle.psa_model.specs.declared.draft.DraftBranchEnd.TheOpen.{DraftBranchEnd-F}
use Rattle.psa_model.specs.declared.draft.DraftGroup.{DraftGroup}
use Rattle.psa_model.specs.Drafts.{is_event_tree}
use Rattle.psa_model.specs.declared.limits.TheConstants.{MAX_NESTING}

-- what a name may stand for
pub data ReferenceKind : Type 0 where
  event : EventKind → ReferenceKind
  parameter event_tree rule sequence branch functional_event initiating_event : ReferenceKind
  -- a functional event of some event tree
  functional_event_anywhere : ReferenceKind

-- a name as it is written, and what it may stand for
pub record Reference : Type 0 where
  pub kind : ReferenceKind
  pub written : DraftReference

mutual
  -- an element of a body, by the reference that it is, if it is one, and by what stands in it
  pub data Outline : Type 0 where
    element : Option Reference → Outlines → Outline

  -- elements one behind the other
  pub data Outlines : Type 0 where
    none : Outlines
    and : Outline → Outlines → Outlines

-- a list of outlines as one
abbrev pub joined : List Outline → Outlines
joined [] = none
joined (one ∷ others) = and one (joined others)

-- an element without a name, with what stands in it
abbrev pub plain : List Outline → Outline
plain inside = element None (joined inside)

-- an element that refers to something
abbrev pub naming : ReferenceKind → DraftReference → List Outline → Outline
naming kind written inside = element (Some (record { kind = kind; written = written })) (joined inside)

-- ---- the outlines of what a definition holds

-- the outline of one element of a formula over those of its arguments
abbrev pub formula_layer : DraftFormula-F Outline → Outline
formula_layer (DraftFormula-F.Event kind name) = naming (event kind) name []
formula_layer (DraftFormula-F.Constant state) = plain []
formula_layer (DraftFormula-F.Connective operator least most arguments) = plain arguments

-- the outline of a formula
abbrev pub formula_outline : DraftFormula → Outline
formula_outline = fold-DraftFormula Outline formula_layer

-- the outline of one element of an expression over those of its arguments
abbrev pub expression_layer : DraftExpression-F Outline → Outline
expression_layer (DraftExpression-F.Number decimal) = plain []
expression_layer (DraftExpression-F.Parameter name) = naming parameter name []
expression_layer DraftExpression-F.MissionTime = plain []
expression_layer (DraftExpression-F.Operation operator arguments) = plain arguments

-- the outline of an expression
abbrev pub expression_outline : DraftExpression → Outline
expression_outline = fold-DraftExpression Outline expression_layer

-- the outline of one test over those inside it
abbrev pub test_layer : DraftTest-F Outline → Outline
test_layer (DraftTest-F.Initiating name) = naming initiating_event name []
test_layer (DraftTest-F.Functional name state) = naming functional_event_anywhere name []
test_layer (DraftTest-F.All tests) = plain tests
test_layer (DraftTest-F.Any tests) = plain tests
test_layer (DraftTest-F.Not tests) = plain tests

-- the outline of a test
abbrev pub test_outline : DraftTest → Outline
test_outline = fold-DraftTest Outline test_layer

-- `set-house-event` holds a `constant`
abbrev pub instruction_layer : DraftInstruction-F Outline → Outline
instruction_layer (DraftInstruction-F.Collect formula) = plain (formula_outline formula ∷ [])
instruction_layer (DraftInstruction-F.SetHouse name state) = naming (event asked.House) name (plain [] ∷ [])
instruction_layer (DraftInstruction-F.Block inside) = plain inside
instruction_layer (DraftInstruction-F.Rule name) = naming rule name []
instruction_layer (DraftInstruction-F.If test first second) = plain (test_outline test ∷ first ++ second)

-- the outline of an instruction
abbrev pub instruction_outline : DraftInstruction → Outline
instruction_outline = fold-DraftInstruction Outline instruction_layer

-- A branch: its instructions, then its end; each path of a fork is an element. By levels, since branches hold forks
-- and forks hold branches.
abbrev pub end_outline : (DraftBranch → List Outline) → DraftBranchEnd-F DraftBranchEnd DraftBranch DraftForkPath → Outline
end_outline below (DraftBranchEnd-F.Fork name paths) =
    naming functional_event name (map (λ path. plain (below path.branch)) paths)
end_outline below (DraftBranchEnd-F.Sequence name) = naming sequence name []
end_outline below (DraftBranchEnd-F.Branch name) = naming branch name []

-- the outlines of a branch, within so many levels: its instructions, then its end
unfoldable pub branch_outlines : ℕ → DraftBranch → List Outline
branch_outlines zero one = []
branch_outlines (suc levels) one =
    map instruction_outline one.instructions
    ++ end_outline (λ below. branch_outlines levels below) (out-DraftBranchEnd one.end) ∷ []

-- the outline of a link
abbrev pub link_outlines : Option DraftReference → List Outline
link_outlines None = []
link_outlines (Some name) = naming event_tree name [] ∷ []

-- the outline of a value, where there is one
abbrev pub value_outlines : Option DraftExpression → List Outline
value_outlines None = []
value_outlines (Some value) = expression_outline value ∷ []

-- the outlines of a group: its distribution and its factors
abbrev pub group_outlines : DraftGroup → List Outline
group_outlines group =
    expression_outline group.distribution ∷ map (λ factor. expression_outline factor.expression) group.factors

-- the outlines of a definition's body
abbrev pub body_outlines : DraftBody → List Outline
body_outlines body.Nothing = []
body_outlines (body.Formula one) = formula_outline one ∷ []
body_outlines (body.Value value) = value_outlines value
body_outlines (body.State state) = []
body_outlines (body.Group group) = group_outlines group
body_outlines (body.Start tree) = link_outlines tree
body_outlines (body.Steps instructions link) = map instruction_outline instructions ++ link_outlines link
body_outlines (body.Walk one) = branch_outlines MAX_NESTING one

-- What stands in a definition. In an event tree that is its initial state, which is an element.
abbrev pub outlines_of : DraftDefinition → List Outline
outlines_of one =
    if is_event_tree one.kind then plain (body_outlines one.body) ∷ [] else body_outlines one.body

-- ---- the states of forks

-- a path of a fork, with its fork
pub record ForkState : Type 0 where
  pub fork : DraftReference
  pub path : DraftForkPath

-- the states of the forks at and below the end of a branch
abbrev pub end_states : (DraftBranch → List ForkState) → DraftBranchEnd-F DraftBranchEnd DraftBranch DraftForkPath → List ForkState
end_states below (DraftBranchEnd-F.Fork name paths) =
    flat_map (λ path. record { fork = name; path = path } ∷ below path.branch) paths
end_states below (DraftBranchEnd-F.Sequence name) = []
end_states below (DraftBranchEnd-F.Branch name) = []

-- the states of the forks of a branch, within so many levels
unfoldable pub branch_states : ℕ → DraftBranch → List ForkState
branch_states zero one = []
branch_states (suc levels) one =
    end_states (λ below. branch_states levels below) (out-DraftBranchEnd one.end)

-- the states of the forks of a definition's body
abbrev pub states_of : DraftBody → List ForkState
states_of (body.Walk one) = branch_states MAX_NESTING one
states_of _ = []

-- A definition with its outlines and the states of the forks in it. All that is said of names is said of these.
pub record Entry : Type 0 where
  pub definition : DraftDefinition
  pub open definition use *
  pub outlines : List Outline
  pub states : List ForkState

-- a definition with its outlines and the states of its forks
abbrev pub entry_of : DraftDefinition → Entry
entry_of one = record { definition = one; outlines = outlines_of one; states = states_of one.body }

-- the definitions of a draft, each with its outlines
abbrev pub Entries : Type 0
Entries = List Entry

-- the entries of a draft
abbrev pub entries_of : Draft → Entries
entries_of draft = map entry_of draft.definitions
