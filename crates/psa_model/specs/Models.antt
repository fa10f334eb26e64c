-- What is promised of a model whose names are resolved: its references stand, no chain of them leads back or is too
-- deep, numbers of arguments and nesting are those of its draft, and its groups are right; and, beside it, the limit of
-- its size.
-- The models of common cause groups and their levels are those of the Open-PSA Model Exchange Format 2.0d; their sizes,
-- the order and the limits are this project's own.
use Rattle.std.specs.Prelude.{◌≡◌, ◌==◌, ◌+◌, ◌-◌, ◌≤◌, ◌<◌, ℕ, zero, suc, Bool, true, false, List, [], ◌∷◌, ◌++◌, Option, None, Some, All, IfSome, is_none, length, map, max, sum, filter, flat_map, nat_le, ◌&&◌, not}
use Rattle.std.specs.List.{slice_get, list_all, list_any, filter_map, range_with_len}
use Rattle.psa_model.specs.declared.expression.Expression.{Expression}
use Rattle.psa_model.specs.declared.expression.Expression.TheOpen.{Expression-F}
use Rattle.psa_model.specs.declared.expression.Expression.TheFolds.{fold-Expression}
use Rattle.psa_model.specs.declared.formula.Formula.{Formula}
use Rattle.psa_model.specs.declared.formula.Formula.TheOpen.{Formula-F}
use Rattle.psa_model.specs.declared.formula.Formula.TheFolds.{fold-Formula}
use Rattle.psa_model.specs.declared.ids.Place.{Place}
use Rattle.psa_model.specs.declared.ids.TreeId.{TreeId}
use Rattle.psa_model.specs.declared.limits.TheConstants.{MIN_MEMBERS, MAX_MEMBERS, MAX_NESTING, MAX_SIZE}
use Rattle.psa_model.specs.declared.model.TheConstants.{MAX_DEPTH}
use Rattle.psa_model.specs.declared.model.BasicEvent.{BasicEvent}
use Rattle.psa_model.specs.declared.model.Group.{Group}
use Rattle.psa_model.specs.declared.model.GroupModel.{GroupModel}
use Rattle.psa_model.specs.declared.model.GroupModel.TheVariants.{Beta, Mgl, Alpha}
use Rattle.psa_model.specs.declared.model.Model.{Model}
use Rattle.psa_model.specs.declared.model.Sequence.{Sequence}
use Rattle.psa_model.specs.declared.model.Valued.{Valued}
use Rattle.psa_model.specs.declared.model.Valued.TheVariants as valued
use Rattle.psa_model.specs.declared.walks.Branch.{Branch}
use Rattle.psa_model.specs.declared.walks.BranchEnd.{BranchEnd}
use Rattle.psa_model.specs.declared.walks.BranchEnd.TheOpen.{BranchEnd-F}
use Rattle.psa_model.specs.declared.walks.BranchEnd.TheViews.{out-BranchEnd}
use Rattle.psa_model.specs.declared.walks.ForkPath.{ForkPath}
use Rattle.psa_model.specs.declared.walks.Instruction.{Instruction}
use Rattle.psa_model.specs.declared.walks.Instruction.TheOpen.{Instruction-F}
use Rattle.psa_model.specs.declared.walks.Instruction.TheFolds.{fold-Instruction}
use Rattle.psa_model.specs.declared.walks.Test.{Test}
use Rattle.psa_model.specs.declared.walks.Test.TheOpen.{Test-F}
use Rattle.psa_model.specs.declared.walks.Test.TheFolds.{fold-Test}
use Rattle.psa_model.specs.Truth.{IsResolved}
use Rattle.psa_model.specs.Values.{value_within}
use Rattle.psa_model.specs.WalkLevels.{instruction_within, walk_within}

-- ---- nesting

abbrev pub greatest : List ℕ → ℕ
greatest [] = 0
greatest (n ∷ more) = max n (greatest more)

-- how deep the elements of a formula or an expression stand in one another, references not followed
abbrev pub formula_nesting_step : Formula-F ℕ → ℕ
formula_nesting_step (Formula-F.Connective operator least most arguments) = suc (greatest arguments)
formula_nesting_step _ = 1

abbrev pub formula_nesting : Formula → ℕ
formula_nesting = fold-Formula ℕ formula_nesting_step

abbrev pub expression_nesting_step : Expression-F ℕ → ℕ
expression_nesting_step (Expression-F.Operation operator arguments) = suc (greatest arguments)
expression_nesting_step _ = 1

abbrev pub expression_nesting : Expression → ℕ
expression_nesting = fold-Expression ℕ expression_nesting_step

abbrev pub test_nesting_step : Test-F ℕ → ℕ
test_nesting_step (Test-F.All tests) = suc (greatest tests)
test_nesting_step (Test-F.Any tests) = suc (greatest tests)
test_nesting_step (Test-F.Not tests) = suc (greatest tests)
test_nesting_step _ = 1

abbrev pub test_nesting : Test → ℕ
test_nesting = fold-Test ℕ test_nesting_step

abbrev pub instruction_nesting_step : Instruction-F ℕ → ℕ
instruction_nesting_step (Instruction-F.Block inside) = suc (greatest inside)
instruction_nesting_step (Instruction-F.If test first second) = suc (max (test_nesting test) (greatest (first ++ second)))
instruction_nesting_step _ = 1

abbrev pub instruction_nesting : Instruction → ℕ
instruction_nesting = fold-Instruction ℕ instruction_nesting_step

abbrev pub are_nested : ℕ → List Instruction → Bool
are_nested levels instructions = list_all (λ one. nat_le (instruction_nesting one) levels) instructions

-- the elements of a branch stand in one another at most so many deep
abbrev pub end_is_nested : (Branch → Bool) → BranchEnd-F BranchEnd Branch ForkPath → Bool
end_is_nested below (BranchEnd-F.Fork functional paths) = list_all (λ path. below path.branch) paths
end_is_nested below _ = true

unfoldable pub is_nested : ℕ → Branch → Bool
is_nested zero branch = false
is_nested (suc levels) branch =
    are_nested (suc levels) branch.instructions && end_is_nested (λ b. is_nested levels b) (out-BranchEnd branch.end)

pub record IsNested (model : Model) : Type 0 where
  pub gates : All (λ gate. formula_nesting gate.formula ≤ MAX_NESTING) model.gates
  pub formulas : All (λ formula. formula_nesting formula ≤ MAX_NESTING) model.formulas
  pub parameters : All (λ parameter. expression_nesting parameter.expression ≤ MAX_NESTING) model.parameters
  pub rules : All (λ rule. are_nested MAX_NESTING rule.instructions ≡ true) model.rules
  pub sequences : All (λ sequence. are_nested MAX_NESTING sequence.instructions ≡ true) model.sequences
  pub event_trees : All (λ tree. is_nested MAX_NESTING tree.start ≡ true) model.event_trees
  pub branches : All (λ named. is_nested MAX_NESTING named.branch ≡ true) model.branches

-- an expression of an event or a group: nested as a body, and above parameters of the greatest depth
abbrev pub IsValue : Model → Expression → Type 0
IsValue model value = (value_within (MAX_NESTING + MAX_DEPTH) model value ≡ true) × (expression_nesting value ≤ MAX_NESTING)

-- ---- groups

abbrev pub are_different : List ℕ → Bool
are_different [] = true
are_different (x ∷ xs) = not (list_any (λ y. y == x) xs) && are_different xs

-- the levels of the factors of a group of n members
abbrev pub levels_of : GroupModel → ℕ → List ℕ
levels_of Beta n = n ∷ []
levels_of Mgl n = range_with_len 2 (n - 1)
levels_of Alpha n = range_with_len 1 n

-- a basic event that stands and has no expression of its own
abbrev pub is_without_value : Option BasicEvent → Bool
is_without_value None = false
is_without_value (Some basic) = is_none basic.expression

pub record IsGroup (model : Model) (group : Group) : Type 0 where
  pub number : (MIN_MEMBERS ≤ length group.members) × (length group.members ≤ MAX_MEMBERS)
  pub members : All (λ id. is_without_value (slice_get model.basics id.0) ≡ true) group.members
  pub distribution : IsValue model group.distribution
  pub factors : All (λ factor. IsValue model factor.expression) group.factors
  pub levels : map (λ factor. factor.level) group.factors ≡ levels_of group.model (length group.members)

-- the members of all groups
abbrev pub members_of : Model → List ℕ
members_of model = flat_map (λ group. map (λ id. id.0) group.members) model.groups

-- ---- order

abbrev pub basic_in : Valued → Option ℕ
basic_in (valued.Basic id) = Some id.0
basic_in (valued.Group id) = None

abbrev pub group_in : Valued → Option ℕ
group_in (valued.Basic id) = None
group_in (valued.Group id) = Some id.0

-- The basic events that are no members, and the groups, each once, ascending.
pub record IsOrder (model : Model) : Type 0 where
  pub basics : filter_map basic_in model.order ≡ filter (λ id. not (list_any (λ m. m == id) (members_of model))) (range_with_len 0 (length model.basics))
  pub groups : filter_map group_in model.order ≡ range_with_len 0 (length model.groups)

-- ---- size

-- The members that stand on their group's line, as those do that it defines. Which these are a model does not keep: one
-- that is defined beside the group on that line gives the same model.
abbrev pub is_at : Place → Option BasicEvent → Bool
is_at place None = false
is_at place (Some basic) = basic.place.file == place.file && basic.place.line == place.line

abbrev pub defined_by : Model → Group → ℕ
defined_by model group = length (filter (λ id. is_at group.place (slice_get model.basics id.0)) group.members)

abbrev pub defined_members : Model → ℕ
defined_members model = sum (map (defined_by model) model.groups)

-- the number of definitions, group members and collected formulas; a basic event on the line of a group that it is a
-- member of counts as a member alone
abbrev pub model_size : Model → ℕ
model_size model =
    length model.gates + (length model.basics - defined_members model) + length model.houses + length model.parameters
    + length model.fault_trees + length model.groups + length model.rules + length model.event_trees
    + length model.functionals + length model.sequences + length model.branches + length model.initiatings
    + length (members_of model) + length model.formulas

-- the limit of the size where names are resolved; a model with added events may be greater
abbrev pub IsOfSize : Model → Type 0
IsOfSize model = model_size model ≤ MAX_SIZE

-- ---- the promise

-- the event tree with an id
abbrev pub TreeStands : Model → TreeId → Type 0
TreeStands model tree = tree.0 < length model.event_trees

-- a sequence carries out instructions within the levels, and stands in and links to event trees
pub record IsSequence (model : Model) (sequence : Sequence) : Type 0 where
  pub instructions : list_all (instruction_within MAX_DEPTH model) sequence.instructions ≡ true
  pub tree : TreeStands model sequence.tree
  pub link : IfSome sequence.link (TreeStands model)

pub record IsModel (model : Model) : Type 0 where
  pub resolved : IsResolved model
  pub nested : IsNested model
  pub parameters : All (λ parameter. value_within MAX_DEPTH model parameter.expression ≡ true) model.parameters
  pub basics : All (λ basic. IfSome basic.expression (IsValue model)) model.basics
  pub groups : All (IsGroup model) model.groups
  pub apart : are_different (members_of model) ≡ true
  pub order : IsOrder model
  pub rules : All (λ rule. list_all (instruction_within MAX_DEPTH model) rule.instructions ≡ true) model.rules
  pub event_trees : All (λ tree. walk_within MAX_DEPTH model tree.start ≡ true) model.event_trees
  pub functionals : All (λ functional. TreeStands model functional.tree) model.functionals
  pub sequences : All (IsSequence model) model.sequences
  pub branches : All (λ named. (walk_within MAX_DEPTH model named.branch ≡ true) × TreeStands model named.tree) model.branches
  pub initiatings : All (λ initiating. IfSome initiating.tree (TreeStands model)) model.initiatings
