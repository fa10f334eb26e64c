-- The model of a draft without a fault of names: each name is replaced by the place of what it stands for, and the name
-- of each private gate, event and parameter by its path. All lists are in document order. (This project's own.)
use Rattle.std.specs.Prelude.{◌==◌, ℕ, Bool, false, List, [], ◌∷◌, ◌++◌, Option, None, map, length, filter, filter_map, flat_map, ◌&&◌, not, if◌then◌else◌}
use Rattle.std.specs.List.{list_any, enumerate_from, range_with_len, join_by}
use Rattle.std.specs.Option.{option_map, unwrap_or}
use Rattle.psa_model.specs.PathNames.{Text, dot}
use Rattle.psa_model.specs.declared.formula.Formula.{Formula}
use Rattle.psa_model.specs.declared.formula.Formula.TheVariants as formula
use Rattle.psa_model.specs.declared.expression.Expression.{Expression}
use Rattle.psa_model.specs.declared.expression.Expression.TheVariants as expression
use Rattle.psa_model.specs.declared.walks.Instruction.{Instruction}
use Rattle.psa_model.specs.declared.walks.Branch.{Branch}
use Rattle.psa_model.specs.declared.model.Model.{Model}
use Rattle.psa_model.specs.declared.model.Gate.{Gate}
use Rattle.psa_model.specs.declared.model.BasicEvent.{BasicEvent}
use Rattle.psa_model.specs.declared.model.Group.{Group}
use Rattle.psa_model.specs.declared.model.Factor.{Factor}
use Rattle.psa_model.specs.declared.model.Valued.{Valued}
use Rattle.psa_model.specs.declared.model.Valued.TheVariants as valued
use Rattle.psa_model.specs.declared.model.GroupModel.TheVariants.{Beta}
use Rattle.psa_model.specs.declared.draft.Draft.{Draft}
use Rattle.psa_model.specs.declared.draft.DefinitionKind.{DefinitionKind}
use Rattle.psa_model.specs.declared.draft.DefinitionKind.TheVariants as kind
use Rattle.psa_model.specs.declared.draft.DraftBody.{DraftBody}
use Rattle.psa_model.specs.declared.draft.DraftBody.TheVariants as body
use Rattle.psa_model.specs.declared.draft.DraftReference.{DraftReference}
use Rattle.psa_model.specs.declared.draft.DraftFactor.{DraftFactor}
use Rattle.psa_model.specs.declared.draft.DraftInstruction.{DraftInstruction}
use Rattle.psa_model.specs.declared.limits.TheConstants.{MAX_NESTING, MAX_MEMBERS}
use Rattle.psa_names.specs.Outlines.{event_tree, Entry, Entries, entries_of}
use Rattle.psa_names.specs.NameSpaces.{family_of, is_scoped}
use Rattle.psa_names.specs.Meanings.{definition, members_of, defined_by_group, meaning_of_event}
use Rattle.psa_names.specs.Ids.{is_kind, all_of_kind, id_of, basic_id, tree_id, referred_id}
use Rattle.psa_names.specs.Resolved.{resolved_formula, resolved_expression}
use Rattle.psa_names.specs.Collected.{collected_in, by_contents, collected_before, resolved_instructions, no_branch, resolved_branch}

-- the name in the model: of a private gate, event or parameter its path
abbrev pub model_name : Entry → Text
model_name one =
    if one.private && is_scoped (family_of one.kind)
    then join_by (λ part. part) (dot ∷ []) (one.container ++ one.name ∷ [])
    else one.name

-- ---- what a definition says in the model

-- the formula of a gate's definition
abbrev pub formula_in : Entries → Entry → Formula
formula_in entries one = of_body one.body
  where
    of_body : DraftBody → Formula
    of_body (body.Formula its) = resolved_formula entries one its
    of_body _ = formula.Constant false

-- the expression of a definition, where it has one
abbrev pub expression_in : Entries → Entry → Option Expression
expression_in entries one = of_body one.body
  where
    of_body : DraftBody → Option Expression
    of_body (body.Value its) = option_map (resolved_expression entries one) its
    of_body _ = None

-- the state of a house event's definition
abbrev pub state_in : DraftBody → Bool
state_in (body.State state) = state
state_in _ = false

-- the instructions of a definition's body
abbrev pub steps_in : DraftBody → List DraftInstruction
steps_in (body.Steps instructions link) = instructions
steps_in _ = []

-- the instructions of a definition with their names found
abbrev pub instructions_in : Entries → Entry → List Instruction
instructions_in entries one = resolved_instructions entries one (collected_before entries one) (steps_in one.body)

-- the branch of a definition with its names found
abbrev pub branch_in : Entries → Entry → Branch
branch_in entries one = of_body one.body
  where
    of_body : DraftBody → Branch
    of_body (body.Walk its) = resolved_branch MAX_NESTING entries one (collected_before entries one) its
    of_body _ = no_branch

-- the link of a definition, where it has one
abbrev pub link_in : DraftBody → Option DraftReference
link_in (body.Steps instructions link) = link
link_in (body.Start tree) = tree
link_in _ = None

-- the event tree of an initiating event, or that which a sequence links to
abbrev pub linked_id : Entries → Entry → Option ℕ
linked_id entries one = option_map (referred_id kind.EventTree event_tree entries one) (link_in one.body)

-- ---- gates and events

-- the gate of an entry
abbrev pub gate_of : Entries → ℕ × Entry → Gate
gate_of entries one = record {
  name = model_name one.1;
  place = one.1.place;
  tree = record { 0 = tree_id kind.FaultTree entries one.1.container };
  formula = formula_in entries one.1;
}

-- the basic events that a group defines
abbrev pub defined_basics : Entries → Entry → List BasicEvent
defined_basics entries group =
    map (λ name. record { name = name; place = group.place; expression = None }) (defined_by_group entries group)

-- the basic events of a definition: itself, or those that a group defines
abbrev pub basics_of : Entries → Entry → List BasicEvent
basics_of entries one =
    if is_kind kind.BasicEvent one
    then record { name = model_name one; place = one.place; expression = expression_in entries one } ∷ []
    else if is_kind kind.Group one then defined_basics entries one
    else []

-- ---- groups

-- the numbers of a group's members among basic events
abbrev pub member_ids : Entries → Entry → List ℕ
member_ids entries group =
    filter_map (λ member. option_map (basic_id entries) (meaning_of_event entries group.container member.name))
    (members_of group.body)

-- a beta factor without a level has the number of members
abbrev pub factor_of : Entries → Entry → ℕ → DraftFactor → Factor
factor_of entries group members factor =
    record { level = unwrap_or factor.level members; expression = resolved_expression entries group factor.expression }

-- factors in the order of their levels
abbrev pub by_level : List Factor → List Factor
by_level factors = flat_map (λ level. filter (λ factor. factor.level == level) factors) (range_with_len 1 MAX_MEMBERS)

-- the group of an entry
abbrev pub group_of : Entries → Entry → Group
group_of entries one = of_body one.body
  where
    of_body : DraftBody → Group
    of_body (body.Group group) = record {
      name = one.name;
      place = one.place;
      model = group.model;
      members = map (λ id. record { 0 = id }) (member_ids entries one);
      distribution = resolved_expression entries one group.distribution;
      factors = by_level (map (factor_of entries one (length group.members)) group.factors);
    }
    of_body _ = record {
      name = one.name;
      place = one.place;
      model = Beta;
      members = [];
      distribution = expression.MissionTime;
      factors = [];
    }

-- a basic event is a member of some group
abbrev pub is_member : Entries → ℕ → Bool
is_member entries id =
    list_any (λ group. list_any (λ member. member == id) (member_ids entries group.1)) (all_of_kind kind.Group entries)

-- in the order of values: groups, and basic events that are no members
abbrev pub valued_at : Entries → ℕ × Entry → List Valued
valued_at entries one =
    if is_kind kind.Group one.1 then valued.Group (record { 0 = id_of kind.Group entries one.0 }) ∷ []
    else if is_kind kind.BasicEvent one.1 && not (is_member entries (basic_id entries (definition one.0)))
    then valued.Basic (record { 0 = basic_id entries (definition one.0) }) ∷ []
    else []

-- ---- the lists

-- what is made of each definition of a kind, in document order
abbrev pub each_of_kind : {A : Type 0} → DefinitionKind → Entries → (Entry → A) → List A
each_of_kind its entries make = map (λ one. make one.1) (all_of_kind its entries)

-- the model of a draft's entries
abbrev pub model_from : Entries → Model
model_from entries = record {
  gates = map (gate_of entries) (all_of_kind kind.Gate entries);
  basics = flat_map (basics_of entries) entries;
  houses = each_of_kind kind.HouseEvent entries (λ one. record {
    name = model_name one;
    place = one.place;
    state = state_in one.body;
  });
  parameters = each_of_kind kind.Parameter entries (λ one. record {
    name = model_name one;
    place = one.place;
    expression = unwrap_or (expression_in entries one) expression.MissionTime;
  });
  fault_trees = each_of_kind kind.FaultTree entries (λ one. record { name = one.name; place = one.place });
  groups = each_of_kind kind.Group entries (group_of entries);
  rules = each_of_kind kind.Rule entries (λ one. record {
    name = one.name;
    place = one.place;
    instructions = instructions_in entries one;
  });
  event_trees = each_of_kind kind.EventTree entries (λ one. record {
    name = one.name;
    place = one.place;
    start = branch_in entries one;
  });
  functionals = each_of_kind kind.FunctionalEvent entries (λ one. record {
    name = one.name;
    place = one.place;
    tree = record { 0 = tree_id kind.EventTree entries one.container };
  });
  sequences = each_of_kind kind.Sequence entries (λ one. record {
    name = one.name;
    place = one.place;
    tree = record { 0 = tree_id kind.EventTree entries one.container };
    instructions = instructions_in entries one;
    link = option_map (λ id. record { 0 = id }) (linked_id entries one);
  });
  branches = each_of_kind kind.Branch entries (λ one. record {
    name = one.name;
    place = one.place;
    tree = record { 0 = tree_id kind.EventTree entries one.container };
    branch = branch_in entries one;
  });
  initiatings = each_of_kind kind.InitiatingEvent entries (λ one. record {
    name = one.name;
    place = one.place;
    tree = option_map (λ id. record { 0 = id }) (linked_id entries one);
  });
  formulas = flat_map (λ one. map (resolved_formula entries one) (collected_in one.body)) (by_contents entries);
  order = flat_map (valued_at entries) (enumerate_from 0 entries);
}

-- the model of a draft
abbrev pub model_of : Draft → Model
model_of draft = model_from (entries_of draft)
