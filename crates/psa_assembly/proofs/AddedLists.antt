-- The lists that a group adds.
use Rattle.std.proofs.Common.{◌≡◌, true, List, [], ◌∷◌, ◌++◌, map, refl, ap, sym, ◌∙◌, eqb, if◌then◌else◌}
use Rattle.std.proofs.lemmas.Bool.{false≢true}
use Rattle.std.proofs.lemmas.List.{append-nil}
use Rattle.psa_model.specs.PathNames.{Text}
use Rattle.psa_model.specs.Drafts.{has_body}
use Rattle.psa_model.specs.declared.model.Model.{Model}
use Rattle.psa_model.specs.declared.model.Group.{Group}
use Rattle.psa_model.specs.declared.model.BasicEvent.{BasicEvent}
use Rattle.psa_model.specs.declared.draft.DraftGroup.{DraftGroup}
use Rattle.psa_model.specs.declared.draft.DraftBody.TheVariants as body
use Rattle.psa_model.specs.declared.draft.DefinitionKind.{DefinitionKind}
use Rattle.psa_model.specs.declared.draft.DefinitionKind.TheVariants as kind
use Rattle.psa_names.specs.Outlines.{Entry, Entries}
use Rattle.psa_names.specs.Meanings.{defined_by_group}
use Rattle.psa_names.specs.Ids.{kind_number}
use Rattle.psa_names.specs.ModelOfDraft.{model_name, expression_in, gate_of, group_of, basics_of, defined_basics}
use Rattle.psa_bodies.specs.Made.{house_of, parameter_of, fault_tree_of, functional_of, initiating_of}
use Rattle.psa_bodies.specs.MadeWalks.{rule_of, sequence_of, event_tree_of, named_branch_of}
use Rattle.psa_assembly.specs.Assembling.{lists_of, with_lists}
use Rattle.psa_assembly.specs.Groups.{event_of_group}

-- a model with other basic events and groups
abbrev pub model_with : Model → List BasicEvent → List Group → Model
model_with model basics groups = record {
  gates = model.gates;
  basics = basics;
  houses = model.houses;
  parameters = model.parameters;
  fault_trees = model.fault_trees;
  groups = groups;
  rules = model.rules;
  event_trees = model.event_trees;
  functionals = model.functionals;
  sequences = model.sequences;
  branches = model.branches;
  initiatings = model.initiatings;
  formulas = model.formulas;
  order = model.order;
}

abbrev only_by : {A : Type 0} → DefinitionKind → DefinitionKind → A → List A
only_by its own made = if eqb (kind_number own) (kind_number its) then made ∷ [] else []

-- what a definition of a kind adds
abbrev lists_by : DefinitionKind → Entries → Entry → List BasicEvent → Model
lists_by own entries one basics = record {
  gates = only_by kind.Gate own (gate_of entries (0, one));
  basics = basics;
  houses = only_by kind.HouseEvent own (house_of one);
  parameters = only_by kind.Parameter own (parameter_of entries one);
  fault_trees = only_by kind.FaultTree own (fault_tree_of one);
  groups = only_by kind.Group own (group_of entries one);
  rules = only_by kind.Rule own (rule_of entries one);
  event_trees = only_by kind.EventTree own (event_tree_of entries one);
  functionals = only_by kind.FunctionalEvent own (functional_of entries one);
  sequences = only_by kind.Sequence own (sequence_of entries one);
  branches = only_by kind.Branch own (named_branch_of entries one);
  initiatings = only_by kind.InitiatingEvent own (initiating_of entries one);
  formulas = [];
  order = [];
}

abbrev basics_by : DefinitionKind → Entries → Entry → List BasicEvent
basics_by own entries one =
    if eqb (kind_number own) 2
    then record { name = model_name one; place = one.place; expression = expression_in entries one } ∷ []
    else if eqb (kind_number own) 5 then defined_basics entries one
    else []

-- a group adds itself and the basic events that it defines
pub group-added : (entries : Entries) (one : Entry) (model : Model) (basics : List BasicEvent) (groups : List Group) (names : List Text) (made : Group) → one.kind ≡ kind.Group → names ≡ defined_by_group entries one → basics ≡ model.basics ++ map (event_of_group one.place) names → made ≡ group_of entries one → groups ≡ model.groups ++ made ∷ [] → model_with model basics groups ≡ with_lists model (lists_of entries one)
group-added entries one model basics groups names made is defined events its pushed =
    let own : basics_of entries one ≡ defined_basics entries one = ap (λ k. basics_by k entries one) is in
    let all : basics ≡ model.basics ++ basics_of entries one = events ∙ ap (λ ns. model.basics ++ map (event_of_group one.place) ns) defined ∙ ap (λ bs. model.basics ++ bs) (sym own) in
    let both : groups ≡ model.groups ++ group_of entries one ∷ [] = pushed ∙ ap (λ g. model.groups ++ g ∷ []) its in
    ap (λ bs. model_with model bs groups) all
    ∙ ap (model_with model (model.basics ++ basics_of entries one)) both
    ∙ behind (basics_of entries one)
    ∙ ap (λ k. with_lists model (lists_by k entries one (basics_of entries one))) (sym is)
  where
    behind : (bs : List BasicEvent) → model_with model (model.basics ++ bs) (model.groups ++ group_of entries one ∷ []) ≡ with_lists model (lists_by kind.Group entries one bs)
    behind bs = simp append-nil

-- the kind of a group
pub group-kind : (its : DefinitionKind) (group : DraftGroup) → has_body its (body.Group group) ≡ true → its ≡ kind.Group
group-kind kind.Group group is = refl
group-kind kind.FaultTree group is = absurd (false≢true is)
group-kind kind.Gate group is = absurd (false≢true is)
group-kind kind.BasicEvent group is = absurd (false≢true is)
group-kind kind.HouseEvent group is = absurd (false≢true is)
group-kind kind.Parameter group is = absurd (false≢true is)
group-kind kind.InitiatingEvent group is = absurd (false≢true is)
group-kind kind.EventTree group is = absurd (false≢true is)
group-kind kind.FunctionalEvent group is = absurd (false≢true is)
group-kind kind.Sequence group is = absurd (false≢true is)
group-kind kind.Branch group is = absurd (false≢true is)
group-kind kind.Rule group is = absurd (false≢true is)
group-kind kind.Component group is = absurd (false≢true is)
