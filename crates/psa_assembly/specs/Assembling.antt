-- The lists of the model, a definition at a time. (This project's own.)
use Rattle.std.specs.Prelude.{◌≡◌, ◌<◌, ◌^◌, ℕ, true, List, [], ◌∷◌, ◌++◌, Option, map, take, drop, is_some, if◌then◌else◌}
use Rattle.std.specs.List.{flat_map, list_all}
use Rattle.psa_model.specs.declared.model.Model.{Model}
use Rattle.psa_model.specs.declared.formula.Formula.{Formula}
use Rattle.psa_model.specs.declared.draft.DefinitionKind.{DefinitionKind}
use Rattle.psa_model.specs.declared.draft.DefinitionKind.TheVariants as kind
use Rattle.psa_model.specs.declared.draft.DraftDefinition.{DraftDefinition}
use Rattle.psa_model.specs.Drafts.{body_contents, has_body, member_count}
use Rattle.psa_names.specs.Outlines.{Entry, Entries}
use Rattle.psa_names.specs.Meanings.{Meaning, meaning_of}
use Rattle.psa_names.specs.GroupRules.{meanings_of_members}
use Rattle.psa_names.specs.Chains.{references_of}
use Rattle.psa_names.specs.Found.{meaning_of_sense}
use Rattle.psa_names.specs.Ids.{is_kind}
use Rattle.psa_names.specs.Resolved.{resolved_formula}
use Rattle.psa_names.specs.Collected.{collected_in}
use Rattle.psa_names.specs.ModelOfDraft.{gate_of, basics_of, group_of}
use Rattle.psa_assembly.specs.declared.assembly.Assembly.{Assembly}
use Rattle.psa_bodies.specs.Made.{house_of, parameter_of, fault_tree_of, functional_of, initiating_of}
use Rattle.psa_bodies.specs.MadeWalks.{rule_of, sequence_of, event_tree_of, named_branch_of}

-- what is promised of a definition of a draft
pub record IsPromised (definition : DraftDefinition) : Type 0 where
  pub body : has_body definition.kind definition.body ≡ true
  pub numbers : (body_contents definition.body).has_numbers ≡ true
  pub few : member_count definition.body < 2 ^ 32

abbrev pub only_of : {A : Type 0} → DefinitionKind → Entry → A → List A
only_of its one made = if is_kind its one then made ∷ [] else []

-- no definitions
abbrev pub no_lists : Model
no_lists = record {
  gates = [];
  basics = [];
  houses = [];
  parameters = [];
  fault_trees = [];
  groups = [];
  rules = [];
  event_trees = [];
  functionals = [];
  sequences = [];
  branches = [];
  initiatings = [];
  formulas = [];
  order = [];
}

-- what a definition adds to the lists that follow the definitions
abbrev pub lists_of : Entries → Entry → Model
lists_of entries one = record {
  gates = only_of kind.Gate one (gate_of entries (0, one));
  basics = basics_of entries one;
  houses = only_of kind.HouseEvent one (house_of one);
  parameters = only_of kind.Parameter one (parameter_of entries one);
  fault_trees = only_of kind.FaultTree one (fault_tree_of one);
  groups = only_of kind.Group one (group_of entries one);
  rules = only_of kind.Rule one (rule_of entries one);
  event_trees = only_of kind.EventTree one (event_tree_of entries one);
  functionals = only_of kind.FunctionalEvent one (functional_of entries one);
  sequences = only_of kind.Sequence one (sequence_of entries one);
  branches = only_of kind.Branch one (named_branch_of entries one);
  initiatings = only_of kind.InitiatingEvent one (initiating_of entries one);
  formulas = [];
  order = [];
}

-- these lists behind those of a model
abbrev pub with_lists : Model → Model → Model
with_lists model more = record {
  gates = model.gates ++ more.gates;
  basics = model.basics ++ more.basics;
  houses = model.houses ++ more.houses;
  parameters = model.parameters ++ more.parameters;
  fault_trees = model.fault_trees ++ more.fault_trees;
  groups = model.groups ++ more.groups;
  rules = model.rules ++ more.rules;
  event_trees = model.event_trees ++ more.event_trees;
  functionals = model.functionals ++ more.functionals;
  sequences = model.sequences ++ more.sequences;
  branches = model.branches ++ more.branches;
  initiatings = model.initiatings ++ more.initiatings;
  formulas = model.formulas;
  order = model.order;
}

-- these definitions' lists one after another
abbrev pub joined_lists : Entries → Entries → Model
joined_lists entries some = record {
  gates = flat_map (λ one. (lists_of entries one).gates) some;
  basics = flat_map (λ one. (lists_of entries one).basics) some;
  houses = flat_map (λ one. (lists_of entries one).houses) some;
  parameters = flat_map (λ one. (lists_of entries one).parameters) some;
  fault_trees = flat_map (λ one. (lists_of entries one).fault_trees) some;
  groups = flat_map (λ one. (lists_of entries one).groups) some;
  rules = flat_map (λ one. (lists_of entries one).rules) some;
  event_trees = flat_map (λ one. (lists_of entries one).event_trees) some;
  functionals = flat_map (λ one. (lists_of entries one).functionals) some;
  sequences = flat_map (λ one. (lists_of entries one).sequences) some;
  branches = flat_map (λ one. (lists_of entries one).branches) some;
  initiatings = flat_map (λ one. (lists_of entries one).initiatings) some;
  formulas = [];
  order = [];
}

-- the formulas that a definition collects
abbrev pub formulas_of : Entries → Entry → List Formula
formulas_of entries one = map (resolved_formula entries one) (collected_in one.body)

-- the next senses are those of the references and members of a definition, and each member stands for something
pub record IsNext (entries : Entries) (one : Entry) (assembly : Assembly) : Type 0 where
  pub later : List (Option Meaning)
  pub others : List (Option Meaning)
  pub references : map (meaning_of_sense entries) assembly.references ≡ map (meaning_of entries one) (references_of one) ++ later
  pub members : map (meaning_of_sense entries) assembly.members ≡ meanings_of_members entries one ++ others
  pub known : list_all is_some (meanings_of_members entries one) ≡ true

-- the lists of a definition are added, and the senses of its references and members are read
pub record Adds (entries : Entries) (one : Entry) (old new : Assembly) : Type 0 where
  pub model : new.model ≡ with_lists old.model (lists_of entries one)
  pub references : map (meaning_of_sense entries) old.references ≡ map (meaning_of entries one) (references_of one) ++ map (meaning_of_sense entries) new.references
  pub members : map (meaning_of_sense entries) old.members ≡ meanings_of_members entries one ++ map (meaning_of_sense entries) new.members

-- what the references of a definition stand for
abbrev pub meanings_in : Entries → Entry → List (Option Meaning)
meanings_in entries one = map (meaning_of entries one) (references_of one)

-- the first definitions are in the lists, with the formulas that each collects, and the next senses are those of the others
pub record AreAssembled (entries : Entries) (i : ℕ) (assembly : Assembly) (lists : List (List Formula)) : Type 0 where
  pub model : assembly.model ≡ joined_lists entries (take i entries)
  pub lists_are : lists ≡ map (formulas_of entries) (take i entries)
  pub references : map (meaning_of_sense entries) assembly.references ≡ flat_map (meanings_in entries) (drop i entries)
  pub members : map (meaning_of_sense entries) assembly.members ≡ flat_map (meanings_of_members entries) (drop i entries)
