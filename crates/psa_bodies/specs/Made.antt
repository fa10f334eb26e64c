-- What is made of a definition. (This project's own.)
use Rattle.std.specs.Prelude.{◌≡◌, ◌<◌, ◌^◌, ◌++◌, List, Option, map, length}
use Rattle.std.specs.Option.{option_map, unwrap_or}
use Rattle.psa_model.specs.declared.expression.Expression.TheVariants as expression
use Rattle.psa_model.specs.declared.model.House.{House}
use Rattle.psa_model.specs.declared.model.Parameter.{Parameter}
use Rattle.psa_model.specs.declared.model.FaultTree.{FaultTree}
use Rattle.psa_model.specs.declared.model.Functional.{Functional}
use Rattle.psa_model.specs.declared.model.Initiating.{Initiating}
use Rattle.psa_model.specs.declared.draft.DefinitionKind.TheVariants as kind
use Rattle.psa_model.specs.declared.draft.Draft.{Draft}
use Rattle.psa_model.specs.declared.draft.DraftDefinition.{DraftDefinition}
use Rattle.psa_names.specs.declared.found.Sense.{Sense}
use Rattle.psa_names.specs.Outlines.{Entry, Entries, entry_of, entries_of}
use Rattle.psa_names.specs.Meanings.{Meaning, meaning_of}
use Rattle.psa_names.specs.Chains.{references_of}
use Rattle.psa_names.specs.Found.{meaning_of_sense}
use Rattle.psa_names.specs.Ids.{all_of_kind, tree_id}
use Rattle.psa_names.specs.ModelOfDraft.{model_name, expression_in, state_in, linked_id}
use Rattle.psa_bodies.specs.declared.context.Context.{Context}
use Rattle.psa_bodies.specs.Numbering.{AreNumbers}
use Rattle.psa_bodies.specs.Trees.{AreDistinct, places_of}

-- numbers and trees that are those of the draft
pub record IsContext (context : Context) : Type 0 where
  pub numbers : AreNumbers (entries_of context.draft.now) context.numbers.now
  pub fault_trees : context.fault_trees.now ≡ places_of kind.FaultTree (entries_of context.draft.now)
  pub event_trees : context.event_trees.now ≡ places_of kind.EventTree (entries_of context.draft.now)
  pub distinct_fault_trees : AreDistinct (all_of_kind kind.FaultTree (entries_of context.draft.now))
  pub distinct_event_trees : AreDistinct (all_of_kind kind.EventTree (entries_of context.draft.now))
  pub few_fault_trees : length context.fault_trees.now < 2 ^ 32
  pub few_event_trees : length context.event_trees.now < 2 ^ 32

-- Where the senses begin with those of a definition's references, the value was made of the definition, and the senses
-- behind these are left.
pub record IsMade {A : Type 0} (draft : Draft) (definition : DraftDefinition) (senses left : List Sense) (value : Entries → Entry → A) (made : A) : Type 0 where
  pub is : (rest : List (Option Meaning))
      → map (meaning_of_sense (entries_of draft)) senses
      ≡ map (meaning_of (entries_of draft) (entry_of definition)) (references_of (entry_of definition)) ++ rest
      → (made ≡ value (entries_of draft) (entry_of definition)) × (map (meaning_of_sense (entries_of draft)) left ≡ rest)

abbrev pub house_of : Entry → House
house_of one = record { name = model_name one; place = one.place; state = state_in one.body }

abbrev pub parameter_of : Entries → Entry → Parameter
parameter_of entries one = record {
  name = model_name one;
  place = one.place;
  expression = unwrap_or (expression_in entries one) expression.MissionTime;
}

abbrev pub fault_tree_of : Entry → FaultTree
fault_tree_of one = record { name = one.name; place = one.place }

abbrev pub functional_of : Entries → Entry → Functional
functional_of entries one =
    record { name = one.name; place = one.place; tree = record { 0 = tree_id kind.EventTree entries one.container } }

abbrev pub initiating_of : Entries → Entry → Initiating
initiating_of entries one =
    record { name = one.name; place = one.place; tree = option_map (λ id. record { 0 = id }) (linked_id entries one) }
