-- What is made of rules, sequences, event trees and named branches. (This project's own.)
use Rattle.std.specs.Prelude.{◌≡◌, ◌<◌, ◌+◌, ◌^◌, ◌++◌, List, Option, map, length}
use Rattle.std.specs.Option.{option_map}
use Rattle.psa_model.specs.declared.model.EventTree.{EventTree}
use Rattle.psa_model.specs.declared.model.NamedBranch.{NamedBranch}
use Rattle.psa_model.specs.declared.model.RuleDefinition.{RuleDefinition}
use Rattle.psa_model.specs.declared.model.Sequence.{Sequence}
use Rattle.psa_model.specs.declared.draft.DefinitionKind.TheVariants as kind
use Rattle.psa_model.specs.declared.draft.Draft.{Draft}
use Rattle.psa_model.specs.declared.draft.DraftDefinition.{DraftDefinition}
use Rattle.psa_names.specs.declared.found.Sense.{Sense}
use Rattle.psa_names.specs.Outlines.{Entry, Entries, entry_of, entries_of}
use Rattle.psa_names.specs.Meanings.{Meaning, meaning_of}
use Rattle.psa_names.specs.Chains.{references_of}
use Rattle.psa_names.specs.Found.{meaning_of_sense}
use Rattle.psa_names.specs.Ids.{tree_id}
use Rattle.psa_names.specs.Resolved.{resolved_formula}
use Rattle.psa_names.specs.Collected.{collected_in, collected_before}
use Rattle.psa_names.specs.ModelOfDraft.{instructions_in, branch_in, linked_id}
use Rattle.psa_bodies.specs.declared.collected.Collected.{Collected}

-- what holds of a definition
pub record MadeBehind {A : Type 0} (entries : Entries) (from : Entry) (rest : List (Option Meaning)) (left : List Sense) (before after : Collected) (value : Entries → Entry → A) (made : A) : Type 0 where
  pub made_is : made ≡ value entries from
  pub rest_is : map (meaning_of_sense entries) left ≡ rest
  pub next_is : after.next ≡ before.next + length (collected_in from.body)
  pub formulas_are : after.formulas ≡ before.formulas ++ map (resolved_formula entries from) (collected_in from.body)

-- Where the senses begin with those of a definition's references, and the next formula's number is that of the
-- definition, the value was made of the definition, its formulas were collected, and the senses behind these are left.
pub record IsMadeBehind {A : Type 0} (draft : Draft) (definition : DraftDefinition) (senses left : List Sense) (before after : Collected) (value : Entries → Entry → A) (made : A) : Type 0 where
  pub is : (rest : List (Option Meaning))
      → before.next ≡ collected_before (entries_of draft) (entry_of definition)
      → before.next + length (collected_in definition.body) < 2 ^ 32
      → map (meaning_of_sense (entries_of draft)) senses
      ≡ map (meaning_of (entries_of draft) (entry_of definition)) (references_of (entry_of definition)) ++ rest
      → MadeBehind (entries_of draft) (entry_of definition) rest left before after value made

abbrev pub rule_of : Entries → Entry → RuleDefinition
rule_of entries one = record { name = one.name; place = one.place; instructions = instructions_in entries one }

abbrev pub sequence_of : Entries → Entry → Sequence
sequence_of entries one = record {
  name = one.name;
  place = one.place;
  tree = record { 0 = tree_id kind.EventTree entries one.container };
  instructions = instructions_in entries one;
  link = option_map (λ id. record { 0 = id }) (linked_id entries one);
}

abbrev pub event_tree_of : Entries → Entry → EventTree
event_tree_of entries one = record { name = one.name; place = one.place; start = branch_in entries one }

abbrev pub named_branch_of : Entries → Entry → NamedBranch
named_branch_of entries one = record {
  name = one.name;
  place = one.place;
  tree = record { 0 = tree_id kind.EventTree entries one.container };
  branch = branch_in entries one;
}
