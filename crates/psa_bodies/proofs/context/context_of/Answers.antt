use Rattle.psa_model.specs.declared.draft.DefinitionKind.TheVariants as kind
use Rattle.psa_bodies.proofs.DistinctTrees.{distinct-fault-trees, distinct-event-trees}
use Rattle.psa_bodies.proofs.FewTrees.{few-trees}
use Rattle.psa_bodies.proofs.context.context_of.Goals as goal

pub returns-clause-context : goal.returns-clause-context
returns-clause-context c = record {
  numbers = c.requires.numbers;
  fault_trees = c.requires.fault_trees;
  event_trees = c.requires.event_trees;
  distinct_fault_trees = distinct-fault-trees c.args.draft.now c.requires.draft c.requires.faultless;
  distinct_event_trees = distinct-event-trees c.args.draft.now c.requires.draft c.requires.faultless;
  few_fault_trees = few-trees c.args.draft.now kind.FaultTree c.args.fault_trees.now c.requires.draft c.requires.faultless c.requires.fault_trees;
  few_event_trees = few-trees c.args.draft.now kind.EventTree c.args.event_trees.now c.requires.draft c.requires.faultless c.requires.event_trees;
}
