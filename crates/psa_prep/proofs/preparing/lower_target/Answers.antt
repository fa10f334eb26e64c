use Rattle.psa_prep.proofs.TargetLemmas.{started-blank, paths-stand}
use Rattle.psa_prep.proofs.WalkLemmas.{top-stands}
use Rattle.psa_prep.proofs.preparing.lower_target.Goals as goal

pub lower_top-requires-clause-stands : goal.lower_top-requires-clause-stands
lower_top-requires-clause-stands c = top-stands c.args.task.now.expanded.now.model c.args.task.now.target.now c.in-TopEvent.gate c.in-TopEvent.is c.requires.target

pub lower_top-requires-clause-is : goal.lower_top-requires-clause-is
lower_top-requires-clause-is c = c.in-TopEvent.is

pub lower_top-requires-clause-started : goal.lower_top-requires-clause-started
lower_top-requires-clause-started c = started-blank c.args.task.now c.args.builder.now c.requires.blank

pub lower_sequence-requires-clause-started : goal.lower_sequence-requires-clause-started
lower_sequence-requires-clause-started c = started-blank c.args.task.now c.args.builder.now c.requires.blank

pub lower_sequence-requires-clause-paths : goal.lower_sequence-requires-clause-paths
lower_sequence-requires-clause-paths c = paths-stand c.args.task.now c.in-Sequence.initiating c.in-Sequence.sequence c.in-Sequence.paths c.as_slice.result.now c.in-Sequence.is c.as_slice.ensures c.requires.target
