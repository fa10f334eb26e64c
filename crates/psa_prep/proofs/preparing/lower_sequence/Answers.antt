use Rattle.std.proofs.Common.{List, reverse, ap, sym, subst}
use Rattle.psa_prep.specs.declared.states.Changes.{Changes}
use Rattle.psa_prep.specs.Paths.{IsStarted, changes_of}
use Rattle.psa_prep.proofs.TargetLemmas.{sequence-made}
use Rattle.psa_prep.proofs.preparing.lower_sequence.Goals as goal

pub lower_paths-requires-clause-started : goal.lower_paths-requires-clause-started
lower_paths-requires-clause-started c =
    subst (λ (changes : List Changes). IsStarted c.args.task.now changes c.args.builder.now) (sym (ap reverse c.new-states.ensures)) c.requires.started

pub returns : goal.returns
returns c = sequence-made c.args.task.now c.args.paths.now (changes_of c.new-states.result) (changes_of c.lower_paths.new.states) _ _ c.in_ok-pair.pair c.requires.paths c.in_ok-pair.ensures
