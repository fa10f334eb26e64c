use Rattle.std.proofs.Common.{List, reverse, ap, sym, subst, arith}
use Rattle.psa_prep.specs.declared.states.Changes.{Changes}
use Rattle.psa_prep.specs.Paths.{IsStarted, changes_of}
use Rattle.psa_prep.proofs.TargetLemmas.{top-meets, top-made}
use Rattle.psa_prep.proofs.WalkLemmas.{gate-deep}
use Rattle.psa_prep.proofs.preparing.lower_top.Goals as goal

pub lower_gate-requires-clause-within : goal.lower_gate-requires-clause-within
lower_gate-requires-clause-within c = gate-deep c.args.task.now.expanded.now.model c.args.gate c.requires.resolved c.requires.stands

pub lower_gate-requires-clause-meets : goal.lower_gate-requires-clause-meets
lower_gate-requires-clause-meets c = top-meets c.args.task.now c.args.gate (changes_of c.new-states.result) c.requires.is

pub lower_gate-requires-clause-context : goal.lower_gate-requires-clause-context
lower_gate-requires-clause-context c =
    let started = subst (λ (changes : List Changes). IsStarted c.args.task.now changes c.args.builder.now) (sym (ap reverse c.new-states.ensures)) c.requires.started in
    record { has_index = c.requires.task.has_index; has_ranks = c.requires.task.has_ranks; earlier = started.states.shared.earlier; within = omega arith }

pub lower_gate-requires-clause-sound : goal.lower_gate-requires-clause-sound
lower_gate-requires-clause-sound c =
    let started = subst (λ (changes : List Changes). IsStarted c.args.task.now changes c.args.builder.now) (sym (ap reverse c.new-states.ensures)) c.requires.started in started.sound

pub returns : goal.returns
returns c = top-made c.args.task.now c.args.gate (changes_of c.new-states.result) c.yes.result _ _ c.in_ok-pair.pair c.requires.is c.yes.ensures c.in_ok-pair.ensures
