use Rattle.std.proofs.Common.{◌++◌, List, Option, take}
use Rattle.psa_names.specs.Meanings.{Meaning}
use Rattle.psa_names.specs.Outlines.{entry_of}
use Rattle.psa_names.specs.PlacedFaults.{PlacedFault}
use Rattle.psa_lookup.specs.Asking.{asked_references}
use Rattle.psa_lookup.specs.Senses.{IsPass, faults_among, meanings_among, names_entries}
use Rattle.psa_lookup.proofs.references.follow.Given as goal

abbrev pub invariant-loop-one : goal.invariant-loop-one
invariant-loop-one l =
    (faults : List PlacedFault) (meanings : List (Option Meaning)) → IsPass (names_entries l.names) l.fn.pass faults meanings
    → IsPass (names_entries l.names) l.pass
    (faults ++ faults_among (names_entries l.names) (entry_of l.definition) (asked_references (take l.one-index l.asked)))
    (meanings ++ meanings_among (names_entries l.names) (entry_of l.definition) (asked_references (take l.one-index l.asked)))
