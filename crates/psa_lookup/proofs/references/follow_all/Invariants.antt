use Rattle.std.proofs.Common.{map, flat_map, take}
use Rattle.psa_names.specs.Chains.{references_of}
use Rattle.psa_names.specs.Outlines.{Entry, entry_of}
use Rattle.psa_lookup.specs.Senses.{IsPass, faults_among, meanings_among, names_entries}
use Rattle.psa_lookup.proofs.references.follow_all.Given as goal

abbrev pub invariant-loop-place : goal.invariant-loop-place
invariant-loop-place l =
    IsPass (names_entries l.names) l.pass
    (flat_map (λ (one : Entry). faults_among (names_entries l.names) one (references_of one)) (map entry_of (take l.place l.definitions)))
    (flat_map (λ (one : Entry). meanings_among (names_entries l.names) one (references_of one)) (map entry_of (take l.place l.definitions)))
