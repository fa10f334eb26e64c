use Rattle.std.proofs.Common.{◌≡◌, ◌+◌, ◌++◌, ◌∷◌, [], List, take, sym, ap, ◌∙◌, subst}
use Rattle.psa_names.specs.Outlines.{Reference, entry_of}
use Rattle.psa_lookup.specs.declared.asked.Asked.{Asked}
use Rattle.psa_lookup.specs.Asking.{asked_reference, asked_references}
use Rattle.psa_lookup.specs.Senses.{IsPass, faults_among, meanings_among, names_entries}
use Rattle.psa_lookup.proofs.BoolLemmas.{one-more-taken, map-one}
use Rattle.psa_lookup.proofs.SenseLemmas.{pass-reference, among-one}
use Rattle.psa_lookup.proofs.references.follow.Goals as goal

pub loop-one-preserved : goal.loop-one-preserved
loop-one-preserved c faults meanings is =
    let at = c.loop-one in
    let entries = names_entries c.args.names.now in
    let from = entry_of c.args.definition.now in
    let one = c.one-item.result in
    let before = asked_references (take at.one-index c.args.asked.now) in
    let reference = asked_reference one in
    let more : before ++ reference ∷ [] ≡ asked_references (take (at.one-index + 1) c.args.asked.now) =
    sym (map-one asked_reference (take at.one-index c.args.asked.now) one) ∙ ap (λ (l : List Asked). asked_references l) (sym (one-more-taken c.args.asked.now at.one-index one c.loop-one-test.true c.one-item.is)) in
    subst (λ (l : List Reference). IsPass entries c.go_on.new.self (faults ++ faults_among entries from l) (meanings ++ meanings_among entries from l)) more
    (among-one entries c.go_on.new.self from faults meanings before reference
    (pass-reference entries at.pass c.go_on.new.self from reference _ _ c.find_sense-sense.result c.fault_at_name-fault.result c.wrong.result (at.invariant faults meanings is)
    c.find_sense-sense.ensures
    (c.fault_at_name-fault.ensures) (c.wrong.ensures _ c.find_sense-sense.ensures)
    c.in_ok-go_on.ensures.first c.in_ok-go_on.ensures.senses))
