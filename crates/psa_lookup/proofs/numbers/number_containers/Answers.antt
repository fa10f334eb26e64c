use Rattle.std.proofs.Common.{◌++◌, ◌∷◌, [], ℕ, List, take, sym, subst}
use Rattle.psa_model.specs.declared.draft.DraftDefinition.{DraftDefinition}
use Rattle.psa_spaces.specs.Paths.{Path, IsPath}
use Rattle.psa_lookup.specs.Numbers.{IsNumbered}
use Rattle.psa_lookup.proofs.BoolLemmas.{one-more-taken}
use Rattle.psa_lookup.proofs.NumberLemmas.{numbered-more}
use Rattle.psa_lookup.proofs.numbers.number_containers.Goals as goal

pub loop-definition-preserved : goal.loop-definition-preserved
loop-definition-preserved c =
    let at = c.loop-definition in
    let one = c.definition-item.result in
    let before = take at.definition-index c.args.definitions.now in
    subst (λ (ds : List DraftDefinition). IsNumbered c.enter_all.new.containers c.push.new.self ds) (sym (one-more-taken c.args.definitions.now at.definition-index one c.loop-definition-test.true c.definition-item.is))
    (subst (λ (ns : List ℕ). IsNumbered c.enter_all.new.containers ns (before ++ one ∷ [])) (sym c.in_ok-push.ensures.ok)
    (numbered-more at.containers c.enter_all.new.containers at.numbers before c.in_ok-number.number one at.invariant c.in_ok-number.ensures.containers c.in_ok-number.ensures.kept
    (subst (λ (p : Path). IsPath c.enter_all.new.containers c.in_ok-number.number p) c.as_slice.ensures c.in_ok-number.ensures.entered)))
