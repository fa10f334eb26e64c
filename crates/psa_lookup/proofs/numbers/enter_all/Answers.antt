use Rattle.std.proofs.Common.{◌≡◌, ◌+◌, ◌++◌, ◌∷◌, [], ℕ, List, take, sym, ap, ◌∙◌, subst}
use Rattle.std.proofs.lemmas.Option.{slice_get_within}
use Rattle.psa_spaces.specs.Paths.{Path, path_at, IsPath}
use Rattle.psa_spaces.proofs.ContainerLemmas.{path-is}
use Rattle.psa_lookup.proofs.BoolLemmas.{one-more-taken}
use Rattle.psa_lookup.proofs.numbers.enter_all.Goals as goal

pub enter-requires : goal.enter-requires
enter-requires c = slice_get_within c.loop-name.containers c.loop-name.number _ c.loop-name.invariant.entered

pub loop-name-preserved : goal.loop-name-preserved
loop-name-preserved c = record {
  containers = c.in_ok-number.ensures.containers;
  entered =
      let front = path-is c.loop-name.containers c.loop-name.number (take c.loop-name.name-index c.args.names.now) c.loop-name.invariant.entered in
      let name = c.as_bytes.ensures in
      let path : path_at c.loop-name.containers c.loop-name.number ++ c.as_bytes.result.now ∷ [] ≡ take (c.loop-name.name-index + 1) c.args.names.now =
      ap (λ (p : Path). p ++ c.as_bytes.result.now ∷ []) front ∙ ap (λ (n : List ℕ). take c.loop-name.name-index c.args.names.now ++ n ∷ []) name
      ∙ sym (one-more-taken c.args.names.now c.loop-name.name-index c.name-item.result c.loop-name-test.true c.name-item.is) in
      subst (λ (p : Path). IsPath c.enter.new.self c.in_ok-number.number p) path c.in_ok-number.ensures.entered;
  kept = λ number path at. c.in_ok-number.ensures.kept number path (c.loop-name.invariant.kept number path at);
}
