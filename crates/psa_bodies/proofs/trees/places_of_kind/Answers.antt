use Rattle.std.proofs.lemmas.List.{get_or_default}
use Rattle.psa_names.specs.Ids.{kind_number}
use Rattle.psa_bodies.proofs.NamedTrees.{places-more, places-all}
use Rattle.psa_bodies.proofs.trees.places_of_kind.Goals as goal

pub loop-place-preserved : goal.loop-place-preserved
loop-place-preserved c =
    places-more c.as_slice-numbered-items.result.now c.loop-place.place (kind_number c.args.kind) _ c.loop-place.places c.push_place.new.places c.loop-place-test.true
    (get_or_default c.as_slice-numbered-items.result.now c.loop-place.place _ _ c.loop-place-test.true) c.loop-place.invariant c.in_ok-push_place.ensures

pub returns : goal.returns
returns c = λ entries are.
    places-all c.args.numbers.now c.args.kind c.loop-place.place c.as_slice-numbered-items.result.now c.loop-place.places entries c.as_slice-numbered-items.ensures c.loop-place-test.false c.loop-place.invariant are
