use Rattle.std.proofs.Common.{◌≡◌, ◌∷◌, [], List, length, refl, sym, ap, ◌∙◌, arith}
use Rattle.std.specs.Vec.Iter.{into_iter_items}
use Rattle.psa_walk.specs.declared.groups.SequenceGroup.{SequenceGroup}
use Rattle.psa_model.specs.Paths.{Arrived}
use Rattle.psa_walk.specs.SequenceGroups.{all_grouped, grouped}
use Rattle.psa_walk.proofs.groups.put_together.Goals as goal

nothing_left : {X : Type 0} (l : List X) → length l ≡ 0 → l ≡ []
nothing_left [] h = refl
nothing_left (x ∷ xs) h = absurd (omega arith)

pub add-requires : goal.add-requires
add-requires c = c.loop-one.invariant.in_step

pub loop-one-preserved : goal.loop-one-preserved
loop-one-preserved c =
    let at = c.loop-one in
    let x = c.in-Some.one in
    let steps : into_iter_items at.one-iterator ≡ x ∷ into_iter_items c.next.new.self = c.in-Some.ensures.steps.0 in
    record {
      in_step = c.in_ok-add.ensures.places;
      whole = ap (λ (gs : List SequenceGroup). all_grouped gs (into_iter_items c.next.new.self)) c.in_ok-add.ensures.groups
          ∙ ap (λ (a : Arrived). all_grouped (grouped at.groups.items a) (into_iter_items c.next.new.self)) c.into_parts-path.ensures
          ∙ ap (λ (xs : List Arrived). all_grouped at.groups.items xs) (sym steps) ∙ at.invariant.whole;
      size =
          let was = at.invariant.size in
          let gone = c.in-Some.ensures.steps.1 in
          let short = ap length steps in
          omega arith;
    }

pub returns : goal.returns
returns c =
    let at = c.loop-one in
    let none = c.in-None.ensures.steps in
    let empty : into_iter_items at.one-iterator ≡ [] = nothing_left _ (sym at.invariant.size ∙ none.0) in
    ap (λ (xs : List Arrived). all_grouped at.groups.items xs) (sym empty) ∙ at.invariant.whole
