use Rattle.std.proofs.Common.{◌≡◌, ◌∷◌, ◌++◌, [], List, length, map, refl, sym, ap, ◌∙◌, append_assoc, append-nil, arith}
use Rattle.std.specs.Vec.Iter.{into_iter_items}
use Rattle.psa_model.specs.declared.targets.Target.{Target}
use Rattle.psa_walk.specs.declared.groups.SequenceGroup.{SequenceGroup}
use Rattle.psa_walk.specs.SequenceGroups.{target_of}
use Rattle.psa_walk.proofs.SequenceGroupLemmas.{targets-grouped}
use Rattle.psa_walk.proofs.groups.list_sequences.Goals as goal

nothing_left : {X : Type 0} (l : List X) → length l ≡ 0 → l ≡ []
nothing_left [] h = refl
nothing_left (x ∷ xs) h = absurd (omega arith)

pub loop-one-preserved : goal.loop-one-preserved
loop-one-preserved c =
    let at = c.loop-one in
    let x = c.in-Some.one in
    let steps : into_iter_items at.one-iterator ≡ x ∷ into_iter_items c.next.new.self = c.in-Some.ensures.steps.0 in
    record {
      whole = ap (λ (ts : List Target). ts ++ map (target_of c.args.initiating.0) (into_iter_items c.next.new.self)) c.in_ok-push.ensures.ok
          ∙ append_assoc at.targets (target_of c.args.initiating.0 x ∷ []) (map (target_of c.args.initiating.0) (into_iter_items c.next.new.self))
          ∙ ap (λ (xs : List SequenceGroup). at.targets ++ map (target_of c.args.initiating.0) xs) (sym steps) ∙ at.invariant.whole;
      size =
          let was = at.invariant.size in
          let gone = c.in-Some.ensures.steps.1 in
          let short = ap length steps in
          omega arith;
    }

pub returns : goal.returns
returns c =
    let at = c.loop-one in
    let none = c.in-None.ensures.steps in
    let empty : into_iter_items at.one-iterator ≡ [] = nothing_left _ (sym at.invariant.size ∙ none.0) in
    sym (append-nil at.targets) ∙ ap (λ (xs : List SequenceGroup). at.targets ++ map (target_of c.args.initiating.0) xs) (sym empty) ∙ at.invariant.whole
    ∙ ap (λ (xs : List SequenceGroup). c.args.targets.now ++ map (target_of c.args.initiating.0) xs) (c.into_iter-one-iterator.ensures.into_iter_gives.0 ∙ c.in_ok-one-items.ensures)
    ∙ ap (λ (ts : List Target). c.args.targets.now ++ ts) (targets-grouped c.args.initiating.0 c.args.arrived.items)
