use Rattle.std.proofs.Common.{◌-◌, false, ap, ap₂, sym, ◌∙◌, arith}
use Rattle.std.specs.Str.{bytes_eq}
use Rattle.psa_model.specs.Tests.{took}
use Rattle.psa_walk.specs.TakenForks.{forks_of}
use Rattle.psa_walk.proofs.LastForkLemmas.{looks-back, named, passed}
use Rattle.psa_walk.proofs.travelled.Travelled.took.Goals as goal

pub returns-then-eq : goal.returns-then-eq
returns-then-eq c =
    c.eq-then-eq.ensures
    ∙ ap₂ bytes_eq c.as_str-then-eq.ensures c.as_str-then-eq-2.ensures
    ∙ sym (named c.args.name.now c.args.state.now c.index-forks-place.result _ (sym c.if-eq.true ∙ c.eq.ensures ∙ ap₂ bytes_eq c.as_str.ensures c.as_str-in-loop-place.ensures))
    ∙ sym (looks-back c.args.name.now c.args.state.now c.as_slice-forks.result.now c.loop-place.place (c.loop-place.place - 1) _ c.index-forks-place.result (omega arith) (omega arith) c.index-forks-place.is)
    ∙ c.loop-place.invariant
    ∙ ap (λ forks. took c.args.name.now c.args.state.now false (forks_of forks)) c.as_slice-forks.ensures.value
    ∙ ap (λ travelled. took c.args.name.now c.args.state.now false travelled.forks) c.self.view_is

pub loop-place-preserved : goal.loop-place-preserved
loop-place-preserved c =
    sym (passed c.args.name.now c.args.state.now c.index-forks-place.result _ (sym c.if-eq.false ∙ c.eq.ensures ∙ ap₂ bytes_eq c.as_str.ensures c.as_str-in-loop-place.ensures))
    ∙ sym (looks-back c.args.name.now c.args.state.now c.as_slice-forks.result.now c.loop-place.place (c.loop-place.place - 1) _ c.index-forks-place.result (omega arith) (omega arith) c.index-forks-place.is)
    ∙ c.loop-place.invariant
