use Rattle.std.proofs.Common.{◌≡◌, ◌<◌, ◌+◌, ◌-◌, ℕ, length, get_or, subst, refl, arith}
use Rattle.std.proofs.lemmas.List.{get_or_default}
use Rattle.psa_model.specs.declared.ids.EventNumber.{EventNumber}
use Rattle.psa_prep.proofs.TargetLemmas.{RanksFrom, ranks-start, ranks-more, get-empty}
use Rattle.psa_prep.proofs.preparing.rank_map.Goals as goal

pub loop-left-init : goal.loop-left-init
loop-left-init c = record { within = omega arith; ranked = ranks-start c.args.ranks.now (length c.args.ranks.now) c.new-map.result refl (get-empty c.new-map.result c.new-map.ensures.empty) }

pub loop-left-preserved : goal.loop-left-preserved
loop-left-preserved c =
    let next : c.loop-left.left ≡ c.loop-left.left - 1 + 1 = omega arith in
    let item : EventNumber = get_or c.args.ranks.now (c.loop-left.left - 1) (record { 0 = 0 }) in
    let inside : c.loop-left.left - 1 < length c.args.ranks.now = omega (arith, c.loop-left.invariant.within) in record {
      within = omega (arith, c.loop-left.invariant.within);
      ranked = ranks-more c.args.ranks.now (c.loop-left.left - 1) item c.loop-left.map c.insert.new.self inside
          (get_or_default c.args.ranks.now (c.loop-left.left - 1) (record { 0 = 0 }) item inside)
          (subst (λ (n : ℕ). RanksFrom c.args.ranks.now n c.loop-left.map) next c.loop-left.invariant.ranked) c.in_ok-insert.ensures.updates.0;
    }

pub returns : goal.returns
returns c =
    let none : c.loop-left.left ≡ 0 = omega arith in
    subst (λ (n : ℕ). RanksFrom c.args.ranks.now n c.loop-left.map) none c.loop-left.invariant.ranked
