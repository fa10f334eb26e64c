use Rattle.std.proofs.Common.{◌≡◌, suc, true, List, sym, ap, ◌∙◌, refl}
use Rattle.std.specs.List.{flat_map}
use Rattle.psa_model.specs.declared.formula.Formula.TheVariants as variant
use Rattle.psa_model.specs.declared.model.TheConstants.{MAX_DEPTH}
use Rattle.psa_model.specs.declared.targets.PathStep.{PathStep}
use Rattle.psa_model.specs.declared.targets.Target.TheVariants.{TopEvent, Sequence}
use Rattle.psa_model.specs.Ranks.{visits}
use Rattle.psa_model.specs.Truth.{within, house_states}
use Rattle.psa_prep.specs.Ranking.{step_visits}
use Rattle.psa_prep.proofs.WalkLemmas.{ends-map, gate-deep, top-stands, list-as, list-of, exceeds-list, exceeds-of, paths-visits}
use Rattle.psa_prep.proofs.ranking.rank_target.Goals as goal

pub rank_gate-requires : goal.rank_gate-requires
rank_gate-requires c = record {
  within = gate-deep c.args.walk.now.expanded.now.model c.in-TopEvent.gate c.requires.resolved (top-stands c.args.walk.now.expanded.now.model c.args.target.now c.in-TopEvent.gate c.in-TopEvent.is c.requires.target);
  index = c.requires.index;
  sound = c.requires.sound;
}

pub returns-in-TopEvent : goal.returns-in-TopEvent
returns-in-TopEvent c =
    let expanded = c.args.walk.now.expanded.now in
    let deep : within (suc MAX_DEPTH) expanded.model (variant.Gate c.in-TopEvent.gate) ≡ true = gate-deep expanded.model c.in-TopEvent.gate c.requires.resolved (top-stands expanded.model c.args.target.now c.in-TopEvent.gate c.in-TopEvent.is c.requires.target) in
    ends-map c.rank_gate.result _ _ _ _
    (λ done. list-as expanded c.args.target.now (TopEvent c.in-TopEvent.gate) (visits (suc MAX_DEPTH) expanded (variant.Gate c.in-TopEvent.gate)) c.args.ranking.now _ c.in-TopEvent.is refl
    (list-of expanded (suc MAX_DEPTH) (variant.Gate c.in-TopEvent.gate) (visits (suc MAX_DEPTH) expanded (variant.Gate c.in-TopEvent.gate)) c.args.ranking.now _ deep refl done))
    (λ many. exceeds-list expanded c.args.target.now (TopEvent c.in-TopEvent.gate) (visits (suc MAX_DEPTH) expanded (variant.Gate c.in-TopEvent.gate)) c.args.ranking.now c.in-TopEvent.is refl
    (exceeds-of expanded (suc MAX_DEPTH) (variant.Gate c.in-TopEvent.gate) (visits (suc MAX_DEPTH) expanded (variant.Gate c.in-TopEvent.gate)) c.args.ranking.now deep refl many))
    c.rank_gate.ensures

pub returns-in-Sequence : goal.returns-in-Sequence
returns-in-Sequence c =
    let expanded = c.args.walk.now.expanded.now in
    let form = Sequence c.in-Sequence.initiating c.in-Sequence.sequence c.in-Sequence.paths in
    let are : flat_map (λ (path : List PathStep). flat_map (step_visits expanded) path) c.as_slice.result.now ≡ _ =
    ap (flat_map (λ (path : List PathStep). flat_map (step_visits expanded) path)) c.as_slice.ensures ∙ sym (paths-visits expanded (house_states expanded.model) c.in-Sequence.paths) in
    ends-map c.rank_paths.result _ _ _ _
    (list-as expanded c.args.target.now form (flat_map (λ path. flat_map (step_visits expanded) path) c.as_slice.result.now) c.args.ranking.now _ c.in-Sequence.is are)
    (exceeds-list expanded c.args.target.now form (flat_map (λ path. flat_map (step_visits expanded) path) c.as_slice.result.now) c.args.ranking.now c.in-Sequence.is are)
    c.rank_paths.ensures
