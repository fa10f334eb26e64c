use Rattle.std.proofs.Common.{refl}
use Rattle.psa_prep.proofs.NodeLemmas.{placed-node}
use Rattle.psa_prep.proofs.PlaceLemmas.{if-ok}
use Rattle.psa_prep.proofs.builder.Builder.place.Goals as goal

pub returns : goal.returns
returns c = if-ok c.add.result _ _ (λ place is. placed-node c.args.node c.args.self.now (record { nodes = c.add.new.nodes; memo = c.args.self.now.memo; width = c.args.self.now.width }) place c.requires.built c.requires.behind is refl refl) c.add.ensures
