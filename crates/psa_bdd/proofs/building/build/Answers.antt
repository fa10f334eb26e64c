use Rattle.psa_graph.specs.Truths.{graph_truth}
use Rattle.psa_bdd.proofs.BuildLemmas.{diagram-only}
use Rattle.psa_bdd.proofs.building.build.Goals as goal

pub returns-clause-built : goal.returns-clause-built
returns-clause-built g c =
    diagram-only (graph_truth c.args.graph.now) c.build_needed.new.table c.build_needed.result c.build_needed.ensures.call.progress.table c.build_needed.ensures.built
