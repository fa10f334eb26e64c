use Rattle.psa_nodes.specs.Nodes.{IsBounded}
use Rattle.psa_outcome.specs.Loading.{loaded_analysis}
use Rattle.psa_shares.specs.SectionEnds.{HasShares}
use Rattle.psa_shares.proofs.text.write_sections.Given as goal

-- the targets before the place have their sections
abbrev pub invariant-loop-place : goal.invariant-loop-place
invariant-loop-place g l = record {
  shares : HasShares (loaded_analysis l.loaded) l.place (g.O.Sink.faults l.fn.out, g.O.Sink.faults l.out) (g.O.Sink.written l.fn.out) (g.O.Sink.written l.out);
  bounded : IsBounded l.table.nodes;
}
