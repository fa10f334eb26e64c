use Rattle.std.proofs.Common.{◌-◌, ◌^◌}
use Rattle.psa_nodes.specs.Readings.{level}
use Rattle.psa_families.proofs.minimal.+minimal_sets.Given as goal

abbrev pub decreases-minimal_sets : goal.decreases-minimal_sets
decreases-minimal_sets g l = 2 ^ 33 - level l.table.now.nodes l.root.0
