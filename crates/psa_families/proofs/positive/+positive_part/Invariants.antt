use Rattle.std.proofs.Common.{◌-◌, ◌^◌}
use Rattle.psa_nodes.specs.Readings.{level}
use Rattle.psa_families.proofs.positive.+positive_part.Given as goal

abbrev pub decreases-positive_part : goal.decreases-positive_part
decreases-positive_part g l = 2 ^ 33 - level l.table.now.nodes l.root.0
