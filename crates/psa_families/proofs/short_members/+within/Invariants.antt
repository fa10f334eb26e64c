use Rattle.std.proofs.Common.{◌-◌, ◌^◌}
use Rattle.psa_nodes.specs.Readings.{level}
use Rattle.psa_families.proofs.short_members.+within.Given as goal

abbrev pub decreases-within : goal.decreases-within
decreases-within g l = 2 ^ 33 - level l.table.now.nodes l.family.0
