use Rattle.std.proofs.Common.{◌-◌, ◌+◌, ◌*◌, ◌^◌}
use Rattle.psa_nodes.specs.Readings.{level}
use Rattle.psa_prime.proofs.primes.+primes.Given as goal

abbrev pub decreases-prime_sets : goal.decreases-prime_sets
decreases-prime_sets g l = 2 * (2 ^ 33 - level l.table.now.nodes l.root.0)

abbrev pub decreases-side_primes : goal.decreases-side_primes
decreases-side_primes g l = 2 * (2 ^ 33 - (2 * l.var + 2)) + 1
