use Rattle.std.proofs.Common.{◌≡◌, ◌-◌}
use Rattle.std.specs.List.{list_all, range_with_len}
use Rattle.psa_lookup.proofs.LevelLemmas.{has_one}
use Rattle.psa_lookup.proofs.levels.have_levels.Given as goal

abbrev pub invariant-loop-level : goal.invariant-loop-level
invariant-loop-level l =
    list_all (has_one l.model l.members l.factors) (range_with_len l.level (l.last - l.level))
    ≡ list_all (has_one l.model l.members l.factors) (range_with_len l.first (l.last - l.first))
