-- The errors of the steps of an analysis as one error. This project's own.
use Rattle.psa_expr.specs.declared.error.ValueError.{ValueError}
use Rattle.psa_expr.specs.declared.error.ValueError.TheVariants as value
use Rattle.psa_prep.specs.declared.ranking.RankError.{RankError}
use Rattle.psa_prep.specs.declared.ranking.RankError.TheVariants as rank
use Rattle.psa_walk.specs.declared.listing.WalkError.{WalkError}
use Rattle.psa_walk.specs.declared.listing.WalkError.TheVariants as walk
use Rattle.psa_load.specs.declared.analysis.AnalysisError.{AnalysisError}
use Rattle.psa_load.specs.declared.analysis.AnalysisError.TheVariants.{Fault, Memory}

abbrev pub walk_error : WalkError → AnalysisError
walk_error (walk.Fault found) = Fault found
walk_error walk.Memory = Memory

abbrev pub rank_error : RankError → AnalysisError
rank_error (rank.Fault found) = Fault found
rank_error rank.Memory = Memory

abbrev pub value_error : ValueError → AnalysisError
value_error (value.Fault found) = Fault found
value_error value.Memory = Memory
