use Rattle.std.proofs.Common.{◌≡◌, drop, Ok}
use Rattle.std.specs.List.{fold}
use Rattle.psa_model.specs.Values.{applied, folded_ends}
use Rattle.psa_expr.specs.Combined.{combined}
use Rattle.psa_expr.proofs.operations.fold_values.Given as goal

abbrev pub invariant-loop-place : goal.invariant-loop-place
invariant-loop-place l = fold (applied (combined l.folded)) (Ok l.value) (drop l.place l.values) ≡ folded_ends (combined l.folded) l.values
