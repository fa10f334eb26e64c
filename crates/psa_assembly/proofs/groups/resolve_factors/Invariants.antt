use Rattle.std.proofs.Common.{take}
use Rattle.psa_assembly.proofs.GroupForms.{FactorsRead}
use Rattle.psa_assembly.proofs.groups.resolve_factors.Given as goal

abbrev pub invariant-loop-factor : goal.invariant-loop-factor
invariant-loop-factor l = FactorsRead l.numbers l.initial.cursor l.cursor l.members (take l.factor-index l.factors) l.made.items
