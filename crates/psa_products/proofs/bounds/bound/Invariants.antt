use Rattle.std.proofs.Common.{◌≡◌, take}
use Rattle.std.specs.List.{fold}
use Rattle.psa_number.specs.Operations.{IsInUnit}
use Rattle.psa_model.specs.Quantities.{one_ends}
use Rattle.psa_products.specs.PartialBounds.{bound_step}
use Rattle.psa_products.proofs.bounds.bound.Given as goal

abbrev pub invariant-loop-literal : goal.invariant-loop-literal
invariant-loop-literal l = record {
  exact : l.bound ≡ fold (bound_step l.fn.values l.fn.ranks) one_ends (take l.literal-index l.literal-items);
  in_unit : IsInUnit l.bound;
}
