-- The upper end of a product's bound.
use Rattle.std.specs.Prelude.{ℕ, ℤ, List}
use Rattle.psa_number.specs.Ends.{Ends}
use Rattle.psa_model.specs.declared.ids.EventNumber.{EventNumber}
use Rattle.psa_model.specs.Quantities.{bound_of}

abbrev pub upper_end : List Ends → List EventNumber → List ℕ → ℤ
upper_end values ranks product = (bound_of values ranks product).hi
