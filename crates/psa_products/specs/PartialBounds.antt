-- The bounds of the first literals of a product.
use Rattle.std.specs.Prelude.{◌≡◌, ◌≤◌, List, [], ◌∷◌, Option, length, take}
use Rattle.std.specs.List.{All}
use Rattle.psa_logic.specs.Products.{literal_number}
use Rattle.psa_number.specs.Ends.{Ends}
use Rattle.psa_number.specs.Operations.{IsInUnit, unit_product_ends}
use Rattle.psa_model.specs.declared.ids.EventNumber.{EventNumber}
use Rattle.psa_model.specs.declared.product.Literal.{Literal}
use Rattle.psa_model.specs.declared.product.TheConstants.{MAX_ORDER}
use Rattle.psa_model.specs.Quantities.{literal_ends, one_ends}
use Rattle.psa_products.specs.declared.partial.PartialBounds.{PartialBounds}

-- what bounds are computed by, where there are intervals of events
pub record Valuation : Type 0 where
  pub values : Option (List Ends)
  pub ranks : List EventNumber

-- a bound with one literal more
abbrev pub bound_step : List Ends → List EventNumber → Ends → Literal → Ends
bound_step values ranks bound literal = unit_product_ends bound (literal_ends values ranks (literal_number literal.rank literal.occurs))

-- on top of a bound: with the first literal, with the first two, and so on
abbrev pub bounds_after : List Ends → List EventNumber → Ends → List Literal → List Ends
bounds_after values ranks bound [] = []
bounds_after values ranks bound (literal ∷ literals) =
    bound_step values ranks bound literal ∷ bounds_after values ranks (bound_step values ranks bound literal) literals

-- the bounds up to each literal, of which so many count
pub record ArePartial (values : List Ends) (ranks : List EventNumber) (p : PartialBounds) : Type 0 where
  pub count : p.count ≤ MAX_ORDER
  pub literals : length p.literals ≡ MAX_ORDER
  pub bounds : length p.bounds ≡ MAX_ORDER
  pub exact : take p.count p.bounds ≡ bounds_after values ranks one_ends (take p.count p.literals)
  pub in_unit : All IsInUnit (take p.count p.bounds)
