-- A product of a target as its literal numbers.
use Rattle.std.specs.Prelude.{ℕ, List, map}
use Rattle.psa_logic.specs.Products.{literal_number}
use Rattle.psa_model.specs.declared.product.Literal.{Literal}

abbrev pub literals_of : List Literal → List ℕ
literals_of product = map (λ literal. literal_number literal.rank literal.occurs) product
