-- The product of a set of literal numbers, as data of a program.
use Rattle.std.specs.Prelude.{ℕ, List, map}
use Rattle.arrayvec.specs.ArrayVec.{ArrayVec}
use Rattle.psa_logic.specs.Products.{rank_of, is_positive}
use Rattle.psa_model.specs.declared.product.Literal.{Literal}

-- the literal of a number
abbrev pub literal_of : ℕ → Literal
literal_of number = record { rank = rank_of number; occurs = is_positive number }

abbrev pub product_of : List ℕ → ArrayVec Literal
product_of set = record { items = map (λ number. literal_of number) set }

-- a product, and the sets that come after it
pub record Listed : Type 0 where
  pub product : List Literal
  pub rest : List (List ℕ)
