-- Places that differ. (This project's own.)
use Rattle.std.specs.Prelude.{◌≡◌, ℕ, List, Some, slice_get}

-- no place stands twice
pub record AreApart (places : List ℕ) : Type 0 where
  pub apart : (i j place : ℕ) → slice_get places i ≡ Some place → slice_get places j ≡ Some place → i ≡ j
