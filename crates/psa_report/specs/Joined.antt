-- Texts with separators between them. This project's own.
use Rattle.std.specs.Prelude.{ℕ, List, [], ◌∷◌, ◌++◌, codes}

-- texts, the first behind this separator and each other one behind a space
abbrev pub separated : List ℕ → List (List ℕ) → List ℕ
separated separator [] = []
separated separator (text ∷ texts) = separator ++ text ++ separated (codes " ") texts
