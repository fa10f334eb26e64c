-- Files by their names. This project's own.
use Rattle.std.specs.Prelude.{◌≡◌, ℕ, List, Option, Some, None, ⊤, IsSome, IsSomeAnd, MatchOption, find}
use Rattle.std.specs.Option.{option_map}
use Rattle.std.specs.Str.{bytes_eq}

-- the bytes of the first file with this name
abbrev pub text_of : List ℕ → List (List ℕ × List ℕ) → Option (List ℕ)
text_of name files = option_map (λ file. file.1) (find (λ file. bytes_eq file.0 name) files)

-- where the files are told, one has this name, and its bytes are what is to be read
abbrev pub Opens : Option (List (List ℕ × List ℕ)) → List ℕ → Option (List ℕ) → Type 0
Opens None name rest = ⊤
Opens (Some files) name rest = (text_of name files ≡ rest) × IsSome rest

-- where the files are told, one has this name, and P holds of its bytes
abbrev pub Tells : Option (List (List ℕ × List ℕ)) → List ℕ → (List ℕ → Type 0) → Type 0
Tells files name P = MatchOption files ⊤ (λ told. IsSomeAnd (text_of name told) P)
