-- Names and paths of names. (Dotted references are those of the Open-PSA Model Exchange Format 2.0d.)
use Rattle.std.specs.Prelude.{◌==◌, ℕ, Bool, List, length, nat_le}
use Rattle.std.specs.List.{slice_split}

-- a text, as the list of its bytes
abbrev pub Text : Type 0
Text = List ℕ

-- `.`, which joins the names of a path
abbrev pub dot : ℕ
dot = 46

-- what stands between the dots of a name
abbrev pub name_parts : Text → List Text
name_parts name = slice_split (λ b. b == dot) name

-- a path is two or more names joined by dots
abbrev pub is_path : Text → Bool
is_path name = nat_le 2 (length (name_parts name))
