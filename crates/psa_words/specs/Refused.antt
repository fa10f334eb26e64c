-- The two lines on refused words. This project's own.
use Rattle.std.specs.Prelude.{ℕ, List, codes, ◌++◌}

-- those of a program with this name
abbrev pub refused_text : List ℕ → List ℕ
refused_text program = codes "scram: bad words\n" ++ (codes "usage: " ++ (program ++ codes " [options] FILE...\n"))

-- the text on standard error where the words of `scram` are refused
abbrev pub refused_words_text : List ℕ
refused_words_text = refused_text (codes "scram")
