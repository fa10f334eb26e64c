-- A file that is found by its name, at its place in the list.
use Rattle.std.proofs.Common.{◌≡◌, ℕ, ◌<◌, ◌+◌, List, ◌∷◌, Some, true, length, drop, get_or, sym, ap, ◌∙◌, refl, arith}
use Rattle.std.specs.Str.{bytes_eq}
use Rattle.std.proofs.lemmas.Grind.{common_steps}
use Rattle.std.proofs.lemmas.Option.{slice_get_read}
use Rattle.psa_ports.specs.Folder.{text_of}
use Rattle.psa_ports.specs.MemoryFolder.{bytes_at}

-- the bytes at a place where a file stands
bytes_at-file : (files : List (List ℕ × List ℕ)) (place : ℕ) (file : List ℕ × List ℕ)
    → place < length files → file ≡ get_or files place file → bytes_at files (Some place) ≡ file.1
bytes_at-file files place file within is_file = rw (slice_get_read files (length files) place file refl within is_file)

-- no file before this one has the name, and this one has it
pub text_of-file : (name : List ℕ) (files : List (List ℕ × List ℕ)) (place : ℕ) (file : List ℕ × List ℕ)
    → place < length files → file ≡ get_or files place file → bytes_eq file.0 name ≡ true
    → text_of name (drop place files) ≡ text_of name files → text_of name files ≡ Some (bytes_at files (Some place))
text_of-file name files place file within is_file named before =
    let from : drop place files ≡ file ∷ drop (place + 1) files = grind (arith, common_steps) in
    let found : text_of name (file ∷ drop (place + 1) files) ≡ Some file.1 = rw named refl in
    sym before ∙ ap (text_of name) from ∙ found ∙ ap Some (sym (bytes_at-file files place file within is_file))
