-- What is made of the senses of references, read in their order. (This project's own.)
use Rattle.std.specs.Prelude.{◌≡◌, List, ◌++◌, Option, map}
use Rattle.psa_names.specs.declared.found.Sense.{Sense}
use Rattle.psa_names.specs.Outlines.{Reference, Entry, Entries}
use Rattle.psa_names.specs.Meanings.{Meaning, meaning_of}
use Rattle.psa_names.specs.Found.{meaning_of_sense}
use Rattle.psa_bodies.specs.declared.numbers.Numbers.{Numbers}
use Rattle.psa_bodies.specs.Numbering.{AreNumbers}

-- Where the senses begin with those of some references in a definition, the value was made in that definition, and the
-- senses behind these references are left.
pub record Reads {A : Type 0} (numbers : Numbers) (senses left : List Sense) (references : List Reference) (value : Entries → Entry → A) (made : A) : Type 0 where
  pub is : (entries : Entries) (from : Entry) (rest : List (Option Meaning)) → AreNumbers entries numbers
      → map (meaning_of_sense entries) senses ≡ map (meaning_of entries from) references ++ rest
      → (made ≡ value entries from) × (map (meaning_of_sense entries) left ≡ rest)
