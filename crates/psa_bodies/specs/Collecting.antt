-- What is made of instructions and branches, with the formulas that they collect. (This project's own.)
use Rattle.std.specs.Prelude.{◌≡◌, ◌<◌, ◌+◌, ◌^◌, List, ◌++◌, Option, map, length}
use Rattle.psa_model.specs.declared.ids.FormulaId.{FormulaId}
use Rattle.psa_model.specs.declared.draft.DraftFormula.{DraftFormula}
use Rattle.psa_names.specs.declared.found.Sense.{Sense}
use Rattle.psa_names.specs.Outlines.{Reference, Entry, Entries}
use Rattle.psa_names.specs.Meanings.{Meaning, meaning_of}
use Rattle.psa_names.specs.Found.{meaning_of_sense}
use Rattle.psa_names.specs.Resolved.{resolved_formula}
use Rattle.psa_names.specs.Collected.{Collecting, total_size, all_behind}
use Rattle.psa_bodies.specs.declared.numbers.Numbers.{Numbers}
use Rattle.psa_bodies.specs.declared.collected.Collected.{Collected}
use Rattle.psa_bodies.specs.Numbering.{AreNumbers}

-- several, one after another
abbrev pub listed : {A : Type 0} → List (Collecting A) → Collecting (List A)
listed all = record { size = total_size all; behind = λ number. all_behind number all }

-- the number of a formula that is collected
abbrev pub formula_number : Collecting FormulaId
formula_number = record { size = 1; behind = λ number. record { 0 = number } }

-- what holds in a definition
pub record CollectsIn {A : Type 0} (entries : Entries) (from : Entry) (rest : List (Option Meaning)) (left : List Sense) (before after : Collected) (formulas : List DraftFormula) (value : Collecting A) (made : A) : Type 0 where
  pub made_is : made ≡ value.behind before.next
  pub size : value.size ≡ length formulas
  pub rest_is : map (meaning_of_sense entries) left ≡ rest
  pub formulas_are : after.formulas ≡ before.formulas ++ map (resolved_formula entries from) formulas

-- Where the senses begin with those of some references in a definition, and the numbers of all formulas so far are
-- small, the value was made in that definition behind the
-- formulas that are collected so far, these formulas were collected, and the senses behind the references are left.
pub record Collects {A : Type 0} (numbers : Numbers) (senses left : List Sense) (before after : Collected) (references : List Reference) (formulas : List DraftFormula) (value : Entries → Entry → Collecting A) (made : A) : Type 0 where
  pub counted : before.next + length formulas < 2 ^ 32 → after.next ≡ before.next + length formulas
  pub is : (entries : Entries) (from : Entry) (rest : List (Option Meaning)) → AreNumbers entries numbers
      → before.next + length formulas < 2 ^ 32
      → map (meaning_of_sense entries) senses ≡ map (meaning_of entries from) references ++ rest
      → CollectsIn entries from rest left before after formulas (value entries from) made
