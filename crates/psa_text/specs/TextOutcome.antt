-- What the text of a file comes to: its tree, or its fault. This project's own.
use Rattle.std.specs.Prelude.{◌≡◌, ℕ, List, Result, Ok, Err}
use Rattle.psa_text.specs.declared.tree.Element.{Element}
use Rattle.psa_text.specs.declared.scanner.error.TextFault.{TextFault}
use Rattle.psa_text.specs.TextFaults.{NoFault, FirstFault, IsTree, EndsIn}

-- The tree of a text in which no byte decides a fault, or the fault: that of the earliest byte that decides one, else
-- that at the end.
pub data IsRead (bytes : List ℕ) : Result Element TextFault → Type 0 where
  tree : (root : Element) → IsTree bytes root → NoFault bytes → IsRead bytes (Ok root)
  inside : (found : TextFault) → FirstFault bytes found → IsRead bytes (Err found)
  at_end : (found : TextFault) → EndsIn bytes found → NoFault bytes → IsRead bytes (Err found)

-- a text comes to no two things, and to one
abbrev pub ReadsOnce : Type 0
ReadsOnce = (bytes : List ℕ) (one other : Result Element TextFault) → IsRead bytes one → IsRead bytes other → one ≡ other

abbrev pub EachReads : Type 0
EachReads = (bytes : List ℕ) → (outcome : Result Element TextFault) × IsRead bytes outcome
