-- No definition is of two kinds.
use Rattle.std.proofs.Common.{◌≡◌, ◌≤◌, ◌+◌, ◌==◌, ℕ, List, [], ◌∷◌, map, length, ◌∙◌, arith}
use Rattle.std.proofs.lemmas.List.{length-map}
use Rattle.psa_model.specs.declared.draft.DefinitionKind.{DefinitionKind}
use Rattle.psa_model.specs.declared.draft.DefinitionKind.TheVariants as kind
use Rattle.psa_names.specs.Outlines.{Entry, Entries}
use Rattle.psa_names.specs.Ids.{kind_number, is_kind, all_of_kind}
use Rattle.psa_names.proofs.Sums.{weigh}
use Rattle.psa_names.proofs.Sums.{one_if, kept-length}

-- ---- definitions by kind

-- the number of definitions of a kind
abbrev pub of_number : ℕ → List Entry → ℕ
of_number n xs = weigh (λ (e : Entry). one_if (kind_number e.kind == n)) xs

-- how many elements a list made of the definitions of a kind has
pub kind-count : {A : Type 0} (its : DefinitionKind) (entries : Entries) (make : ℕ × Entry → A)
    → length (map make (all_of_kind its entries)) ≡ of_number (kind_number its) entries
kind-count its entries make = length-map (all_of_kind its entries) make ∙ kept-length (is_kind its) 0 entries

abbrev all_numbers : DefinitionKind → ℕ
all_numbers k =
    one_if (kind_number k == 0) + one_if (kind_number k == 1) + one_if (kind_number k == 2) + one_if
    (kind_number k == 3)
    + one_if (kind_number k == 4) + one_if (kind_number k == 5) + one_if (kind_number k == 6) + one_if
    (kind_number k == 7)
    + one_if (kind_number k == 8) + one_if (kind_number k == 9) + one_if (kind_number k == 10) + one_if
    (kind_number k == 11)

one-kind : (k : DefinitionKind) → all_numbers k ≤ 1
one-kind kind.FaultTree = omega arith
one-kind kind.Gate = omega arith
one-kind kind.BasicEvent = omega arith
one-kind kind.HouseEvent = omega arith
one-kind kind.Parameter = omega arith
one-kind kind.Group = omega arith
one-kind kind.InitiatingEvent = omega arith
one-kind kind.EventTree = omega arith
one-kind kind.FunctionalEvent = omega arith
one-kind kind.Sequence = omega arith
one-kind kind.Branch = omega arith
one-kind kind.Rule = omega arith
one-kind kind.Component = omega arith

-- definitions of all kinds are no more than all definitions
pub kinds-few : (xs : List Entry)
    → of_number 0 xs + of_number 1 xs + of_number 2 xs + of_number 3 xs + of_number 4 xs + of_number 5 xs + of_number
    6 xs + of_number 7 xs + of_number 8 xs + of_number 9 xs + of_number 10 xs + of_number 11 xs ≤ length xs
kinds-few [] = omega arith
kinds-few (x ∷ xs) = let rest = kinds-few xs in let here = one-kind x.kind in omega (arith, rest, here)
