use Rattle.std.proofs.Common.{◌≡◌, take}
use Rattle.std.specs.List.{enumerate_from}
use Rattle.psa_names.specs.Ids.{kind_number}
use Rattle.psa_bodies.specs.declared.numbers.Numbered.{Numbered}
use Rattle.psa_bodies.proofs.NamedTrees.{kept_places}
use Rattle.psa_bodies.proofs.trees.places_of_kind.Given as goal

abbrev pub invariant-loop-place : goal.invariant-loop-place
invariant-loop-place l =
    l.places ≡ kept_places (λ (n : Numbered). kind_number n.kind) (kind_number l.kind) (enumerate_from 0 (take l.place l.numbered-items))
