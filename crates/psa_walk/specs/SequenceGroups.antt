-- Paths put together by their sequences.
use Rattle.std.specs.Prelude.{◌==◌, ℕ, List, [], ◌∷◌, ◌++◌, map, if◌then◌else◌}
use Rattle.psa_model.specs.declared.targets.Target.{Target}
use Rattle.psa_model.specs.declared.targets.Target.TheVariants.{Sequence}
use Rattle.psa_model.specs.Paths.{Arrived}
use Rattle.psa_walk.specs.declared.groups.SequenceGroup.{SequenceGroup}

-- the groups after a path arrived: at the end of its sequence's group, or in a new one at the end
abbrev pub grouped : List SequenceGroup → Arrived → List SequenceGroup
grouped [] a = record { sequence = a.sequence; paths = a.path ∷ [] } ∷ []
grouped (g ∷ gs) a =
    if a.sequence.0 == g.sequence.0 then record g { paths = g.paths ++ a.path ∷ [] } ∷ gs else g ∷ grouped gs a

-- the groups after all paths
abbrev pub all_grouped : List SequenceGroup → List Arrived → List SequenceGroup
all_grouped gs [] = gs
all_grouped gs (a ∷ more) = all_grouped (grouped gs a) more

-- the numbers of the sequences
abbrev pub numbers : List SequenceGroup → List ℕ
numbers = map (λ g. g.sequence.0)

-- a group as a target of an initiating event
abbrev pub target_of : ℕ → SequenceGroup → Target
target_of place g = Sequence (record { 0 = place }) g.sequence g.paths
