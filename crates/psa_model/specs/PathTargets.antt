-- The targets of a model: its top events, and the sequences of its event trees with all paths that arrive at each.
-- The order is this project's own.
use Rattle.std.specs.Prelude.{◌==◌, ℕ, suc, List, [], ◌∷◌, ◌++◌, map, filter}
use Rattle.psa_model.specs.declared.model.Initiating.{Initiating}
use Rattle.psa_model.specs.declared.model.Model.{Model}
use Rattle.psa_model.specs.declared.targets.PathStep.{PathStep}
use Rattle.psa_model.specs.declared.targets.Target.{Target}
use Rattle.psa_model.specs.declared.targets.Target.TheVariants.{Sequence}
use Rattle.psa_model.specs.Paths.{Arrived, Arrival, too_long, arrives, paths_of}
use Rattle.psa_model.specs.Ranks.{firsts}
use Rattle.psa_model.specs.Targets.{top_targets}

-- the paths of a list that arrived
abbrev pub arrived_in : List Arrival → List Arrived
arrived_in [] = []
arrived_in (too_long ∷ more) = arrived_in more
arrived_in (arrives a ∷ more) = a ∷ arrived_in more

-- those that arrived at a sequence, in order
abbrev pub paths_to : ℕ → List Arrived → List (List PathStep)
paths_to sequence arrived = map (λ a. a.path) (filter (λ a. a.sequence.0 == sequence) arrived)

-- the sequences of an initiating event in the order of their first path, each with all its paths
abbrev pub sequence_targets : ℕ → List Arrived → List Target
sequence_targets place arrived =
    map (λ sequence. Sequence (record { 0 = place }) (record { 0 = sequence }) (paths_to sequence arrived))
    (firsts (map (λ a. a.sequence.0) arrived))

-- those of all initiating events, of which the first has this place
abbrev pub all_sequences : Model → ℕ → List Initiating → List Target
all_sequences model place [] = []
all_sequences model place (initiating ∷ more) =
    sequence_targets place (arrived_in (paths_of model place initiating)) ++ all_sequences model (suc place) more

-- the top events in document order, then the sequences of each initiating event
abbrev pub targets_of : Model → List Target
targets_of model = top_targets model ++ all_sequences model 0 model.initiatings
