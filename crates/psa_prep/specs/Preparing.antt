-- What is made of a target.
use Rattle.std.specs.Prelude.{◌≡◌, ◌<◌, ℕ, Bool, length}
use Rattle.psa_graph.specs.Truths.{truth_at, AreChildrenFirst}
use Rattle.psa_model.specs.Parts.{IsPart}
use Rattle.psa_model.specs.Ranks.{ranks_of}
use Rattle.psa_model.specs.Targets.{truth_by_rank}
use Rattle.psa_prep.specs.declared.builder.Builder.{Builder}
use Rattle.psa_prep.specs.declared.paths.Task.{Task}
use Rattle.psa_prep.specs.Nodes.{nodes_of}

-- The node at the root reads as the target, and each node is a part of it.
pub record MadeTarget (task : Task) (builder : Builder) (root : ℕ) : Type 0 where
  pub there : root < length (nodes_of builder)
  pub first : AreChildrenFirst builder.width (nodes_of builder)
  pub is_width : builder.width ≡ length (ranks_of task.expanded.now task.target.now)
  pub reads : (s : ℕ → Bool) → truth_at (nodes_of builder) root s ≡ truth_by_rank task.expanded.now task.target.now (ranks_of task.expanded.now task.target.now) s
  pub parts : (place : ℕ) → place < length (nodes_of builder) → IsPart task.expanded.now task.target.now (truth_at (nodes_of builder) place)
