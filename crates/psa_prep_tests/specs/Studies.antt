-- A model that is read from a text, with its events and targets.
use Rattle.std.specs.Prelude.{◌≡◌, ◌<◌, ◌≤◌, ◌^◌, true, List, length}
use Rattle.std.specs.List.{list_all}
use Rattle.psa_text.specs.declared.limits.TheConstants.{MAX_DEPTH, MAX_ELEMENTS}
use Rattle.psa_text.specs.declared.tree.Document.{Document}
use Rattle.psa_text.specs.Tree.{depth}
use Rattle.psa_text.specs.TreeSize.{elements_in}
use Rattle.psa_model.specs.Standing.{target_stands}
use Rattle.psa_model.specs.Truth.{IsResolved}
use Rattle.psa_model.specs.declared.expanded.Expanded.{Expanded}
use Rattle.psa_model.specs.declared.targets.Target.{Target}

pub record IsSmall (doc : Document) : Type 0 where
  pub elements : elements_in doc.root ≤ MAX_ELEMENTS
  pub flat : depth doc.root ≤ MAX_DEPTH

pub record IsStudy (expanded : Expanded) (targets : List Target) : Type 0 where
  pub resolved : IsResolved expanded.model
  pub few : length expanded.events < 2 ^ 32
  pub stand : list_all (target_stands expanded.model) targets ≡ true
