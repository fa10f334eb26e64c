-- The size of a tree that is read.
use Rattle.std.specs.Prelude.{◌≤◌}
use Rattle.psa_text.specs.declared.limits.TheConstants.{MAX_DEPTH, MAX_ELEMENTS}
use Rattle.psa_text.specs.declared.tree.Document.{Document}
use Rattle.psa_text.specs.Tree.{depth}
use Rattle.psa_text.specs.TreeSize.{elements_in}

pub record IsSmall (doc : Document) : Type 0 where
  pub elements : elements_in doc.root ≤ MAX_ELEMENTS
  pub flat : depth doc.root ≤ MAX_DEPTH
