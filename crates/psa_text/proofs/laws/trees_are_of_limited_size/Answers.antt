use Rattle.psa_text.proofs.TreeSizes.{tree_depth, tree_elements}
use Rattle.psa_text.proofs.laws.trees_are_of_limited_size.Goals as goal

pub returns-clause-depth : goal.returns-clause-depth
returns-clause-depth c = tree_depth

pub returns-clause-elements : goal.returns-clause-elements
returns-clause-elements c = tree_elements
