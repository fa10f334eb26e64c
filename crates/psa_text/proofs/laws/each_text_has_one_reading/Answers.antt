use Rattle.psa_text.proofs.OneReading.{same_items, same_tree}
use Rattle.psa_text.proofs.laws.each_text_has_one_reading.Goals as goal

pub returns-clause-items : goal.returns-clause-items
returns-clause-items c = same_items

pub returns-clause-tree : goal.returns-clause-tree
returns-clause-tree c = same_tree
