use Rattle.psa_elements.proofs.TableLemmas.{tags-distinct}
use Rattle.psa_elements.proofs.laws.tags_are_apart.Goals as goal

pub returns : goal.returns
returns c = tags-distinct
