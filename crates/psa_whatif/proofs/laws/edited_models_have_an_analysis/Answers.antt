use Rattle.psa_whatif.proofs.EditLemmas.{edits-analysed}
use Rattle.psa_whatif.proofs.laws.edited_models_have_an_analysis.Goals as goal

pub returns : goal.returns
returns c loaded edits is taken = edits-analysed loaded edits is taken
