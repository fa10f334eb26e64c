use Rattle.psa_whatif.proofs.EditLemmas.{edit-loaded, edits-loaded, taken-after}
use Rattle.psa_whatif.proofs.laws.edits_keep_what_is_loaded.Goals as goal

pub returns-clause-one : goal.returns-clause-one
returns-clause-one c loaded edit is taken = edit-loaded loaded edit is taken

pub returns-clause-others : goal.returns-clause-others
returns-clause-others c loaded edit other taken = taken-after loaded edit other taken

pub returns-clause-all : goal.returns-clause-all
returns-clause-all c loaded edits is taken = edits-loaded loaded edits is taken
