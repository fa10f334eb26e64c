use Rattle.psa_outcome.proofs.UnitySection.{unity-listed, unity-section}
use Rattle.psa_outcome.proofs.examples.a_certain_top_event_is_unity.Goals as goal

pub returns-clause-listing : goal.returns-clause-listing
returns-clause-listing c settings = unity-listed settings

pub returns-clause-section : goal.returns-clause-section
returns-clause-section c settings none = unity-section settings none
