-- What stands around the elements in a container, and in the root of a file.
use Rattle.std.proofs.Common.{ℕ, Bool, false, List}
use Rattle.psa_model.specs.PathNames.{Text}
use Rattle.psa_elements.specs.DraftReading.{Surroundings}
use Rattle.psa_draft_parts.specs.declared.start.Around.{Around}

abbrev pub inner_of : Around → List Text → Bool → Surroundings
inner_of around container is_private = record { file = around.file; container = container; is_private = is_private }

abbrev pub file_around : ℕ → List Text → Surroundings
file_around file container = record { file = file; container = container; is_private = false }
