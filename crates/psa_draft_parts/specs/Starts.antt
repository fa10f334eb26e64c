-- What the code holds of an element, as the definition of the draft has it.
use Rattle.psa_elements.specs.DraftReading as reading
use Rattle.psa_draft_parts.specs.declared.start.Around.{Around}
use Rattle.psa_draft_parts.specs.declared.start.StartTag.{StartTag}
use Rattle.psa_draft_parts.specs.Sayings.{start_tag}

abbrev pub around_of : Around → reading.Surroundings
around_of around = record { file = around.file; container = around.container; is_private = around.is_private }

abbrev pub start_of : StartTag → reading.StartTag
start_of start = start_tag (around_of start.around.now) start.number start.element.now
