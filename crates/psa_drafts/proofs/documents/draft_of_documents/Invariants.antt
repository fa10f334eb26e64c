use Rattle.std.proofs.Common.{◌≡◌, take, map}
use Rattle.std.specs.List.{flat_map, enumerate_from}
use Rattle.psa_elements.specs.DraftReading.{file_definitions}
use Rattle.psa_text.specs.declared.tree.Document.{Document}
use Rattle.psa_drafts.proofs.documents.draft_of_documents.Given as goal

abbrev pub invariant-loop-place : goal.invariant-loop-place
invariant-loop-place l = l.definitions ≡ flat_map file_definitions (enumerate_from 0 (map (λ (d : Document).
    d.root) (take l.place l.docs)))
