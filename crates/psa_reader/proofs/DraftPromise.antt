-- The draft of files without a fault of shape, of limited size and depth, keeps its promise.
use Rattle.std.proofs.Common.{◌≡◌, ◌≤◌, List, None, map, length, arith}
use Rattle.std.specs.Prelude.{All}
use Rattle.std.proofs.lemmas.List.{length-map}
use Rattle.std.proofs.lemmas.List.Elements.{All-from_recursion, recursion_from_All}
use Rattle.psa_text.specs.declared.limits.TheConstants.{MAX_DEPTH, MAX_ELEMENTS}
use Rattle.psa_text.specs.declared.tree.Document.{Document}
use Rattle.psa_text.specs.declared.tree.Element.{Element}
use Rattle.psa_text.specs.Tree.{depth}
use Rattle.psa_text.specs.TreeSize.{elements_in}
use Rattle.psa_model.specs.Drafts.{IsDraft}
use Rattle.psa_model.specs.declared.limits.TheConstants.{MAX_FILES}
use Rattle.psa_elements.specs.ShapeFaults.{shape_fault}
use Rattle.psa_elements.specs.DraftReading.{draft_of}
use Rattle.psa_reader.proofs.PlacesApart.{references-apart, definitions-apart, draft-few}
use Rattle.psa_reader.proofs.Places.{draft-ascends}
use Rattle.psa_reader.proofs.Containers.{draft-contained}
use Rattle.psa_reader.proofs.Fits.{HasBody, all-map, fit-together, fit-map, definition_in}
use Rattle.psa_reader.proofs.ElementShapes.{draft-sound}

pub draft-promised : (roots : List Element) → shape_fault roots ≡ None → length roots ≤ MAX_FILES
    → All (λ root. elements_in root ≤ MAX_ELEMENTS) roots
    → All (λ root. depth root ≤ MAX_DEPTH) roots → IsDraft (draft_of roots)
draft-promised roots none few small flat =
    let ds = (draft_of roots).definitions in
    let sound = draft-sound roots none (recursion_from_All (λ (root : Element). depth root ≤ MAX_DEPTH) roots flat) in
    let fit = fit-together 64 (map definition_in ds) (fit-map 64 definition_in ds sound.fit) in
    record {
      bodies = All-from_recursion HasBody ds sound.bodies;
      containers = draft-contained roots;
      numbers = fit.numbered;
      shallow = fit.nested;
      ascending = draft-ascends roots;
      references_apart = references-apart roots;
      definitions_apart = definitions-apart roots;
      few = omega (
        arith,
        draft-few MAX_ELEMENTS roots
            (recursion_from_All (λ (root : Element). elements_in root ≤ MAX_ELEMENTS) roots small),
        few,
      );
    }

-- the same, of the roots of documents
pub documents-promised : (docs : List Document) → shape_fault (map (λ doc. doc.root) docs) ≡ None
    → length docs ≤ MAX_FILES
    → All (λ doc. elements_in doc.root ≤ MAX_ELEMENTS) docs → All (λ doc. depth doc.root ≤ MAX_DEPTH) docs
    → IsDraft (draft_of (map (λ doc. doc.root) docs))
documents-promised docs none few small flat =
    let root = λ (doc : Document). doc.root in
    draft-promised (map root docs) none (omega (arith, length-map docs root, few))
    (All-from_recursion (λ (e : Element). elements_in e ≤ MAX_ELEMENTS) (map root docs)
    (all-map (λ (e : Element). elements_in e ≤ MAX_ELEMENTS) root docs
    (recursion_from_All (λ (doc : Document). elements_in doc.root ≤ MAX_ELEMENTS) docs small)))
    (All-from_recursion (λ (e : Element). depth e ≤ MAX_DEPTH) (map root docs)
    (all-map (λ (e : Element). depth e ≤ MAX_DEPTH) root docs
    (recursion_from_All (λ (doc : Document). depth doc.root ≤ MAX_DEPTH) docs flat)))
