use Rattle.std.specs.Prelude.{ℕ, List, [], Result, Ok, Err, IfOk}
use Rattle.psa_text.specs.declared.tree.Document.{Document}
use Rattle.psa_text.specs.declared.scanner.error.TextError.{TextError}
use Rattle.psa_text.specs.scanner.State.{Ends}
use Rattle.psa_text.proofs.TreeSizes.{tree_depth, tree_elements}
use Rattle.psa_prep_tests.specs.Studies.{IsSmall}
use Rattle.psa_prep_tests.proofs.studies.document.Goals as goal

-- what a scanner ends in is a small tree, or no tree
small : (bytes : List ℕ) (result : Result Document TextError) → Ends bytes result → IfOk result IsSmall
small bytes (Ok document) ends = record { elements = tree_elements bytes document.root ends.0 ends.1; flat = tree_depth bytes document.root ends.0 }
small bytes (Err error) ends = tt

pub returns-in-Ok : goal.returns-in-Ok
returns-in-Ok c =
    let text = c.as_bytes.result.now in
    small text c.finish.result (c.finish.ensures.read text (c.in-Ok.ensures.read [] c.new-scanner.ensures).0)
