-- The text of the sample as that of a told file.
use Rattle.std.proofs.Common.{◌≡◌, ℕ, List, Option, Some, Result, Ok, Err, refl, sym, ap, ◌∙◌}
use Rattle.psa_text.specs.declared.scanner.Scanner.{Scanner}
use Rattle.psa_text.specs.declared.scanner.error.TextError.{TextError}
use Rattle.psa_text.specs.declared.scanner.error.TextError.TheVariants.{Fault, Memory}
use Rattle.psa_text.specs.declared.tree.Document.{Document}
use Rattle.psa_text.specs.declared.tree.Element.{Element}
use Rattle.psa_text.specs.declared.scanner.error.TextFault.{TextFault}
use Rattle.psa_text.specs.scanner.State.{Answers, Ends}
use Rattle.psa_text.specs.TextOutcome.{IsRead, tree, inside, at_end}
use Rattle.psa_ports.specs.Folder.{text_of}
use Rattle.psa_outcome.specs.Causes.{sample_name}
use Rattle.psa_outcome.specs.Inputs.{ReadsAs}
use Rattle.psa_outcome.specs.SampleText.{sample_text}
use Rattle.psa_load.specs.Documents.{DocumentAnswers, text_error}
use Rattle.psa_load.specs.Samples.{sample_files}
use Rattle.psa_load.proofs.ReadingLemmas.{reads-as}

-- the sample's text is that of the file with its name
sample-told : (n : ℕ) → text_of sample_name (sample_files n) ≡ Some (sample_text n)
sample-told n = refl

module _ (n : ℕ) (rest : Option (List ℕ)) (text : List ℕ) (is : text ≡ sample_text n) where
  sample-reads : (outcome : Result Element TextFault) → IsRead text outcome → ReadsAs (sample_files n) outcome sample_name
  sample-reads outcome read = reads-as (sample_files n) sample_name text outcome (sample-told n ∙ ap Some (sym is)) read

  -- the first fault of the text is answered
  pub sample-fault : (failed : TextError) (now : Scanner) → Answers text now (Err failed) → DocumentAnswers (sample_files n) sample_name rest (Err (text_error failed))
  sample-fault (Fault found) now first = sample-reads (Err found) (inside found first)
  sample-fault Memory now first = tt

  -- so is the fault at its end
  pub sample-end : (failed : TextError) → Ends text (Err failed) → DocumentAnswers (sample_files n) sample_name rest (Err (text_error failed))
  sample-end (Fault found) ends = sample-reads (Err found) (at_end found ends.0 ends.1)
  sample-end Memory ends = absurd ends

  -- and its tree
  pub sample-tree : (document : Document) → Ends text (Ok document) → DocumentAnswers (sample_files n) sample_name rest (Ok document)
  sample-tree document ends = sample-reads (Ok document.root) (tree document.root ends.0 ends.1)
