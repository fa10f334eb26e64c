-- Steps of the reading of files in their order.
use Rattle.std.proofs.Common.{◌≡◌, ℕ, suc, ◌+◌, ◌<◌, ◌≤◌, List, [], ◌∷◌, ◌++◌, Option, Some, None, Result, Ok, Err, MatchOption, length, take, drop, get_or, refl, sym, ap, subst, ◌∙◌, take-append-drop, drop-cons, length-take-le, length-append, take_all, le_of_lt, arith}
use Rattle.std.proofs.lemmas.List.{take_more, map-append}
use Rattle.std.proofs.lemmas.List.Elements.{All-nil, All-push}
use Rattle.std.specs.Bool.{⊤}
use Rattle.std.specs.List.{AllZip}
use Rattle.psa_text.specs.declared.limits.TheConstants.{MAX_DEPTH, MAX_ELEMENTS}
use Rattle.psa_text.specs.declared.scanner.error.TextFault.{TextFault}
use Rattle.psa_text.specs.declared.tree.Document.{Document}
use Rattle.psa_text.specs.declared.tree.Element.{Element}
use Rattle.psa_text.specs.Tree.{depth}
use Rattle.psa_text.specs.TreeSize.{elements_in}
use Rattle.psa_model.specs.declared.fault.ModelFault.{ModelFault}
use Rattle.psa_model.specs.declared.settings.Settings.{Settings}
use Rattle.psa_outcome.specs.declared.loaded.LoadError.{LoadError}
use Rattle.psa_outcome.specs.declared.loaded.LoadError.TheVariants.{Bad, Read, Memory}
use Rattle.psa_outcome.specs.Causes.{LeavesRest}
use Rattle.psa_outcome.specs.Inputs.{Told, HasTree, IsFirstFault, of_text, text_fault_in}
use Rattle.psa_load.specs.declared.document.DocumentError.{DocumentError}
use Rattle.psa_load.specs.declared.document.DocumentError.TheVariants as document
use Rattle.psa_load.specs.Documents.{DocumentAnswers}
use Rattle.psa_load.specs.Files.{roots_of, IsErrorOf, FilesAnswer, AreRead}

-- a related pair more at the end
all-zip-push : {A B : Type 0} (R : A → B → Type 0) (xs : List A) (ys : List B) (x : A) (y : B) → AllZip R xs ys → R x y → AllZip R (xs ++ x ∷ []) (ys ++ y ∷ [])
all-zip-push R [] [] x y all one = (one, tt)
all-zip-push R [] (b ∷ ys) x y all one = absurd all
all-zip-push R (a ∷ xs) [] x y all one = absurd all
all-zip-push R (a ∷ xs) (b ∷ ys) x y all one = (all.0, all-zip-push R xs ys x y all.1 one)

root : Document → Element
root document = document.root

-- no file is read yet
pub none-read : (names : List (List ℕ)) (texts : Option Told) → AreRead names texts 0 []
none-read names texts = record {
  trees = no-trees texts;
  number = refl;
  flat = All-nil (λ document. depth document.root ≤ MAX_DEPTH);
  small = All-nil (λ document. elements_in document.root ≤ MAX_ELEMENTS);
}
  where
    no-trees : (texts : Option Told) → MatchOption texts ⊤ (λ told. AllZip (HasTree told) (take 0 names) (roots_of []))
    no-trees None = tt
    no-trees (Some told) = tt

module _ (names : List (List ℕ)) (i : ℕ) (name : List ℕ) (inside : i < length names) (is : name ≡ get_or names i name) where
  -- the names before and behind the one at a place
  split : names ≡ take i names ++ name ∷ drop (suc i) names
  split =
      sym (take-append-drop i names)
      ∙ ap (λ rest. take i names ++ rest) (drop-cons names i name inside ∙ ap (λ n. n ∷ drop (suc i) names) (sym is))

  next : take (i + 1) names ≡ take i names ++ name ∷ []
  next = take_more names i name inside ∙ ap (λ n. take i names ++ n ∷ []) (sym is)

  before-all : length (take i names) ≡ i
  before-all = length-take-le i names (le_of_lt inside)

  -- one file more has a tree
  one-more-tree : (texts : Option Told) (rest : Option (List ℕ)) (documents : List Document) (document : Document)
      → MatchOption texts ⊤ (λ told. AllZip (HasTree told) (take i names) (roots_of documents))
      → MatchOption texts ⊤ (λ told. DocumentAnswers told name rest (Ok document))
      → MatchOption texts ⊤ (λ told. AllZip (HasTree told) (take (i + 1) names) (roots_of (documents ++ document ∷ [])))
  one-more-tree None rest documents document trees tree = tt
  one-more-tree (Some told) rest documents document trees tree =
      rw (next, map-append (λ (d : Document). d.root) documents (document ∷ []))
      (all-zip-push (HasTree told) (take i names) (roots_of documents) name document.root trees tree)

  -- one file more is read
  pub one-more-read : (texts : Option Told) (rest : Option (List ℕ)) (documents : List Document) (document : Document)
      → AreRead names texts i documents → MatchOption texts ⊤ (λ told. DocumentAnswers told name rest (Ok document))
      → depth document.root ≤ MAX_DEPTH → elements_in document.root ≤ MAX_ELEMENTS
      → AreRead names texts (i + 1) (documents ++ document ∷ [])
  one-more-read texts rest documents document are tree flat small = record {
    trees = one-more-tree texts rest documents document are.trees tree;
    number = omega (arith, length-append documents (document ∷ []), are.number);
    flat = All-push (λ document. depth document.root ≤ MAX_DEPTH) documents document are.flat flat;
    small = All-push (λ document. elements_in document.root ≤ MAX_ELEMENTS) documents document are.small small;
  }

  -- the fault of the file is the first of all
  first-fault : (texts : Option Told) (rest : Option (List ℕ)) (documents : List Document) (found : TextFault)
      → MatchOption texts ⊤ (λ told. AllZip (HasTree told) (take i names) (roots_of documents))
      → MatchOption texts ⊤ (λ told. DocumentAnswers told name rest (Err (document.Fault found)))
      → MatchOption texts ⊤ (λ told. (settings : Settings) → IsFirstFault settings names told (text_fault_in i found))
  first-fault None rest documents found trees fault = tt
  first-fault (Some told) rest documents found trees fault = λ settings.
      subst (λ number. IsFirstFault settings names told (text_fault_in number found)) before-all
      (of_text (take i names) name (drop (suc i) names) (roots_of documents) found split trees fault)

  -- the files before the one that could not be read have trees
  have-trees : (texts : Option Told) (documents : List Document)
      → MatchOption texts ⊤ (λ told. AllZip (HasTree told) (take i names) (roots_of documents))
      → MatchOption texts ⊤ (λ told. (roots : List Element) × AllZip (HasTree told) (take i names) roots)
  have-trees None documents trees = tt
  have-trees (Some told) documents trees = (roots_of documents, trees)

  left-over : (texts : Option Told) (rest : Option (List ℕ))
      → MatchOption texts ⊤ (λ told. DocumentAnswers told name rest (Err document.Read))
      → MatchOption texts ⊤ (λ told. LeavesRest told name rest)
  left-over None rest left = tt
  left-over (Some told) rest left = left

  -- the error of the file is answered
  pub stopped : (texts : Option Told) (rest : Option (List ℕ)) (documents : List Document) (failed : DocumentError) (answer : LoadError)
      → AreRead names texts i documents → MatchOption texts ⊤ (λ told. DocumentAnswers told name rest (Err failed))
      → IsErrorOf i failed answer → FilesAnswer names texts rest (Err answer)
  stopped texts rest documents (document.Fault found) (Bad fault) are told answers = record {
    of_files = subst (λ (f : ModelFault). f.file < length names) (sym answers) inside;
    first =
        subst (λ (f : ModelFault). MatchOption texts ⊤ (λ told. (settings : Settings) → IsFirstFault settings names told f)) (sym answers)
        (first-fault texts rest documents found are.trees told);
  }
  stopped texts rest documents (document.Fault found) (Read other) are told answers = absurd answers
  stopped texts rest documents (document.Fault found) Memory are told answers = tt
  stopped texts rest documents document.Read (Bad fault) are told answers = absurd answers
  stopped texts rest documents document.Read (Read other) are told answers = record {
    before = take i names;
    file = name;
    behind = drop (suc i) names;
    files = split;
    place = before-all ∙ sym answers;
    earlier = have-trees texts documents are.trees;
    left = left-over texts rest told;
  }
  stopped texts rest documents document.Read Memory are told answers = absurd answers
  stopped texts rest documents document.Memory (Bad fault) are told answers = absurd answers
  stopped texts rest documents document.Memory (Read other) are told answers = absurd answers
  stopped texts rest documents document.Memory Memory are told answers = tt

-- all files are read
pub all-read : (names : List (List ℕ)) (i : ℕ) (texts : Option Told) (rest : Option (List ℕ)) (documents : List Document) → length names ≤ i → AreRead names texts i documents → FilesAnswer names texts rest (Ok documents)
all-read names i texts rest documents past are =
    subst (λ some. MatchOption texts ⊤ (λ told. AllZip (HasTree told) some (roots_of documents))) (take_all i names past) are.trees

-- only a file that could not be read is answered so
pub read-error : (number : ℕ) (failed : DocumentError) (answer : LoadError) (other : ℕ) → IsErrorOf number failed answer → answer ≡ Read other → (failed ≡ document.Read) × (other ≡ number)
read-error number (document.Fault found) (Bad fault) other answers same = absurd (cc)
read-error number (document.Fault found) (Read place) other answers same = absurd answers
read-error number (document.Fault found) Memory other answers same = absurd (cc)
read-error number document.Read (Bad fault) other answers same = absurd answers
read-error number document.Read (Read place) other answers same = (refl, sym (place-same same) ∙ answers)
  where
    place-same : Read place ≡ Read other → place ≡ other
    place-same e = cc
read-error number document.Read Memory other answers same = absurd answers
read-error number document.Memory (Bad fault) other answers same = absurd (cc)
read-error number document.Memory (Read place) other answers same = absurd answers
read-error number document.Memory Memory other answers same = absurd (cc)

-- the answer of a file, where the files are told as before
pub same-answer : (texts other : Option Told) (name same : List ℕ) (left : Option (List ℕ)) (result : Result Document DocumentError) → other ≡ texts → same ≡ name → MatchOption other ⊤ (λ told. DocumentAnswers told same left result) → MatchOption texts ⊤ (λ told. DocumentAnswers told name left result)
same-answer texts other name same left result told is answers =
    subst (λ files. MatchOption files ⊤ (λ told. DocumentAnswers told name left result)) told
    (subst (λ n. MatchOption other ⊤ (λ told. DocumentAnswers told n left result)) is answers)
