-- An input comes to one outcome, if each text does.
use Rattle.std.proofs.Common.{◌≡◌, ◌⊎◌, ℕ, suc, true, List, [], ◌∷◌, ◌++◌, Option, Some, None, Result, refl, sym, ap, subst, ◌∙◌, inl, inr}
use Rattle.std.proofs.lemmas.Bool.{and_parts, false≢true}
use Rattle.std.specs.Prelude.{Ok, Err, IsSomeAnd, is_some, length}
use Rattle.std.specs.List.{AllZip}
use Rattle.psa_text.specs.declared.tree.Element.{Element}
use Rattle.psa_text.specs.declared.scanner.error.TextFault.{TextFault}
use Rattle.psa_ports.specs.Folder.{text_of}
use Rattle.psa_model.specs.declared.fault.ModelFault.{ModelFault}
use Rattle.psa_model.specs.declared.settings.Settings.{Settings}
use Rattle.psa_outcome.specs.Analyses.{analysis_of}
use Rattle.psa_outcome.specs.Inputs.{Told, AllAreTold, ReadsAs, HasTree, text_fault_in, IsFirstFault, of_text, of_trees, IsAnalysis, IsOutcome}
use Rattle.psa_model.specs.Report.{Analysis, IsReport}
use Rattle.psa_model.proofs.Determined.{report-determined}
use Rattle.psa_outcome.specs.Runs.{all_targets}
use Rattle.psa_text.specs.TextOutcome.{IsRead, ReadsOnce, EachReads}

-- ---- at most one

-- what a first fault is made of
record OfText (names : List (List ℕ)) (told : Told) (fault : ModelFault) : Type 0 where
  before : List (List ℕ)
  name : List ℕ
  behind : List (List ℕ)
  roots : List Element
  found : TextFault
  files : names ≡ before ++ name ∷ behind
  trees : AllZip (HasTree told) before roots
  reads : ReadsAs told (Err found) name
  is : fault ≡ text_fault_in (length before) found

record OfTrees (settings : Settings) (names : List (List ℕ)) (told : Told) (fault : ModelFault) : Type 0 where
  roots : List Element
  trees : AllZip (HasTree told) names roots
  analysed : analysis_of settings roots ≡ Err fault

fault-cases : (settings : Settings) (names : List (List ℕ)) (told : Told) (fault : ModelFault) → IsFirstFault settings names told fault → OfText names told fault ⊎ OfTrees settings names told fault
fault-cases settings names told _ (of_text before name behind roots found files trees reads) =
    inl (record { before = before; name = name; behind = behind; roots = roots; found = found; files = files; trees = trees; reads = reads; is = refl })
fault-cases settings names told _ (of_trees roots found trees analysed) = inr (record { roots = roots; trees = trees; analysed = analysed })

-- no result is both `Ok` and `Err`
pub ok-err : {A B : Type 0} {x : A} {e : B} → ◌≡◌ {A = Result A B} (Ok x) (Err e) → ⊥
ok-err p = absurd (cc)

ok-same : {A B : Type 0} {x y : A} → ◌≡◌ {A = Result A B} (Ok x) (Ok y) → x ≡ y
ok-same p = cc

-- two `Err` that are the same have the same fault
pub err-same : {A B : Type 0} {x y : B} → ◌≡◌ {A = Result A B} (Err x) (Err y) → x ≡ y
err-same p = cc

no-item : {A : Type 0} (xs : List A) (x : A) (ys : List A) → [] ≡ xs ++ x ∷ ys → ⊥
no-item [] x ys p = absurd (cc)
no-item (z ∷ zs) x ys p = absurd (cc)

head-same : {A : Type 0} {x y : A} {xs ys : List A} → x ∷ xs ≡ y ∷ ys → x ≡ y
head-same p = cc

tail-same : {A : Type 0} {x y : A} {xs ys : List A} → x ∷ xs ≡ y ∷ ys → xs ≡ ys
tail-same p = cc

module _ (once : ReadsOnce) (told : Told) where
  reads-same : (name : List ℕ) (one other : Result Element TextFault) → ReadsAs told one name → ReadsAs told other name → one ≡ other
  reads-same name one other p q = on (text_of name told) p q
    where
      on : (o : Option (List ℕ)) → IsSomeAnd o (λ bytes. IsRead bytes one) → IsSomeAnd o (λ bytes. IsRead bytes other) → one ≡ other
      on None p q = absurd p
      on (Some bytes) p q = once bytes one other p q

  trees-same : (names : List (List ℕ)) (roots others : List Element) → AllZip (HasTree told) names roots → AllZip (HasTree told) names others → roots ≡ others
  trees-same [] [] [] p q = refl
  trees-same [] [] (y ∷ ys) p q = absurd q
  trees-same [] (x ∷ xs) others p q = absurd p
  trees-same (name ∷ names) [] others p q = absurd p
  trees-same (name ∷ names) (x ∷ xs) [] p q = absurd q
  trees-same (name ∷ names) (x ∷ xs) (y ∷ ys) p q =
      ap (λ z. z ∷ xs) (ok-same (reads-same name (Ok x) (Ok y) p.0 q.0)) ∙ ap (λ zs. y ∷ zs) (trees-same names xs ys p.1 q.1)

  -- not each of some files has a tree where one has a fault
  no-tree : (names before : List (List ℕ)) (name : List ℕ) (behind : List (List ℕ)) (roots : List Element) (found : TextFault) → names ≡ before ++ name ∷ behind → AllZip (HasTree told) names roots → ReadsAs told (Err found) name → ⊥
  no-tree [] before name behind roots found e p r = absurd (no-item before name behind e)
  no-tree (m ∷ names) before name behind [] found e p r = absurd p
  no-tree (m ∷ names) [] name behind (x ∷ xs) found e p r =
      absurd (ok-err (reads-same m (Ok x) (Err found) p.0 (subst (λ n. ReadsAs told (Err found) n) (sym (head-same e)) r)))
  no-tree (m ∷ names) (b ∷ before) name behind (x ∷ xs) found e p r =
      no-tree names before name behind xs found (tail-same e) p.1 r

  -- the first file with a fault is one
  first-same : (before others : List (List ℕ)) (name other : List ℕ) (behind more : List (List ℕ)) (roots trees : List Element) (found fault : TextFault) → before ++ name ∷ behind ≡ others ++ other ∷ more → AllZip (HasTree told) before roots → AllZip (HasTree told) others trees → ReadsAs told (Err found) name → ReadsAs told (Err fault) other → text_fault_in (length before) found ≡ text_fault_in (length others) fault
  first-same [] [] name other behind more roots trees found fault e p q r s =
      ap (text_fault_in 0) (err-same (reads-same other (Err found) (Err fault) (subst (λ n. ReadsAs told (Err found) n) (head-same e) r) s))
  first-same [] (o ∷ others) name other behind more roots [] found fault e p q r s = absurd q
  first-same [] (o ∷ others) name other behind more roots (x ∷ xs) found fault e p q r s =
      absurd (ok-err (reads-same o (Ok x) (Err found) q.0 (subst (λ n. ReadsAs told (Err found) n) (head-same e) r)))
  first-same (b ∷ before) [] name other behind more [] trees found fault e p q r s = absurd p
  first-same (b ∷ before) [] name other behind more (x ∷ xs) trees found fault e p q r s =
      absurd (ok-err (reads-same b (Ok x) (Err fault) p.0 (subst (λ n. ReadsAs told (Err fault) n) (sym (head-same e)) s)))
  first-same (b ∷ before) (o ∷ others) name other behind more [] trees found fault e p q r s = absurd p
  first-same (b ∷ before) (o ∷ others) name other behind more (x ∷ xs) [] found fault e p q r s = absurd q
  first-same (b ∷ before) (o ∷ others) name other behind more (x ∷ xs) (y ∷ ys) found fault e p q r s =
      ap (λ (m : ModelFault). record m { file = suc m.file })
      (first-same before others name other behind more xs ys found fault (tail-same e) p.1 q.1 r s)

  module _ (settings : Settings) (names : List (List ℕ)) where
    faults-same : (one other : ModelFault) → OfText names told one ⊎ OfTrees settings names told one → OfText names told other ⊎ OfTrees settings names told other → one ≡ other
    faults-same one other (inl p) (inl q) =
        p.is ∙ first-same p.before q.before p.name q.name p.behind q.behind p.roots q.roots p.found q.found (sym p.files ∙ q.files) p.trees q.trees p.reads q.reads ∙ sym q.is
    faults-same one other (inl p) (inr q) = absurd (no-tree names p.before p.name p.behind q.roots p.found p.files q.trees p.reads)
    faults-same one other (inr p) (inl q) = absurd (no-tree names q.before q.name q.behind p.roots q.found q.files p.trees q.reads)
    faults-same one other (inr p) (inr q) =
        err-same (sym p.analysed ∙ ap (analysis_of settings) (trees-same names p.roots q.roots p.trees q.trees) ∙ q.analysed)

    not-both : (analysis : Analysis) (found : ModelFault) → IsAnalysis settings names told analysis → OfText names told found ⊎ OfTrees settings names told found → ⊥
    not-both analysis found p (inl q) = no-tree names q.before q.name q.behind p.roots q.found q.files p.trees q.reads
    not-both analysis found p (inr q) =
        ok-err (sym p.analysed ∙ ap (analysis_of settings) (trees-same names p.roots q.roots p.trees q.trees) ∙ q.analysed)

    pub outcomes-same : (one other : Result Analysis ModelFault) → IsOutcome settings names told one → IsOutcome settings names told other → one ≡ other
    outcomes-same (Ok a) (Ok b) p q =
        sym p.analysed ∙ ap (analysis_of settings) (trees-same names p.roots q.roots p.trees q.trees) ∙ q.analysed
    outcomes-same (Ok a) (Err f) p q = absurd (not-both a f p (fault-cases settings names told f q))
    outcomes-same (Err f) (Ok a) p q = absurd (not-both a f q (fault-cases settings names told f p))
    outcomes-same (Err f) (Err g) p q = ap Err (faults-same f g (fault-cases settings names told f p) (fault-cases settings names told g q))

-- ---- at least one

-- all have trees, or a first one has a fault
record FirstText (names : List (List ℕ)) (told : Told) : Type 0 where
  before : List (List ℕ)
  name : List ℕ
  behind : List (List ℕ)
  roots : List Element
  found : TextFault
  files : names ≡ before ++ name ∷ behind
  trees : AllZip (HasTree told) before roots
  reads : ReadsAs told (Err found) name

module _ (each : EachReads) (told : Told) where
  read : (name : List ℕ) → is_some (text_of name told) ≡ true → (outcome : Result Element TextFault) × ReadsAs told outcome name
  read name is = on (text_of name told) is
    where
      on : (o : Option (List ℕ)) → is_some o ≡ true → (outcome : Result Element TextFault) × IsSomeAnd o (λ bytes. IsRead bytes outcome)
      on None is = absurd (false≢true is)
      on (Some bytes) is = each bytes

  read-all : (names : List (List ℕ)) → AllAreTold told names → ((roots : List Element) × AllZip (HasTree told) names roots) ⊎ FirstText names told
  read-all [] all = inl ([], tt)
  read-all (name ∷ names) all = on (read name (both.0)) (read-all names both.1)
    where
      both : (is_some (text_of name told) ≡ true) × AllAreTold told names
      both = and_parts _ _ all

      on : (outcome : Result Element TextFault) × ReadsAs told outcome name → ((roots : List Element) × AllZip (HasTree told) names roots) ⊎ FirstText names told → ((roots : List Element) × AllZip (HasTree told) (name ∷ names) roots) ⊎ FirstText (name ∷ names) told
      on (Err found, r) rest = inr (record { before = []; name = name; behind = names; roots = []; found = found; files = refl; trees = tt; reads = r })
      on (Ok root, r) (inl trees) = inl (root ∷ trees.0, (r, trees.1))
      on (Ok root, r) (inr first) = inr (record {
        before = name ∷ first.before;
        name = first.name;
        behind = first.behind;
        roots = root ∷ first.roots;
        found = first.found;
        files = ap (λ ns. name ∷ ns) first.files;
        trees = (r, first.trees);
        reads = first.reads;
      })

  pub some-outcome : (settings : Settings) (names : List (List ℕ)) → AllAreTold told names → (outcome : Result Analysis ModelFault) × IsOutcome settings names told outcome
  some-outcome settings names all = on (read-all names all)
    where
      analysed : (roots : List Element) → AllZip (HasTree told) names roots → (r : Result Analysis ModelFault) → analysis_of settings roots ≡ r → (outcome : Result Analysis ModelFault) × IsOutcome settings names told outcome
      analysed roots trees (Ok analysis) e = (Ok analysis, record { roots = roots; trees = trees; analysed = e })
      analysed roots trees (Err found) e = (Err found, of_trees roots found trees e)

      on : ((roots : List Element) × AllZip (HasTree told) names roots) ⊎ FirstText names told → (outcome : Result Analysis ModelFault) × IsOutcome settings names told outcome
      on (inl trees) = analysed trees.0 trees.1 (analysis_of settings trees.0) refl
      on (inr first) = (
        Err (text_fault_in (length first.before) first.found),
        of_text first.before first.name first.behind first.roots first.found first.files first.trees first.reads,
      )

-- ---- its report

-- an input has one report, if each text comes to one thing
pub reports-same : (once : ReadsOnce) (told : Told) (settings : Settings) (names : List (List ℕ)) (one other : Analysis) (text more : List ℕ) → IsAnalysis settings names told one → IsAnalysis settings names told other → IsReport one (all_targets one) text → IsReport other (all_targets other) more → text ≡ more
reports-same once told settings names one other text more p q x y =
    report-determined other (all_targets other) text more (subst (λ (a : Analysis). IsReport a (all_targets a) text) same x) y
  where
    same : one ≡ other
    same = ok-same (outcomes-same once told settings names (Ok one) (Ok other) p q)
