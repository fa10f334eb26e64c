-- A report that grows by the sections of its targets, one after another.
use Rattle.std.proofs.Common.{◌≡◌, ℕ, zero, suc, ◌+◌, false, List, [], ◌∷◌, ◌++◌, Option, Some, length, take, drop, refl, sym, ap, subst, ◌∙◌, arith, append_assoc, length-append}
use Rattle.std.proofs.lemmas.List.{append-nil}
use Rattle.std.proofs.lemmas.Bool.{false≢true}
use Rattle.std.specs.List.{slice_get}
use Rattle.std.specs.Io.KnownBytes.{Appends}
use Rattle.std.proofs.KnownBytes.{Appends-trans}
use Rattle.psa_model.specs.declared.targets.Target.{Target}
use Rattle.psa_model.specs.Report.{Analysis, no_section, and_section, IsReport, validated, written, IsSection, head_text}
use Rattle.psa_outcome.specs.Runs.{ReportedFirst, ReportedPart, all_targets}
use Rattle.psa_ports.specs.Sink.{AppendsPrefix}
use Rattle.psa_ports.proofs.WrittenPieceLemmas.{prefix-after}

-- ---- a list up to a place and behind it

-- the elements up to a place and the next are those up to the next place
take-suc : {A : Type 0} (xs : List A) (place : ℕ) (x : A) → slice_get xs place ≡ Some x → take (suc place) xs ≡ take place xs ++ x ∷ []
take-suc [] place x is = absurd (cc)
take-suc (y ∷ xs) zero x is = let e : y ≡ x = cc in ap (λ z. z ∷ []) e
take-suc (y ∷ xs) (suc place) x is = ap (λ l. y ∷ l) (take-suc xs place x is)

pub take-next : {A : Type 0} (xs : List A) (place : ℕ) (x : A) → slice_get xs place ≡ Some x → take (place + 1) xs ≡ take place xs ++ x ∷ []
take-next xs place x is = let e : place + 1 ≡ suc place = omega arith in ap (λ n. take n xs) e ∙ take-suc xs place x is

-- a list is what stands before a place, what stands there, and what stands behind
split-suc : {A : Type 0} (xs : List A) (place : ℕ) (x : A) → slice_get xs place ≡ Some x → xs ≡ take place xs ++ x ∷ drop (suc place) xs
split-suc [] place x is = absurd (cc)
split-suc (y ∷ xs) zero x is = let e : y ≡ x = cc in ap (λ z. z ∷ xs) e
split-suc (y ∷ xs) (suc place) x is = ap (λ l. y ∷ l) (split-suc xs place x is)

pub split-at : {A : Type 0} (xs : List A) (place : ℕ) (x : A) → slice_get xs place ≡ Some x → xs ≡ take place xs ++ x ∷ drop (place + 1) xs
split-at xs place x is =
    let e : suc place ≡ place + 1 = omega arith in
    subst (λ n. xs ≡ take place xs ++ x ∷ drop n xs) e (split-suc xs place x is)

-- so many stand before a place
pub take-count : {A : Type 0} (xs : List A) (place : ℕ) (x : A) → slice_get xs place ≡ Some x → length (take place xs) ≡ place
take-count [] place x is = absurd (cc)
take-count (y ∷ xs) zero x is = refl
take-count (y ∷ xs) (suc place) x is = ap suc (take-count xs place x is)

-- what stands at the place of the second list begins it
next-of : {A : Type 0} (shown more : List A) (x : A) → slice_get (shown ++ more) (length shown) ≡ Some x → (rest : List A) × (more ≡ x ∷ rest)
next-of [] [] x is = absurd (cc)
next-of [] (y ∷ more) x is = let e : y ≡ x = cc in (more, ap (λ z. z ∷ more) e)
next-of (y ∷ shown) more x is = next-of shown more x is

-- ---- the text

-- one more section
report-next : (analysis : Analysis) (shown : List Target) (text : List ℕ) (target : Target) (section : List ℕ) → analysis.settings.validate ≡ false → IsReport analysis shown text → IsSection analysis target section → IsReport analysis (shown ++ target ∷ []) (text ++ section)
report-next analysis shown text target section shows (validated checked) is = absurd (false≢true (sym shows ∙ checked))
report-next analysis shown text target section shows (written sections same are) is =
    subst (IsReport analysis (shown ++ target ∷ [])) (sym (append_assoc (head_text analysis.settings) sections section))
    (written (sections ++ section) same (and_section shown sections target section are is))

-- the head alone
pub head-first : (analysis : Analysis) (before after : Option (List ℕ)) → analysis.settings.validate ≡ false → Appends before after (head_text analysis.settings) → ReportedFirst analysis 0 before after
head-first analysis before after shows appended = record {
  shown = [];
  more = all_targets analysis;
  are_targets = refl;
  number = refl;
  text = head_text analysis.settings;
  is_report = subst (IsReport analysis []) (append-nil (head_text analysis.settings)) (written [] shows no_section);
  appended = appended;
}

-- a prefix of the head
pub head-part : (analysis : Analysis) (before after : Option (List ℕ)) → analysis.settings.validate ≡ false → AppendsPrefix before after (head_text analysis.settings) → ReportedPart analysis before after
head-part analysis before after shows part = record {
  shown = [];
  more = all_targets analysis;
  are_targets = refl;
  text = head_text analysis.settings;
  is_report = subst (IsReport analysis []) (append-nil (head_text analysis.settings)) (written [] shows no_section);
  appended = part;
}

module _ (analysis : Analysis) (place : ℕ) (target : Target) (section : List ℕ) (before middle after : Option (List ℕ)) (shows : analysis.settings.validate ≡ false) (stands : slice_get (all_targets analysis) place ≡ Some target) (is : IsSection analysis target section) (reported : ReportedFirst analysis place before middle) where
  rest : (rest : List Target) × (reported.more ≡ target ∷ rest)
  rest =
      next-of reported.shown reported.more target
      (subst (λ (l : List Target). slice_get l (length reported.shown) ≡ Some target) reported.are_targets
      (subst (λ n. slice_get (all_targets analysis) n ≡ Some target) (sym reported.number) stands))

  are_targets : all_targets analysis ≡ (reported.shown ++ target ∷ []) ++ rest.0
  are_targets =
      reported.are_targets ∙ ap (λ l. reported.shown ++ l) rest.1 ∙ sym (append_assoc reported.shown (target ∷ []) rest.0)

  -- the section of the next target was written
  pub section-after : Appends middle after section → ReportedFirst analysis (place + 1) before after
  section-after appended = record {
    shown = reported.shown ++ target ∷ [];
    more = rest.0;
    are_targets = are_targets;
    number = length-append reported.shown (target ∷ []) ∙ ap (λ n. n + 1) reported.number;
    text = reported.text ++ section;
    is_report = report-next analysis reported.shown reported.text target section shows reported.is_report is;
    appended = Appends-trans before middle after reported.text section reported.appended appended;
  }

  -- a prefix of it was
  pub section-part : AppendsPrefix middle after section → ReportedPart analysis before after
  section-part part = record {
    shown = reported.shown ++ target ∷ [];
    more = rest.0;
    are_targets = are_targets;
    text = reported.text ++ section;
    is_report = report-next analysis reported.shown reported.text target section shows reported.is_report is;
    appended = prefix-after before middle after reported.text section reported.appended part;
  }

-- the head and the sections of all targets are the report
pub all-shown : (analysis : Analysis) (before after : Option (List ℕ)) → (reported : ReportedFirst analysis (length (all_targets analysis)) before after) → IsReport analysis (all_targets analysis) reported.text
all-shown analysis before after reported = subst (λ l. IsReport analysis l reported.text) same reported.is_report
  where
    none-more : (shown more all : List Target) → all ≡ shown ++ more → length shown ≡ length all → shown ≡ all
    none-more shown [] all is count = sym (is ∙ append-nil shown)
    none-more shown (x ∷ more) all is count = absurd (let e = ap length is ∙ length-append shown (x ∷ more) in omega arith)

    same : reported.shown ≡ all_targets analysis
    same = none-more reported.shown reported.more (all_targets analysis) reported.are_targets reported.number
