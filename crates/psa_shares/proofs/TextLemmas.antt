-- A text that grows by the sections of its targets, one after another.
use Rattle.std.proofs.Common.{◌≡◌, ◌≤◌, ◌<◌, ◌⊎◌, inl, inr, ℕ, ◌+◌, List, [], ◌∷◌, ◌++◌, Option, Some, None, length, refl, sym, ap, subst, ◌∙◌, arith, append_assoc, append-nil, length-append}
use Rattle.std.specs.Prelude.{Result, Ok, Err}
use Rattle.std.specs.List.{slice_get}
use Rattle.std.specs.Io.KnownBytes.{Appends}
use Rattle.std.proofs.KnownBytes.{Appends-trans}
use Rattle.std.proofs.lemmas.Option.{slice_get_within}
use Rattle.psa_nodes.specs.declared.node.Node.{Node}
use Rattle.psa_nodes.specs.Nodes.{IsBounded, max_variables}
use Rattle.psa_nodes.specs.Readings.{node_at}
use Rattle.psa_nodes.specs.Table.{Table, table_of}
use Rattle.psa_model.specs.declared.targets.Target.{Target}
use Rattle.psa_model.specs.Report.{Analysis, head_text}
use Rattle.psa_outcome.specs.RunOutcome.{IsBetween}
use Rattle.psa_outcome.specs.Runs.{WroteFirst, WrotePart, all_targets}
use Rattle.psa_ports.specs.Counts.{Rose}
use Rattle.psa_ports.specs.Sink.{AppendsPrefix}
use Rattle.psa_ports.proofs.RisenCountLemmas.{Rose-within}
use Rattle.psa_ports.proofs.WrittenPieceLemmas.{prefix-after}
use Rattle.psa_shares.specs.declared.text.TextError.{TextError}
use Rattle.psa_shares.specs.declared.text.TextError.TheVariants.{Write, Memory}
use Rattle.psa_shares.specs.Shares.{IsSharesSection, WritesShares}
use Rattle.psa_shares.specs.ShareText.{IsSharesText, no_shares, and_shares}
use Rattle.psa_engine.specs.TextEnds.{EndsText, HasText}
use Rattle.psa_shares.specs.SectionEnds.{HasShares, WritesTarget, end_by}

-- ---- the table

-- no node stands in a new table
pub new-bounded : (table : Table) → table ≡ table_of [] [] None None → IsBounded table.nodes
new-bounded table is = subst (λ (t : Table). IsBounded t.nodes) (sym is) none
  where
    none : (id : ℕ) (n : Node) → node_at [] id ≡ Some n → n.var < max_variables n.kind
    none id n is = absurd (cc)

-- ---- the text

-- what stands at the place of the second list begins it
next-of : {A : Type 0} (shown more : List A) (x : A) → slice_get (shown ++ more) (length shown) ≡ Some x → (rest : List A) × (more ≡ x ∷ rest)
next-of [] [] x is = absurd (cc)
next-of [] (y ∷ more) x is = let e : y ≡ x = cc in (more, ap (λ z. z ∷ more) e)
next-of (y ∷ shown) more x is = next-of shown more x is

-- the head alone
head-text : (analysis : Analysis) → IsSharesText analysis [] (head_text analysis.settings)
head-text analysis =
    record { sections = []; are_shares = no_shares; spelled = sym (append-nil (head_text analysis.settings)) }

-- one more section
text-next : (analysis : Analysis) (shown : List Target) (text : List ℕ) (target : Target) (section : List ℕ) → IsSharesText analysis shown text → IsSharesSection analysis target section → IsSharesText analysis (shown ++ target ∷ []) (text ++ section)
text-next analysis shown text target section has is = record {
  sections = has.sections ++ section;
  are_shares = and_shares shown has.sections target section has.are_shares is;
  spelled = ap (λ l. l ++ section) has.spelled ∙ append_assoc (head_text analysis.settings) has.sections section;
}

-- the head was written
pub head-first : (analysis : Analysis) (before after : Option (List ℕ)) → Appends before after (head_text analysis.settings) → WroteFirst IsSharesText analysis 0 before after
head-first analysis before after appended = record {
  shown = [];
  more = all_targets analysis;
  are_targets = refl;
  number = refl;
  text = head_text analysis.settings;
  is_report = head-text analysis;
  appended = appended;
}

-- a prefix of it was
pub head-part : (analysis : Analysis) (before after : Option (List ℕ)) → AppendsPrefix before after (head_text analysis.settings) → WrotePart IsSharesText analysis before after
head-part analysis before after part = record {
  shown = [];
  more = all_targets analysis;
  are_targets = refl;
  text = head_text analysis.settings;
  is_report = head-text analysis;
  appended = part;
}

module _ (analysis : Analysis) (place : ℕ) (target : Target) (section : List ℕ) (before middle after : Option (List ℕ)) (stands : slice_get (all_targets analysis) place ≡ Some target) (is : IsSharesSection analysis target section) (wrote : WroteFirst IsSharesText analysis place before middle) where
  rest : (rest : List Target) × (wrote.more ≡ target ∷ rest)
  rest =
      next-of wrote.shown wrote.more target
      (subst (λ (l : List Target). slice_get l (length wrote.shown) ≡ Some target) wrote.are_targets
      (subst (λ n. slice_get (all_targets analysis) n ≡ Some target) (sym wrote.number) stands))

  are_targets : all_targets analysis ≡ (wrote.shown ++ target ∷ []) ++ rest.0
  are_targets =
      wrote.are_targets ∙ ap (λ l. wrote.shown ++ l) rest.1 ∙ sym (append_assoc wrote.shown (target ∷ []) rest.0)

  -- the section of the next target was written
  section-after : Appends middle after section → WroteFirst IsSharesText analysis (place + 1) before after
  section-after appended = record {
    shown = wrote.shown ++ target ∷ [];
    more = rest.0;
    are_targets = are_targets;
    number = length-append wrote.shown (target ∷ []) ∙ ap (λ n. n + 1) wrote.number;
    text = wrote.text ++ section;
    is_report = text-next analysis wrote.shown wrote.text target section wrote.is_report is;
    appended = Appends-trans before middle after wrote.text section wrote.appended appended;
  }

  -- a prefix of it was
  section-part : AppendsPrefix middle after section → WrotePart IsSharesText analysis before after
  section-part part = record {
    shown = wrote.shown ++ target ∷ [];
    more = rest.0;
    are_targets = are_targets;
    text = wrote.text ++ section;
    is_report = text-next analysis wrote.shown wrote.text target section wrote.is_report is;
    appended = prefix-after before middle after wrote.text section wrote.appended part;
  }

-- the head and the sections of all targets are the whole text
all-shown : (analysis : Analysis) (before after : Option (List ℕ)) → (wrote : WroteFirst IsSharesText analysis (length (all_targets analysis)) before after) → IsSharesText analysis (all_targets analysis) wrote.text
all-shown analysis before after wrote = subst (λ l. IsSharesText analysis l wrote.text) same wrote.is_report
  where
    none-more : (shown more all : List Target) → all ≡ shown ++ more → length shown ≡ length all → shown ≡ all
    none-more shown [] all is count = sym (is ∙ append-nil shown)
    none-more shown (x ∷ more) all is count = absurd (let e = ap length is ∙ length-append shown (x ∷ more) in omega arith)

    same : wrote.shown ≡ all_targets analysis
    same = none-more wrote.shown wrote.more (all_targets analysis) wrote.are_targets wrote.number

-- ---- one target

module _ (analysis : Analysis) (target : Target) (faults later : ℕ) (before after : Option (List ℕ)) where
  -- the section was written
  pub section-written : {E : Type 0} (result : Result (Unit {0}) E) → WritesShares {E = E} analysis target before after faults later result → result ≡ Ok tt → WritesTarget analysis target (faults, later) before after (Ok tt)
  section-written {E} result section ok =
      of (subst (λ (r : Result (Unit {0}) E). WritesShares {E = E} analysis target before after faults later r) ok section)
    where
      of : WritesShares {E = E} analysis target before after faults later (Ok tt) → WritesTarget analysis target (faults, later) before after (Ok tt)
      of s = (s.text, s.is_section, s.written.whole)

  -- the sink failed
  pub section-unwritten : {E : Type 0} (result : Result (Unit {0}) E) (error : E) (answer : Result (Unit {0}) TextError) → WritesShares {E = E} analysis target before after faults later result → result ≡ Err error → answer ≡ Err Write → WritesTarget analysis target (faults, later) before after answer
  section-unwritten {E} result error answer section err is =
      subst (WritesTarget analysis target (faults, later) before after) (sym is) (of (subst (λ (r : Result (Unit {0}) E). WritesShares {E = E} analysis target before after faults later r) err section))
    where
      of : WritesShares {E = E} analysis target before after faults later (Err error) → WritesTarget analysis target (faults, later) before after (Err Write)
      of s = (s.written.cause.failed, (s.text, s.is_section, s.written.part))

  -- the node of the products was not made
  pub unmade : (answer : Result (Unit {0}) TextError) → answer ≡ Err Memory → WritesTarget analysis target (faults, faults) before before answer
  unmade answer is = subst (WritesTarget analysis target (faults, faults) before before) (sym is) refl

-- ---- all targets

-- before the first target
pub no-shares : (analysis : Analysis) (faults : ℕ) (start : Option (List ℕ)) → HasShares analysis 0 (faults, faults) start start
no-shares analysis faults start = record { wrote = λ before first. first; later = omega arith }

module _ (analysis : Analysis) (place : ℕ) (target : Target) (sooner now later : ℕ) (start written after : Option (List ℕ)) (stands : slice_get (all_targets analysis) place ≡ Some target) (so-far : HasShares analysis place (sooner, now) start written) (rises : now ≤ later) where
  -- one more section
  pub one-more-section : (answer : Result (Unit {0}) TextError) → answer ≡ Ok tt → WritesTarget analysis target (now, later) written after answer → HasShares analysis (place + 1) (sooner, later) start after
  one-more-section answer ok writes =
      of (subst (WritesTarget analysis target (now, later) written after) ok writes)
    where
      of : WritesTarget analysis target (now, later) written after (Ok tt) → HasShares analysis (place + 1) (sooner, later) start after
      of writes = record {
        wrote = λ before head.
            section-after analysis place target writes.0 before written after stands writes.1 (so-far.wrote before head) writes.2;
        later = let a = so-far.later in omega (arith, a, rises);
      }

  -- the section of a target was not written
  pub stops : (before : Option (List ℕ)) → WroteFirst IsSharesText analysis 0 before start → (answer : Result (Unit {0}) TextError) (error : TextError) → answer ≡ Err error → WritesTarget analysis target (now, later) written after answer → EndsText IsSharesText analysis (sooner, later) before after (end_by (Err error))
  stops before head answer error is writes =
      of error (subst (WritesTarget analysis target (now, later) written after) is writes)
    where
      of : (error : TextError) → WritesTarget analysis target (now, later) written after (Err error) → EndsText IsSharesText analysis (sooner, later) before after (end_by (Err error))
      of Write w = (
        Rose-within sooner now later later so-far.later w.0 (omega arith),
        section-part analysis place target w.1.0 before written after stands w.1.1 (so-far.wrote before head) w.1.2,
      )
      of Memory same = record {
        count = place;
        before_one = slice_get_within (all_targets analysis) place target stands;
        reported = subst (λ (bytes : Option (List ℕ)). WroteFirst IsSharesText analysis place before bytes) (sym same) (so-far.wrote before head);
      }

-- all targets have their sections
pub all-sections : (analysis : Analysis) (count : ℕ) (sooner later : ℕ) (start after before : Option (List ℕ)) → count ≡ length (all_targets analysis) → WroteFirst IsSharesText analysis 0 before start → HasShares analysis count (sooner, later) start after → HasText IsSharesText analysis before after
all-sections analysis count sooner later start after before all head has =
    record { text = whole.text; is_text = all-shown analysis before after whole; appended = whole.appended }
  where
    whole : WroteFirst IsSharesText analysis (length (all_targets analysis)) before after
    whole = subst (λ n. WroteFirst IsSharesText analysis n before after) all (has.wrote before head)
